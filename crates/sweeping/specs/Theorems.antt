-- What is proved of sweeping in bytes, each statement a named type; what is proved of it on trees is in removals.
use Rattle.std.specs.Prelude.{◌≡◌, ◌⊎◌, ◌↔◌, List, ℕ, ◌≤◌, ◌<◌, length}
use Rattle.calculus.specs.Reduction.{◌≅◌, Irreducible}
use Rattle.machine.specs.Elements.{Elements, State, state, decode_state, weight}
use Rattle.format.specs.Reading.{refused, got}
use Rattle.format.specs.Theorems.{Bytes}
use Rattle.elements.specs.Spelling.{encode_state}
use Rattle.states.specs.Reading.{read_state}
use Rattle.buffers.specs.Buffers.{kept, wrote}
use Rattle.removals.specs.Removal.{Reaches, Finished}
use Rattle.removals.specs.Sweeping.{sweep_state}
use Rattle.sweeping.specs.Sweeping.{sweep_bytes}

-- What sweeping writes of an accepted state.
pub record SweptFrom (bytes : List ℕ) (F N : ℕ) (L : Elements) (new : List ℕ) : Type 0 where
  -- the elements that are left: reached by removals, and none is left to remove; removals in any other order end there too
  pub rest : Elements
  pub reached : Reaches F L rest
  pub finished : Finished F rest
  pub only : (K : Elements) → Reaches F L K → Finished F K → K ≡ rest
  -- F and N are as they were, and the state is accepted
  pub written : new ≡ encode_state (state F N rest)
  pub accepted : read_state new ≡ got (state F N rest) (length new)
  -- it means the same
  pub congruent : decode_state (state F N L) ≅ decode_state (state F N rest)
  pub irreducible : Irreducible (decode_state (state F N L)) ↔ Irreducible (decode_state (state F N rest))
  -- it is no longer, and weighs no more
  pub shorter : length new ≤ length bytes
  pub lighter : weight rest ≤ weight L
  -- swept again it is its own bytes
  pub again : (room : ℕ) → length new ≤ room → sweep_bytes new room ≡ wrote tt new

abbrev pub SweptIsAccepted : Type 0
SweptIsAccepted = (bytes : List ℕ) (F N : ℕ) (L : Elements) (n room : ℕ) (new : List ℕ) → Bytes bytes → read_state bytes ≡ got (state F N L) n → sweep_bytes bytes room ≡ wrote tt new →
    SweptFrom bytes F N L new

-- An accepted state is swept if the result fits into the buffer, and otherwise refused with 13. A buffer as long as the state is always enough.
pub record SweepsWithin (bytes : List ℕ) (S : State) (room : ℕ) : Type 0 where
  pub sweeps : length (encode_state (sweep_state S)) ≤ room → sweep_bytes bytes room ≡ wrote tt (encode_state (sweep_state S))
  pub no_room : room < length (encode_state (sweep_state S)) → sweep_bytes bytes room ≡ kept 13
  pub enough : length bytes ≤ room → sweep_bytes bytes room ≡ wrote tt (encode_state (sweep_state S))

abbrev pub AcceptedIsSwept : Type 0
AcceptedIsSwept = (bytes : List ℕ) (S : State) (n room : ℕ) → Bytes bytes → read_state bytes ≡ got S n → SweepsWithin bytes S room

-- A refusal is that of reading the state, or 13 of a state that is accepted.
abbrev pub SweepRefused : Type 0
SweepRefused = (bytes : List ℕ) (room k : ℕ) → sweep_bytes bytes room ≡ kept k →
    (read_state bytes ≡ refused k) ⊎ ((k ≡ 13) × (S : State) × (n : ℕ) × (read_state bytes ≡ got S n))
