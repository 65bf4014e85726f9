-- What is promised of lists of accesses to the front panel, each statement a named type (document 02, request 2).
use Rattle.std.specs.Prelude.{◌≡◌, List, [], ◌∷◌, ℕ, ◌≤◌, ◌<◌, length, take}
use Rattle.std.proofs.Math.Option.{none, some}
use Rattle.calculus.specs.Reduction.{Irreducible}
use Rattle.machine.specs.Elements.{State, decode_state}
use Rattle.format.specs.Reading.{got}
use Rattle.buffers.specs.Buffers.{Written, kept, wrote}
use Rattle.states.specs.Reading.{read_state}
use Rattle.calls.specs.Calls.{Call, Observation, observed, Plays}
use Rattle.calls.specs.Theorems.{Promised}
use Rattle.registers.specs.declared.Panel.{Panel}
use Rattle.registers.specs.Registers.{start_of}
use Rattle.accesses.specs.Accesses.{Access, Accessed, nothing_keyed, calls_of, answers_of, answers_from}
use Rattle.accesses.specs.Registers.{nothing_told, told_after, keyed_after, spelled, seen_in}

-- Every list of accesses can be made, from every panel and buffer.
abbrev pub EveryListIsAccessed : Type 0
EveryListIsAccessed = (p : Panel) (s : List ℕ) (xs : List Access) → (seen : List ℕ) × (q : Panel) × (last : List ℕ) × Accessed p s xs seen q last

-- The calls that accesses ask for, over a state's buffer of so many bytes.
abbrev pub calls_asked : List ℕ → List Access → List Call
calls_asked s xs = calls_of (length s) nothing_keyed xs

-- From a start the registers are those that the rules make of the accesses and of what the calls answered, and so is all that is read.
abbrev pub RegistersFollow : Type 0
RegistersFollow = (n : ℕ) (s : List ℕ) (xs : List Access) (seen : List ℕ) (q : Panel) (last : List ℕ) → Accessed (start_of n) s xs seen q last →
    (q.registers ≡ spelled (keyed_after xs nothing_keyed) (told_after xs (answers_from n s (calls_asked s xs)) nothing_told))
    × (seen ≡ seen_in xs (answers_from n s (calls_asked s xs)) nothing_keyed nothing_told)

-- What is observed of answers, from the bytes of a state.
unfoldable pub observed_of : List ℕ → List (Written ℕ ℕ) → List Observation
observed_of s [] = []
observed_of s (kept k ∷ ws) = observed (some k) s ∷ observed_of s ws
observed_of s (wrote rule new ∷ ws) = observed none new ∷ observed_of new ws

-- From a start with a length within the buffer, the first bytes of the buffer, as many as the panel says, are the state that the list of calls
-- reaches, played from the first bytes at the start; and the answers are those of that play. The buffer is as long as before.
pub record Reaches (n : ℕ) (s : List ℕ) (xs : List Access) (q : Panel) (last : List ℕ) : Type 0 where
  pub observations : List Observation
  pub count : ℕ
  pub plays : Plays (take n s) (calls_asked s xs) observations (take q.length last) count
  pub answered : observations ≡ observed_of (take n s) (answers_of (take n s) (calls_asked s xs))
  pub stands : q.length ≤ length last
  pub lasting : length last ≡ length s

abbrev pub StateFollows : Type 0
StateFollows = (n : ℕ) (s : List ℕ) (xs : List Access) (seen : List ℕ) (q : Panel) (last : List ℕ) → Accessed (start_of n) s xs seen q last →
    n ≤ length s → Reaches n s xs q last

-- From a start with a length past the end of the buffer, the buffer and the length stay; by `RegistersFollow` every call is answered 2.
abbrev pub PastTheEnd : Type 0
PastTheEnd = (n : ℕ) (s : List ℕ) (xs : List Access) (seen : List ℕ) (q : Panel) (last : List ℕ) → Accessed (start_of n) s xs seen q last →
    length s < n → (q.length ≡ n) × (last ≡ s)

-- Demand 3 of the panel: from a start over an accepted state whose process has no reduction, all that is promised of lists of calls.
abbrev pub PanelPromised : Type 0
PanelPromised = (n : ℕ) (s : List ℕ) (xs : List Access) (seen : List ℕ) (q : Panel) (last : List ℕ) → Accessed (start_of n) s xs seen q last →
    n ≤ length s → (S : State) (m : ℕ) → read_state (take n s) ≡ got S m → Irreducible (decode_state S) →
    (os : List Observation) × (count : ℕ) × Promised S (take n s) (calls_asked s xs) os (take q.length last) count
