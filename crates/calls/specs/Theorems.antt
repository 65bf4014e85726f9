-- Demands 2 and 3 in bytes, each statement a named type.
use Rattle.std.specs.Prelude.{◌≡◌, ◌⊎◌, ◌↔◌, ◌≢◌, List, ℕ, ◌+◌, ◌≤◌, ◌<◌, length}
use Rattle.std.proofs.Math.Option.{Option, none, some}
use Rattle.machine.specs.Limits.{absent}
use Rattle.calculus.specs.Reduction.{◌≅◌, ◌⟶◌, Irreducible}
use Rattle.machine.specs.Elements.{State, decode_state, weight_state}
use Rattle.machine.specs.Rules.{Step}
use Rattle.machine.specs.Theorems.{CanActAt}
use Rattle.format.specs.Reading.{got}
use Rattle.states.specs.Reading.{read_state}
use Rattle.machine.specs.Lowest.{partner_of}
use Rattle.buffers.specs.Buffers.{kept, wrote}
use Rattle.calls.specs.Steps.{step_bytes}
use Rattle.calls.specs.Causes.{Cause, Limited}
use Rattle.calls.specs.Calls.{Call, Observation, Plays, plain, plain_run, plain_observations}

-- Demand 2: an accepted call is one rule of the relation at the chosen place and partner, and the result is again accepted, as the state
-- after that rule.
abbrev pub AcceptedCallIsRule : Type 0
AcceptedCallIsRule = (bytes : List ℕ) (S : State) (m : ℕ) (p q room n : ℕ) (new : List ℕ) →
    read_state bytes ≡ got S m → step_bytes bytes p q room ≡ wrote n new →
    (S' : State) × Step S p (partner_of q) n S' × (read_state new ≡ got S' (length new))

-- Each rule is accepted when chosen, or meets one of the three limits, for its cause.
abbrev pub RuleIsAccepted : Type 0
RuleIsAccepted = (bytes : List ℕ) (S : State) (m : ℕ) (p q room n : ℕ) (S' : State) →
    read_state bytes ≡ got S m → Step S p (partner_of q) n S' →
    ((new : List ℕ) × (step_bytes bytes p q room ≡ wrote n new) × (read_state new ≡ got S' (length new)))
    ⊎ ((k : ℕ) × (step_bytes bytes p q room ≡ kept k) × Limited room S p (partner_of q) k)

-- Each number from 8 on is given exactly where its cause holds and no earlier one does.
abbrev pub RefusedCallByCause : Type 0
RefusedCallByCause = (bytes : List ℕ) (S : State) (m : ℕ) (p q room k : ℕ) → read_state bytes ≡ got S m →
    (step_bytes bytes p q room ≡ kept k) ↔ (Cause room S p (partner_of q) k × ((j : ℕ) → j < k → ¬ Cause room S p (partner_of q) j))

-- Decoded, an accepted call with a partner is one reduction, any other leaves a congruent process.
unfoldable pub Decoded : Option ℕ → State → State → Type 0
Decoded none S S' = decode_state S ≅ decode_state S'
Decoded (some q) S S' = decode_state S ⟶ decode_state S'

abbrev pub AcceptedCallDecodes : Type 0
AcceptedCallDecodes = (bytes : List ℕ) (S : State) (m : ℕ) (p q room n : ℕ) (new : List ℕ) (S' : State) →
    read_state bytes ≡ got S m → step_bytes bytes p q room ≡ wrote n new → read_state new ≡ got S' (length new) → Decoded (partner_of q) S S'

-- Demand 3, first sentence: an accepted state that is all blocked decodes to a process with no reduction.
abbrev pub AllBlockedIsIrreducible : Type 0
AllBlockedIsIrreducible = (bytes : List ℕ) (S : State) (m : ℕ) →
    read_state bytes ≡ got S m → weight_state S ≡ 0 → Irreducible (decode_state S)

-- Demand 3, the list of calls: what is promised of a play from an accepted state S, W its weight.
pub record Promised (S : State) (s : List ℕ) (cs : List Call) (os : List Observation) (t : List ℕ) (n : ℕ) : Type 0 where
  -- after every call the number and the present state are the plain machine's, and the accepted calls are its count
  pub observations : os ≡ plain_observations cs (plain s 0)
  pub machine : plain_run cs (plain s 0) ≡ plain t n
  -- the state reached is accepted
  pub reached : State
  pub accepted : read_state t ≡ got reached (length t)
  -- accepted calls + weight of the state reached = W
  pub law : n + weight_state reached ≡ weight_state S
  -- so at most W are accepted, and the state reached is all blocked exactly when W have been
  pub most : n ≤ weight_state S
  pub blocked : (weight_state reached ≡ 0) ↔ (n ≡ weight_state S)
  -- while it isn't, some place can act, and every call there without a partner is accepted or meets one of the three limits, for its cause
  pub able : weight_state reached ≢ 0 → (p : ℕ) × CanActAt reached p
  pub going_on : (p room : ℕ) → CanActAt reached p →
      ((rule : ℕ) × (new : List ℕ) × (step_bytes t p absent room ≡ wrote rule new))
      ⊎ ((k : ℕ) × (step_bytes t p absent room ≡ kept k) × Limited room reached p none k)

abbrev pub ListsOfCalls : Type 0
ListsOfCalls = (s : List ℕ) (S : State) (m : ℕ) → read_state s ≡ got S m → Irreducible (decode_state S) →
    (cs : List Call) (os : List Observation) (t : List ℕ) (n : ℕ) → Plays s cs os t n → Promised S s cs os t n

-- The plain machine's part holds from every accepted state, irreducible or not.
abbrev pub CallsArePlain : Type 0
CallsArePlain = (s : List ℕ) (cs : List Call) (os : List Observation) (t : List ℕ) (n : ℕ) → Plays s cs os t n →
    (os ≡ plain_observations cs (plain s 0)) × (plain_run cs (plain s 0) ≡ plain t n)

-- Every list of calls plays from every state's bytes, and in one way alone.
abbrev pub EveryListPlays : Type 0
EveryListPlays = (s : List ℕ) (cs : List Call) → (os : List Observation) × (t : List ℕ) × (n : ℕ) × Plays s cs os t n

abbrev pub PlaysAgree : Type 0
PlaysAgree = (s : List ℕ) (cs : List Call) (os os' : List Observation) (t t' : List ℕ) (n n' : ℕ) →
    Plays s cs os t n → Plays s cs os' t' n' → (os ≡ os') × (t ≡ t') × (n ≡ n')
