-- What is proved of the run, each statement a named type.
use Rattle.std.specs.Prelude.{◌≡◌, ◌≢◌, List, [], ◌∷◌, ℕ, ◌-◌, ◌≤◌, ◌<◌, length}
use Rattle.std.proofs.Math.Option.{some}
use Rattle.calculus.specs.Reduction.{Irreducible}
use Rattle.machine.specs.Elements.{State, decode_state, weight_state}
use Rattle.format.specs.Reading.{got}
use Rattle.format.specs.Theorems.{Bytes}
use Rattle.elements.specs.Spelling.{encode_state}
use Rattle.states.specs.Reading.{read_state}
use Rattle.buffers.specs.Buffers.{kept, wrote}
use Rattle.calls.specs.Steps.{stepped, step_bytes}
use Rattle.calls.specs.Causes.{Limited}
use Rattle.calls.specs.Calls.{Call, call, Observation, Plays}
use Rattle.machine.specs.Lowest.{partner_number, place_in, partner_in, number_in}
use Rattle.machine.specs.Stepping.{step}
use Rattle.runs.specs.Runs.{Ending, blocked, spent, limit, ran, counted, run_from, ended, run_bytes}
use Rattle.runs.specs.Turns.{moves, turn}

-- A run of a state ends where its turn is over; otherwise it is one step more than the run, with one less of the budget, of the state after the turn,
-- whose bytes are those that the turn wrote.
abbrev pub RunByTurns : Type 0
RunByTurns = (room budget : ℕ) (S : State) →
    ((e : Ending) → turn room budget S ≡ kept e → run_from room budget S ≡ ran e 0 S)
    × ((p q rule k : ℕ) (new : List ℕ) → turn room budget S ≡ wrote (moves p q rule k) new →
    (0 < budget) × (T : State) × (new ≡ encode_state T) × (run_from room budget S ≡ counted (run_from room (budget - 1) T)))

-- A move is the step at the lowest place that can act, with its lowest partner or none, and tells how many partners that place has.
abbrev pub MovesLowest : Type 0
MovesLowest = (room budget : ℕ) (S : State) (p q rule k : ℕ) (new : List ℕ) → turn room budget S ≡ wrote (moves p q rule k) new →
    (place_in S ≡ some p) × (q ≡ partner_number (partner_in S p)) × (k ≡ number_in S p) × (stepped room (step S p (partner_in S p)) ≡ wrote rule new)

-- Calls of the step, each at the lowest place that can act of the state present, with its lowest partner or none, accepted into a buffer of so many bytes.
pub data LowestCalls (room : ℕ) : List ℕ → List Call → Type 0 where
  done : {s : List ℕ} → LowestCalls room s []
  chosen : {s new out : List ℕ} {S : State} {m p rule : ℕ} {cs : List Call} → length out ≡ room → read_state s ≡ got S m → place_in S ≡ some p →
      step_bytes s p (partner_number (partner_in S p)) room ≡ wrote rule new → LowestCalls room new cs → LowestCalls room s (call p (partner_number (partner_in S p)) out ∷ cs)

-- A run is a list of step calls with those choices, all of them accepted, into buffers as long as its own: so demand 3 speaks of it. Its count is
-- their number, and the state reached is its last.
abbrev pub RunIsPlay : Type 0
RunIsPlay = (s out : List ℕ) (budget n : ℕ) (e : Ending) (t : List ℕ) → Bytes s → run_bytes s budget (length out) ≡ wrote (ended e n) t →
    (cs : List Call) × (os : List Observation) × Plays s cs os t n × (length cs ≡ n) × LowestCalls (length out) s cs

-- Spent means exactly the budget, and no run takes more.
abbrev pub SpentIsBudget : Type 0
SpentIsBudget = (s t : List ℕ) (budget room n : ℕ) → run_bytes s budget room ≡ wrote (ended spent n) t → n ≡ budget

abbrev pub WithinBudget : Type 0
WithinBudget = (s t : List ℕ) (budget room n : ℕ) (e : Ending) → run_bytes s budget room ≡ wrote (ended e n) t → n ≤ budget

-- It ends blocked exactly where no place can act any more.
abbrev pub BlockedIsWeightless : Type 0
BlockedIsWeightless = (s t : List ℕ) (T : State) (budget room n : ℕ) (e : Ending) → run_bytes s budget room ≡ wrote (ended e n) t → read_state t ≡ got T (length t) →
    (e ≡ blocked → weight_state T ≡ 0) × (weight_state T ≡ 0 → e ≡ blocked)

-- It ends at a limit where budget is left and the next step of its last state, at its choice, is refused with that number: 11, 12 or 13, for its cause.
abbrev pub LimitIsNextStep : Type 0
LimitIsNextStep = (s t : List ℕ) (budget room n k : ℕ) → Bytes s → run_bytes s budget room ≡ wrote (ended (limit k) n) t →
    (T : State) × (p : ℕ) × (n < budget) × (read_state t ≡ got T (length t)) × (place_in T ≡ some p)
    × (step_bytes t p (partner_number (partner_in T p)) room ≡ kept k) × Limited room T p (partner_in T p) k

-- An irreducible state with a budget of at least W and no limit met ends blocked after exactly W steps.
abbrev pub IrreducibleRun : Type 0
IrreducibleRun = (s t : List ℕ) (S : State) (m budget room n : ℕ) (e : Ending) → read_state s ≡ got S m → Irreducible (decode_state S) → weight_state S ≤ budget →
    run_bytes s budget room ≡ wrote (ended e n) t → ((k : ℕ) → e ≢ limit k) → (e ≡ blocked) × (n ≡ weight_state S)
