-- Which numbers refuse the readers, each call and a turn of a run, each statement a named type: they are numbers of document 01's table, with what requests 1 and 7 add to it.
use Rattle.std.specs.Prelude.{◌≡◌, List, ℕ, ◌≤◌}
use Rattle.machine.specs.Elements.{State}
use Rattle.format.specs.Reading.{refused}
use Rattle.format.specs.Theorems.{Bytes}
use Rattle.states.specs.Reading.{read_job, read_within}
use Rattle.buffers.specs.Buffers.{kept, wrote}
use Rattle.loaded.specs.Loading.{load}
use Rattle.writing.specs.Writing.{write_job}
use Rattle.listing.specs.Listing.{list_bytes}
use Rattle.weighing.specs.Weighing.{weigh}
use Rattle.partnering.specs.Partnering.{partners_bytes}
use Rattle.sweeping.specs.Sweeping.{sweep_bytes}
use Rattle.calls.specs.Steps.{step_bytes}
use Rattle.runs.specs.Runs.{limit, ended, run_bytes}
use Rattle.runs.specs.Turns.{turn}

-- The last number that a call gives: 15 is loading's alone.
abbrev pub last_of_calls : ℕ
last_of_calls = 14

abbrev pub last_of_loads : ℕ
last_of_loads = 15

abbrev pub UpTo : (last k : ℕ) → Type 0
UpTo last k = (1 ≤ k) × (k ≤ last)

-- Of the readers, on which the calls stand.
abbrev pub JobRefuses : Type 0
JobRefuses = (bytes : List ℕ) (k : ℕ) → read_job bytes ≡ refused k → UpTo last_of_calls k

abbrev pub StateRefuses : Type 0
StateRefuses = (nest : ℕ) (bytes : List ℕ) (k : ℕ) → read_within nest bytes ≡ refused k → UpTo last_of_calls k

abbrev pub LoadRefuses : Type 0
LoadRefuses = (job : List ℕ) (room k : ℕ) → load job room ≡ kept k → UpTo last_of_loads k

abbrev pub WriteRefuses : Type 0
WriteRefuses = (free : ℕ) (process : List ℕ) (room k : ℕ) → write_job free process room ≡ kept k → UpTo last_of_calls k

abbrev pub ListRefuses : Type 0
ListRefuses = (state : List ℕ) (room k : ℕ) → list_bytes state room ≡ kept k → UpTo last_of_calls k

abbrev pub PartnersRefuse : Type 0
PartnersRefuse = (state : List ℕ) (place k : ℕ) → partners_bytes state place ≡ refused k → UpTo last_of_calls k

abbrev pub SweepRefuses : Type 0
SweepRefuses = (state : List ℕ) (room k : ℕ) → sweep_bytes state room ≡ kept k → UpTo last_of_calls k

abbrev pub StepRefuses : Type 0
StepRefuses = (state : List ℕ) (place partner room k : ℕ) → step_bytes state place partner room ≡ kept k → UpTo last_of_calls k

abbrev pub RunRefuses : Type 0
RunRefuses = (state : List ℕ) (budget room k : ℕ) → run_bytes state budget room ≡ kept k → UpTo last_of_calls k

abbrev pub WeightRefuses : Type 0
WeightRefuses = (state : List ℕ) (k : ℕ) → weigh state ≡ refused k → UpTo last_of_calls k

-- The limit at which a turn ends a run, whatever its state.
abbrev pub TurnMeets : Type 0
TurnMeets = (room left : ℕ) (S : State) (k : ℕ) → turn room left S ≡ kept (limit k) → UpTo last_of_calls k

-- The limit that a run met tells the number that refuses its next step: 11, 12 or 13.
abbrev pub RunMeets : Type 0
RunMeets = (state last : List ℕ) (budget room steps k : ℕ) → Bytes state → run_bytes state budget room ≡ wrote (ended (limit k) steps) last → (11 ≤ k) × (k ≤ 13)
