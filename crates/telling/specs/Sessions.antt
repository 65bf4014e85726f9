-- The session of a job: all that the program prints for it (document 01, "Examples on the line").
use mathlib.Core.List.{List, [], ◌∷◌, ◌++◌, map, flatten}
use Rattle.std.specs.Prelude.{ℕ, zero, suc, ◌+◌}
use Rattle.machine.specs.Limits.{byte_limit}
use Rattle.format.specs.Reading.{Outcome, refused, got, map_outcome}
use Rattle.states.specs.Reading.{read_state}
use Rattle.buffers.specs.Buffers.{Written, kept, wrote}
use Rattle.loaded.specs.Loading.{load}
use Rattle.weighing.specs.Weighing.{weigh}
use Rattle.runs.specs.Runs.{Ending, Report, ended, run_bytes}
use Rattle.runs.specs.Turns.{Moved, turn}
use Rattle.lines.specs.Lines.{step_line, last_line, refusal_line}

-- At most so many steps are run.
abbrev pub step_budget : ℕ
step_budget = 65535

-- The steps of a run, in order: the move of each turn, and then those of the state that it wrote.

unfoldable pub step_then : Outcome (Written Ending Moved) → (List ℕ → List Moved) → List Moved
step_then (refused k) more = []
step_then (got (kept e) n) more = []
step_then (got (wrote move new) n) more = move ∷ more new

unfoldable pub run_steps : (room budget : ℕ) → List ℕ → List Moved
run_steps room zero bytes = []
run_steps room (suc b) bytes = step_then (map_outcome (turn room (suc b)) (read_state bytes)) (run_steps room b)

-- The weight of a last state, which is always an accepted one.
unfoldable pub weight_in : Outcome ℕ → ℕ
weight_in (refused k) = 0
weight_in (got w n) = w

-- The lines of the steps of a run, and then what it reports. So many steps were taken before it.
unfoldable pub reported : (before : ℕ) → List Moved → Written ℕ Report → List ℕ
reported before steps (kept k) = refusal_line k
reported before steps (wrote (ended e n) last) = flatten (map step_line steps) ++ last_line e (before + n) (weight_in (weigh last))

unfoldable pub run_text : (before budget : ℕ) → List ℕ → List ℕ
run_text before budget bytes = reported before (run_steps byte_limit budget bytes) (run_bytes bytes budget byte_limit)

-- A job that is refused has its number alone.
unfoldable pub loaded_text : Written ℕ (Unit {0}) → List ℕ
loaded_text (kept k) = refusal_line k
loaded_text (wrote t bytes) = run_text 0 step_budget bytes

-- The text of the session of a job's bytes: loaded, and run with document 01's budget in buffers of its limit of bytes.
unfoldable pub session_text : List ℕ → List ℕ
session_text job = loaded_text (load job byte_limit)
