-- What the code of a run answers, and the record that it keeps.
use Rattle.std.specs.Prelude.{◌≡◌, List, ℕ, ◌+◌, ◌≤◌, length, take, Some, None, Result, Ok, Err}
use Rattle.machine.specs.Elements.{State}
use Rattle.elements.specs.Spelling.{encode_state}
use Rattle.buffers.specs.Buffers.{Written, kept, wrote}
use Rattle.runs.specs.Runs.{Ending as Ended, ran, run_from, Report, ended}
use Rattle.runs.specs.Turns.{Moved}
use Rattle.refusals.specs.declared.Refusal.{Refusal}
use Rattle.refusals.specs.Refusals.{refusal}
use Rattle.advancing.specs.declared.Ending.{Ending}
use Rattle.advancing.specs.Answers.{ending_of}
use Rattle.running.specs.declared.Progress.{Progress}
use Rattle.running.specs.declared.Finished.{Finished}

unfoldable pub run_answer : Written ℕ Report → Result (Finished Refusal) Refusal
run_answer (kept k) = Err (refusal k)
run_answer (wrote (ended e n) new) = Ok (record { ending = ending_of e; steps = n; length = length new })

-- The record of a run

abbrev pub ended_at : Progress → Ending Refusal → Progress
ended_at r e = record { count = r.count; ending = Some e; length = r.length }

abbrev pub onward : Progress → ℕ → Progress
onward r n = record { count = r.count + 1; ending = None; length = n }

-- after one more turn
unfoldable pub record_after : Progress → Written Ended Moved → Progress
record_after r (kept e) = ended_at r (ending_of e)
record_after r (wrote move new) = onward r (length new)

-- A run that was played to its end: how it ended, and the state reached, which stands at the front of the buffer.
pub record Played (room budget : ℕ) (S : State) (r : Finished Refusal) (present : List ℕ) : Type 0 where
  pub end : Ended
  pub reached : State
  pub runs : run_from room budget S ≡ ran end r.steps reached
  pub ends : r.ending ≡ ending_of end
  pub holds : take r.length present ≡ encode_state reached
  pub long : r.length ≡ length (encode_state reached)
  pub fits : r.length ≤ room
