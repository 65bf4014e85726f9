-- `tell_steps`: between two turns the text so far, and the text from the state present.
use mathlib.Core.Path.{◌≡◌}
use Prim.Native.Nat.{◌-◌}
use lib.ListN.{length}
use Rattle.machine.specs.Limits.{byte_limit}
use Rattle.telling.specs.Sessions.{step_budget}
use Rattle.telling.proofs.Telling.{Telling}
use Rattle.telling.proofs.tell_steps.Given as goal

abbrev pub invariant-loop-text : goal.invariant-loop-text
invariant-loop-text l = record {
  telling : Telling l.steps l.size l.fn.present l.fn.text l.taken l.end l.at l.present l.text;
  buffer : length l.next ≡ byte_limit;
  long : length l.text ≡ length l.fn.text;
}

abbrev pub decreases-loop-text : goal.decreases-loop-text
decreases-loop-text l = step_budget - l.taken
