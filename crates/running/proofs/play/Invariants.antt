-- `play`: before each turn the state present and the run that is left from it.
use mathlib.Core.Path.{◌≡◌}
use Prim.Native.Nat.{◌-◌, ◌≤◌}
use lib.ListN.{length, take}
use Rattle.machine.specs.Limits.{byte_limit}
use Rattle.machine.specs.Elements.{State}
use Rattle.advancing.specs.Answers.{Present}
use Rattle.running.proofs.Stages.{Stands}
use Rattle.running.proofs.play.Given as goal

abbrev pub invariant-loop-reached : goal.invariant-loop-reached
invariant-loop-reached l = record {
  counted : l.reached.count ≤ l.budget;
  fits : l.reached.length ≤ l.room;
  present_long : length l.present ≡ byte_limit;
  next_long : length l.next ≡ byte_limit;
  stands : (S : State) → Present (take l.size l.initial.present) S → Stands l.room l.budget S l.reached l.present;
}

abbrev pub decreases-loop-reached : goal.decreases-loop-reached
decreases-loop-reached l = l.budget - l.reached.count
