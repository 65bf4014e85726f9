-- `main`: no group has more cases than were taken.
use Rattle.std.proofs.Common.{◌≤◌}
use Rattle.vectors.proofs.main.Given as goal

abbrev pub invariant-loop : goal.invariant-loop
invariant-loop l = record { few : l.group.differences ≤ l.group.cases; taken : l.group.cases ≤ l.counter }
