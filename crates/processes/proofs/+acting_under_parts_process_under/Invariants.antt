-- The measure of `process_under`, `parts` and `acting_under`, which call one another: thrice the depth and a little.
use Prim.Native.Nat.{◌+◌, ◌*◌}
use Rattle.processes.proofs.+acting_under_parts_process_under.Given as goal

abbrev pub decreases-acting_under : goal.decreases-acting_under
decreases-acting_under l = 3 * l.depth + 1

abbrev pub decreases-parts : goal.decreases-parts
decreases-parts l = 3 * l.depth + 2

abbrev pub decreases-process_under : goal.decreases-process_under
decreases-process_under l = 3 * l.depth
