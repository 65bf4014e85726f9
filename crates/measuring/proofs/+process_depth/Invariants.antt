-- `process_depth`: the measure is the length.
use Rattle.std.proofs.Common.{length}
use Rattle.measuring.proofs.+process_depth.Given as goal

abbrev pub decreases-process_depth : goal.decreases-process_depth
decreases-process_depth l = length l.s.now
