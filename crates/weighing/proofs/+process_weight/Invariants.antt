-- `process_weight`: the measure is the length of the bytes.
use lib.ListN.{length}
use Rattle.weighing.proofs.+process_weight.Given as goal

abbrev pub decreases-process_weight : goal.decreases-process_weight
decreases-process_weight l = length l.s.now
