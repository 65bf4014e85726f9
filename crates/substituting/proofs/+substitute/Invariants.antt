-- `substitute`: the measure is the length.
use Rattle.std.proofs.Common.{length}
use Rattle.substituting.proofs.+substitute.Given as goal

abbrev pub decreases-substitute : goal.decreases-substitute
decreases-substitute l = length l.s.now
