-- `substitute_references`: the measure is the length.
use Rattle.std.proofs.Common.{length}
use Rattle.substituting.proofs.+substitute_references.Given as goal

abbrev pub decreases-substitute_references : goal.decreases-substitute_references
decreases-substitute_references l = length l.s.now
