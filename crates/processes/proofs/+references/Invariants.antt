-- How often `references` calls itself: as many times as there are references.
use Rattle.processes.proofs.+references.Given as goal

abbrev pub decreases-references : goal.decreases-references
decreases-references l = l.count
