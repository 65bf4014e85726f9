-- `same`: the library's test of two slices is the definition's.
use Rattle.std.proofs.Common.{◌∙◌}
use Rattle.comparing.proofs.Comparing.{equal_is}
use Rattle.comparing.proofs.same.Goals as goal

pub returns : goal.returns
returns c = c.eq.ensures ∙ equal_is _ _
