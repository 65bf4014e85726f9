-- The answer for `weight_of`: what is heard of the state's weight.
use mathlib.Core.Path.{◌∙◌}
use Rattle.telling.proofs.Texts.{weight_heard}
use Rattle.telling.proofs.weight_of.Goals as goal

pub returns : goal.returns
returns c = c.unwrap_or.ensures ∙ weight_heard _ c.weight.ensures
