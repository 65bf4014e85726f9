-- The answer for `append_refusal`: two pieces.
use mathlib.Core.Path.{◌∙◌}
use Rattle.lines.specs.Lines.{refusal_line}
use Rattle.lines.proofs.Appending.{◌then◌}
use Rattle.lines.proofs.append_refusal.Goals as goal

pub returns : goal.returns
unfolding refusal_line
returns g c = (rw (c.from.ensures ∙ c.told_number.ensures) at c.append_number-end.ensures.1) then c.append.ensures.1
