-- The answer for `append_last`: four pieces.
use Rattle.lines.specs.Lines.{last_line}
use Rattle.lines.proofs.Appending.{◌then◌}
use Rattle.lines.proofs.append_last.Goals as goal

pub returns : goal.returns
unfolding last_line
returns g c =
    c.append_ending-behind_ending.ensures.1 then c.append_field-behind_steps.ensures.1 then c.append_field-end.ensures.1 then c.append.ensures.1
