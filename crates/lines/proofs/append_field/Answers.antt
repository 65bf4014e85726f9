-- The answer for `append_field`: two pieces.
use native.Mathlib.Omega.{arith}
use Rattle.lines.specs.Lines.{next_field}
use Rattle.lines.proofs.Appending.{◌then◌}
use Rattle.lines.proofs.append_field.Goals as goal

pub returns : goal.returns
unfolding next_field
returns c =
    let a = c.append-behind_space.ensures in
    let b = c.append_number.ensures in
    (omega (arith, a.0, b.0), a.1 then b.1)
