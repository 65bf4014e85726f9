-- The answer for `append_step`: six pieces.
use native.Mathlib.Omega.{arith}
use Rattle.lines.specs.Endings.{turn_line}
use Rattle.lines.proofs.Appending.{◌then◌}
use Rattle.lines.proofs.append_step.Goals as goal

pub returns : goal.returns
unfolding turn_line
returns c =
    let a = c.append_number-behind_place.ensures in
    let b = c.append-partner.ensures in
    let d = c.append_partner-behind_partner.ensures in
    let e = c.append_field-behind_rule.ensures in
    let f = c.append_field-end.ensures in
    let g = c.append.ensures in
    (omega (arith, a.0, b.0, d.0, e.0, f.0, g.0), a.1 then b.1 then d.1 then (rw c.from.ensures at e.1) then f.1 then g.1)
