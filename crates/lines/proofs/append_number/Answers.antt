-- `append_number`: the digits of the number, at most twenty, are appended.
use Rattle.std.proofs.Common.{◌∙◌, arith}
use Rattle.lines.proofs.Decimals.{decimal_digits, decimal_short}
use Rattle.lines.proofs.append_number.Goals as goal

pub returns : goal.returns
returns c =
    let d = c.decimal-n in
    let a = c.append in
    let h = decimal_short _ _ c.ranges.number.fits d.ensures.len in
    let w = d.ensures.digits ∙ decimal_digits _ _ d.ensures.len in
    (omega (arith, h, a.ensures.0, d.ensures.in_bounds.1), rw w at a.ensures.1)

pub append-requires : goal.append-requires
append-requires c = let h = decimal_short _ _ c.ranges.number.fits c.decimal-n.ensures.len in omega (arith, h, c.decimal-n.ensures.in_bounds.1)
