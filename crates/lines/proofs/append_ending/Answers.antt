-- The answers for `append_ending`: the text of the ending is appended.
use mathlib.Core.Path.{◌∙◌}
use native.Mathlib.Omega.{arith}
use Rattle.lines.specs.Lines.{ending_text}
use Rattle.lines.proofs.append_ending.Goals as goal

pub returns-in-Blocked : goal.returns-in-Blocked
unfolding ending_text
returns-in-Blocked g c =
    let a = c.append.ensures in
    (omega (arith, a.0), rw c.in-Blocked.is a.1)

pub returns-in-Spent : goal.returns-in-Spent
unfolding ending_text
returns-in-Spent g c =
    let a = c.append-in-Spent.ensures in
    (omega (arith, a.0), rw c.in-Spent.is a.1)

pub returns-in-Limit : goal.returns-in-Limit
unfolding ending_text
returns-in-Limit g c =
    let a = c.append_number.ensures in
    (a.0, rw c.in-Limit.is (rw (c.from.ensures ∙ c.told_number.ensures) at a.1))
