-- The answers for `element_header`.
use native.Mathlib.Omega.{arith}
use Rattle.contents.specs.Reading.{open_element}
use Rattle.contents.proofs.ReadingLaws.{blocked_short, blocked_process, blocked_due}
use Rattle.contents.proofs.element_header.Goals as goal

pub returns-then-remaining-lt3 : goal.returns-then-remaining-lt3
returns-then-remaining-lt3 c = rw c.if-blocked.true (blocked_short _ _ (omega (arith, c.remaining.ensures)))

pub returns-then-s-at-eq66 : goal.returns-then-s-at-eq66
returns-then-s-at-eq66 c = rw c.if-blocked.true (blocked_process _ _ (omega (arith, c.remaining.ensures)) (omega arith))

pub returns-then-blocked : goal.returns-then-blocked
returns-then-blocked c = rw c.if-blocked.true (blocked_due _ _ _ (omega (arith, c.remaining.ensures)) (omega arith) c.header.ensures)

pub returns : goal.returns
unfolding open_element
returns c = rw c.if-blocked.false c.header-2.ensures
