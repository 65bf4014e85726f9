-- The answers for `header`.
use native.Mathlib.Omega.{arith}
use Rattle.format.proofs.Laws.{open_short, open_low, open_high, open_long, open_opens}
use Rattle.format.proofs.header.Goals as goal

pub returns-then-left-lt3 : goal.returns-then-left-lt3
returns-then-left-lt3 c = open_short _ _ _ _ (omega (arith, c.remaining-left.ensures))

pub returns-then-tag-low : goal.returns-then-tag-low
returns-then-tag-low c = open_low _ _ _ _ (omega (arith, c.remaining-left.ensures)) (omega arith)

pub returns-then-high-tag : goal.returns-then-high-tag
returns-then-high-tag c = open_high _ _ _ _ (omega (arith, c.remaining-left.ensures)) (omega arith) (omega arith)

pub returns-then-left-len : goal.returns-then-left-len
returns-then-left-len c =
    let left = c.remaining-left.ensures in
    open_long _ _ _ _ _ (omega (arith, left)) (omega arith) (omega arith) c.word-len.ensures.0 (omega (arith, left))

pub returns : goal.returns
returns c =
    let left = c.remaining-left.ensures in
    open_opens _ _ _ _ _ (omega (arith, left)) (omega arith) (omega arith) c.word-len.ensures.0 (omega (arith, left))
