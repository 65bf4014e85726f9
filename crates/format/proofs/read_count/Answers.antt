-- The answers for `read_count`.
use native.Mathlib.Omega.{arith}
use Rattle.format.proofs.Laws.{count_short, count_low, count_high, count_within}
use Rattle.format.proofs.read_count.Goals as goal

pub returns-then-remaining-lt2 : goal.returns-then-remaining-lt2
returns-then-remaining-lt2 c = count_short _ _ _ _ (omega (arith, c.remaining.ensures))

pub returns-then-v-least : goal.returns-then-v-least
returns-then-v-least c = count_low _ _ _ _ _ (omega (arith, c.remaining.ensures)) c.word-v.ensures.0 (omega arith)

pub returns-then-most-v : goal.returns-then-most-v
returns-then-most-v c = count_high _ _ _ _ _ (omega (arith, c.remaining.ensures)) c.word-v.ensures.0 (omega arith) (omega arith)

pub returns : goal.returns
returns c = count_within _ _ _ _ _ (omega (arith, c.remaining.ensures)) c.word-v.ensures.0 (omega arith) (omega arith)
