-- The answers for `counts`: from the first offset on, and up to the last, if there is one.
use Rattle.tallying.proofs.Wants.{counts_early, counts_all, counts_some}
use Rattle.tallying.proofs.matching.counts.Goals as goal

pub returns-then-at-question : goal.returns-then-at-question
returns-then-at-question c = counts_early _ _ c.if-at-question.true

pub returns-in-None : goal.returns-in-None
returns-in-None c = counts_all _ _ c.if-at-question.false c.in-None.is

pub returns-in-Some : goal.returns-in-Some
returns-in-Some c = counts_some _ _ c.if-at-question.false _ c.in-Some.is
