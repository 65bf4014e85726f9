use Rattle.std.proofs.Common.{rules}
use Rattle.elements.proofs.Views.{first, first_whole}
use Rattle.elements.proofs.Each.{first_given, left_listed}
use Rattle.elements.proofs.ElementsOfIterator.next.Goals as goal

pub word_within-end-requires : goal.word_within-end-requires
word_within-end-requires c = first_whole c.requires.tree _ c.requires.spelled (search rules)

pub split_at-requires : goal.split_at-requires
split_at-requires c = (first c.requires.tree _ _ c.requires.spelled c.word_within-end.ensures.0 (search rules)).within

pub returns-clause-steps : goal.returns-clause-steps
returns-clause-steps c =
    let p = c.split_at.ensures in
    let l = c.requires in
    first_given _ _ _ _ c.word_within-end.ensures.0 (first l.tree _ _ l.spelled c.word_within-end.ensures.0 (search rules)).within p.front p.back

pub returns-clause-goes : goal.returns-clause-goes
returns-clause-goes c =
    let l = c.requires in
    let left = left_listed l.tree l.spelled (search rules) _ c.word_within-end.ensures.0 c.split_at.ensures.back l.spellable l.short in
    record { on = λ _. (left, tt, search rules); keeps = left; rests = λ _. tt }
