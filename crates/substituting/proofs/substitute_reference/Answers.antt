-- `substitute_reference`: two bytes of the names, where the two bytes spell a variable that one of them stands for.
use Rattle.std.proofs.Common.{refl, arith}
use Rattle.substituting.proofs.Substitution.{names_room, reference_put, reference_kept}
use Rattle.substituting.proofs.substitute_reference.Goals as goal

pub returns-then-number-first : goal.returns-then-number-first
returns-then-number-first c ns a rest n e h = reference_kept _ _ _ _ c.word-number.ensures.0 ns n a rest e h (omega (arith, c.if-number-first.true))

pub overflow_sub-at-2 : goal.overflow_sub-at-2
overflow_sub-at-2 c =
    let h = names_room c.requires.referring c.requires.in_bounds c.word-number.ensures.0 (omega (arith, c.if-number-first.false)) in
    omega (arith, h)

pub bounds-names-at : goal.bounds-names-at
bounds-names-at c =
    let h = names_room c.requires.referring c.requires.in_bounds c.word-number.ensures.0 (omega (arith, c.if-number-first.false)) in
    omega (arith, h)

pub bounds-names-at-2 : goal.bounds-names-at-2
bounds-names-at-2 c =
    let h = names_room c.requires.referring c.requires.in_bounds c.word-number.ensures.0 (omega (arith, c.if-number-first.false)) in
    omega (arith, h)

pub returns : goal.returns
returns c ns a rest n e h = reference_put _ _ _ _ c.word-number.ensures.0 ns n a rest e h c.if-number-first.false _ refl
