-- The answers for `count_opening`: the references in front of the count, and those behind it.
use mathlib.Core.Path.{sym, ap, ◌∙◌}
use native.Mathlib.Omega.{arith}
use Rattle.calculus.specs.Names.{names_of_all}
use Rattle.layouts.specs.Openings.{first_of, second_of}
use Rattle.layouts.specs.declared.Opened.{Opened}
use Rattle.layouts.proofs.Openings.{opened_within, first_lent, second_lent}
use Rattle.referring.specs.Tables.{counted}
use Rattle.referring.proofs.Tables.{counted_append}
use Rattle.referring.proofs.count_opening.Goals as goal

pub slice_bounds-count_references-end : goal.slice_bounds-count_references-end
slice_bounds-count_references-end c =
    let p = c.requires.spelled_opening in
    omega (arith, opened_within p.opening _ p.rest p.spelled _ (c.opening_of-opened.ensures p.opening p.rest p.spelled))

pub slice_bounds-count_references-end-2 : goal.slice_bounds-count_references-end-2
slice_bounds-count_references-end-2 c =
    let p = c.requires.spelled_opening in
    omega (arith, opened_within p.opening _ p.rest p.spelled _ (c.opening_of-opened.ensures p.opening p.rest p.spelled))

pub returns : goal.returns
returns c o rest e =
    let s = c.args.s.now in
    let k = c.opening_of-opened.ensures o rest e in
    let f = c.count_references.ensures (first_of o) (first_lent o s rest e _ k) in
    let g = c.count_references-2.ensures (second_of o) (second_lent o s rest e _ k) in (
      ap (λ (r : Opened). r.end) k,
      g ∙ ap (counted (names_of_all (second_of o))) f ∙ sym (counted_append (names_of_all (first_of o)) (names_of_all (second_of o)) _),
    )
