-- The answers for `count_names`.
use mathlib.Core.Path.{refl, ◌∙◌}
use native.Mathlib.Omega.{arith}
use Rattle.layouts.proofs.Openings.{opened, opening_here, end_within}
use Rattle.referring.proofs.Tables.{open_first, open_on, open_over}
use Rattle.referring.proofs.count_names.Goals as goal

pub loop-at-init : goal.loop-at-init
loop-at-init c = (refl, λ A e. open_first _ A _ e)

pub count_opening-at-requires-clause-spelled_opening : goal.count_opening-at-requires-clause-spelled_opening
count_opening-at-requires-clause-spelled_opening c =
    let p = c.requires.spelled_list in
    opening_here (c.loop-at.invariant.1 p.tree p.spelled).left c.loop-at-test.true

-- the next opening starts behind this one, within the list

pub overflow_add-at : goal.overflow_add-at
overflow_add-at c =
    let p = c.requires.spelled_list in
    let g = c.loop-at.invariant.1 p.tree p.spelled in
    let v = opened g.left c.loop-at-test.true in
    let k = (c.count_opening-at.ensures v.first _ v.bytes).0 in
    omega (arith, k, end_within g.left c.loop-at-test.true, p.short)

pub loop-at-smaller : goal.loop-at-smaller
loop-at-smaller c =
    let p = c.requires.spelled_list in
    let g = c.loop-at.invariant.1 p.tree p.spelled in
    let v = opened g.left c.loop-at-test.true in
    let k = (c.count_opening-at.ensures v.first _ v.bytes).0 in
    omega (arith, k, end_within g.left c.loop-at-test.true, c.loop-at-test.true)

pub loop-at-preserved : goal.loop-at-preserved
loop-at-preserved c = (
  c.count_opening-at.auto.table ∙ c.loop-at.invariant.0,
  λ A e.
      let g = c.loop-at.invariant.1 A e in
      let h = c.loop-at-test.true in
      let v = opened g.left h in
      let k = c.count_opening-at.ensures v.first _ v.bytes in
      open_on _ A _ g h _ _ k.0 k.1,
)

pub returns : goal.returns
returns c A e = open_over _ A _ (c.loop-at.invariant.1 A e) c.loop-at-test.false
