-- The answers for `count_references`.
use mathlib.Core.Path.{refl, ◌∙◌}
use native.Mathlib.Omega.{arith}
use Rattle.referring.proofs.Tables.{refer, leads, refer_on, refer_over}
use Rattle.referring.proofs.count_references.Goals as goal

pub loop-reference-init : goal.loop-reference-init
loop-reference-init c =
    let k = c.chunks_exact-reference-items.ensures in
    let i = c.into_iter-reference-iterator.ensures.into_iter_gives in
    (refl, rw i k.size, λ rs e. rw (i, k.rest) (refer rs _ _ e))

pub loop-reference-preserved : goal.loop-reference-preserved
loop-reference-preserved c =
    let h = c.in-Some.ensures.steps in
    let i = c.loop-reference.invariant in (
      c.count_reference.auto.table ∙ i.0,
      h.0 ∙ i.1,
      λ rs e.
          let g = i.2 rs e in
          let v = leads rs _ g _ _ h.1.0 (h.1.1 ∙ i.1) in
          refer_on rs _ g v _ (c.count_reference.ensures v.first _ v.bytes),
    )

pub returns : goal.returns
returns c rs e =
    let h = c.in-None.ensures.steps in
    let i = c.loop-reference.invariant in
    refer_over rs _ (i.2 rs e) (omega (arith, h.1.0, i.1))
