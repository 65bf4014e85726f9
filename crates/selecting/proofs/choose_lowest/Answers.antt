-- The answers for `choose_lowest`.
use Rattle.std.proofs.Common.{refl, sym, ◌∙◌}
use Rattle.places.proofs.Walking.{spelled_here}
use Rattle.places.proofs.Lowest.{scan, scan_over, scan_found, scan_position, scan_next}
use Rattle.selecting.proofs.LowestChoices.{none_lowest}
use Rattle.selecting.proofs.choose_lowest.Goals as goal

pub loop-place-init : goal.loop-place-init
loop-place-init c =
    rw (c.into_iter-place-iterator.ensures.into_iter_gives, c.enumerate-place-items.ensures.source, c.enumerate-place-items.ensures.count, c.places_of.ensures.0, c.places_of.ensures.1)
    record { same = refl; scanned = λ A e. scan _ A e }

pub lowest_at-requires : goal.lowest_at-requires
lowest_at-requires c =
    let x = c.requires in
    let h = c.in-Some.ensures.steps in
    let t = scan_position (c.loop-place.invariant.scanned x.tree x.admitting.spells.spelled) h.0.below in
    record { free = x.free; tree = x.tree; admitting = x.admitting; position = t.0; element = t.1; stands = t.2; there = t.3 ∙ sym h.0.offset }

pub returns-then-can_act : goal.returns-then-can_act
returns-then-can_act c F L a =
    let h = c.in-Some.ensures.steps in
    let g = c.loop-place.invariant.scanned L a.spells.spelled in
    let t = scan_position g h.0.below in
    let k = a.valid.graded in
    let f = c.can_act.ensures g.along.ahead.rest (spelled_here g.along.ahead h.0) (g.along.graded k) in
    c.lowest_at.ensures F L t.0 t.1 a t.2 (t.3 ∙ sym h.0.offset) (t.4 ∙ sym h.1) (rw h.1 (scan_found g F _ k (sym f ∙ c.if-can_act.true)))

pub loop-place-preserved : goal.loop-place-preserved
loop-place-preserved c =
    let i = c.loop-place.invariant in
    let h = c.in-Some.ensures.steps in record {
      same = h.0.same ∙ i.same;
      scanned = λ A e.
          let g = i.scanned A e in
          rw h.2 (scan_next g h.0 (λ k. sym (c.can_act.ensures g.along.ahead.rest (spelled_here g.along.ahead h.0) (g.along.graded k)) ∙ c.if-can_act.false));
    }

pub returns : goal.returns
returns c F L a = none_lowest _ F _ L _ (scan_over (c.loop-place.invariant.scanned L a.spells.spelled) F _ c.in-None.ensures.steps.0 a.valid.graded)
