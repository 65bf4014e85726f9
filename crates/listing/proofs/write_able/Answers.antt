use Rattle.std.proofs.Common.{arith, refl, sym, ◌∙◌}
use Rattle.places.proofs.Walking.{spelled_here}
use Rattle.listing.proofs.Words.{write_begin, write_able, write_none, room_left, write_over}
use Rattle.listing.proofs.write_able.Goals as goal

pub loop-place-init : goal.loop-place-init
loop-place-init c =
    rw (c.into_iter-place-iterator.ensures.into_iter_gives, c.enumerate-place-items.ensures.source, c.enumerate-place-items.ensures.count, c.places_of.ensures.0, c.places_of.ensures.1)
    record { few = omega arith; same = refl; writing = λ A e k. write_begin _ A _ e }

pub append_word-end-requires-clause-at_in_bounds : goal.append_word-end-requires-clause-at_in_bounds
append_word-end-requires-clause-at_in_bounds c =
    let r = c.requires in
    let i = c.loop-place.invariant in
    let p = c.in-Some.ensures.steps.0 in
    let w = i.writing r.tree r.spells.spelled r.graded in
    let f = c.can_act.ensures w.along.ahead.rest (spelled_here w.along.ahead p) (w.along.graded r.graded) in
    room_left _ _ _ w r.graded r.fits (sym f ∙ c.if-can_act.true)

pub loop-place-preserved-then-can_act : goal.loop-place-preserved-then-can_act
loop-place-preserved-then-can_act c =
    let i = c.loop-place.invariant in
    let h = c.in-Some.ensures.steps in
    let p = h.0 in record {
      few = omega (arith, i.few, p.later, h.2);
      same = p.same ∙ i.same;
      writing = λ A e k.
          let w = i.writing A e k in
          let f = c.can_act.ensures w.along.ahead.rest (spelled_here w.along.ahead p) (w.along.graded k) in
          rw h.2 (write_able _ A _ w p (sym f ∙ c.if-can_act.true) _ _ (rw (sym h.1) (c.append_word-end.ensures.1 _ _ w.left)));
    }

pub loop-place-preserved : goal.loop-place-preserved
loop-place-preserved c =
    let i = c.loop-place.invariant in
    let h = c.in-Some.ensures.steps in
    let p = h.0 in record {
      few = omega (arith, i.few, p.later, h.2);
      same = p.same ∙ i.same;
      writing = λ A e k.
          let w = i.writing A e k in
          let f = c.can_act.ensures w.along.ahead.rest (spelled_here w.along.ahead p) (w.along.graded k) in
          rw h.2 (write_none _ A _ w p (sym f ∙ c.if-can_act.false));
    }

pub returns : goal.returns
returns c A e k = write_over _ A _ (c.loop-place.invariant.writing A e k) c.in-None.ensures.steps.0 k
