use Rattle.std.proofs.Common.{arith, length, refl, sym, ap, ◌∙◌}
use Rattle.places.proofs.Walking.{spelled_here}
use Rattle.places.proofs.Able.{begin, go_on, over, counted_able, counted_none}
use Rattle.listing.proofs.able_count.Goals as goal

pub overflow_add-count : goal.overflow_add-count
overflow_add-count c = omega (arith, c.loop-rest.invariant.few, c.in-Some.ensures.steps.below, c.loop-rest.iterator.0.short)

pub loop-rest-init : goal.loop-rest-init
loop-rest-init c =
    rw (c.into_iter-rest-iterator.ensures.into_iter_gives, c.places_of-rest-items.ensures.0, c.places_of-rest-items.ensures.1)
    record { few = omega arith; within = omega arith; same = refl; along = λ A e. (begin _ A e, λ k. refl) }

pub loop-rest-preserved-then-can_act : goal.loop-rest-preserved-then-can_act
loop-rest-preserved-then-can_act c =
    let i = c.loop-rest.invariant in
    let p = c.in-Some.ensures.steps in record {
      few = omega (arith, i.few, p.later);
      within = omega (arith, p.within, ap length i.same);
      same = p.same ∙ i.same;
      along = λ A e.
          let w = i.along A e in
          let g = w.0 in
          (go_on _ A g p, λ k. counted_able g _ (w.1 k) (sym (c.can_act.ensures g.ahead.rest (spelled_here g.ahead p) (g.graded k)) ∙ c.if-can_act.true));
    }

pub loop-rest-preserved : goal.loop-rest-preserved
loop-rest-preserved c =
    let i = c.loop-rest.invariant in
    let p = c.in-Some.ensures.steps in record {
      few = omega (arith, i.few, p.later);
      within = omega (arith, p.within, ap length i.same);
      same = p.same ∙ i.same;
      along = λ A e.
          let w = i.along A e in
          let g = w.0 in
          (go_on _ A g p, λ k. counted_none g _ (w.1 k) (sym (c.can_act.ensures g.ahead.rest (spelled_here g.ahead p) (g.graded k)) ∙ c.if-can_act.false));
    }

pub returns : goal.returns
returns c =
    let i = c.loop-rest.invariant in
    (λ A e k. let w = i.along A e in w.1 k ∙ ap length (sym (over _ A w.0 c.in-None.ensures.steps k)), omega (arith, i.few, i.within))
