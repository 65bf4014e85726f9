-- The answers for `pairs_from`, which calls itself for what an ambient holds.
use Rattle.std.proofs.Common.{ap, sym, ◌∙◌, arith}
use Rattle.searching.proofs.Walks.{walked_within, walked_listed, set_out, arrive, inside_required, other_required, found_inside, past_inside, found_other, past_other}
use Rattle.searching.proofs.pairing.+pairs_from.Goals as goal

pub slice_bounds-elements_of-end : goal.slice_bounds-elements_of-end
slice_bounds-elements_of-end t c = let r = c.requires in omega (arith, walked_within r.spells r.walked)

pub loop-element-init : goal.loop-element-init
loop-element-init t c = set_out c.requires (ap (λ it. it.rest.now) c.into_iter-element-iterator.ensures.into_iter_gives ∙ c.elements_of-element-items.ensures)

pub loop-element-init-derived : goal.loop-element-init-derived
loop-element-init-derived t c =
    (rw (ap (λ it. it.rest.now) c.into_iter-element-iterator.ensures.into_iter_gives ∙ c.elements_of-element-items.ensures) (walked_listed c.requires), tt)

pub pairs_from-requires : goal.pairs_from-requires
pairs_from-requires t c =
    let i = c.loop-element.invariant in
    let g = c.in-Some.ensures.steps in
    (omega (arith, c.decreases, i.behind, i.ahead, g.parts, g.long), inside_required i g c.requires c.if-element-lt66.true)

pub returns-then-pairs_from : goal.returns-then-pairs_from
returns-then-pairs_from t c = found_inside c.loop-element.invariant c.in-Some.ensures.steps c.if-element-lt66.true c.pairs_from.ensures c.if-pairs_from.true

pub is_answered-requires : goal.is_answered-requires
is_answered-requires t c = other_required c.loop-element.invariant c.in-Some.ensures.steps c.requires c.if-element-lt66.false

pub returns-then-is_answered : goal.returns-then-is_answered
returns-then-is_answered t c = found_other c.loop-element.invariant c.in-Some.ensures.steps c.is_answered.ensures c.if-is_answered.true

pub loop-element-preserved-else-pairs_from : goal.loop-element-preserved-else-pairs_from
loop-element-preserved-else-pairs_from t c = past_inside c.loop-element.invariant c.in-Some.ensures.steps c.if-element-lt66.true c.pairs_from.ensures c.if-pairs_from.false

pub loop-element-preserved : goal.loop-element-preserved
loop-element-preserved t c = past_other c.loop-element.invariant c.in-Some.ensures.steps c.is_answered.ensures c.if-is_answered.false

pub returns : goal.returns
returns t c L f A p w = sym (arrive c.loop-element.invariant c.in-None.ensures.steps L f A p w)
