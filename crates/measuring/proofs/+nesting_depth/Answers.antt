use Rattle.std.proofs.Common.{◌≡◌, arith, length, ap, ◌∙◌}
use Rattle.machine.specs.Elements.{Elements, nesting}
use Rattle.elements.specs.Spelling.{encode_elements}
use Rattle.buffers.proofs.Parts.{length_part}
use Rattle.elements.proofs.Each.{begin, go_on, over, contents_listed}
use Rattle.measuring.proofs.Measures.{nest_on, nest_over, nesting_small}
use Rattle.measuring.proofs.+nesting_depth.Goals as goal

pub slice_bounds-nesting_depth-count : goal.slice_bounds-nesting_depth-count
slice_bounds-nesting_depth-count t c = (contents_listed c.loop-element.iterator.0 c.in-Some.ensures.steps c.if-element-lt66.true).0

pub slice_bounds-nesting_depth-start : goal.slice_bounds-nesting_depth-start
slice_bounds-nesting_depth-start t c = (contents_listed c.loop-element.iterator.0 c.in-Some.ensures.steps c.if-element-lt66.true).0

pub nesting_depth-requires : goal.nesting_depth-requires
nesting_depth-requires t c =
    let g = c.in-Some.ensures.steps in
    (omega (arith, c.decreases, g.long, g.parts, c.loop-element.invariant.within, length_part 5 c.in-Some.element.now), (contents_listed c.loop-element.iterator.0 g c.if-element-lt66.true).1)

pub loop-element-init : goal.loop-element-init
loop-element-init t c = begin (ap (λ it. it.rest.now) c.into_iter-element-iterator.ensures.into_iter_gives ∙ c.elements_of-element-items.ensures) (λ A. omega arith)

pub loop-element-preserved-then-element-lt66 : goal.loop-element-preserved-then-element-lt66
loop-element-preserved-then-element-lt66 t c =
    go_on c.loop-element.invariant c.in-Some.ensures.steps (λ A b w. omega (arith, b.holds, c.max-deepest.ensures, nest_on w c.if-element-lt66.true c.nesting_depth.ensures.0))

pub loop-element-preserved : goal.loop-element-preserved
loop-element-preserved t c = go_on c.loop-element.invariant c.in-Some.ensures.steps (λ A b w. omega (arith, b.holds, nest_over w c.if-element-lt66.false))

deepest : {t : _} (c : goal.In-None t) (A : Elements) → c.args.list.now ≡ encode_elements A → c.loop-element.deepest ≡ nesting A
unfolding nesting
deepest c A e = omega (arith, over c.loop-element.invariant c.in-None.ensures.steps A e)

pub returns : goal.returns
returns t c =
    let l = c.requires in
    (deepest c, omega (arith, deepest c l.tree l.spelled, nesting_small l.tree, ap length l.spelled))
