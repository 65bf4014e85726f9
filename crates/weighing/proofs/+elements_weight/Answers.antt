-- `elements_weight`: what each element adds to the sum of those before it.
use Rattle.std.proofs.Common.{◌≡◌, arith, length, ap, ◌∙◌}
use Rattle.machine.specs.Elements.{Elements, weight}
use Rattle.elements.specs.Spelling.{encode_elements}
use Rattle.buffers.proofs.Parts.{length_part}
use Rattle.elements.proofs.Each.{begin, go_on, over, ambient_in, process_in, contents_listed, process_spelled}
use Rattle.weighing.proofs.Weights.{element_weight, weight_first, weight_of_ambient, weight_of_process, weight_of_other, elements_weight_small}
use Rattle.weighing.proofs.+elements_weight.Goals.{in-64, in-66, in_default}
use Rattle.weighing.proofs.+elements_weight.Goals as goal

pub slice_bounds-elements_weight-count : goal.slice_bounds-elements_weight-count
slice_bounds-elements_weight-count t c = (contents_listed c.loop-element.iterator.0 c.in-Some.ensures.steps (omega (arith, c.in-64.is))).0

pub slice_bounds-elements_weight-start : goal.slice_bounds-elements_weight-start
slice_bounds-elements_weight-start t c = (contents_listed c.loop-element.iterator.0 c.in-Some.ensures.steps (omega (arith, c.in-64.is))).0

pub elements_weight-requires : goal.elements_weight-requires
elements_weight-requires t c =
    let g = c.in-Some.ensures.steps in
    (omega (arith, c.decreases, g.long, g.parts, c.loop-element.invariant.within, length_part 5 c.in-Some.element.now), (contents_listed c.loop-element.iterator.0 g (omega (arith, c.in-64.is))).1)

pub process_weight-requires : goal.process_weight-requires
process_weight-requires t c = process_spelled c.loop-element.iterator.0 c.in-Some.ensures.steps c.in-66.is

pub loop-element-init : goal.loop-element-init
loop-element-init t c = begin (ap (λ it. it.rest.now) c.into_iter-element-iterator.ensures.into_iter_gives ∙ c.elements_of-element-items.ensures) (λ A. omega arith)

pub loop-element-preserved : goal.loop-element-preserved
loop-element-preserved t c =
    go_on c.loop-element.invariant c.in-Some.ensures.steps (λ A b w. omega (
      arith,
      b.holds,
      weight_first w,
      elim c.match-element.branch as (λ k. c.match-element.total ≡ element_weight w.element) [
        | in-64 k ↦
            let v = ambient_in w.element _ w.first (omega (arith, k.in-64.is)) in
            omega (arith, k.total-is, k.elements_weight.ensures.0 v.inside v.body, weight_of_ambient v k.in-64.is)
        | in-66 k ↦
            let v = process_in w.element _ w.first k.in-66.is in
            omega (arith, k.total-is, k.process_weight.ensures.0 v.process v.body, weight_of_process v)
        | in_default k ↦ omega (arith, k.total-is, weight_of_other w.element _ w.first (λ h. omega arith) (λ h. omega arith))
      ],
    ))

pub overflow_add-total-in-loop-element : goal.overflow_add-total-in-loop-element
overflow_add-total-in-loop-element t c =
    let l = c.requires in
    omega (arith, ((loop-element-preserved t c).of l.tree l.spelled).holds, elements_weight_small l.tree, ap length l.spelled, l.short)

weighed : {t : _} (c : goal.In-None t) (A : Elements) → c.args.list.now ≡ encode_elements A → c.loop-element.total ≡ weight A
unfolding weight
weighed c A e = omega (arith, over c.loop-element.invariant c.in-None.ensures.steps A e)

pub returns : goal.returns
returns t c =
    let l = c.requires in
    (weighed c, omega (arith, weighed c l.tree l.spelled, elements_weight_small l.tree, ap length l.spelled))
