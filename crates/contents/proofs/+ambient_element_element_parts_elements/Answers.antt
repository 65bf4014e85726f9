-- The answers for `ambient`, `element`, `element_parts` and `elements`.
use borrow.Author.Tests.{ne_eqb}
use mathlib.Core.Path.{◌≡◌, ◌∙◌, sym}
use native.Mathlib.Omega.{arith}
use Rattle.std.specs.Prelude.{Err}
use Rattle.refusals.specs.Refusals.{refusal}
use Rattle.format.specs.Answers.{answer}
use Rattle.format.proofs.Laws.{then_refused, then_ok, answer_map, field_shut, field_open}
use Rattle.contents.specs.Reading.{element_shape, element_parts, read_element, read_ambient}
use Rattle.contents.proofs.ReadingLaws.{element_within, element_further, elements_end, elements_refused, elements_again, ambient_suc}
use Rattle.contents.proofs.+ambient_element_element_parts_elements.Goals as goal

-- An ambient

pub ambient-returns-then-nest-eq0 : goal.ambient-returns-then-nest-eq0
unfolding read_ambient answer refusal
ambient-returns-then-nest-eq0 t c = rw c.if-nest-eq0.true

pub ambient-returns-in_err-next : goal.ambient-returns-in_err-next
ambient-returns-in_err-next t c =
    let e : c.from_residual.result ≡ Err c.in_err-next.field-0.0 = grind arith in
    e ∙ rw (ambient_suc _ _ _ _ c.if-nest-eq0.false) (then_refused _ _ _ _ _ (sym c.in_err-next.was ∙ c.reference.ensures))

pub ambient-returns : goal.ambient-returns
ambient-returns t c =
    rw (ambient_suc _ _ _ _ c.if-nest-eq0.false)
    (then_ok _ 0 _ c.args.s.now _ _ (sym c.in_ok-next.was ∙ c.reference.ensures) (λ a n q. c.elements.ensures ∙ sym (answer_map _ _ _)))

-- An element

pub element-returns-in_err-field : goal.element-returns-in_err-field
unfolding read_element
element-returns-in_err-field t c =
    let e : c.from_residual.result ≡ Err c.in_err-field.field-0.0 = grind arith in
    e ∙ field_shut _ _ _ _ _ (sym c.in_err-field.was ∙ c.element_header.ensures)

pub element-slice_bounds-body-count : goal.element-slice_bounds-body-count
element-slice_bounds-body-count t c = (element_within _ _ _ _ _ _ (sym c.in_ok-field.was ∙ c.element_header.ensures)).0

pub element-slice_bounds-body-start : goal.element-slice_bounds-body-start
element-slice_bounds-body-start t c = (element_within _ _ _ _ _ _ (sym c.in_ok-field.was ∙ c.element_header.ensures)).0

pub element-slice_bounds-body-end : goal.element-slice_bounds-body-end
element-slice_bounds-body-end t c = (element_within _ _ _ _ _ _ (sym c.in_ok-field.was ∙ c.element_header.ensures)).1

pub element-overflow_sub-end : goal.element-overflow_sub-end
element-overflow_sub-end t c = (element_within _ _ _ _ _ _ (sym c.in_ok-field.was ∙ c.element_header.ensures)).0

pub element-returns : goal.element-returns
unfolding read_element
element-returns t c =
    c.finish.ensures
    ∙ rw c.element_parts.ensures (field_open _ _ _ _ _ _ _ (sym c.in_ok-field.was ∙ c.element_header.ensures))

-- Its parts

pub element_parts-returns-in-64 : goal.element_parts-returns-in-64
unfolding element_parts element_shape
element_parts-returns-in-64 t c = rw c.in-64.is c.ambient.ensures

pub element_parts-returns-in-65 : goal.element_parts-returns-in-65
unfolding element_parts element_shape
element_parts-returns-in-65 t c = rw c.in-65.is c.ambient-in-65.ensures

pub element_parts-returns-in-66 : goal.element_parts-returns-in-66
unfolding element_parts element_shape
element_parts-returns-in-66 t c = rw c.in-66.is (c.process.ensures ∙ sym (answer_map _ _ _))

pub element_parts-returns-in_default : goal.element_parts-returns-in_default
unfolding element_parts element_shape
element_parts-returns-in_default t c =
    simp (ne_eqb c.args.tag 0x40 (omega arith), ne_eqb c.args.tag 0x41 (omega arith), ne_eqb c.args.tag 0x42 (omega arith))
    (c.acting.ensures ∙ sym (answer_map _ _ _))

-- Elements

pub elements-returns-in_err-next : goal.elements-returns-in_err-next
elements-returns-in_err-next t c =
    let e : c.from_residual.result ≡ Err c.in_err-next.field-0.0 = grind arith in
    e ∙ rw c.loop-next.invariant (elements_refused _ _ _ _ _ c.loop-next-test.true _ (sym c.in_err-next.was ∙ c.element.ensures))

pub elements-loop-next-smaller : goal.elements-loop-next-smaller
elements-loop-next-smaller t c = omega (arith, element_further _ _ _ _ _ _ (sym c.in_ok-next.was ∙ c.element.ensures))

pub elements-loop-next-preserved : goal.elements-loop-next-preserved
elements-loop-next-preserved t c =
    c.loop-next.invariant ∙ elements_again _ _ _ _ _ c.loop-next-test.true _ (sym c.in_ok-next.was ∙ c.element.ensures)

pub elements-returns : goal.elements-returns
elements-returns t c = rw c.loop-next.invariant (elements_end _ _ _ _ _ c.loop-next-test.false)
