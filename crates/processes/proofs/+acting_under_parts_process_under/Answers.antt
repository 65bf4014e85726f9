-- The answers for `acting_under`, `parts` and `process_under`.
use borrow.Author.Tests.{ne_eqb}
use lib.Dec.{eqb}
use mathlib.Core.Path.{◌≡◌, ◌∙◌, sym}
use native.Mathlib.Omega.{arith}
use Rattle.std.specs.Prelude.{Err}
use Rattle.format.specs.Reading.{read_action, read_acting, read_parts, shape_of}
use Rattle.format.specs.Answers.{answer}
use Rattle.format.proofs.Laws.{open_within, then_refused, then_ok, answer_map, field_shut, process_zero, process_shut, process_field, action_field, action_binders, parts_acting}
use Rattle.processes.proofs.+acting_under_parts_process_under.Goals as goal

-- An action

pub acting_under-returns-in_err-field : goal.acting_under-returns-in_err-field
unfolding read_acting read_action
acting_under-returns-in_err-field t c =
    let e : c.from_residual.result ≡ Err c.in_err-field.field-0.0 = grind arith in
    e ∙ then_refused _ _ _ _ _ (field_shut _ _ _ _ _ (sym c.in_err-field.was ∙ c.header.ensures))

pub acting_under-slice_bounds-body-count : goal.acting_under-slice_bounds-body-count
acting_under-slice_bounds-body-count t c = (open_within _ _ _ _ _ _ _ (sym c.in_ok-field.was ∙ c.header.ensures)).0

pub acting_under-slice_bounds-body-start : goal.acting_under-slice_bounds-body-start
acting_under-slice_bounds-body-start t c = (open_within _ _ _ _ _ _ _ (sym c.in_ok-field.was ∙ c.header.ensures)).0

pub acting_under-slice_bounds-body-end : goal.acting_under-slice_bounds-body-end
acting_under-slice_bounds-body-end t c = (open_within _ _ _ _ _ _ _ (sym c.in_ok-field.was ∙ c.header.ensures)).1

pub acting_under-overflow_sub-end : goal.acting_under-overflow_sub-end
acting_under-overflow_sub-end t c = (open_within _ _ _ _ _ _ _ (sym c.in_ok-field.was ∙ c.header.ensures)).0

pub acting_under-returns-in_err-next : goal.acting_under-returns-in_err-next
unfolding read_acting
acting_under-returns-in_err-next t c =
    let e : c.from_residual-in_err-next.result ≡ Err c.in_err-next.field-0.0 = grind arith in
    let read = action_field _ _ _ _ _ _ _ _ _ (sym c.in_ok-field.was ∙ c.header.ensures) c.action_parts.ensures c.finish.ensures in
    e ∙ then_refused _ _ _ _ _ (sym c.in_err-next.was ∙ read)

pub acting_under-returns : goal.acting_under-returns
unfolding read_acting
acting_under-returns t c =
    let opened = sym c.in_ok-field.was ∙ c.header.ensures in
    let read = action_field _ _ _ _ _ _ _ _ _ opened c.action_parts.ensures c.finish.ensures in
    then_ok _ _ _ _ _ _ (sym c.in_ok-next.was ∙ read)
    (λ a n q. rw (answer_map, action_binders _ _ _ _ _ _ _ a n opened q, ← c.binder_count-bound.ensures.0) c.process_under.ensures)

-- Parts

pub parts-returns-in-32 : goal.parts-returns-in-32
unfolding answer read_parts shape_of
parts-returns-in-32 t c = rw c.in-32.is

pub parts-returns-in_err-next-in-33 : goal.parts-returns-in_err-next-in-33
unfolding read_parts shape_of
parts-returns-in_err-next-in-33 t c =
    let e : c.from_residual.result ≡ Err c.in_err-next-in-33.field-0.0 = grind arith in
    e ∙ rw c.in-33.is (then_refused _ _ _ _ _ (sym c.in_err-next-in-33.was ∙ c.process_under.ensures))

pub parts-returns-in_ok-next-in-33 : goal.parts-returns-in_ok-next-in-33
unfolding read_parts shape_of
parts-returns-in_ok-next-in-33 t c =
    rw c.in-33.is
    (then_ok _ 0 _ c.args.s.now _ _ (sym c.in_ok-next-in-33.was ∙ c.process_under.ensures)
    (λ a n q. c.process_under-in-33.ensures ∙ sym (answer_map _ _ _)))

pub parts-returns-in-34 : goal.parts-returns-in-34
unfolding read_parts shape_of
parts-returns-in-34 t c = rw c.in-34.is (c.process_under-in-34.ensures ∙ sym (answer_map _ _ _))

pub parts-returns-in_err-next-in-35 : goal.parts-returns-in_err-next-in-35
unfolding read_parts shape_of
parts-returns-in_err-next-in-35 t c =
    let e : c.from_residual-in_err-next-in-35.result ≡ Err c.in_err-next-in-35.field-0.0 = grind arith in
    e ∙ rw c.in-35.is (then_refused _ _ _ _ _ (sym c.in_err-next-in-35.was ∙ c.reference.ensures))

pub parts-returns-in_ok-next-in-35 : goal.parts-returns-in_ok-next-in-35
unfolding read_parts shape_of
parts-returns-in_ok-next-in-35 t c =
    rw c.in-35.is
    (then_ok _ 0 _ c.args.s.now _ _ (sym c.in_ok-next-in-35.was ∙ c.reference.ensures)
    (λ a n q. c.process_under-in-35.ensures ∙ sym (answer_map _ _ _)))

pub parts-returns-in_default : goal.parts-returns-in_default
unfolding shape_of
parts-returns-in_default t c =
    simp (
      ne_eqb c.args.tag 0x20 (omega arith),
      ne_eqb c.args.tag 0x21 (omega arith),
      ne_eqb c.args.tag 0x22 (omega arith),
      ne_eqb c.args.tag 0x23 (omega arith),
    )
    (c.acting_under.ensures ∙ sym (parts_acting (eqb c.args.tag 0x24) _ _ _ _ _))

-- A process

pub process_under-returns-in_err-field : goal.process_under-returns-in_err-field
process_under-returns-in_err-field t c =
    let e : c.from_residual.result ≡ Err c.in_err-field.field-0.0 = grind arith in
    e ∙ process_shut _ _ _ _ _ _ (sym c.in_err-field.was ∙ c.header.ensures)

pub process_under-returns-then-depth-eq0 : goal.process_under-returns-then-depth-eq0
process_under-returns-then-depth-eq0 t c = process_zero _ _ _ _ _ _ _ _ (omega arith) (sym c.in_ok-field.was ∙ c.header.ensures)

pub process_under-slice_bounds-body-count : goal.process_under-slice_bounds-body-count
process_under-slice_bounds-body-count t c = (open_within _ _ _ _ _ _ _ (sym c.in_ok-field.was ∙ c.header.ensures)).0

pub process_under-slice_bounds-body-start : goal.process_under-slice_bounds-body-start
process_under-slice_bounds-body-start t c = (open_within _ _ _ _ _ _ _ (sym c.in_ok-field.was ∙ c.header.ensures)).0

pub process_under-slice_bounds-body-end : goal.process_under-slice_bounds-body-end
process_under-slice_bounds-body-end t c = (open_within _ _ _ _ _ _ _ (sym c.in_ok-field.was ∙ c.header.ensures)).1

pub process_under-overflow_sub-end : goal.process_under-overflow_sub-end
process_under-overflow_sub-end t c = (open_within _ _ _ _ _ _ _ (sym c.in_ok-field.was ∙ c.header.ensures)).0

pub process_under-returns : goal.process_under-returns
process_under-returns t c =
    process_field _ _ _ _ _ _ _ _ _ _ c.if-depth-eq0.false (sym c.in_ok-field.was ∙ c.header.ensures) c.parts.ensures c.finish.ensures
