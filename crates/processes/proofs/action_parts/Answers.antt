-- The answers for `action_parts`: references in a row; or target and channel, the count, the names.
use mathlib.Core.Path.{◌≡◌, sym, ap, ◌∙◌}
use Prim.Native.Nat.{ℕ, ◌+◌}
use native.Mathlib.Omega.{arith}
use Rattle.std.specs.Prelude.{Err}
use Rattle.format.specs.Kinds.{tag_kind}
use Rattle.format.specs.Reading.{read_references, read_action_parts}
use Rattle.format.specs.Answers.{answer}
use Rattle.format.proofs.ActionKinds.{row_is, row_small, row_hands, counts_small}
use Rattle.format.proofs.Laws.{then_refused, then_ok, answer_map, name_spelled, parts_in_a_row, count_refused, count_got, count_small, times_few}
use Rattle.processes.proofs.action_parts.Goals as goal

pub returns-then-tag-lt-FIRST_COUNTED : goal.returns-then-tag-lt-FIRST_COUNTED
returns-then-tag-lt-FIRST_COUNTED c =
    let a = c.args in
    let n = c.wide.ensures.0 ∙ (row_is _ _ c.kind_row-row.ensures).2 in
    c.references.ensures ∙ ap (λ (n : ℕ). answer 0 (read_references n a.names a.binders a.s.now)) n ∙ parts_in_a_row _ _ _ _ c.if-tag-lt-FIRST_COUNTED.true

pub returns-in_err-address : goal.returns-in_err-address
unfolding read_action_parts
returns-in_err-address c =
    let a = c.args in
    let e : c.from_residual.result ≡ Err c.in_err-address.field-0.0 = grind arith in
    let d = c.wide-2.ensures.0 ∙ (row_is _ _ c.kind_row-row.ensures).3 in
    let address = c.references-2.ensures ∙ ap (λ (n : ℕ). answer 0 (read_references (1 + n) a.names a.binders a.s.now)) d in
    e ∙ then_refused _ _ _ _ _ (sym c.in_err-address.was ∙ address)

pub returns-in_err-count : goal.returns-in_err-count
unfolding read_action_parts
returns-in_err-count c =
    let a = c.args in
    let e : c.from_residual-in_err-count.result ≡ Err c.in_err-count.field-0.0 = grind arith in
    let d = c.wide-2.ensures.0 ∙ (row_is _ _ c.kind_row-row.ensures).3 in
    let address = c.references-2.ensures ∙ ap (λ (n : ℕ). answer 0 (read_references (1 + n) a.names a.binders a.s.now)) d in
    e
    ∙ then_ok _ 0 _ a.s.now _ _ (sym c.in_ok-address.was ∙ address)
    (λ rs n q. rw (name_spelled _ _ c.if-tag-lt-FIRST_COUNTED.false) (count_refused _ _ _ _ _ (sym c.in_err-count.was ∙ c.spelled_count.ensures)))

pub handed-requires : goal.handed-requires
handed-requires c = (row_small _ _ c.kind_row-row.ensures).1

pub overflow_mul-count : goal.overflow_mul-count
overflow_mul-count c =
    let k = tag_kind c.args.tag in
    let r = c.handed.ensures ∙ row_hands _ _ c.kind_row-row.ensures in
    let few = count_small _ _ _ _ (sym c.in_ok-count.was ∙ c.spelled_count.ensures) in
    let times = times_few c.in_ok-count.count.value c.handed.result 256 (omega (arith, r, (counts_small k).2)) (omega (arith, few)) in
    omega (arith, times)

pub returns : goal.returns
unfolding read_action_parts
returns c =
    let a = c.args in
    let s = c.args.s.now in
    let d = c.wide-2.ensures.0 ∙ (row_is _ _ c.kind_row-row.ensures).3 in
    let address = c.references-2.ensures ∙ ap (λ (n : ℕ). answer 0 (read_references (1 + n) a.names a.binders s)) d in
    then_ok _ 0 _ s _ _ (sym c.in_ok-address.was ∙ address)
    (λ rs n q.
    rw (name_spelled _ _ c.if-tag-lt-FIRST_COUNTED.false)
    (count_got _ _ _ _ s _ _ (sym c.in_ok-count.was ∙ c.spelled_count.ensures)
    (rw (answer_map, ← row_hands _ _ c.kind_row-row.ensures, ← c.handed.ensures) c.references-3.ensures)))
