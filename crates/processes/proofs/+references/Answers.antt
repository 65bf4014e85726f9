-- The answers for `references`.
use mathlib.Core.Path.{◌≡◌, sym, ◌∙◌}
use native.Mathlib.Nat.{add-zero}
use native.Mathlib.Omega.{arith}
use Rattle.std.specs.Prelude.{Err}
use Rattle.format.specs.Reading.{read_references}
use Rattle.format.specs.Answers.{answer}
use Rattle.format.proofs.Laws.{references_suc, then_refused, then_ok, answer_map}
use Rattle.processes.proofs.+references.Goals as goal

pub returns-then-count-eq0 : goal.returns-then-count-eq0
unfolding answer read_references
returns-then-count-eq0 t c = rw (c.if-count-eq0.true, add-zero)

pub returns-in_err-next : goal.returns-in_err-next
returns-in_err-next t c =
    let e : c.from_residual.result ≡ Err c.in_err-next.field-0.0 = grind arith in
    e ∙ rw (references_suc _ _ _ _ c.if-count-eq0.false) (then_refused _ _ _ _ _ (sym c.in_err-next.was ∙ c.reference.ensures))

pub returns : goal.returns
returns t c =
    rw (references_suc _ _ _ _ c.if-count-eq0.false)
    (then_ok _ _ _ _ _ _ (sym c.in_ok-next.was ∙ c.reference.ensures) (λ a n q. c.references.ensures ∙ sym (answer_map _ _ _)))
