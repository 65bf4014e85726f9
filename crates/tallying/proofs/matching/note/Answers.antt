-- The answers for `note`: one more answer where the question goes on and asks for it.
use mathlib.Core.Path.{refl, sym, ◌∙◌}
use native.Mathlib.Omega.{arith}
use Rattle.tallying.proofs.Wants.{note_none, note_other, note_more}
use Rattle.tallying.proofs.matching.note.Goals.{then-is_settled-via-then-is_settled, then-is_settled-via-else-is_settled+then-not-counts}
use Rattle.tallying.proofs.matching.note.Goals as goal

pub returns-then-is_settled : goal.returns-then-is_settled
returns-then-is_settled c = (
  elim c.then-is_settled.branch [
    | then-is_settled-via-then-is_settled w ↦ note_none _ _ _ (sym c.is_settled.ensures ∙ w.if-is_settled.true)
    | then-is_settled-via-else-is_settled+then-not-counts w ↦ note_other _ _ _ (sym c.is_settled.ensures ∙ w.if-is_settled.false) (sym w.counts.ensures ∙ w.if-not-counts.true)
  ],
  omega arith,
)

pub returns : goal.returns
returns c = (note_more _ _ _ (sym c.is_settled.ensures ∙ c.if-is_settled.false) (sym c.counts.ensures ∙ c.if-not-counts.false) _ c.or.ensures _ refl, omega arith)
