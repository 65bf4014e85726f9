-- `implied_count`: what the kind hands over, and what its answer does.
use Rattle.std.proofs.Common.{◌∙◌, ◌+◌, ℕ, arith}
use mathlib.Core.Path.{ap₂}
use Rattle.format.specs.Kinds.{tag_kind, implied_count}
use Rattle.format.proofs.ActionKinds.{row_small, row_hands, answer_binds, implied_small}
use Rattle.counting.proofs.implied_count.Goals as goal

pub handed-requires : goal.handed-requires
handed-requires c = (row_small _ _ c.kind_row-row.ensures).1

pub overflow_add-result : goal.overflow_add-result
unfolding implied_count
overflow_add-result c =
    let row = c.kind_row-row.ensures in
    omega (arith, c.handed.ensures ∙ row_hands _ _ row, c.handed_back.ensures ∙ answer_binds _ _ row, implied_small (tag_kind c.args.tag))

pub returns : goal.returns
unfolding implied_count
returns c =
    let row = c.kind_row-row.ensures in
    let e = ap₂ (λ (m n : ℕ). m + n) (c.handed.ensures ∙ row_hands _ _ row) (c.handed_back.ensures ∙ answer_binds _ _ row) in
    (e, omega (arith, e, implied_small (tag_kind c.args.tag)))
