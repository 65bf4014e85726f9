-- The answers for `count_reference`: one more where the two bytes are a name.
use mathlib.Core.Path.{◌∙◌}
use Rattle.referring.proofs.Tables.{count_met, count_passed, more_first, more_again}
use Rattle.referring.proofs.count_reference.Goals.{then-table-number-eq0, else-table-number-eq0}
use Rattle.referring.proofs.count_reference.Goals as goal

pub returns-after-table-number-eq0 : goal.returns-after-table-number-eq0
returns-after-table-number-eq0 c a rest e =
    elim c.if-table-number-eq0.branch [
      | then-table-number-eq0 w ↦ count_met a _ rest _ _ _ e c.word-number.ensures.0 c.requires c.if-number-table.true (w.table-is ∙ more_first _ w.if-table-number-eq0.true)
      | else-table-number-eq0 w ↦ count_met a _ rest _ _ _ e c.word-number.ensures.0 c.requires c.if-number-table.true (w.table-is ∙ more_again _ w.if-table-number-eq0.false)
    ]

pub returns-else-number-table : goal.returns-else-number-table
returns-else-number-table c a rest e = count_passed a _ rest _ _ e c.word-number.ensures.0 c.if-number-table.false
