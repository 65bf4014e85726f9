-- `handed_back`: by the row of the kind that answers.
use Rattle.std.proofs.Common.{◌∙◌}
use Rattle.format.proofs.ActionKinds.{row_small, row_hands}
use Rattle.counting.proofs.handed_back.Goals as goal

pub handed-requires : goal.handed-requires
handed-requires c = (row_small _ _ c.kind_row.ensures).1

pub returns : goal.returns
returns c = c.handed.ensures ∙ row_hands _ _ c.kind_row.ensures
