-- `taken`: as many as the answer hands over.
use Rattle.std.proofs.Common.{◌∙◌, arith}
use Rattle.format.specs.Kinds.{tag_kind}
use Rattle.format.proofs.ActionKinds.{answer_binds, binders_small}
use Rattle.counting.proofs.taken.Goals as goal

pub returns : goal.returns
returns c =
    let e = c.handed_back.ensures ∙ answer_binds _ _ c.kind_row.ensures in
    (e, omega (arith, e, binders_small (tag_kind c.args.tag)))
