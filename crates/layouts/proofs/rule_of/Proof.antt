-- The proof of `rule_of`.
use native.Mathlib.Omega.{arith}
use Rattle.format.proofs.ActionKinds.{row_small}
use Rattle.layouts.proofs.Layouts.{number_is, answer_is}
use Rattle.layouts.proofs.rule_of.Statement.{statement}
use Rattle.layouts.proofs.rule_of.Tie as tie

rule : tie.Need-returns
rule c α e = c.rule_by.ensures α (number_is α _ e) (answer_is α _ e _ c.before.kind_row.ensures)

pub rule_of_spec : {M : Type 1} → statement M
rule_of_spec = tie.close (tie.spec (λ c κs. tt) (λ c κs. (omega arith, (row_small _ _ c.kind_row.ensures).0)) rule)
