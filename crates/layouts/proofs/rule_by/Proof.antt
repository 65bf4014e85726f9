-- The proof of `rule_by`.
use native.Mathlib.Omega.{arith}
use Rattle.layouts.proofs.Layouts.{rule_from}
use Rattle.layouts.proofs.rule_by.Statement.{statement}
use Rattle.layouts.proofs.rule_by.Tie as tie

sender : tie.Need-returns-then-kind-answer
sender c α e f = (rule_from α _ _ e f).0 c.if-kind-answer.true

receiver : tie.Need-returns
receiver c α e f = (rule_from α _ _ e f).1 c.if-kind-answer.false

pub rule_by_spec : {M : Type 1} → statement M
rule_by_spec = tie.close (tie.spec (λ c. omega arith) (λ c. omega arith) sender (λ c. omega arith) (λ c. omega arith) receiver)
