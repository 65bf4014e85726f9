-- `cabinet_partners`: its answer as numbers.
use Rattle.std.proofs.Common.{arith, ap, ◌∙◌}
use Rattle.refusing.proofs.Theorems.{of_calls, partners_refuse}
use Rattle.refusals.specs.Refusals.{number}
use Rattle.answers.specs.Numbers.{partnered_numbers}
use Rattle.answers.proofs.Numbers.{partnered_in_table}
use Rattle.cabinet.proofs.Small.{partners_small}
use Rattle.cabinet.proofs.cabinet_partners.Goals as goal

pub partners_answer-requires : goal.partners_answer-requires
partners_answer-requires c = partners_small _ _ _ (λ i. omega (arith, c.type_inv.state i)) c.partners.ensures

pub returns : goal.returns
returns c = c.partners_answer.ensures ∙ ap (partnered_numbers number) c.partners.ensures ∙ partnered_in_table _ (λ k e. of_calls (partners_refuse _ _ k e))
