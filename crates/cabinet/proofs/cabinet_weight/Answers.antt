-- `cabinet_weight`: its answer as numbers.
use Rattle.std.proofs.Common.{arith, ap, ◌∙◌}
use Rattle.refusing.proofs.Theorems.{of_calls, weight_refuses}
use Rattle.refusals.specs.Refusals.{number}
use Rattle.answers.specs.Numbers.{weighed_numbers}
use Rattle.answers.proofs.Numbers.{weighed_in_table}
use Rattle.cabinet.proofs.Small.{weight_small}
use Rattle.cabinet.proofs.cabinet_weight.Goals as goal

pub weight_answer-requires : goal.weight_answer-requires
weight_answer-requires c = weight_small _ _ (λ i. omega (arith, c.type_inv.state i)) c.weight.ensures

pub returns : goal.returns
returns c = c.weight_answer.ensures ∙ ap (weighed_numbers number) c.weight.ensures ∙ weighed_in_table _ (λ k e. of_calls (weight_refuses _ k e))
