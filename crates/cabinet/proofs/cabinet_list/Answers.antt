-- `cabinet_list`: its answer as numbers.
use Rattle.refusing.proofs.Theorems.{of_calls, list_refuses}
use Rattle.refusals.specs.Refusals.{number}
use Rattle.answers.specs.Numbers.{filled_numbers}
use Rattle.answers.proofs.Numbers.{numbered, filled_in_table}
use Rattle.cabinet.proofs.Small.{filled_small, list_small}
use Rattle.cabinet.proofs.cabinet_list.Goals as goal

pub length_answer-requires : goal.length_answer-requires
length_answer-requires c = filled_small _ (list_small _ _) c.list.ensures.answers

pub returns : goal.returns
returns c = numbered (filled_numbers number) (filled_in_table _ (λ k e. of_calls (list_refuses _ _ k e))) c.length_answer.ensures c.list.ensures
