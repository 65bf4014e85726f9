-- `cabinet_sweep`: its answer as numbers.
use Rattle.refusing.proofs.Theorems.{of_calls, sweep_refuses}
use Rattle.refusals.specs.Refusals.{number}
use Rattle.answers.specs.Numbers.{filled_numbers}
use Rattle.answers.proofs.Numbers.{numbered, filled_in_table}
use Rattle.sweeping.proofs.Swept.{sweep_small}
use Rattle.cabinet.proofs.Small.{filled_small}
use Rattle.cabinet.proofs.cabinet_sweep.Goals as goal

pub length_answer-requires : goal.length_answer-requires
length_answer-requires c = filled_small _ (sweep_small _ _) c.sweep.ensures.answers

pub returns : goal.returns
returns c = numbered (filled_numbers number) (filled_in_table _ (λ k e. of_calls (sweep_refuses _ _ k e))) c.length_answer.ensures c.sweep.ensures
