-- `cabinet_write_job`: its answer as numbers.
use Rattle.refusing.proofs.Theorems.{of_calls, write_refuses}
use Rattle.refusals.specs.Refusals.{number}
use Rattle.answers.specs.Numbers.{filled_numbers}
use Rattle.answers.proofs.Numbers.{numbered, filled_in_table}
use Rattle.writing.proofs.Writing.{write_small}
use Rattle.cabinet.proofs.Small.{filled_small}
use Rattle.cabinet.proofs.cabinet_write_job.Goals as goal

pub length_answer-requires : goal.length_answer-requires
length_answer-requires c = filled_small _ (write_small _ _ _) c.write_job.ensures.answers

pub returns : goal.returns
returns c = numbered (filled_numbers number) (filled_in_table _ (λ k e. of_calls (write_refuses _ _ _ k e))) c.length_answer.ensures c.write_job.ensures
