-- `cabinet_run`: its answer as numbers.
use Rattle.std.proofs.Common.{arith}
use Rattle.refusing.proofs.Theorems.{of_calls, run_refuses, run_meets}
use Rattle.refusals.specs.Refusals.{number}
use Rattle.answers.specs.Numbers.{ran_numbers}
use Rattle.answers.proofs.Numbers.{numbered, ran_in_table}
use Rattle.cabinet.proofs.Small.{run_small}
use Rattle.cabinet.proofs.cabinet_run.Goals as goal

pub run_answer-requires : goal.run_answer-requires
run_answer-requires c = run_small _ _ _ _ (λ i. omega (arith, c.type_inv.state i)) (omega (arith, c.ranges.budget)) c.run.ensures.answers

pub returns : goal.returns
returns c = numbered (ran_numbers number)
    (ran_in_table _ (λ k e. of_calls (run_refuses _ _ _ k e)) (λ k n new e.
    let h = run_meets _ new _ _ n k (λ i. omega (arith, c.type_inv.state i)) e in (omega (arith, h.0), omega (arith, h.1))))
    c.run_answer.ensures c.run.ensures
