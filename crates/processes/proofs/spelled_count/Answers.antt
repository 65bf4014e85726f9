-- The answers for `spelled_count`.
use native.Mathlib.Omega.{arith}
use Rattle.format.proofs.Laws.{spelled_missing, spelled_one, spelled_many, spelled_few}
use Rattle.processes.proofs.spelled_count.Goals as goal

pub returns-then-s-at : goal.returns-then-s-at
returns-then-s-at c = spelled_missing _ _ (omega arith)

pub returns-then-n-eq1 : goal.returns-then-n-eq1
returns-then-n-eq1 c = spelled_one _ _ (omega arith) (omega arith)

pub returns-then-n-gt-COUNT_LIMIT : goal.returns-then-n-gt-COUNT_LIMIT
returns-then-n-gt-COUNT_LIMIT c = spelled_many _ _ (omega arith) (omega arith) (omega arith)

pub returns : goal.returns
returns c = spelled_few _ _ (omega arith) _ (omega arith) (omega arith) c.wide.ensures.0
