-- The answers for `reference`.
use native.Mathlib.Omega.{arith}
use Rattle.format.proofs.Laws.{reference_short, reference_known, reference_unknown, reference_between, reference_bound, reference_unbound}
use Rattle.processes.proofs.reference.Goals as goal

pub returns-then-remaining-lt2 : goal.returns-then-remaining-lt2
returns-then-remaining-lt2 c = reference_short _ _ _ _ (omega (arith, c.remaining.ensures))

pub returns-then-v-names : goal.returns-then-v-names
returns-then-v-names c = reference_known _ _ _ _ _ (omega (arith, c.remaining.ensures)) c.word-v.ensures.0 (omega arith) (omega arith)

pub returns-then-v-lt-NAME_LIMIT : goal.returns-then-v-lt-NAME_LIMIT
returns-then-v-lt-NAME_LIMIT c = reference_unknown _ _ _ _ _ (omega (arith, c.remaining.ensures)) c.word-v.ensures.0 (omega arith) (omega arith)

pub returns-then-v-lt-FIRST_VARIABLE : goal.returns-then-v-lt-FIRST_VARIABLE
returns-then-v-lt-FIRST_VARIABLE c = reference_between _ _ _ _ _ (omega (arith, c.remaining.ensures)) c.word-v.ensures.0 (omega arith) (omega arith)

pub returns-then-v-binders : goal.returns-then-v-binders
returns-then-v-binders c = reference_bound _ _ _ _ _ (omega (arith, c.remaining.ensures)) c.word-v.ensures.0 (omega arith) (omega arith)

pub returns : goal.returns
returns c = reference_unbound _ _ _ _ _ (omega (arith, c.remaining.ensures)) c.word-v.ensures.0 (omega arith) (omega arith)
