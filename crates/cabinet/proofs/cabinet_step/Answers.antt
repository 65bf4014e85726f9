-- `cabinet_step`: its answer as numbers.
use Rattle.std.proofs.Common.{◌∙◌}
use Rattle.answers.proofs.Numbers.{replied_numbers_law}
use Rattle.cabinet.proofs.Small.{step_small}
use Rattle.cabinet.proofs.cabinet_step.Goals as goal

pub step_answer-requires : goal.step_answer-requires
step_answer-requires c = step_small _ _ _ _ _ c.step.ensures.answers

pub returns : goal.returns
returns c = record { answers = c.step_answer.ensures ∙ replied_numbers_law _ _ c.step.ensures.answers; leaves = c.step.ensures.leaves }
