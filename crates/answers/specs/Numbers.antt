-- The numbers that the C interface answers with: of what a call comes to by its definition, and of what the code below answers, where `told` is the number of what refuses it.
use Rattle.std.specs.Prelude.{ℕ, length, Result, Ok, Err, unwrap_or}
use Rattle.machine.specs.Limits.{absent}
use Rattle.machine.specs.Lowest.{partner_number}
use Rattle.machine.specs.Questions.{Tally}
use Rattle.format.specs.Reading.{Outcome, refused, got}
use Rattle.buffers.specs.Buffers.{Written, kept, wrote}
use Rattle.partnering.specs.declared.PartnerCount.{PartnerCount}
use Rattle.performing.specs.declared.Step.{Step}
use Rattle.runs.specs.Runs.{Ending, blocked, spent, limit, Report, ended}
use Rattle.advancing.specs.declared.Ending.{Ending as Ended}
use Rattle.advancing.specs.declared.Ending.TheVariants.{Blocked, Spent, Limit}
use Rattle.running.specs.declared.Finished.{Finished}
use Rattle.answers.specs.declared.LengthAnswer.{LengthAnswer}
use Rattle.answers.specs.declared.PartnersAnswer.{PartnersAnswer}
use Rattle.answers.specs.declared.StepAnswer.{StepAnswer}
use Rattle.answers.specs.declared.RunAnswer.{RunAnswer}
use Rattle.answers.specs.declared.WeightAnswer.{WeightAnswer}

-- Of a call that fills the front of a buffer and tells nothing beside how many bytes it wrote.
unfoldable pub length_numbers : {A : Type 0} → Written ℕ A → LengthAnswer
length_numbers (kept k) = record { refusal = k; length = 0 }
length_numbers (wrote a new) = record { refusal = 0; length = length new }

abbrev pub filled_numbers : {E : Type 0} → (E → ℕ) → Result ℕ E → LengthAnswer
filled_numbers told (Err e) = record { refusal = told e; length = 0 }
filled_numbers told (Ok n) = record { refusal = 0; length = n }

-- Of the partners of a place: 65,535 for no partner.
unfoldable pub partners_numbers : Outcome Tally → PartnersAnswer
partners_numbers (refused k) = record { refusal = k; lowest = 0; count = 0 }
partners_numbers (got t n) = record { refusal = 0; lowest = partner_number t.lowest; count = t.number }

abbrev pub partnered_numbers : {E : Type 0} → (E → ℕ) → Result PartnerCount E → PartnersAnswer
partnered_numbers told (Err e) = record { refusal = told e; lowest = 0; count = 0 }
partnered_numbers told (Ok x) = record { refusal = 0; lowest = unwrap_or x.lowest absent; count = x.count }

-- Of a step.
unfoldable pub step_numbers : Written ℕ ℕ → StepAnswer
step_numbers (kept k) = record { refusal = k; rule = 0; length = 0 }
step_numbers (wrote n new) = record { refusal = 0; rule = n; length = length new }

abbrev pub replied_numbers : {E : Type 0} → (E → ℕ) → Result Step E → StepAnswer
replied_numbers told (Err e) = record { refusal = told e; rule = 0; length = 0 }
replied_numbers told (Ok x) = record { refusal = 0; rule = x.rule; length = x.length }

-- Of an ending: 0 and 1, or the limit that was met, 11, 12 or 13.
unfoldable pub ending_number : Ending → ℕ
ending_number blocked = 0
ending_number spent = 1
ending_number (limit k) = k

abbrev pub ended_number : {E : Type 0} → (E → ℕ) → Ended E → ℕ
ended_number told Blocked = 0
ended_number told Spent = 1
ended_number told (Limit e) = told e

-- Of a run.
unfoldable pub run_numbers : Written ℕ Report → RunAnswer
run_numbers (kept k) = record { refusal = k; ending = 0; steps = 0; length = 0 }
run_numbers (wrote (ended e n) new) = record { refusal = 0; ending = ending_number e; steps = n; length = length new }

abbrev pub ran_numbers : {E : Type 0} → (E → ℕ) → Result (Finished E) E → RunAnswer
ran_numbers told (Err e) = record { refusal = told e; ending = 0; steps = 0; length = 0 }
ran_numbers told (Ok x) = record { refusal = 0; ending = ended_number told x.ending; steps = x.steps; length = x.length }

-- Of the weight of a state.
unfoldable pub weight_numbers : Outcome ℕ → WeightAnswer
weight_numbers (refused k) = record { refusal = k; weight = 0 }
weight_numbers (got w n) = record { refusal = 0; weight = w }

abbrev pub weighed_numbers : {E : Type 0} → (E → ℕ) → Result ℕ E → WeightAnswer
weighed_numbers told (Err e) = record { refusal = told e; weight = 0 }
weighed_numbers told (Ok w) = record { refusal = 0; weight = w }
