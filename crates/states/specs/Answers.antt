-- What the code answers, from what the definitions over lists say.
use Rattle.std.specs.Prelude.{ℕ, List, Result, Ok, Err}
use Rattle.machine.specs.Limits.{name_limit}
use Rattle.machine.specs.Elements.{unblocked, State, state}
use Rattle.format.specs.Reading.{Outcome, refused, got}
use Rattle.format.specs.Answers.{answer}
use Rattle.reading.specs.Parts.{Reached, ahead, onward, passed, count_from}
use Rattle.states.specs.Reading.{read_elements, read_ambient}
use Rattle.elements.specs.Spelling.{Job, job}
use Rattle.refusals.specs.declared.Refusal.{Refusal}
use Rattle.refusals.specs.Refusals.{refusal}
use Rattle.states.specs.declared.Names.{Names}

-- Behind the elements of a field, in which names are below the count.
abbrev pub elements_from : List ℕ → Reached → ℕ → Reached
elements_from bytes r nest = onward r (λ p. passed p (answer p.at (read_elements (read_ambient nest p.names) unblocked p.names (ahead bytes p))))

-- Behind N and the elements.
abbrev pub rest_from : List ℕ → Reached → ℕ → Reached
rest_from bytes r nest = elements_from bytes (count_from bytes r name_limit) nest

-- F of an accepted job.
unfoldable pub job_answer : Outcome Job → Result ℕ Refusal
job_answer (refused k) = Err (refusal k)
job_answer (got (job F P) n) = Ok F

-- F and N of an accepted state.
unfoldable pub state_answer : Outcome State → Result Names Refusal
state_answer (refused k) = Err (refusal k)
state_answer (got (state F N L) n) = Ok (record { free = F; next = N })
