-- The weight of a state in bytes.
use Rattle.std.specs.Prelude.{List, ℕ, Result, Ok, Err}
use Rattle.machine.specs.Elements.{weight_state}
use Rattle.format.specs.Reading.{Outcome, refused, got, map_outcome}
use Rattle.states.specs.Reading.{read_state}
use Rattle.refusals.specs.declared.Refusal.{Refusal}
use Rattle.refusals.specs.Refusals.{refusal}

unfoldable pub weigh : List ℕ → Outcome ℕ
weigh bytes = map_outcome weight_state (read_state bytes)

unfoldable pub weight_answer : Outcome ℕ → Result ℕ Refusal
weight_answer (refused k) = Err (refusal k)
weight_answer (got w n) = Ok w
