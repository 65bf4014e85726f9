-- What the code answers, and what its functions ask of each other.
use Rattle.std.specs.Prelude.{◌≡◌, List, ℕ, ◌<◌, length, Result, Ok, Err}
use Rattle.std.proofs.Math.Option.{some}
use Rattle.calculus.specs.Processes.{Action, Process, action}
use Rattle.machine.specs.Limits.{byte_limit}
use Rattle.machine.specs.Elements.{Elements, Element, process_element, Position, element_at}
use Rattle.machine.specs.Questions.{Tally}
use Rattle.machine.specs.Validity.{Graded}
use Rattle.format.specs.Reading.{Outcome, refused, got}
use Rattle.elements.specs.Spelled.{Spells}
use Rattle.format.specs.Answers.{coded}
use Rattle.places.specs.Offsets.{offset}
use Rattle.refusals.specs.declared.Refusal.{Refusal}
use Rattle.refusals.specs.Refusals.{refusal}
use Rattle.partnering.specs.declared.PartnerCount.{PartnerCount}

unfoldable pub partners_answer : Outcome Tally → Result PartnerCount Refusal
partners_answer (refused k) = Err (refusal k)
partners_answer (got t n) = Ok (record { lowest = coded t.lowest; count = t.number })

-- Bytes that spell a root list, and an element at an offset of it.
pub record ElementAt (s : List ℕ) (at : ℕ) : Type 0 where
  pub tree : Elements
  pub spells : Spells s tree
  pub short : length s < byte_limit
  pub graded : Graded tree
  pub position : Position
  pub element : Element
  pub stands : element_at tree position ≡ some element
  pub there : offset 0 tree position ≡ at

-- The same, and the element is an action to be executed.
pub record ActionAt (s : List ℕ) (at : ℕ) : Type 0 where
  pub tree : Elements
  pub spells : Spells s tree
  pub short : length s < byte_limit
  pub position : Position
  pub doing : Action
  pub process : Process
  pub stands : element_at tree position ≡ some (process_element (action doing process))
  pub there : offset 0 tree position ≡ at
