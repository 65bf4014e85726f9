-- What the functions of the search say: of the action at a spot, and of the answers in a list.
use Rattle.std.specs.Prelude.{◌≡◌, List, ℕ, Option as CodeOption}
use Rattle.std.proofs.Math.Option.{Option, some}
use Rattle.calculus.specs.Processes.{Reference, Action, Process}
use Rattle.machine.specs.Elements.{Status, Elements, standing, Position, element_at}
use Rattle.machine.specs.Frames.{frame_of}
use Rattle.machine.specs.Answers.{Want as Wish}
use Rattle.machine.specs.Questions.{untold, tally_in, tally_among, ask, Question as Query, Tally as Count}
use Rattle.elements.specs.Spelled.{Spells}
use Rattle.layouts.specs.Layouts.{name_number}
use Rattle.places.specs.declared.Spot.{Spot}
use Rattle.places.specs.Offsets.{by_bytes, spot_of, meant}
use Rattle.tallying.specs.declared.Want.{Want}
use Rattle.tallying.specs.declared.Question.{Question}
use Rattle.tallying.specs.declared.Tally.{Tally}
use Rattle.tallying.specs.Numbers.{question_of, tally_of, tally_numbers, Named, Sought}
use Rattle.searching.specs.Lists.{ListAt, start_at}

-- Of the action at a spot of the root list that bytes spell.
abbrev pub OfAction : List ℕ → Spot → (Elements → Position → Action → Type 0) → Type 0
OfAction s t C = (L : Elements) (π : Position) (u : Status) (α : Action) (P : Process) → Spells s L → element_at L π ≡ some (standing u α P) → t ≡ spot_of L π → C L π α

-- The answers to it, by the question.
abbrev pub asked : Query → Elements → Position → Action → Count
asked q L π α = ask by_bytes q (frame_of L π) α

abbrev pub Asked : List ℕ → Spot → Query → Tally → Type 0
Asked s t q r = OfAction s t (λ L π α. r ≡ tally_numbers (asked q L π α))

-- The answers in a list of the root list, directly or in its ambients, by the offset of what holds it.
abbrev pub DirectlyAt : List ℕ → (level o : ℕ) → Want → Question → Tally → Type 0
DirectlyAt s level o want q r = (w : Wish) (L B : Elements) → Sought want w → Spells s L → ListAt L level o B → tally_of r ≡ tally_in by_bytes (question_of q) w (start_at level o) untold B

abbrev pub AmbientsAt : List ℕ → (level o : ℕ) (skip name : CodeOption ℕ) → Want → Question → Tally → Type 0
AmbientsAt s level o skip name want q r = (w : Wish) (n : Option Reference) (L B : Elements) → Sought want w → name ≡ name_number n → Named n → Spells s L → ListAt L level o B
    → tally_of r ≡ tally_among by_bytes (question_of q) w n (meant skip) (start_at level o) untold B
