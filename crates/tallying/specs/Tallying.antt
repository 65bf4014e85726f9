-- What the loops say of the answers in a list.
use Rattle.std.specs.Prelude.{◌≡◌, Bool, List, ℕ, Option as CodeOption}
use Rattle.std.proofs.Math.Option.{Option}
use Rattle.calculus.specs.Processes.{Reference}
use Rattle.machine.specs.Elements.{Elements, Element, ◌before◌}
use Rattle.machine.specs.Answers.{Want as Wish}
use Rattle.machine.specs.Questions.{untold, tally_in, tally_among}
use Rattle.elements.specs.Spelled.{Spells}
use Rattle.places.specs.Offsets.{by_bytes, meant}
use Rattle.layouts.specs.Layouts.{name_number}
use Rattle.tallying.specs.declared.Want.{Want}
use Rattle.tallying.specs.declared.Question.{Question}
use Rattle.tallying.specs.declared.Tally.{Tally}
use Rattle.tallying.specs.Numbers.{question_of, tally_of, Named, Sought, looked_into}

-- The first element is an ambient to be looked into.
abbrev pub Opened : List ℕ → (skip name : CodeOption ℕ) (at : ℕ) → Bool → Type 0
Opened s skip name at r = (n : Option Reference) (E : Element) (C : Elements) → name ≡ name_number n → Named n → Spells s (E before C) → r ≡ looked_into (meant skip) n at E

-- The answers directly in a list that starts at an offset.
abbrev pub TalliedIn : List ℕ → (start : ℕ) → Want → Question → Tally → Type 0
TalliedIn s start want q r = (w : Wish) (A : Elements) → Sought want w → Spells s A → tally_of r ≡ tally_in by_bytes (question_of q) w start untold A

-- The answers in its ambients: not in the one at `skip`, and only where it has the name.
abbrev pub TalliedAmong : List ℕ → (start : ℕ) (skip name : CodeOption ℕ) → Want → Question → Tally → Type 0
TalliedAmong s start skip name want q r = (w : Wish) (n : Option Reference) (A : Elements) → Sought want w → name ≡ name_number n → Named n → Spells s A
    → tally_of r ≡ tally_among by_bytes (question_of q) w n (meant skip) start untold A
