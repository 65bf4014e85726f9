-- The choice of a run.
use Rattle.std.specs.Prelude.{◌≡◌, Bool, List, ℕ, Option, Some, None}
use Rattle.std.proofs.Math.Option.{none, some}
use Rattle.machine.specs.Elements.{Elements, Element, state, Position, place, element_at}
use Rattle.machine.specs.Lowest.{place_in, partner_in, number_in}
use Rattle.machine.specs.Questions.{told_of}
use Rattle.places.specs.Offsets.{offset, coded}
use Rattle.planning.specs.Choices.{Admitting, ChoiceOf}
use Rattle.selecting.specs.declared.Next.{Next}

-- No place can act; or the lowest that can, its lowest partner's place or none, how many partners it has, and what that choice comes to.
unfoldable pub LowestOf : (nest F N : ℕ) → Elements → (once : Bool) → Option Next → Type 0
LowestOf nest F N L once None = place_in (state F N L) ≡ none
LowestOf nest F N L once (Some n) =
    (place_in (state F N L) ≡ some n.place) × (n.other ≡ coded (partner_in (state F N L) n.place)) × (n.partners ≡ told_of once (number_in (state F N L) n.place)) × ChoiceOf nest F N L n.place (partner_in (state F N L) n.place) n.choice

-- The same where the lowest place that can act is known, with the offset of its element.
abbrev pub LowestAt : ℕ → List ℕ → (N at p : ℕ) → (once : Bool) → Next → Type 0
LowestAt nest s N at p once n = (F : ℕ) (L : Elements) (π : Position) (E : Element) → Admitting nest s F N L → element_at L π ≡ some E → offset 0 L π ≡ at → place L π ≡ p
    → place_in (state F N L) ≡ some p → LowestOf nest F N L once (Some n)
