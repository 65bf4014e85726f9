-- What the answers to an action to be executed say of its partners, each statement a named type; the proofs are in proofs/.
use Rattle.std.specs.Prelude.{◌≡◌, Bool, true, false, ℕ, ltb, length, ◌↔◌, None, Some}
use Rattle.std.proofs.Math.Option.{none, some}
use Rattle.calculus.specs.Processes.{Action, Process, action}
use Rattle.machine.specs.Elements.{Elements, Element, process_element, Position, place, element_at}
use Rattle.machine.specs.Rules.{Meeting}
use Rattle.machine.specs.Kinds.{side_of}
use Rattle.machine.specs.Meetings.{partners}
use Rattle.machine.specs.Ordered.{lowest}
use Rattle.machine.specs.Frames.{frame_of}
use Rattle.machine.specs.Questions.{every, told_of, is_one, ask}
use Rattle.places.specs.Offsets.{by_bytes, offset}
use Rattle.tallying.specs.declared.Tally.{Tally}
use Rattle.tallying.specs.Numbers.{tally_numbers}

-- The tally of the answers to an action to be executed; where the question leaves at the first, 1 stands for any number.
abbrev pub Tallied : Bool → Elements → Position → Action → Tally → Type 0
Tallied once L π α r = r ≡ tally_numbers (ask by_bytes (every once) (frame_of L π) α)

-- As many are found as it has partners.
abbrev pub NumberFound : Type 0
NumberFound = (once : Bool) (L : Elements) (π : Position) (α : Action) (P : Process) (r : Tally) → element_at L π ≡ some (process_element (action α P)) →
    Tallied once L π α r → r.number ≡ told_of once (length (partners (side_of α) L π))

-- What is found at the offset o is the first partner.
pub record FirstFound (L : Elements) (π : Position) (α : Action) (o : ℕ) : Type 0 where
  pub partner : Position
  pub found : offset 0 L partner ≡ o
  pub rule : ℕ
  pub after : Elements
  pub meets : Meeting rule π partner L after
  pub first : lowest (partners (side_of α) L π) ≡ some (place L partner)

pub record NothingFound (L : Elements) (π : Position) (α : Action) : Type 0 where
  pub alone : (n : ℕ) (κ : Position) (L' : Elements) → ¬ Meeting n π κ L L'
  pub first : lowest (partners (side_of α) L π) ≡ none

abbrev pub NoneFound : Type 0
NoneFound = (once : Bool) (L : Elements) (π : Position) (α : Action) (P : Process) (r : Tally) → element_at L π ≡ some (process_element (action α P)) →
    Tallied once L π α r → r.number ≡ 0 → NothingFound L π α

-- Where some are found, one is lowest, and it is the first partner.
abbrev pub LowestFound : Type 0
LowestFound = (once : Bool) (L : Elements) (π : Position) (α : Action) (P : Process) (r : Tally) → element_at L π ≡ some (process_element (action α P)) →
    Tallied once L π α r → ¬ (r.number ≡ 0) → (o : ℕ) × (r.lowest ≡ Some o) × FirstFound L π α o

-- What is lowest is the first partner.
abbrev pub FirstTold : Type 0
FirstTold = (once : Bool) (L : Elements) (π : Position) (α : Action) (P : Process) (r : Tally) (o : ℕ) → element_at L π ≡ some (process_element (action α P)) →
    Tallied once L π α r → r.lowest ≡ Some o → FirstFound L π α o

-- One is lowest exactly where some are found.
abbrev pub LowestTold : Type 0
LowestTold = (once : Bool) (L : Elements) (π : Position) (α : Action) (P : Process) (r : Tally) → element_at L π ≡ some (process_element (action α P)) →
    Tallied once L π α r → (r.number ≡ 0) ↔ (r.lowest ≡ None)

-- Whether what stands at κ is met, asked by its offset.
abbrev pub OneFound : Type 0
OneFound = (L : Elements) (π : Position) (α : Action) (P : Process) (κ : Position) (D : Element) (b : Bool) → element_at L π ≡ some (process_element (action α P)) →
    element_at L κ ≡ some D → b ≡ ltb 0 (ask by_bytes (is_one (offset 0 L κ)) (frame_of L π) α).number → b ≡ true → (n : ℕ) × (L' : Elements) × Meeting n π κ L L'

abbrev pub OtherFound : Type 0
OtherFound = (L : Elements) (π : Position) (α : Action) (P : Process) (κ : Position) (D : Element) (b : Bool) → element_at L π ≡ some (process_element (action α P)) →
    element_at L κ ≡ some D → b ≡ ltb 0 (ask by_bytes (is_one (offset 0 L κ)) (frame_of L π) α).number → b ≡ false → (n : ℕ) (L' : Elements) → ¬ Meeting n π κ L L'
