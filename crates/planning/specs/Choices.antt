-- What a choice comes to: a refusal from 8 to 12, or a rule and what it changes.
use Rattle.std.specs.Prelude.{◌≡◌, false, List, ℕ, ◌+◌, ◌-◌, ◌≤◌, length, get_or, take, drop, Option as CodeOption, Some, None, Result, Ok, Err}
use Rattle.std.proofs.Math.Option.{Option, some}
use Rattle.machine.specs.Limits.{byte_limit}
use Rattle.calculus.specs.Processes.{Reference}
use Rattle.machine.specs.Elements.{Status, Elements, empty, ambient_element, only, Element, state, Position, place, element_at}
use Rattle.machine.specs.Stepping.{refused, accepted, step_within}
use Rattle.machine.specs.Validity.{ValidState}
use Rattle.elements.specs.Spelling.{encode_elements, encode_state}
use Rattle.elements.specs.Spelled.{Spells}
use Rattle.rewriting.specs.declared.Plan.{Plan}
use Rattle.planning.specs.declared.Move.{Move}
use Rattle.refusals.specs.declared.Refusal.{Refusal}
use Rattle.refusals.specs.Refusals.{number}
use Rattle.places.specs.Offsets.{offset, meant}
use Rattle.substituting.specs.Substituting.{SpellsNames}
use Rattle.rewriting.specs.Editing.{edit, carried, Suits}

-- The bytes of the root list of an accepted state, within a limit of nesting.
pub record Admitting (nest : ℕ) (s : List ℕ) (F N : ℕ) (L : Elements) : Type 0 where
  pub spells : Spells s L
  pub valid : ValidState nest F N L
  pub short : 7 + length s ≤ byte_limit

-- What a plan sets down: nothing, or the ambient that it takes out. All offsets of a plan count from the first byte of the state, seven bytes in front of the root list.
pub data SetDown (L : Elements) (k : Plan) (ns : List Reference) : Elements → Type 0 where
  nothing : k.cut ≡ None → SetDown L k ns empty
  ambient : (κ : Position) {u : Status} {a : Reference} {A : Elements} → element_at L κ ≡ some (ambient_element u a A) → k.cut ≡ Some (offset 7 L κ)
      → SetDown L k ns (only (carried k ns empty (offset 7 L κ) (ambient_element u a A)))

-- The bytes of a state in which the names that a plan puts for variables stand.
abbrev pub names_in : Plan → List ℕ → List ℕ
names_in k s = take (k.past - k.sent) (drop k.sent s)

-- They stand in the state with F, N and the root list L, and those of the elements that turn which have variables have as many.
pub record Naming (F N : ℕ) (L : Elements) (k : Plan) (ns : List Reference) : Type 0 where
  pub starts : k.sent ≤ k.past
  pub ends : k.past ≤ 7 + length (encode_elements L)
  pub named : SpellsNames (names_in k (encode_state (state F N L))) ns
  pub suits : Suits k ns 7 L

-- A move makes L' of L, and knows how long the state after it is. What it sets down is a part of L'.
pub record Drawn (F N : ℕ) (L : Elements) (m : Move) (L' : Elements) : Type 0 where
  pub handed : List Reference
  pub naming : Naming F N L m.plan handed
  pub moved : Elements
  pub sets : SetDown L m.plan handed moved
  pub edited : edit m.plan handed moved false 7 L ≡ L'
  pub measured : m.length ≡ 7 + length (encode_elements L')
  pub within : length (encode_elements moved) ≤ length (encode_elements L')

-- The step is taken, by the move's rule.
pub record Taken (nest F N : ℕ) (L : Elements) (p : ℕ) (q : Option ℕ) (m : Move) : Type 0 where
  pub result : Elements
  pub steps : step_within nest (state F N L) p q ≡ accepted m.rule (state F m.names result)
  pub drawn : Drawn F N L m result

unfoldable pub ChoiceOf : (nest F N : ℕ) → Elements → ℕ → Option ℕ → Result Move Refusal → Type 0
ChoiceOf nest F N L p q (Err x) = step_within nest (state F N L) p q ≡ refused (number x)
ChoiceOf nest F N L p q (Ok m) = Taken nest F N L p q m

-- The byte i behind an offset.
abbrev pub byte_at : List ℕ → ℕ → ℕ → ℕ
byte_at s at i = get_or (take (length s - at) (drop at s)) i 0

-- The root list of some accepted state with this next unused name.
pub record Chooses (nest : ℕ) (s : List ℕ) (N : ℕ) : Type 0 where
  pub free : ℕ
  pub tree : Elements
  pub admitting : Admitting nest s free N tree

-- With an element at an offset.
pub record ChoosesAt (nest : ℕ) (s : List ℕ) (N at : ℕ) : Type 0 where
  pub free : ℕ
  pub tree : Elements
  pub admitting : Admitting nest s free N tree
  pub position : Position
  pub element : Element
  pub stands : element_at tree position ≡ some element
  pub there : offset 0 tree position ≡ at

-- What is chosen at the element that stands at an offset, with a partner's place or none.
abbrev pub ChosenAt : ℕ → List ℕ → (N at : ℕ) → (other : CodeOption ℕ) → Result Move Refusal → Type 0
ChosenAt nest s N at other r = (F : ℕ) (L : Elements) (π : Position) (E : Element) → Admitting nest s F N L → element_at L π ≡ some E → offset 0 L π ≡ at
    → ChoiceOf nest F N L (place L π) (meant other) r
