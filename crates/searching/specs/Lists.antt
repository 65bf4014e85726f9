-- Lists of the root list and actions in it, by their offsets.
use Rattle.std.specs.Prelude.{◌≡◌, List, ℕ, zero, suc, ◌+◌, ◌≤◌, ◌<◌, length, drop, get_or}
use Rattle.std.proofs.Math.Option.{some}
use Rattle.machine.specs.Limits.{byte_limit}
use Rattle.calculus.specs.Processes.{Reference, Action, Process}
use Rattle.machine.specs.Elements.{Status, Elements, Element, ambient_element, standing, Position, element_at}
use Rattle.machine.specs.Frames.{Frame, outermost, within, frame_of}
use Rattle.elements.specs.Spelling.{encode_elements}
use Rattle.elements.specs.Spelled.{Spells}
use Rattle.places.specs.declared.Spot.{Spot}
use Rattle.places.specs.Offsets.{offset, spot_of}
use Rattle.searching.specs.declared.Span.{Span}

-- A list A of the root list L: L itself where no ambient is around, otherwise the contents of the ambient at the offset o.
pub data ListAt (L : Elements) : (level o : ℕ) → Elements → Type 0 where
  root_list : {o : ℕ} → ListAt L 0 o L
  contents : (κ : Position) {l o : ℕ} {u : Status} {a : Reference} {A : Elements} → element_at L κ ≡ some (ambient_element u a A) → offset 0 L κ ≡ o → ListAt L (suc l) o A

unfoldable pub start_at : (level o : ℕ) → ℕ
start_at zero o = 0
start_at (suc l) o = o + 5

-- Where such a list starts and ends.
unfoldable pub span_of : (level o : ℕ) → Elements → Span
span_of l o A = record { start = start_at l o; end = start_at l o + length (encode_elements A) }

-- Bytes that spell a root list, and a list of it.
pub record Enclosed (s : List ℕ) (level o : ℕ) : Type 0 where
  pub tree : Elements
  pub spells : Spells s tree
  pub short : length s < byte_limit
  pub inner : Elements
  pub stands : ListAt tree level o inner

-- Bytes that spell a root list, and an action at a spot of it, to be executed or blocked.
pub record Acting (s : List ℕ) (spot : Spot) : Type 0 where
  pub tree : Elements
  pub spells : Spells s tree
  pub short : length s < byte_limit
  pub position : Position
  pub status : Status
  pub doing : Action
  pub process : Process
  pub stands : element_at tree position ≡ some (standing status doing process)
  pub spotted : spot ≡ spot_of tree position

-- Bytes that spell a root list, and an element at a spot of it that is no ambient.
pub record OtherAt (s : List ℕ) (spot : Spot) : Type 0 where
  pub tree : Elements
  pub spells : Spells s tree
  pub short : length s < byte_limit
  pub position : Position
  pub element : Element
  pub stands : element_at tree position ≡ some element
  pub spotted : spot ≡ spot_of tree position
  pub other : 0x42 ≤ get_or (drop spot.at s) 0 0

-- A list of the root list with the frames of its elements: what holds it stands at `within`, and what holds that at `around`.
pub data ListIn (L : Elements) : (Position → Frame) → Elements → (level within around : ℕ) → Type 0 where
  root_in : ListIn L (outermost L) L 0 0 0
  contents_in : (κ : Position) {u : Status} {a : Reference} {A : Elements} {f : Frame} {t : Spot} {level : ℕ} → element_at L κ ≡ some (ambient_element u a A) → f ≡ frame_of L κ → t ≡ spot_of L κ →
      level ≡ suc t.level → ListIn L (within f u a A) A level t.at t.within

pub record Walked (L : Elements) (f : Position → Frame) (A : Elements) (start end level within around : ℕ) : Type 0 where
  pub stands : ListIn L f A level within around
  pub starts : start ≡ start_at level within
  pub ends : end ≡ start + length (encode_elements A)

-- Bytes that spell a root list, and a list of it to be walked through.
pub record Walking (s : List ℕ) (start end level within around : ℕ) : Type 0 where
  pub tree : Elements
  pub spells : Spells s tree
  pub short : length s < byte_limit
  pub frames : Position → Frame
  pub inner : Elements
  pub shallow : level ≤ start
  pub walked : Walked tree frames inner start end level within around
