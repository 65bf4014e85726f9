-- Where elements stand in bytes: offsets from the start of the root list.
use Rattle.std.specs.Prelude.{◌≡◌, List, ℕ, suc, ◌+◌, length, Option as CodeOption, Some, None}
use Rattle.std.proofs.Math.Option.{Option, none, some}
use Rattle.machine.specs.Elements.{Elements, empty, ambient_then, process_then, blocked_then, Element, ambient_element, process_element, blocked_element, ◌then◌, only, Position, here, later, inside, element_at}
use Rattle.machine.specs.Positions.{position}
use Rattle.machine.specs.Questions.{Numbering, numbered}
pub use Rattle.format.specs.Answers.{coded, meant}
use Rattle.elements.specs.Spelling.{encode_elements}
use Rattle.elements.specs.Spelled.{SpelledList}
use Rattle.places.specs.declared.Spot.{Spot}

-- How many bytes spell an element.
unfoldable pub width : Element → ℕ
width E = length (encode_elements (only E))

-- How far it is from the first element to the next in the order of tags: to the contents of an ambient, or past any other element.
unfoldable pub stride_of : Elements → ℕ
stride_of empty = 0
stride_of (ambient_then s a A C) = 5
stride_of (process_then P C) = width (process_element P)
stride_of (blocked_then α P C) = width (blocked_element α P)

-- The elements from the next one on: the contents of an ambient come before what is behind it.
unfoldable pub following : Elements → Elements
following empty = empty
following (ambient_then s a A C) = A then C
following (process_then P C) = C
following (blocked_then α P C) = C

-- The numbering by bytes: the contents of an ambient start five bytes behind it.
abbrev pub by_bytes : Numbering
by_bytes = record { width = width; header = 5 }

-- The offset of the element at a position, in a list that starts at the offset o.
abbrev pub offset : ℕ → Elements → Position → ℕ
offset o L π = numbered by_bytes o L π

unfoldable pub offset_of : ℕ → Elements → Option Position → CodeOption ℕ
offset_of o L none = None
offset_of o L (some π) = Some (offset o L π)

-- The offset of a place, where an element stands there.
unfoldable pub place_offset : Elements → ℕ → CodeOption ℕ
place_offset L p = offset_of 0 L (position L p)

-- The offset of an element with those of the ambient that holds it and of the ambient around that one, and how many ambients are around it.
unfoldable pub spot_from : (within around level o : ℕ) → Elements → Position → Spot
spot_from w r l o empty π = record { at = o; within = w; around = r; level = l }
spot_from w r l o (ambient_then s a A C) here = record { at = o; within = w; around = r; level = l }
spot_from w r l o (ambient_then s a A C) (later π) = spot_from w r l (o + width (ambient_element s a A)) C π
spot_from w r l o (ambient_then s a A C) (inside π) = spot_from o w (suc l) (o + 5) A π
spot_from w r l o (process_then P C) here = record { at = o; within = w; around = r; level = l }
spot_from w r l o (process_then P C) (later π) = spot_from w r l (o + width (process_element P)) C π
spot_from w r l o (process_then P C) (inside π) = record { at = o; within = w; around = r; level = l }
spot_from w r l o (blocked_then α P C) here = record { at = o; within = w; around = r; level = l }
spot_from w r l o (blocked_then α P C) (later π) = spot_from w r l (o + width (blocked_element α P)) C π
spot_from w r l o (blocked_then α P C) (inside π) = record { at = o; within = w; around = r; level = l }

-- The spot of a position of the root list; 0 stands for an ambient that is not there.
unfoldable pub spot_of : Elements → Position → Spot
spot_of L π = spot_from 0 0 0 0 L π

-- Bytes that spell a list, with an element at an offset.
pub record Standing (s : List ℕ) (at : ℕ) : Type 0 where
  pub list : SpelledList s
  pub position : Position
  pub element : Element
  pub stands : element_at list.tree position ≡ some element
  pub there : offset 0 list.tree position ≡ at
