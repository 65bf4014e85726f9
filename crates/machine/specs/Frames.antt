-- What is around an element: the list in which it stands, the ambient that holds that list, the list in which that ambient stands, and so on.
use Rattle.std.proofs.Math.Option.{Option, none, some}
use Rattle.calculus.specs.Processes.{Reference}
use Rattle.machine.specs.Elements.{Status, Elements, empty, ambient_then, process_then, blocked_then, Position, here, later, inside, into}

pub data Frame : Type 0 where
  outermost : Elements → Position → Frame  -- directly in the root list, at that position of it
  within : Frame → Status → Reference → Elements → Position → Frame  -- directly in the contents of the framed ambient, at that position of them

-- The list in which the element stands, and its position in that list.
unfoldable pub list_of : Frame → Elements
list_of (outermost L i) = L
list_of (within f s a A i) = A

unfoldable pub index_of : Frame → Position
index_of (outermost L i) = i
index_of (within f s a A i) = i

-- The frame of the ambient around, and its name.
unfoldable pub outer : Frame → Option Frame
outer (outermost L i) = none
outer (within f s a A i) = some f

unfoldable pub holder : Frame → Option Reference
holder (outermost L i) = none
holder (within f s a A i) = some a

-- The position, in the root list, of the element itself, and of what stands at j in its list.
unfoldable pub position_of : Frame → Position
position_of (outermost L i) = i
position_of (within f s a A i) = into (position_of f) i

unfoldable pub put : Frame → Position → Position
put (outermost L i) j = j
put (within f s a A i) j = into (position_of f) j

-- The frame of what stands at a position, made on the way down: `around` frames the elements of a list, the first of which is at p.
unfoldable pub frame_by : (Position → Frame) → Position → Elements → Position → Frame
frame_by around p empty π = around p
frame_by around p (ambient_then s a A C) here = around p
frame_by around p (ambient_then s a A C) (later π) = frame_by around (later p) C π
frame_by around p (ambient_then s a A C) (inside π) = frame_by (within (around p) s a A) here A π
frame_by around p (process_then P C) here = around p
frame_by around p (process_then P C) (later π) = frame_by around (later p) C π
frame_by around p (process_then P C) (inside π) = around p
frame_by around p (blocked_then β Q C) here = around p
frame_by around p (blocked_then β Q C) (later π) = frame_by around (later p) C π
frame_by around p (blocked_then β Q C) (inside π) = around p

unfoldable pub frame_of : Elements → Position → Frame
frame_of L π = frame_by (outermost L) here L π
