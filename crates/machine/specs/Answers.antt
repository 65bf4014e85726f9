-- All the blocked actions that answer an action, by their positions, in the order of their places.
use Rattle.std.specs.Prelude.{Bool, true, false, List, [], ◌∷◌, ◌++◌, map, ℕ, eqb}
use Rattle.std.proofs.Math.Option.{Option, none, some}
use Rattle.calculus.specs.Processes.{Reference, Action}
use Rattle.calculus.specs.Redexes.{Kind}
use Rattle.machine.specs.Elements.{Elements, empty, ambient_then, process_then, blocked_then, Element, ambient_element, process_element, blocked_element, Position, here, later, inside}
use Rattle.machine.specs.Tests.{◌and◌, same}
use Rattle.machine.specs.Kinds.{channel, count, kind_of, kind_number, answering, Standing, sibling, outside, child, standing_of, inside_only, names_holder, target}
use Rattle.machine.specs.Frames.{Frame, outermost, within, list_of, index_of, outer, holder, put, frame_of}

-- What an action wants of its answer

-- A name that is asked for, or any.
unfoldable pub called : Option Reference → Reference → Bool
called none a = true
called (some b) a = same b a

pub record Want : Type 0 where
  pub kind : Kind
  pub on : Reference  -- the channel
  pub names : ℕ  -- the count
  pub directed : Option Reference  -- the ambient that the answer must name, where it must name one

unfoldable pub aimed : Option Reference → Option Reference → Bool
aimed none t = true
aimed (some a) none = false
aimed (some a) (some b) = same a b

unfoldable pub matches : Want → Action → Bool
matches w β = eqb (kind_number (kind_of β)) (kind_number w.kind) and (same w.on (channel β) and (eqb w.names (count β) and aimed w.directed (target β)))

unfoldable pub holder_if : Bool → Frame → Option Reference
holder_if true f = holder f
holder_if false f = none

-- What the action α in the frame f wants.
unfoldable pub want_of : Frame → Action → Want
want_of f α = record { kind = answering (kind_of α); on = channel α; names = count α; directed = holder_if (names_holder (kind_of α)) f }

-- The one loop

unfoldable pub when : {A : Type 0} → Bool → List A → List A
when true all = all
when false all = []

-- The position to leave out, seen from the element behind the first.
unfoldable pub beyond : Option Position → Option Position
beyond none = none
beyond (some here) = none
beyond (some (later p)) = some p
beyond (some (inside p)) = none

-- What each element of a list gives, `one` by one; an element is told the position to leave out as seen from itself.
unfoldable pub throughout : (Option Position → Element → List Position) → Option Position → Elements → List Position
throughout one skip empty = []
throughout one skip (ambient_then s a A C) = one skip (ambient_element s a A) ++ map later (throughout one (beyond skip) C)
throughout one skip (process_then P C) = one skip (process_element P) ++ map later (throughout one (beyond skip) C)
throughout one skip (blocked_then β Q C) = one skip (blocked_element β Q) ++ map later (throughout one (beyond skip) C)

-- A blocked action that is wanted.
unfoldable pub itself : Want → Option Position → Element → List Position
itself w skip (ambient_element s a A) = []
itself w skip (process_element P) = []
itself w skip (blocked_element β Q) = when (matches w β) (here ∷ [])

-- Those directly in a list.
unfoldable pub answers_in : Want → Elements → List Position
answers_in w L = throughout (itself w) none L

-- An ambient is looked into: not the one to leave out, and only such as have the name, where one is given.
unfoldable pub admits : Option Position → Option Reference → Reference → Bool
admits none n a = called n a
admits (some here) n a = false
admits (some (later p)) n a = called n a
admits (some (inside p)) n a = called n a

unfoldable pub contained : Want → Option Reference → Option Position → Element → List Position
contained w n skip (ambient_element s a A) = when (admits skip n a) (map inside (answers_in w A))
contained w n skip (process_element P) = []
contained w n skip (blocked_element β Q) = []

-- Those directly in the ambients of a list.
unfoldable pub answers_among : Want → Option Reference → Option Position → Elements → List Position
answers_among w n skip L = throughout (contained w n) skip L

-- Where to look

-- The frame in whose list the action and its answer meet.
unfoldable pub arena : Standing → Frame → Option Frame
arena sibling f = outer f
arena outside f = outer f
arena child f = some f

unfoldable pub allowed : Bool → Option Frame → Option Frame
allowed e none = none
allowed true (some (outermost L i)) = none
allowed true (some (within f s a A i)) = some (within f s a A i)
allowed false (some f) = some f

-- In the list of that frame; an ambient is not its own sibling.
unfoldable pub look : Standing → Want → Option Reference → Frame → List Position
look sibling w n f = answers_among w n (some (index_of f)) (list_of f)
look outside w n f = answers_in w (list_of f)
look child w n f = answers_among w n none (list_of f)

unfoldable pub look_from : Standing → Want → Option Reference → Option Frame → List Position
look_from d w n none = []
look_from d w n (some f) = map (put f) (look d w n f)

unfoldable pub seek : Frame → Action → List Position
seek f α = look_from (standing_of (kind_of α)) (want_of f α) (target α) (allowed (inside_only (kind_of α)) (arena (standing_of (kind_of α)) f))

-- All the blocked actions that answer the action α at π, whatever its own status.
unfoldable pub answers : Elements → Position → Action → List Position
answers L π α = seek (frame_of L π) α
