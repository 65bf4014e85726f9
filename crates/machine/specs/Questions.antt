-- The questions that are put to the search: is there an answer, which is the lowest, is this one of them, how many are there. One loop
-- over sibling ambients and their contents serves all; it numbers the elements as it goes, by places or by bytes.
use Rattle.std.specs.Prelude.{Bool, true, false, List, [], ◌∷◌, ℕ, suc, ◌+◌, ◌≤◌, ◌<◌, min, eqb, ltb, leb}
use Rattle.std.proofs.Math.Option.{Option, none, some}
use Rattle.calculus.specs.Processes.{Reference, Action}
use Rattle.machine.specs.Elements.{Status, Elements, empty, ambient_then, process_then, blocked_then, Element, ambient_element, process_element, blocked_element, only, Position, here, later, inside, size}
use Rattle.machine.specs.Tests.{◌and◌, pick}
use Rattle.machine.specs.Kinds.{Standing, sibling, outside, child, kind_of, standing_of, inside_only, target}
use Rattle.machine.specs.Frames.{Frame, outermost, within, list_of, index_of}
use Rattle.machine.specs.Answers.{called, Want, matches, want_of, arena, allowed}
use Rattle.machine.specs.Pairs.{walk}

-- Numbers of elements

-- How far it is from an element to the next one, and from an ambient to its contents.
pub record Numbering : Type 0 where
  pub width : Element → ℕ
  pub header : ℕ

unfoldable pub total : Numbering → Elements → ℕ
total m empty = 0
total m (ambient_then s a A C) = m.width (ambient_element s a A) + total m C
total m (process_then P C) = m.width (process_element P) + total m C
total m (blocked_then β Q C) = m.width (blocked_element β Q) + total m C

-- No two elements have one number.
pub record Lawful (m : Numbering) : Type 0 where
  pub positive : (E : Element) → 0 < m.width E
  pub deepens : 0 < m.header
  pub encloses : (s : Status) (a : Reference) (A : Elements) → m.header + total m A ≤ m.width (ambient_element s a A)

-- The number of what stands at a position of a list whose first element has the number o.
unfoldable pub numbered : Numbering → ℕ → Elements → Position → ℕ
numbered m o empty π = o
numbered m o (ambient_then s a A C) here = o
numbered m o (ambient_then s a A C) (later π) = numbered m (o + m.width (ambient_element s a A)) C π
numbered m o (ambient_then s a A C) (inside π) = numbered m (o + m.header) A π
numbered m o (process_then P C) here = o
numbered m o (process_then P C) (later π) = numbered m (o + m.width (process_element P)) C π
numbered m o (process_then P C) (inside π) = o
numbered m o (blocked_then β Q C) here = o
numbered m o (blocked_then β Q C) (later π) = numbered m (o + m.width (blocked_element β Q)) C π
numbered m o (blocked_then β Q C) (inside π) = o

-- By places. By bytes, the width is the length of the element's field, and the header has 5.
unfoldable pub by_place : Numbering
by_place = record { width = λ E. size (only E); header = 1 }

-- The number of the first element of a frame's list.
unfoldable pub start_of : Numbering → Frame → ℕ
start_of m (outermost L i) = 0
start_of m (within f s a A i) = numbered m (start_of m f) (list_of f) (index_of f) + m.header

-- Questions

-- Only the answers of these numbers count.
pub record Question : Type 0 where
  pub from : ℕ
  pub up_to : Option ℕ  -- no bound, where none is given
  pub once : Bool  -- the question is whether there is any, or for the lowest: leave at the first

pub record Tally : Type 0 where
  pub lowest : Option ℕ
  pub number : ℕ

abbrev pub untold : Tally
untold = record { lowest = none; number = 0 }

unfoldable pub below : Option ℕ → ℕ → Bool
below none n = true
below (some k) n = leb n k

unfoldable pub asks : Question → ℕ → Bool
asks q n = leb q.from n and below q.up_to n

unfoldable pub first_of : Option ℕ → ℕ → Option ℕ
first_of none n = some n
first_of (some k) n = some k

unfoldable pub only_once : Bool → ℕ → Bool
only_once true k = ltb 0 k
only_once false k = false

-- Nothing more can change the answer: the loop may be left.
unfoldable pub settled : Question → Tally → Bool
settled q t = only_once q.once t.number

unfoldable pub note : Question → Tally → ℕ → Tally
note q t n = pick (settled q t) t (pick (asks q n) (record { lowest = first_of t.lowest n; number = suc t.number }) t)

-- The reading of a list.
unfoldable pub gather : Question → Tally → List ℕ → Tally
gather q t [] = t
gather q t (n ∷ ns) = gather q (note q t n) ns

-- Which is the lowest, and how many there are; where it leaves at the first, whether there is any.
unfoldable pub every : (once : Bool) → Question
every once = record { from = 0; up_to = none; once = once }

abbrev pub if_any : Question
if_any = every true

abbrev pub how_many : Question
how_many = every false

-- What it tells of so many answers.
unfoldable pub told_of : (once : Bool) → ℕ → ℕ
told_of true n = min 1 n
told_of false n = n

-- Is this one of them.
unfoldable pub is_one : ℕ → Question
is_one k = record { from = k; up_to = some k; once = true }

-- The loops

-- Over a list; its first element has the number o.
unfoldable pub tally_in : Numbering → Question → Want → ℕ → Tally → Elements → Tally
tally_in m q w o t empty = t
tally_in m q w o t (ambient_then s a A C) = tally_in m q w (o + m.width (ambient_element s a A)) t C
tally_in m q w o t (process_then P C) = tally_in m q w (o + m.width (process_element P)) t C
tally_in m q w o t (blocked_then β Q C) = tally_in m q w (o + m.width (blocked_element β Q)) (pick (matches w β) (note q t o) t) C

-- The ambient of the number o is looked into: it is not the one to leave out, and it has the name, where one is given.
unfoldable pub looks_into : Option ℕ → Option Reference → ℕ → Reference → Bool
looks_into none n o a = called n a
looks_into (some k) n o a = pick (eqb k o) false (called n a)

-- Over the contents of the ambients of a list.
unfoldable pub tally_among : Numbering → Question → Want → Option Reference → Option ℕ → ℕ → Tally → Elements → Tally
tally_among m q w n skip o t empty = t
tally_among m q w n skip o t (ambient_then s a A C) =
    tally_among m q w n skip (o + m.width (ambient_element s a A)) (pick (looks_into skip n o a) (tally_in m q w (o + m.header) t A) t) C
tally_among m q w n skip o t (process_then P C) = tally_among m q w n skip (o + m.width (process_element P)) t C
tally_among m q w n skip o t (blocked_then β Q C) = tally_among m q w n skip (o + m.width (blocked_element β Q)) t C

unfoldable pub tally_of : Numbering → Question → Standing → Want → Option Reference → Frame → Tally
tally_of m q sibling w n f = tally_among m q w n (some (numbered m (start_of m f) (list_of f) (index_of f))) (start_of m f) untold (list_of f)
tally_of m q outside w n f = tally_in m q w (start_of m f) untold (list_of f)
tally_of m q child w n f = tally_among m q w n none (start_of m f) untold (list_of f)

unfoldable pub tally_from : Numbering → Question → Standing → Want → Option Reference → Option Frame → Tally
tally_from m q d w n none = untold
tally_from m q d w n (some f) = tally_of m q d w n f

-- The question put to the search for the action α in the frame f.
unfoldable pub ask : Numbering → Question → Frame → Action → Tally
ask m q f α = tally_from m q (standing_of (kind_of α)) (want_of f α) (target α) (allowed (inside_only (kind_of α)) (arena (standing_of (kind_of α)) f))

-- Blocked pairs with the question put to the loops, as a program goes through the list.
abbrev pub asked : Numbering → Frame → Action → Bool
asked m f α = ltb 0 (ask m if_any f α).number

abbrev pub pairs_from : Numbering → (Position → Frame) → Position → Elements → Bool
pairs_from m around p L = walk (asked m) around p L
