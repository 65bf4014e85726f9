-- Reading elements over plain lists of bytes, with document 01's refusals 2 to 6 and 14 of document 02.
use Rattle.std.specs.Prelude.{List, [], ◌∷◌, ℕ, zero, suc, length, get_or, ltb, eqb}
use Rattle.machine.specs.Limits.{state_depth_limit, blocked_depth_limit}
use Rattle.machine.specs.Elements.{Status, unblocked, blocked, Elements, empty, ambient_then, process_then, blocked_then}
use Rattle.machine.specs.Tests.{pick}
use Rattle.format.specs.Reading.{Outcome, refused, got, map_outcome, and_then, Opened, shut, open_field, read_field, read_reference, read_process, read_acting}

-- The header of an element. In a blocked ambient only blocked ambients and blocked actions are due: 41 and 43.
unfoldable pub open_element : Status → List ℕ → Opened
open_element unblocked bytes = open_field 0x40 0x43 bytes
open_element blocked bytes = pick (ltb (length bytes) 3) (shut 2) (pick (eqb (get_or bytes 0 0) 0x42) (shut 3) (open_field 0x41 0x43 bytes))

pub data ElementShape : Type 0 where
  is_ambient is_blocked_ambient is_process is_blocked_action : ElementShape

unfoldable pub element_shape : ℕ → ElementShape
element_shape tag =
    pick (eqb tag 0x40) is_ambient
    (pick (eqb tag 0x41) is_blocked_ambient
    (pick (eqb tag 0x42) is_process is_blocked_action))

-- The parts of an element, before the rest of its list. `A s` reads the body of an ambient of status s.
unfoldable pub element_parts : ElementShape → (Status → List ℕ → Outcome (Elements → Elements)) → ℕ → List ℕ → Outcome (Elements → Elements)
element_parts is_ambient A names body = A unblocked body
element_parts is_blocked_ambient A names body = A blocked body
element_parts is_process A names body = map_outcome (λ P C. process_then P C) (read_process state_depth_limit names 0 body)
element_parts is_blocked_action A names body = map_outcome (λ t C. blocked_then t.0 t.1 C) (read_acting (read_process blocked_depth_limit names) names 0 body)

unfoldable pub read_element : (Status → List ℕ → Outcome (Elements → Elements)) → Status → ℕ → List ℕ → Outcome (Elements → Elements)
read_element A s names bytes = read_field (open_element s bytes) bytes (λ tag body. element_parts (element_shape tag) A names body)

-- Elements to the end of the bytes; `fuel` is at least their number.
unfoldable pub read_up_to : (Status → List ℕ → Outcome (Elements → Elements)) → Status → ℕ → ℕ → List ℕ → Outcome Elements
read_up_to A s names zero bytes = got empty 0
read_up_to A s names (suc fuel) [] = got empty 0
read_up_to A s names (suc fuel) (b ∷ bs) =
    and_then (read_element A s names (b ∷ bs)) (b ∷ bs) (λ E rest. map_outcome E (read_up_to A s names fuel rest))

-- The elements in the bytes, in an ambient of status s or, unblocked, at the root.
unfoldable pub read_elements : (Status → List ℕ → Outcome (Elements → Elements)) → Status → ℕ → List ℕ → Outcome Elements
read_elements A s names bytes = read_up_to A s names (length bytes) bytes

-- The body of an ambient that may nest no deeper than `nest` (5): its name, which is no variable, and its contents.
unfoldable pub read_ambient : ℕ → ℕ → Status → List ℕ → Outcome (Elements → Elements)
read_ambient zero names s body = refused 5
read_ambient (suc nest) names s body =
    and_then (read_reference names 0 body) body (λ a rest. map_outcome (λ A C. ambient_then s a A C) (read_elements (read_ambient nest names) s names rest))
