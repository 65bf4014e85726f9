-- Positions of places, the elements at them, and what replaces these.
use Rattle.std.specs.Prelude.{true, false, ℕ, zero, suc, ◌-◌, ltb}
use Rattle.std.proofs.Math.Option.{Option, none, some}
use Rattle.machine.specs.Elements.{Elements, empty, ambient_then, process_then, blocked_then, Element, ambient_element, process_element, blocked_element, ◌then◌, Position, here, later, inside, size}

unfoldable pub locate : ℕ → (ℕ → Option Position) → (ℕ → Option Position) → ℕ → Option Position
locate n inner outer zero = some here
locate n inner outer (suc p) = elim (ltb p n) [ true ↦ moved inside (inner p) | false ↦ moved later (outer (p - n)) ]
  where
    moved : (Position → Position) → Option Position → Option Position
    moved f none = none
    moved f (some π) = some (f π)

-- The position of a place.
unfoldable pub position : Elements → ℕ → Option Position
position empty p = none
position (ambient_then s a A C) p = locate (size A) (position A) (position C) p
position (process_then P C) p = locate 0 (λ q. none) (position C) p
position (blocked_then α P C) p = locate 0 (λ q. none) (position C) p

-- The element directly in a list at a position.
unfoldable pub element_of : Elements → Position → Option Element
element_of empty p = none
element_of (ambient_then s a A C) here = some (ambient_element s a A)
element_of (ambient_then s a A C) (later p) = element_of C p
element_of (ambient_then s a A C) (inside p) = none
element_of (process_then P C) here = some (process_element P)
element_of (process_then P C) (later p) = element_of C p
element_of (process_then P C) (inside p) = none
element_of (blocked_then α P C) here = some (blocked_element α P)
element_of (blocked_then α P C) (later p) = element_of C p
element_of (blocked_then α P C) (inside p) = none

-- The list with the element at a position, at any depth, replaced by X.
unfoldable pub replace_at : Elements → Position → Elements → Elements
replace_at empty π X = empty
replace_at (ambient_then s a A C) here X = X then C
replace_at (ambient_then s a A C) (later π) X = ambient_then s a A (replace_at C π X)
replace_at (ambient_then s a A C) (inside π) X = ambient_then s a (replace_at A π X) C
replace_at (process_then P C) here X = X then C
replace_at (process_then P C) (later π) X = process_then P (replace_at C π X)
replace_at (process_then P C) (inside π) X = process_then P C
replace_at (blocked_then α P C) here X = X then C
replace_at (blocked_then α P C) (later π) X = blocked_then α P (replace_at C π X)
replace_at (blocked_then α P C) (inside π) X = blocked_then α P C

-- The list with the direct element at a position, or around it, replaced by X.
unfoldable pub replace_around : Elements → Position → Elements → Elements
replace_around empty p X = empty
replace_around (ambient_then s a A C) here X = X then C
replace_around (ambient_then s a A C) (later p) X = ambient_then s a A (replace_around C p X)
replace_around (ambient_then s a A C) (inside p) X = X then C
replace_around (process_then P C) here X = X then C
replace_around (process_then P C) (later p) X = process_then P (replace_around C p X)
replace_around (process_then P C) (inside p) X = X then C
replace_around (blocked_then α P C) here X = X then C
replace_around (blocked_then α P C) (later p) X = blocked_then α P (replace_around C p X)
replace_around (blocked_then α P C) (inside p) X = X then C
