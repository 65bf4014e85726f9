-- How many bytes spell elements.
use mathlib.Core.Path.{◌≡◌, refl, sym, ap, ◌∙◌}
use mathlib.Core.List.{List, [], ◌++◌}
use Prim.Native.Nat.{ℕ, ◌+◌, ◌≤◌}
use native.Mathlib.Omega.{arith}
use lib.ListN.{length, length-append, length-take}
use Rattle.calculus.specs.Processes.{Reference, Action, Process, null, action}
use Rattle.machine.specs.Elements.{Status, Elements, empty, ambient_then, Element, ambient_element, process_element, blocked_element, ◌before◌, ◌then◌, only}
use Rattle.machine.proofs.Lists.{only_then}
use Rattle.format.specs.Reading.{word_at}
use Rattle.buffers.specs.Words.{field}
use Rattle.format.specs.Spelling.{encode_reference, encode_action, encode}
use Rattle.buffers.proofs.Parts.{length_field}
use Rattle.format.proofs.Readback.{length_reference}
use Rattle.elements.specs.Spelling.{ambient_tag, encode_elements}
use Rattle.elements.proofs.Views.{head, first}
use Rattle.elements.proofs.Searching.{spelled_then}
use Rattle.places.specs.Offsets.{width}

abbrev pub bytes : Elements → ℕ
bytes L = length (encode_elements L)

-- a field of two parts
pub length_parts : (tag : ℕ) (x y : List ℕ) → length (field tag (x ++ y)) ≡ 3 + length x + length y
length_parts tag x y = omega (arith, length_field tag (x ++ y), length-append x y)

-- Elements by themselves

pub bytes_ambient : (s : Status) (a : Reference) (A : Elements) → bytes (only (ambient_element s a A)) ≡ 5 + bytes A
unfolding encode_elements ◌before◌
bytes_ambient s a A =
    omega (arith, length-append (field (ambient_tag s) (encode_reference a ++ encode_elements A)) [], length_parts (ambient_tag s) (encode_reference a) (encode_elements A), length_reference a)

pub bytes_process : (P : Process) → bytes (only (process_element P)) ≡ 3 + length (encode P)
unfolding encode_elements ◌before◌
bytes_process P = omega (arith, length-append (field 0x42 (encode P)) [], length_field 0x42 (encode P))

pub bytes_blocked : (α : Action) (P : Process) → bytes (only (blocked_element α P)) ≡ 3 + length (encode_action α) + length (encode P)
unfolding encode_elements ◌before◌
bytes_blocked α P = omega (arith, length-append (field 0x43 (encode_action α ++ encode P)) [], length_parts 0x43 (encode_action α) (encode P))

pub bytes_action : (α : Action) (P : Process) → bytes (only (process_element (action α P))) ≡ 6 + length (encode_action α) + length (encode P)
unfolding encode
bytes_action α P = omega (arith, bytes_process (action α P), length_parts 0x24 (encode_action α) (encode P))

pub bytes_null : bytes (only (process_element null)) ≡ 6
unfolding encode
bytes_null = omega (arith, bytes_process null, length_field 0x20 [])

-- Lists of elements

pub bytes_empty : bytes empty ≡ 0
unfolding encode_elements
bytes_empty = refl

pub bytes_then : (X C : Elements) → bytes (X then C) ≡ bytes X + bytes C
bytes_then X C = ap length (spelled_then X C) ∙ length-append (encode_elements X) (encode_elements C)

pub spelled_before : (E : Element) (C : Elements) → encode_elements (E before C) ≡ encode_elements (only E) ++ encode_elements C
spelled_before E C = ap encode_elements (sym (only_then E C)) ∙ spelled_then (only E) C

pub bytes_before : (E : Element) (C : Elements) → bytes (E before C) ≡ bytes (only E) + bytes C
bytes_before E C = ap length (spelled_before E C) ∙ length-append (encode_elements (only E)) (encode_elements C)

-- Widths

pub width_ambient : (s : Status) (a : Reference) (A : Elements) → width (ambient_element s a A) ≡ 5 + bytes A
unfolding width
width_ambient s a A = bytes_ambient s a A

pub width_least : (E : Element) → 3 ≤ width E
unfolding width
width_least (ambient_element s a A) = omega (arith, bytes_ambient s a A)
width_least (process_element P) = omega (arith, bytes_process P)
width_least (blocked_element α P) = omega (arith, bytes_blocked α P)

pub length_before : (E : Element) (C : Elements) → bytes (E before C) ≡ width E + bytes C
unfolding width
length_before E C = bytes_before E C

pub length_ambient : (s : Status) (a : Reference) (A C : Elements) → bytes (ambient_then s a A C) ≡ 5 + bytes A + bytes C
unfolding ◌before◌
length_ambient s a A C = omega (arith, length_before (ambient_element s a A) C, width_ambient s a A)

-- The first element of a list

pub head_before : (E : Element) (C : Elements) → head (E before C) ≡ only E
unfolding head ◌before◌
head_before (ambient_element s a A) C = refl
head_before (process_element P) C = refl
head_before (blocked_element α P) C = refl

-- it is as wide as its length says
pub first_width : (E : Element) (C : Elements) (s : List ℕ) (n : ℕ) → s ≡ encode_elements (E before C) → n ≡ word_at s 1 → 3 + n ≡ width E
unfolding width
first_width E C s n e k =
    let f = first (E before C) s n e k (omega (arith, ap length e, length_before E C, width_least E)) in
    omega (arith, ap length (f.front ∙ ap encode_elements (head_before E C)), length-take (3 + n) s, f.within)
