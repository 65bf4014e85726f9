-- Parts of a slice, and the lengths of what is written.
use mathlib.Core.Path.{◌≡◌, sym, ap, ◌∙◌}
use mathlib.Core.List.{List}
use Prim.Native.Nat.{ℕ, ◌+◌, ◌-◌, ◌≤◌, ◌<◌}
use native.Mathlib.Omega.{arith}
use lib.ListN.{length, take, drop, length-take, length-drop}
use lib.Seq.{take_all, drop-drop}
use Rattle.buffers.specs.Words.{word, field}

pub length_field : (tag : ℕ) (body : List ℕ) → length (field tag body) ≡ 3 + length body
unfolding field word
length_field tag body = omega arith

-- Parts of a slice

-- a part up to the end is all that is behind its start
pub part_all : (k : ℕ) (s : List ℕ) → take (length s - k) (drop k s) ≡ drop k s
part_all k s = take_all (length s - k) (drop k s) (simp length-drop (omega arith))

pub length_part : (k : ℕ) (s : List ℕ) → length (take (length s - k) (drop k s)) ≡ length s - k
length_part k s = ap length (part_all k s) ∙ length-drop k s

-- what is behind a position is a part of what is behind an earlier one
pub part_part : (k m : ℕ) (s : List ℕ)
    → take (length s - (k + m)) (drop (k + m) s)
    ≡ take (length (take (length s - k) (drop k s)) - m) (drop m (take (length s - k) (drop k s)))
part_part k m s =
    part_all (k + m) s
    ∙ sym (drop-drop m k s)
    ∙ ap (drop m) (sym (part_all k s))
    ∙ sym (part_all m (take (length s - k) (drop k s)))

pub part_length : (m k : ℕ) (s : List ℕ) → length (take m (drop k s)) ≤ length s
part_length m k s = omega (arith, length-take m (drop k s), length-drop k s)

-- What is behind a position

-- The bytes from a position of a slice on.
abbrev pub from : List ℕ → ℕ → List ℕ
from s at = take (length s - at) (drop at s)

-- an element is left
pub some_left : (s : List ℕ) (at : ℕ) → at < length s → 0 < length (from s at)
some_left s at h = omega (arith, length_part at s)
