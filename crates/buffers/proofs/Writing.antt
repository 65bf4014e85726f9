-- Laws of writing: bytes stored one by one, headers, and parts of a buffer that were lent, written and have come back.
use mathlib.Core.Path.{◌≡◌, refl, sym, ap, ap₂, ◌∙◌}
use mathlib.Core.Logic.{◌⊎◌, inl, inr}
use mathlib.Core.List.{List, [], ◌∷◌, ◌++◌, append_assoc, append-nil}
use Prim.Native.Nat.{ℕ, zero, suc, ◌+◌, ◌-◌, ◌/◌, ◌%◌, ◌≤◌, ◌<◌}
use native.Mathlib.Nat.{le_of_suc-le-suc, not-suc-le-zero}
use native.Mathlib.Omega.{arith}
use lib.ListN.{length, take, drop, get_or, set, length-drop, length-append, drop_of_length-le}
use lib.Seq.{take_at, drop_at, take_all, drop-drop}
use borrow.Author.Tests.{lt-ltb, le-ltb}
use Rattle.std.specs.Int.{to_be_bytes}
use mir.Syntax.{w16, w64}
use borrow.Rule.Slice.PartMut.{put_mid}
use Rattle.buffers.specs.Words.{word}
use Rattle.buffers.specs.Buffers.{overlay, headed}
use Rattle.buffers.proofs.Parts.{part_all}

-- a turn's store takes the copy of i bytes to the copy of one more
pub store : (from out : List ℕ) (i : ℕ) → i < length from → i < length out
    → set (take i from ++ drop i out) i (get_or from i 0) ≡ take (suc i) from ++ drop (suc i) out
store [] out i h k = absurd (not-suc-le-zero h)
store (x ∷ xs) [] i h k = absurd (not-suc-le-zero k)
store (x ∷ xs) (y ∷ ys) zero h k = refl
store (x ∷ xs) (y ∷ ys) (suc i) h k = ap (λ (l : List ℕ). x ∷ l) (store xs ys i (le_of_suc-le-suc h) (le_of_suc-le-suc k))

-- after as many turns as both have bytes
pub copied : (from out : List ℕ) {last : List ℕ} (i : ℕ) → i ≤ length from → i ≤ length out → (i ≡ length from) ⊎ (i ≡ length out) → last ≡ take i from ++ drop i out
    → last ≡ overlay from out
unfolding overlay
copied from out i h k (inl n) e =
    e ∙ ap₂ ◌++◌ (take_all i from (omega arith) ∙ sym (take_all (length out) from (omega arith))) (ap (λ (j : ℕ). drop j out) n)
copied from out i h k (inr n) e =
    let k' : length out ≤ i = omega arith in
    let h' : length out ≤ length from = omega arith in
    e ∙ ap₂ ◌++◌ (ap (λ (j : ℕ). take j from) n) (drop_of_length-le out k' ∙ sym (drop_of_length-le out h'))

-- new bytes for which there is room
pub overlaid : (new out : List ℕ) → length new ≤ length out → overlay new out ≡ new ++ drop (length new) out
unfolding overlay
overlaid new out h = ap (λ (l : List ℕ). l ++ drop (length new) out) (take_all (length out) new h)

-- a number below 65536 is two bytes
pub word_bytes : (number : ℕ) → number < 65536 → to_be_bytes w16 number ≡ word number
unfolding word
word_bytes number h =
    let e : number / 256 % 256 ≡ number / 256 = omega arith in
    rw e refl

-- the three bytes of a header stored at the front
pub header_stored : (tag len : ℕ) (out : List ℕ) → 3 ≤ length out
    → set (set (set out 0 tag) 1 (get_or (to_be_bytes w64 len) 6 0)) 2 (get_or (to_be_bytes w64 len) 7 0) ≡ headed tag len out
unfolding word headed
header_stored tag len [] h = absurd (omega arith)
header_stored tag len (x ∷ []) h = absurd (omega arith)
header_stored tag len (x ∷ y ∷ []) h = absurd (omega arith)
header_stored tag len (x ∷ y ∷ z ∷ out) h =
    let e : get_or (to_be_bytes w64 len) 6 0 ≡ len % 65536 / 256 = omega arith in
    let f : get_or (to_be_bytes w64 len) 7 0 ≡ len % 65536 % 256 = omega arith in
    simp (le-ltb _ _ h, e, f)

pub no_header : (tag len : ℕ) (out : List ℕ) → length out < 3 → out ≡ headed tag len out
unfolding headed
no_header tag len out h = simp (lt-ltb _ _ h)

-- a header for which there is room
pub header_is : (tag len : ℕ) (out : List ℕ) → 3 ≤ length out → len < 65536 → headed tag len out ≡ (tag ∷ word len) ++ drop 3 out
unfolding headed
header_is tag len out h k = let e : len % 65536 ≡ len = omega arith in rw e (simp (le-ltb _ _ h))

-- a part up to the end that was lent and has come back
pub back : (k : ℕ) (out ys : List ℕ) → put_mid k (length out - k) out ys ≡ take k out ++ ys
back k out ys =
    let h : length (drop k out) ≤ length out - k = simp length-drop (omega arith) in
    rw (drop_of_length-le (drop k out) h, append-nil)

-- N was written at the front of `out`, and then W behind it
pub seq : (N W out middle last : List ℕ) (k : ℕ) → k ≡ length N → middle ≡ N ++ drop (length N) out
    → last ≡ W ++ drop (length W) (take (length middle - k) (drop k middle))
    → put_mid k (length middle - k) middle last ≡ (N ++ W) ++ drop (length (N ++ W)) out
seq N W out middle last k e f g =
    let front : take k middle ≡ N = ap (take k) f ∙ take_at N (drop (length N) out) k (sym e) in
    let behind : drop k middle ≡ drop (length N) out = ap (drop k) f ∙ drop_at N (drop (length N) out) k (sym e) in
    back k middle last
    ∙ ap (λ (l : List ℕ). l ++ last) front
    ∙ ap (λ (l : List ℕ). N ++ l)
    (g ∙ ap (λ (l : List ℕ). W ++ drop (length W) l) (part_all k middle ∙ behind) ∙ ap (λ (l : List ℕ). W ++ l) (drop-drop (length W) (length N) out))
    ∙ sym (append_assoc N W (drop (length N + length W) out))
    ∙ ap (λ (j : ℕ). (N ++ W) ++ drop j out) (sym (length-append N W))

-- with N at its front, `out` is as long as before
pub length_kept : (N out last : List ℕ) → length N ≤ length out → last ≡ N ++ drop (length N) out → length last ≡ length out
length_kept N out last h e = ap length e ∙ omega (arith, length-append N (drop (length N) out), length-drop (length N) out)
