-- Bytes written one behind another at the front of a buffer.
use mathlib.Core.Path.{◌≡◌, refl, sym, ap, ◌∙◌, subst}
use mathlib.Core.List.{List, [], ◌∷◌, ◌++◌, append_assoc}
use Prim.Native.Nat.{ℕ, suc, ◌+◌, ◌-◌, ◌/◌, ◌%◌, ◌≤◌, ◌<◌}
use native.Mathlib.Omega.{arith}
use borrow.Rule.Slice.PartMut.{put_mid}
use lib.ListN.{length, take, drop, set, length-append, length-take, length-set}
use lib.Seq.{take_at, drop_at, drop-drop, set_split}
use Rattle.buffers.specs.Words.{word, field}
use Rattle.buffers.proofs.Parts.{part_all, length_part, from}
use Rattle.buffers.specs.Buffers.{overlay, headed, Left}
use Rattle.buffers.proofs.Writing.{overlaid, header_is, back, seq, length_kept}

-- nothing is written yet
pub nothing_yet : (out : List ℕ) → Left [] out out 0
nothing_yet out = record { written = refl; count = refl }

-- there is room for what was written
pub left_within : {new old last : List ℕ} {n : ℕ} → Left new old last n → n ≤ length last
left_within {new} {old} l = omega (arith, l.count, ap length l.written, length-append new (drop (length new) old))

-- what is behind so many bytes stays
pub left_behind : {new old last : List ℕ} {n : ℕ} (k : ℕ) → Left new old last n → n ≡ k → last ≡ new ++ drop k old
left_behind {new} {old} k l e = l.written ∙ ap (λ (j : ℕ). new ++ drop j old) (sym l.count ∙ e)

-- bytes that fit
pub kept_whole : (bytes out last : List ℕ) → length bytes ≤ length out → last ≡ overlay bytes out → Left bytes out last (length bytes)
kept_whole bytes out last h e = record { written = e ∙ overlaid bytes out h; count = refl }

-- the part behind the bytes at the front was lent, and has come back with a piece at its own front
pub lent_behind : {new old out last piece : List ℕ} {at n : ℕ} → Left new old out at → Left piece (from out at) last n
    → Left (new ++ piece) old (put_mid at (length out - at) out last) (at + n)
lent_behind {new} {old} {out} {last} {piece} {at} {n} l p =
    record { written = seq new piece old out last at l.count l.written p.written; count = omega (arith, l.count, p.count, length-append new piece) }

pub appended : {new old out last : List ℕ} (piece : List ℕ) {at : ℕ} → Left new old out at → at + length piece ≤ length out
    → last ≡ overlay piece (from out at) → Left (new ++ piece) old (put_mid at (length out - at) out last) (at + length piece)
appended {out = out} piece {at} l h e = lent_behind l (kept_whole piece _ _ (omega (arith, length_part at out)) e)

-- I was written behind h bytes, and then H to these
pub written_around : (h : ℕ) (H I out last final : List ℕ) → length H ≡ h → h ≤ length out → last ≡ I ++ drop (length I) (from out h)
    → final ≡ H ++ drop h (put_mid h (length out - h) out last) → final ≡ (H ++ I) ++ drop (length (H ++ I)) out
written_around h H I out last final n r l e =
    let long : h + length I ≡ length (H ++ I) = omega (arith, length-append H I) in
    e
    ∙ ap (λ (x : List ℕ). H ++ x) (ap (drop h) (back h out last) ∙ drop_at (take h out) last h (omega (arith, length-take h out)))
    ∙ ap (λ (x : List ℕ). H ++ x) (l ∙ ap (λ (x : List ℕ). I ++ drop (length I) x) (part_all h out) ∙ ap (λ (x : List ℕ). I ++ x) (drop-drop (length I) h out))
    ∙ sym (append_assoc H I (drop (h + length I) out))
    ∙ ap (λ (m : ℕ). (H ++ I) ++ drop m out) long

-- the same bytes in other words
pub left_is : {new same old last : List ℕ} {n : ℕ} → new ≡ same → Left new old last n → Left same old last n
left_is {old = old} {last = last} {n = n} e l = subst (λ (bytes : List ℕ). Left bytes old last n) e l

-- a byte, and a number in two bytes
appended_byte : (new old out : List ℕ) (byte at : ℕ) → Left new old out at → at < length out → Left (new ++ byte ∷ []) old (set out at byte) (at + 1)
appended_byte new old out byte at l h =
    let part = take (length out - at) (drop at out) in
    let next : at + 1 ≡ suc at = omega arith in
    let behind : drop 1 part ≡ drop (suc at) out = ap (drop 1) (part_all at out) ∙ drop-drop 1 at out ∙ ap (λ (k : ℕ). drop k out) next in
    let stored : set out at byte ≡ put_mid at (length out - at) out (byte ∷ drop 1 part) =
    set_split out at byte h ∙ ap (λ (r : List ℕ). take at out ++ byte ∷ r) (sym behind) ∙ sym (back at out (byte ∷ drop 1 part)) in
    rw stored (appended (byte ∷ []) l (omega arith) (sym (overlaid (byte ∷ []) part (omega (arith, length_part at out)))))

pub appended_word : (new old out : List ℕ) (number at : ℕ) → Left new old out at → at + 2 ≤ length out
    → Left (new ++ word number) old (set (set out at (number / 256)) (at + 1) (number % 256)) (at + 2)
unfolding word
appended_word new old out number at l h =
    let first = appended_byte new old out (number / 256) at l (omega arith) in
    let second = appended_byte (new ++ number / 256 ∷ []) old (set out at (number / 256)) (number % 256) (at + 1) first (omega (arith, length-set out at (number / 256))) in
    let both = left_is (append_assoc new (number / 256 ∷ []) (number % 256 ∷ [])) second in
    record { written = both.written; count = omega (arith, both.count) }

-- Fields

-- a header at the front of a buffer
module _ (out : List ℕ) (tag len : ℕ) (one : List ℕ) (h : 3 ≤ length out) (k : len < 65536) (e : one ≡ headed tag len out) where
  pub header_left : Left (tag ∷ word len) out one 3
  unfolding word
  header_left = record { written = e ∙ header_is tag len out h k; count = refl }

  -- with the first bytes of the body
  pub started : (first : List ℕ) {last : List ℕ} → 3 + length first ≤ length out → last ≡ overlay first (from one 3)
      → Left ((tag ∷ word len) ++ first) out (put_mid 3 (length one - 3) one last) (3 + length first)
  unfolding word
  started first r f = appended first header_left (omega (arith, r, length_kept (tag ∷ word len) out one h header_left.written)) f

  -- and the body in the part behind it, which was lent
  pub field_left : (body : List ℕ) {last : List ℕ} {n : ℕ} → len ≡ length body → Left body (from one 3) last n
      → Left (field tag body) out (put_mid 3 (length one - 3) one last) (3 + n)
  unfolding field
  field_left body g l = left_is (ap (λ (m : ℕ). (tag ∷ word m) ++ body) g) (lent_behind header_left l)

pub whole_field : (tag : ℕ) (body : List ℕ) → (tag ∷ word (length body)) ++ body ≡ field tag body
unfolding field
whole_field tag body = refl

-- a header with two pieces behind it is a field
pub field_of_two : (tag len : ℕ) (first second : List ℕ) → len ≡ length first + length second → ((tag ∷ word len) ++ first) ++ second ≡ field tag (first ++ second)
unfolding field
field_of_two tag len first second e =
    append_assoc (tag ∷ word len) first second ∙ ap (λ (m : ℕ). (tag ∷ word m) ++ (first ++ second)) (e ∙ sym (length-append first second))

-- A field that was written, and the part of the buffer that is its body

pub body_part : (tag : ℕ) (body old out : List ℕ) (n : ℕ) → Left (field tag body) old out n → take (n - 3) (drop 3 out) ≡ body
unfolding field word
body_part tag body old out n l =
    ap (λ (s : List ℕ). take (n - 3) (drop 3 s)) l.written ∙ take_at body (drop (length (field tag body)) old) (n - 3) (omega (arith, l.count))

-- other bytes of the same length in its place
pub body_changed : (tag : ℕ) (body old out other : List ℕ) (n : ℕ) → Left (field tag body) old out n → length other ≡ length body
    → Left (field tag other) old (put_mid 3 (n - 3) out other) n
unfolding field word
body_changed tag body old out other n l h =
    let k : length body ≡ n - 3 = omega (arith, l.count) in
    let rest = drop (length (field tag body)) old in
    let e : drop (n - 3) (body ++ rest) ≡ rest = drop_at body rest (n - 3) k in
    let f : length (field tag body) ≡ length (field tag other) = omega arith in
    record {
      written =
          ap (λ (o : List ℕ). put_mid 3 (n - 3) o other) l.written
          ∙ ap (λ (s : List ℕ). (tag ∷ word (length body)) ++ (other ++ s)) (e ∙ ap (λ (m : ℕ). drop m old) f)
          ∙ ap (λ (m : ℕ). (tag ∷ word m) ++ (other ++ drop (length (field tag other)) old)) (sym h);
      count = omega (arith, l.count);
    }

-- the first byte of what was written changed
pub first_changed : (new old out : List ℕ) (n value : ℕ) → 0 < length new → Left new old out n → Left (set new 0 value) old (set out 0 value) n
first_changed [] old out n value h l = absurd (omega arith)
first_changed (x ∷ new) old out n value h l = record { written = ap (λ (o : List ℕ). set o 0 value) l.written; count = l.count }
