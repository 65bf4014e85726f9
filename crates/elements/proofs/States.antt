-- The bytes of a state: its front, and its elements behind it.
use mathlib.Core.Path.{◌≡◌, refl, sym, ap, ◌∙◌}
use mathlib.Core.List.{List, ◌∷◌, ◌++◌}
use Prim.Native.Nat.{ℕ, ◌+◌, ◌-◌, ◌≤◌}
use native.Mathlib.Omega.{arith}
use borrow.Rule.Slice.PartMut.{put_mid}
use lib.ListN.{length, drop, length-append}
use Rattle.machine.specs.Elements.{Elements, state}
use Rattle.buffers.specs.Words.{word, field}
use Rattle.buffers.specs.Buffers.{Left}
use Rattle.buffers.proofs.Parts.{from}
use Rattle.buffers.proofs.Appending.{left_is, lent_behind, written_around}
use Rattle.format.specs.Reading.{word_at}
use Rattle.elements.specs.Spelling.{encode_elements, encode_state, state_front}

pub state_length : (F N : ℕ) (L : Elements) → length (encode_state (state F N L)) ≡ 7 + length (encode_elements L)
unfolding encode_state field word
state_length F N L = omega arith

pub front_length : (F N n : ℕ) → length (state_front F N n) ≡ 7
unfolding state_front word
front_length F N n = refl

pub state_front_law : (F N : ℕ) (L : Elements) (n : ℕ) → n ≡ length (encode_elements L) → encode_state (state F N L) ≡ state_front F N n ++ encode_elements L
unfolding encode_state state_front field word
state_front_law F N L n e = ap (λ (j : ℕ). 0x11 ∷ word j ++ (word F ++ (word N ++ encode_elements L))) (omega arith)

-- F and N in their places
pub state_free : (F N : ℕ) (L : Elements) → word_at (encode_state (state F N L)) 3 ≡ F
unfolding encode_state field word
state_free F N L = omega arith

pub state_names : (F N : ℕ) (L : Elements) → word_at (encode_state (state F N L)) 5 ≡ N
unfolding encode_state field word
state_names F N L = omega arith

-- the front was written, and then the elements to the part behind it, which was lent and has come back
pub state_behind : {old out last : List ℕ} (F N : ℕ) (L : Elements) {m n : ℕ} → m ≡ length (encode_elements L) → Left (state_front F N m) old out 7 → Left (encode_elements L) (from out 7) last n
    → Left (encode_state (state F N L)) old (put_mid 7 (length out - 7) out last) (7 + n)
state_behind F N L {m} e f l = left_is (sym (state_front_law F N L m e)) (lent_behind f l)

-- the elements were written first, behind the room for the front
pub state_around : (F N : ℕ) (L : Elements) (out last final : List ℕ) (n : ℕ) → 7 ≤ length out → Left (encode_elements L) (from out 7) last n
    → Left (state_front F N n) (put_mid 7 (length out - 7) out last) final 7 → Left (encode_state (state F N L)) out final (7 + n)
state_around F N L out last final n h l f =
    let H = state_front F N n in
    let long = front_length F N n in
    left_is (sym (state_front_law F N L n l.count))
    record {
      written =
          written_around 7 H (encode_elements L) out last final long h l.written
          (f.written ∙ ap (λ (j : ℕ). H ++ drop j (put_mid 7 (length out - 7) out last)) long);
      count = omega (arith, length-append H (encode_elements L), long, l.count);
    }
