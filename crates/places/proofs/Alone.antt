-- No element, and one element by itself, in bytes.
use mathlib.Core.Path.{◌≡◌, refl, sym, ap, ◌∙◌, subst}
use mathlib.Core.List.{List, [], ◌∷◌, ◌++◌, append-nil}
use Prim.Native.Nat.{ℕ, ◌+◌, ◌-◌, ◌≤◌, ◌<◌}
use native.Mathlib.Omega.{arith}
use borrow.Rule.Slice.PartMut.{put_mid}
use lib.ListN.{length, take, drop, get_or, length-append, length-drop, length-take}
use Rattle.calculus.specs.Processes.{Reference}
use Rattle.machine.specs.Elements.{Status, unblocked, blocked, Elements, empty, Element, ambient_element, ◌before◌, only}
use Rattle.buffers.specs.Words.{word, field}
use Rattle.buffers.specs.Buffers.{Left}
use Rattle.buffers.proofs.Parts.{part_all, from}
use Rattle.buffers.proofs.Appending.{left_is, written_around}
use Rattle.format.specs.Spelling.{encode_reference}
use Rattle.elements.specs.Spelling.{ambient_tag, encode_elements}
use Rattle.elements.specs.Spelled.{Spells}
use Rattle.elements.proofs.Tags.{TaggedElement, tagged_unblocked_ambient, tagged_blocked_ambient, tagged_process, tagged_blocked_action, tagged_element}
use Rattle.elements.proofs.Spellable.{spellable_contents}
use Rattle.places.specs.Offsets.{width}
use Rattle.places.proofs.Widths.{width_least}

pub nothing_spelled : [] ≡ encode_elements empty
unfolding encode_elements
nothing_spelled = refl

pub element_long : (E : Element) → 3 ≤ length (encode_elements (only E))
unfolding width
element_long E = width_least E

-- An ambient

-- an ambient's bytes: its name and its contents
pub record Enclosed (s : List ℕ) (a : Reference) (A : Elements) : Type 0 where
  pub long : length s ≡ 5 + length (encode_elements A)
  pub called : take 2 (drop 3 s) ≡ encode_reference a
  pub body : from s 5 ≡ encode_elements A

enclosed_field : (tag : ℕ) (a : Reference) (A : Elements) → Enclosed (field tag (encode_reference a ++ encode_elements A) ++ []) a A
unfolding field word encode_reference
enclosed_field tag a A =
    let s = field tag (encode_reference a ++ encode_elements A) ++ [] in
    record { long = omega (arith, ap length (append-nil (encode_elements A))); called = refl; body = part_all 5 s ∙ append-nil (encode_elements A) }

enclosed_of : (u : Status) (a : Reference) (A : Elements) → Enclosed (encode_elements (only (ambient_element u a A))) a A
unfolding ◌before◌ encode_elements
enclosed_of u a A = enclosed_field (ambient_tag u) a A

module _ (s : List ℕ) (u : Status) (a : Reference) (A : Elements) (p : Spells s (only (ambient_element u a A))) where
  pub enclosed : Enclosed s a A
  enclosed = subst (λ (l : List ℕ). Enclosed l a A) (sym p.spelled) (enclosed_of u a A)

  pub contents_spelled : Spells (from s 5) A
  contents_spelled = record { spelled = enclosed.body; spellable = spellable_contents u a A empty p.spellable }

-- The same ambient with other contents, in either status: written behind a header's and a name's room, and then these.

field_parts : (tag : ℕ) (a : Reference) (B : List ℕ) (n : ℕ) → n ≡ length B → field tag (encode_reference a ++ B) ≡ ((tag ∷ word (2 + n)) ++ encode_reference a) ++ B
unfolding field word encode_reference
field_parts tag a B n e = ap (λ (j : ℕ). tag ∷ word j ++ (encode_reference a ++ B)) (omega arith)

ambient_spelling : (v : Status) (a : Reference) (B : Elements) → encode_elements (only (ambient_element v a B)) ≡ field (ambient_tag v) (encode_reference a ++ encode_elements B)
unfolding ◌before◌ encode_elements
ambient_spelling v a B = append-nil (field (ambient_tag v) (encode_reference a ++ encode_elements B))

module _ (s : List ℕ) (u : Status) (a : Reference) (A : Elements) (p : Spells s (only (ambient_element u a A))) (v : Status) (B : Elements) where
  ambient_parts : (n : ℕ) → n ≡ length (encode_elements B)
      → encode_elements (only (ambient_element v a B)) ≡ ((ambient_tag v ∷ word (2 + n)) ++ take 2 (drop 3 s)) ++ encode_elements B
  ambient_parts n e =
      ambient_spelling v a B
      ∙ field_parts (ambient_tag v) a (encode_elements B) n e
      ∙ ap (λ (l : List ℕ). ((ambient_tag v ∷ word (2 + n)) ++ l) ++ encode_elements B) (sym (enclosed s u a A p).called)

  header_long : (n : ℕ) → length ((ambient_tag v ∷ word (2 + n)) ++ take 2 (drop 3 s)) ≡ 5
  unfolding word
  header_long n = omega (arith, (enclosed s u a A p).long, length-take 2 (drop 3 s), length-drop 3 s)

  pub ambient_left : (out last final : List ℕ) (n : ℕ) → 5 ≤ length out → Left (encode_elements B) (from out 5) last n
      → final ≡ ((ambient_tag v ∷ word (2 + n)) ++ take 2 (drop 3 s)) ++ drop 5 (put_mid 5 (length out - 5) out last)
      → Left (encode_elements (only (ambient_element v a B))) out final (5 + n)
  ambient_left out last final n h l e =
      left_is (sym (ambient_parts n l.count))
      record {
        written = written_around 5 ((ambient_tag v ∷ word (2 + n)) ++ take 2 (drop 3 s)) (encode_elements B) out last final (header_long n) h l.written e;
        count = omega (arith, length-append ((ambient_tag v ∷ word (2 + n)) ++ take 2 (drop 3 s)) (encode_elements B), header_long n, l.count);
      }

-- The element of bytes with an ambient's tag.
pub record Ambient (E : Element) : Type 0 where
  pub status : Status
  pub called : Reference
  pub contents : Elements
  pub is : E ≡ ambient_element status called contents

ambient_of : {tag : ℕ} {E : Element} → TaggedElement tag E → tag < 0x42 → Ambient E
ambient_of (tagged_unblocked_ambient a A) t = record { status = unblocked; called = a; contents = A; is = refl }
ambient_of (tagged_blocked_ambient a A) t = record { status = blocked; called = a; contents = A; is = refl }
ambient_of (tagged_process P) t = absurd (omega arith)
ambient_of (tagged_blocked_action α P) t = absurd (omega arith)

pub as_ambient : (s : List ℕ) (E : Element) → Spells s (only E) → get_or s 0 0 < 0x42 → Ambient E
as_ambient s E p t = ambient_of (tagged_element p.spelled) t

pub ambient_spelled : (s : List ℕ) (E : Element) (v : Ambient E) → Spells s (only E) → Spells s (only (ambient_element v.status v.called v.contents))
ambient_spelled s E v p = subst (λ (D : Element). Spells s (only D)) v.is p
