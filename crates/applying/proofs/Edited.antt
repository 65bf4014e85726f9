-- What stands for an element in bytes, and how the list is written from each element to the next.
use mathlib.Core.Path.{◌≡◌, refl, sym, ap, ap₂, ◌∙◌, subst}
use mathlib.Core.Bool.{Bool, true, false}
use mathlib.Core.List.{List, [], ◌∷◌, ◌++◌, append-nil}
use Prim.Native.Nat.{ℕ, ◌+◌, ◌-◌, ◌≤◌, ◌<◌}
use native.Mathlib.Omega.{arith}
use borrow.Rule.Slice.PartMut.{put_mid}
use lib.ListN.{length, take, drop, get_or, length-drop}
use Rattle.calculus.specs.Processes.{Reference}
use Rattle.machine.specs.Elements.{Status, unblocked, Elements, empty, Element, ambient_element, process_element, blocked_element, ◌before◌, ◌then◌, only}
use Rattle.machine.specs.Tests.{pick}
use Rattle.buffers.specs.Words.{word, field}
use Rattle.format.specs.Spelling.{encode}
use Rattle.elements.specs.Spelling.{ambient_tag, encode_elements}
use Rattle.elements.specs.Spelled.{Spells}
use Rattle.elements.proofs.Tags.{TaggedElement, tagged_unblocked_ambient, tagged_blocked_ambient, tagged_process, tagged_blocked_action, tagged_element, tagged_element_as, tag_small}
use Rattle.elements.specs.Each.{BeginsWith}
use Rattle.buffers.proofs.Parts.{from}
use Rattle.elements.proofs.Searching.{spelled_then}
use Rattle.rewriting.specs.declared.Plan.{Plan}
use Rattle.places.specs.Offsets.{width}
use Rattle.turning.specs.Turning.{turned}
use Rattle.rewriting.specs.Editing.{stands_at, marked, holds, ambient_at, blocked_at, behind_at, edit, carried, Suits}
use Rattle.applying.specs.Applying.{changed, unturned, instead}
use Rattle.buffers.specs.Buffers.{Left}
use Rattle.places.proofs.Widths.{bytes_ambient}
use Rattle.places.proofs.Alone.{Ambient, ambient_left, as_ambient}
use Rattle.applying.proofs.Suiting.{suits_contents}

-- An ambient whose contents are changed

pub changed_left : (s : List ℕ) (k : Plan) (ns : List Reference) (Z : Elements) (w : Bool) (o : ℕ) (u : Status) (a : Reference) (A : Elements) → Spells s (only (ambient_element u a A))
    → (out last final : List ℕ) (n : ℕ) → 5 ≤ length out → Left (encode_elements (edit k ns Z w (o + 5) A)) (from out 5) last n
    → final ≡ ((0x40 ∷ word (2 + n)) ++ take 2 (drop 3 s)) ++ drop 5 (put_mid 5 (length out - 5) out last)
    → Left (encode_elements (only (changed k ns Z w o a A))) out final (5 + n)
unfolding changed ambient_tag
changed_left s k ns Z w o u a A p = ambient_left s u a A p unblocked (edit k ns Z w (o + 5) A)

pub changed_length : (k : Plan) (ns : List Reference) (Z : Elements) (w : Bool) (o : ℕ) (a : Reference) (A : Elements)
    → length (encode_elements (only (changed k ns Z w o a A))) ≡ 5 + length (encode_elements (edit k ns Z w (o + 5) A))
unfolding changed
changed_length k ns Z w o a A = bytes_ambient unblocked a (edit k ns Z w (o + 5) A)

-- The ambient that is moved, where nothing is set down in it

pub carried_spelled : (k : Plan) (ns : List Reference) (o : ℕ) (u : Status) (a : Reference) (A : Elements)
    → encode_elements (only (carried k ns empty o (ambient_element u a A))) ≡ encode_elements (only (changed k ns empty true o a A))
unfolding carried changed
carried_spelled k ns o u a A = refl

-- What stands for an element, by the tests on its offset and its tag

module _ (k : Plan) (ns : List Reference) (Z : Elements) (w : Bool) (o : ℕ) where
  pub instead_turned : (E : Element) → marked k o ≡ true → instead k ns Z w o E ≡ turned k.block ns E
  unfolding instead
  instead_turned E h = simp h

  instead_unturned : (E : Element) → marked k o ≡ false → instead k ns Z w o E ≡ unturned k ns Z w o E
  unfolding instead
  instead_unturned E h = simp h

  unturned_cut : (u : Status) (a : Reference) (A : Elements) → stands_at k.cut o ≡ true → unturned k ns Z w o (ambient_element u a A) ≡ empty
  unfolding unturned ambient_at
  unturned_cut u a A h = simp h

  unturned_held : (u : Status) (a : Reference) (A : Elements) {b : Bool} → stands_at k.cut o ≡ false → holds k o (o + width (ambient_element u a A)) ≡ b
      → unturned k ns Z w o (ambient_element u a A) ≡ pick b (only (changed k ns Z false o a A)) (only (ambient_element u a A))
  unfolding unturned ambient_at
  unturned_held u a A h q = simp (h, q)

  unturned_still : {tag : ℕ} {E : Element} → TaggedElement tag E → 0x42 ≤ tag → w ≡ false → unturned k ns Z w o E ≡ only E
  unfolding unturned blocked_at
  unturned_still (tagged_unblocked_ambient a A) t h = absurd (omega arith)
  unturned_still (tagged_blocked_ambient a A) t h = absurd (omega arith)
  unturned_still (tagged_process P) t h = refl
  unturned_still (tagged_blocked_action α P) t h = simp h

  unturned_process : {E : Element} → TaggedElement 0x42 E → unturned k ns Z w o E ≡ only E
  unfolding unturned
  unturned_process (tagged_process P) = refl

  unturned_unblocked : {E : Element} → TaggedElement 0x43 E → w ≡ true
      → encode_elements (unturned k ns Z w o E) ≡ field 0x42 (field 0x24 (drop 3 (encode_elements (only E))))
  unfolding unturned blocked_at ◌before◌ encode_elements field encode word
  unturned_unblocked (tagged_blocked_action α P) q = simp (q, append-nil)

module _ (k : Plan) (ns : List Reference) (Z : Elements) (w : Bool) (o : ℕ) (E : Element) (s : List ℕ) (p : Spells s (only E)) where
  module _ (m : marked k o ≡ false) where
    unturned_as : {X : Elements} → unturned k ns Z w o E ≡ X → encode_elements (instead k ns Z w o E) ≡ encode_elements X
    unturned_as e = ap encode_elements (instead_unturned k ns Z w o E m ∙ e)

    whole_as : unturned k ns Z w o E ≡ only E → encode_elements (instead k ns Z w o E) ≡ s
    whole_as e = unturned_as e ∙ sym p.spelled

    pub is_cut : get_or s 0 0 < 0x42 → stands_at k.cut o ≡ true → encode_elements (instead k ns Z w o E) ≡ []
    unfolding encode_elements
    is_cut t h = let v = as_ambient s E p t in unturned_as (ap (unturned k ns Z w o) v.is ∙ unturned_cut k ns Z w o v.status v.called v.contents h)

    is_held : (v : Ambient E) {b : Bool} → stands_at k.cut o ≡ false → holds k o (o + length s) ≡ b
        → unturned k ns Z w o E ≡ pick b (only (changed k ns Z false o v.called v.contents)) (only E)
    unfolding width
    is_held v h q =
        let j : holds k o (o + width E) ≡ _ = ap (λ (l : List ℕ). holds k o (o + length l)) (sym p.spelled) ∙ q in
        rw v.is (unturned_held k ns Z w o v.status v.called v.contents h (rw v.is at j))

    pub is_changed : (v : Ambient E) → stands_at k.cut o ≡ false → holds k o (o + length s) ≡ true
        → encode_elements (instead k ns Z w o E) ≡ encode_elements (only (changed k ns Z false o v.called v.contents))
    is_changed v h q = unturned_as (is_held v h q)

    pub is_whole : get_or s 0 0 < 0x42 → stands_at k.cut o ≡ false → holds k o (o + length s) ≡ false → encode_elements (instead k ns Z w o E) ≡ s
    is_whole t h q = whole_as (is_held (as_ambient s E p t) h q)

    pub is_still : 0x42 ≤ get_or s 0 0 → w ≡ false → encode_elements (instead k ns Z w o E) ≡ s
    is_still t h = whole_as (unturned_still k ns Z w o (tagged_element p.spelled) t h)

    pub is_process : 0x42 ≤ get_or s 0 0 → (get_or s 0 0 ≡ 0x43 → ⊥) → encode_elements (instead k ns Z w o E) ≡ s
    is_process t h = whole_as (unturned_process k ns Z w o (tagged_element_as p.spelled (omega (arith, t, h, tag_small (tagged_element p.spelled)))))

    pub is_unblocked : get_or s 0 0 ≡ 0x43 → w ≡ true → encode_elements (instead k ns Z w o E) ≡ field 0x42 (field 0x24 (drop 3 s))
    is_unblocked t q =
        ap encode_elements (instead_unturned k ns Z w o E m)
        ∙ unturned_unblocked k ns Z w o (tagged_element_as p.spelled t) q
        ∙ ap (λ (l : List ℕ). field 0x42 (field 0x24 (drop 3 l))) (sym p.spelled)

pub ambient_suits : (k : Plan) (ns : List Reference) (o : ℕ) (E : Element) (v : Ambient E) → Suits k ns o (only E) → Suits k ns (o + 5) v.contents
ambient_suits k ns o E v h = suits_contents k ns o v.status v.called v.contents (subst (λ (D : Element). Suits k ns o (only D)) v.is h)

pub unblocked_length : (s : List ℕ) → 3 ≤ length s → length (field 0x42 (field 0x24 (drop 3 s))) ≡ 3 + length s
unfolding field word
unblocked_length s h = omega (arith, length-drop 3 s)

-- What stands for a list: for its first element, what is set down behind it, and the others

edit_split : (k : Plan) (ns : List Reference) (Z : Elements) (w : Bool) (o : ℕ) (E : Element) (C : Elements)
    → edit k ns Z w o (E before C) ≡ instead k ns Z w o E then (behind_at k Z o then edit k ns Z w (o + width E) C)
unfolding edit instead unturned changed ◌before◌
edit_split k ns Z w o (ambient_element u a A) C = refl
edit_split k ns Z w o (process_element P) C = refl
edit_split k ns Z w o (blocked_element α P) C = refl

behind_spelled : (k : Plan) (Z : Elements) (o : ℕ) → encode_elements (behind_at k Z o) ≡ pick (stands_at k.after o) (encode_elements Z) []
unfolding behind_at encode_elements
behind_spelled k Z o = go (stands_at k.after o)
  where
    go : (b : Bool) → encode_elements (pick b Z empty) ≡ pick b (encode_elements Z) []
    go true = refl
    go false = refl

-- z spells what is set down
pub split_bytes : (k : Plan) (ns : List Reference) (Z : Elements) (w : Bool) (o : ℕ) (z : List ℕ) → z ≡ encode_elements Z → {B : Elements} {x t : List ℕ} (v : BeginsWith B x t)
    → encode_elements (edit k ns Z w o B)
    ≡ encode_elements (instead k ns Z w o v.element) ++ (pick (stands_at k.after o) z [] ++ encode_elements (edit k ns Z w (o + length x) v.others))
unfolding width
split_bytes k ns Z w o z e v =
    ap encode_elements (ap (edit k ns Z w o) v.is ∙ edit_split k ns Z w o v.element v.others)
    ∙ spelled_then (instead k ns Z w o v.element) (behind_at k Z o then edit k ns Z w (o + width v.element) v.others)
    ∙ ap (λ (l : List ℕ). encode_elements (instead k ns Z w o v.element) ++ l)
    (spelled_then (behind_at k Z o) (edit k ns Z w (o + width v.element) v.others)
    ∙ ap₂ ◌++◌ (behind_spelled k Z o ∙ ap (λ (l : List ℕ). pick (stands_at k.after o) l []) (sym e))
    (ap (λ (j : ℕ). encode_elements (edit k ns Z w (o + j) v.others)) (sym (ap length v.first))))
