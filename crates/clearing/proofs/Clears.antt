-- What is left of elements by a test of which names may be cleared, in bytes, and how a list is gone along.
use mathlib.Core.Path.{◌≡◌, refl, sym, ap, ◌∙◌, subst}
use mathlib.Core.Logic.{◌⊎◌, inl, inr}
use mathlib.Core.Bool.{Bool, true, false}
use mathlib.Core.List.{List, [], ◌∷◌, ◌++◌}
use Prim.Native.Nat.{ℕ, zero, suc, ◌+◌, ◌-◌, ◌≤◌, ◌<◌, min}
use native.Mathlib.Omega.{arith}
use borrow.Rule.Slice.PartMut.{put_mid}
use lib.ListN.{length, take, drop, get_or, length-append, take-append-drop}
use Rattle.calculus.specs.Processes.{Reference, name, variable}
use Rattle.machine.specs.Limits.{name_limit}
use Rattle.machine.specs.Elements.{Status, Elements, empty, ambient_then, process_then, blocked_then, Element, ambient_element, process_element, blocked_element, ◌before◌, only}
use Rattle.machine.specs.Validity.{ReferenceScoped}
use Rattle.machine.proofs.Lists.{only_then}
use Rattle.buffers.specs.Words.{word, field}
use Rattle.buffers.specs.Buffers.{Left}
use Rattle.buffers.proofs.Appending.{left_is}
use Rattle.buffers.proofs.Writing.{back}
use Rattle.buffers.proofs.Parts.{part_all, from}
use Rattle.format.specs.Spelling.{reference_number}
use Rattle.format.specs.Reading.{word_at}
use Rattle.elements.specs.Spelling.{ambient_tag, encode_elements, SpellableElements}
use Rattle.elements.specs.Spelled.{Spells}
use Rattle.elements.specs.Each.{BeginsWith}
use Rattle.elements.proofs.Tags.{TaggedElement, tagged_unblocked_ambient, tagged_blocked_ambient, tagged_process, tagged_blocked_action, tagged_element}
use Rattle.elements.proofs.Views.{ambient_number}
use Rattle.elements.proofs.Searching.{spelled_then}
use Rattle.places.proofs.Widths.{bytes_ambient, bytes_empty, spelled_before}
use Rattle.places.proofs.Alone.{nothing_spelled, Ambient, as_ambient, enclosed, ambient_spelled, ambient_left}
use Rattle.removals.specs.Sweeping.{unless_cleared, sweep_by}
use Rattle.removals.proofs.Sweeping.{sweep_by_then}
use Rattle.clearing.specs.Clears.{width_left, AmbientKept}

-- An ambient is kept with what is left of its contents, or gone with nothing left.
pub record KeptWith (b : Bool) (u : Status) (a : Reference) (B : Elements) : Type 0 where
  pub is : unless_cleared b u a B empty ≡ only (ambient_element u a B)
  pub wide : width_left b (length (encode_elements B)) ≡ 5 + length (encode_elements B)

pub record Gone (b : Bool) (u : Status) (a : Reference) (B : Elements) : Type 0 where
  pub is : unless_cleared b u a B empty ≡ empty
  pub none : length (encode_elements B) ≡ 0
  pub wide : width_left b (length (encode_elements B)) ≡ 0

pub left_cases : (b : Bool) (u : Status) (a : Reference) (B : Elements) → KeptWith b u a B ⊎ Gone b u a B
unfolding unless_cleared width_left encode_elements field ◌before◌
left_cases true u a empty = inr record { is = refl; none = refl; wide = refl }
left_cases true u a (ambient_then v c B D) = inl record { is = refl; wide = refl }
left_cases true u a (process_then P D) = inl record { is = refl; wide = refl }
left_cases true u a (blocked_then α P D) = inl record { is = refl; wide = refl }
left_cases false u a B = inl record { is = refl; wide = refl }

-- A single element

module _ (t : Reference → Bool) where
  abbrev pub swept : Elements → List ℕ
  swept A = encode_elements (sweep_by t A)

  pub swept_ambient : (u : Status) (a : Reference) (A : Elements) → sweep_by t (only (ambient_element u a A)) ≡ unless_cleared (t a) u a (sweep_by t A) empty
  unfolding sweep_by ◌before◌
  swept_ambient u a A = refl

  pub swept_width : (u : Status) (a : Reference) (A : Elements) → length (swept (only (ambient_element u a A))) ≡ width_left (t a) (length (swept A))
  swept_width u a A = ap (λ (B : Elements). length (encode_elements B)) (swept_ambient u a A) ∙ go (left_cases (t a) u a (sweep_by t A))
    where
      go : KeptWith (t a) u a (sweep_by t A) ⊎ Gone (t a) u a (sweep_by t A) → length (encode_elements (unless_cleared (t a) u a (sweep_by t A) empty)) ≡ width_left (t a) (length (swept A))
      go (inl k) = ap (λ (B : Elements). length (encode_elements B)) k.is ∙ bytes_ambient u a (sweep_by t A) ∙ sym k.wide
      go (inr g) = ap (λ (B : Elements). length (encode_elements B)) g.is ∙ bytes_empty ∙ sym g.wide

  still : {tag : ℕ} {E : Element} → TaggedElement tag E → 0x42 ≤ tag → sweep_by t (only E) ≡ only E
  unfolding sweep_by ◌before◌
  still (tagged_unblocked_ambient a A) h = absurd (omega arith)
  still (tagged_blocked_ambient a A) h = absurd (omega arith)
  still (tagged_process P) h = refl
  still (tagged_blocked_action α P) h = refl

  -- a process or a blocked action stays
  pub swept_still : (E : Element) (s : List ℕ) → s ≡ encode_elements (only E) → 0x42 ≤ get_or s 0 0 → swept (only E) ≡ s
  swept_still E s e h = ap encode_elements (still (tagged_element e) h) ∙ sym e

  -- A list: its first element and the others

  pub swept_first : (E : Element) (C : Elements) → swept (E before C) ≡ swept (only E) ++ swept C
  swept_first E C = ap swept (sym (only_then E C)) ∙ ap encode_elements (sweep_by_then t (only E) C) ∙ spelled_then (sweep_by t (only E)) (sweep_by t C)

  -- Sweeping makes no list longer

  width_most : (b : Bool) (u : Status) (a : Reference) (B : Elements) → KeptWith b u a B ⊎ Gone b u a B → width_left b (length (encode_elements B)) ≤ 5 + length (encode_elements B)
  width_most b u a B (inl k) = omega (arith, k.wide)
  width_most b u a B (inr g) = omega (arith, g.wide)

  ambient_shorter : (u : Status) (a : Reference) (A : Elements) → length (swept A) ≤ length (encode_elements A)
      → length (swept (only (ambient_element u a A))) ≤ length (encode_elements (only (ambient_element u a A)))
  ambient_shorter u a A h = omega (arith, h, swept_width u a A, width_most (t a) u a (sweep_by t A) (left_cases (t a) u a (sweep_by t A)), bytes_ambient u a A)

  first_shorter : (E : Element) (C : Elements) → length (swept (only E)) ≤ length (encode_elements (only E)) → length (swept C) ≤ length (encode_elements C)
      → length (swept (E before C)) ≤ length (encode_elements (E before C))
  first_shorter E C h i =
      omega (arith, h, i, ap length (swept_first E C), length-append (swept (only E)) (swept C), ap length (spelled_before E C), length-append (encode_elements (only E)) (encode_elements C))

  pub swept_shorter : (A : Elements) → length (swept A) ≤ length (encode_elements A)
  unfolding sweep_by ◌before◌
  swept_shorter empty = omega arith
  swept_shorter (ambient_then u a A C) = first_shorter (ambient_element u a A) C (ambient_shorter u a A (swept_shorter A)) (swept_shorter C)
  swept_shorter (process_then P C) = first_shorter (process_element P) C (omega arith) (swept_shorter C)
  swept_shorter (blocked_then α P C) = first_shorter (blocked_element α P) C (omega arith) (swept_shorter C)

-- The name of an ambient, as the code reads it
called_name : (a : Reference) (n : ℕ) → ReferenceScoped name_limit 0 a → n ≡ reference_number a → a ≡ name n
unfolding ReferenceScoped reference_number
called_name (name m) n h e = ap name (sym e)
called_name (variable i) n h e = absurd (omega arith)

pub called_is : (s : List ℕ) (u : Status) (a : Reference) (A : Elements) → Spells s (only (ambient_element u a A)) → a ≡ name (word_at s 3)
unfolding SpellableElements encode_elements ◌before◌
called_is s u a A p = called_name a (word_at s 3) p.spellable.0 (ap (λ (l : List ℕ). word_at l 3) p.spelled ∙ ambient_number (ambient_tag u) a (encode_elements A) [])

pub tag_is : (s : List ℕ) (u : Status) (a : Reference) (A : Elements) → Spells s (only (ambient_element u a A)) → get_or s 0 0 ≡ ambient_tag u
unfolding encode_elements ◌before◌ field
tag_is s u a A p = ap (λ (l : List ℕ). get_or l 0 0) p.spelled

-- an ambient of which the code knows how much is left of its contents
pub element_width : (t : Reference → Bool) (s : List ℕ) (E : Element) → Spells s (only E) → (v : Ambient E) (n number r : ℕ) → n ≡ length (swept t v.contents) → number ≡ word_at s 3
    → r ≡ width_left (t (name number)) n → r ≡ length (swept t (only E))
element_width t s E q v n number r e k w =
    let a = called_is s v.status v.called v.contents (ambient_spelled s E v q) ∙ ap name (sym k) in
    w ∙ ap (λ (b : Reference). width_left (t b) n) (sym a) ∙ ap (width_left (t v.called)) e ∙ sym (swept_width t v.status v.called v.contents) ∙ ap (λ (D : Element). length (swept t (only D))) (sym v.is)

-- The writing of an ambient

pub width_is : (b : Bool) (n : ℕ) → (width_left b n ≡ 0 → ⊥) → width_left b n ≡ 5 + n
unfolding width_left
width_is true zero h = absurd (h refl)
width_is true (suc n) h = refl
width_is false n h = refl

-- there is room for the contents behind that for the header and the name, or they are nothing
pub room_inside : (b : Bool) (n front room : ℕ) → width_left b n ≤ room → front ≡ min room 5 → n ≤ room - front
unfolding width_left
room_inside true zero front room h f = omega arith
room_inside true (suc n) front room h f = omega arith
room_inside false n front room h f = omega arith

-- nothing was written to a part that was lent
nothing_put : (k : ℕ) (out last : List ℕ) {new : List ℕ} {n : ℕ} → Left new (from out k) last n → length new ≡ 0 → put_mid k (length out - k) out last ≡ out
nothing_put k out last {new} l e =
    back k out last ∙ ap (λ (x : List ℕ). take k out ++ x) (l.written ∙ none new e ∙ part_all k out) ∙ take-append-drop k out
  where
    none : (new : List ℕ) → length new ≡ 0 → new ++ drop (length new) (from out k) ≡ from out k
    none [] e = refl
    none (x ∷ new) e = absurd (omega arith)

pub left_counts : {new old last : List ℕ} {n m : ℕ} → m ≡ n → Left new old last n → Left new old last m
left_counts e l = record { written = l.written; count = e ∙ l.count }

module _ (t : Reference → Bool) (s : List ℕ) (E : Element) (q : Spells s (only E)) (v : Ambient E) where
  abbrev called_spelled : Spells s (only (ambient_element v.status v.called v.contents))
  called_spelled = ambient_spelled s E v q

  gone_or_kept : t (name (word_at s 3)) ≡ t v.called
  gone_or_kept = ap t (sym (called_is s v.status v.called v.contents called_spelled))

  swept_as : {B : Elements} → unless_cleared (t v.called) v.status v.called (sweep_by t v.contents) empty ≡ B → encode_elements B ≡ swept t (only E)
  swept_as e = ap encode_elements (sym (ap (λ (D : Element). sweep_by t (only D)) v.is ∙ swept_ambient t v.status v.called v.contents ∙ e))

  pub ambient_swept : (front n r : ℕ) (out last final : List ℕ) → front ≡ min (length out) 5 → width_left (t (name (word_at s 3))) n ≤ length out
      → Left (swept t v.contents) (from out front) last n
      → AmbientKept s n (width_left (t (name (word_at s 3))) n) (put_mid front (length out - front) out last) final r
      → Left (swept t (only E)) out final r
  ambient_swept front n r out last final f room l k = go (left_cases (t v.called) v.status v.called (sweep_by t v.contents))
    where
      width : width_left (t (name (word_at s 3))) n ≡ width_left (t v.called) (length (swept t v.contents))
      width = ap (λ (b : Bool). width_left b n) gone_or_kept ∙ ap (width_left (t v.called)) l.count

      go : KeptWith (t v.called) v.status v.called (sweep_by t v.contents) ⊎ Gone (t v.called) v.status v.called (sweep_by t v.contents) → Left (swept t (only E)) out final r
      go (inl w) =
          let five : width_left (t (name (word_at s 3))) n ≡ 5 + n = width ∙ w.wide ∙ ap (λ (m : ℕ). 5 + m) (sym l.count) in
          let long : 5 ≤ length out = omega (arith, five, room) in
          let e : front ≡ 5 = omega (arith, f, long) in
          let written = k.headed (λ z. omega (arith, five, z)) ∙ ap (λ (tag : ℕ). ((tag ∷ word (2 + n)) ++ take 2 (drop 3 s)) ++ drop 5 (put_mid front (length out - front) out last)) (tag_is s v.status v.called v.contents called_spelled) in
          left_counts (k.counts ∙ five)
          (left_is (swept_as w.is)
          (ambient_left s v.status v.called v.contents called_spelled v.status (sweep_by t v.contents) out last final n long
          (subst (λ (m : ℕ). Left (swept t v.contents) (from out m) last n) e l)
          (written ∙ ap (λ (m : ℕ). ((ambient_tag v.status ∷ word (2 + n)) ++ take 2 (drop 3 s)) ++ drop 5 (put_mid m (length out - m) out last)) e)))
      go (inr w) =
          let zero-wide = width ∙ w.wide in
          let same = k.gone zero-wide ∙ nothing_put front out last l w.none in
          left_is (nothing_spelled ∙ swept_as w.is) record { written = same; count = k.counts ∙ zero-wide }

-- Along a list, whose first element is followed by others
pub swept_first_of : (t : Reference → Bool) {A : Elements} {x u : List ℕ} (w : BeginsWith A x u) → swept t A ≡ swept t (only w.element) ++ swept t w.others
swept_first_of t w = ap (swept t) w.is ∙ swept_first t w.element w.others

pub swept_none : (t : Reference → Bool) → swept t empty ≡ []
unfolding sweep_by encode_elements
swept_none t = refl

-- an ambient is spelled in five bytes or more
pub element_longer : (s : List ℕ) (E : Element) → Spells s (only E) → get_or s 0 0 < 0x42 → 5 ≤ length s
element_longer s E q l = let v = as_ambient s E q l in omega (arith, (enclosed s v.status v.called v.contents (ambient_spelled s E v q)).long)
