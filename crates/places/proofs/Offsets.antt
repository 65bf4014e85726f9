-- Offsets of elements in bytes: how they add up, that they differ, and what the bytes from an element's offset on spell.
use mathlib.Core.Path.{◌≡◌, refl, sym, ap, ◌∙◌}
use mathlib.Core.List.{List, ◌++◌}
use mathlib.Core.Logic.{◌⊎◌, inl, inr}
use Rattle.std.specs.Prelude.{Some, None}
use mathlib.Core.Option.{Option, none, some}
use Prim.Native.Nat.{ℕ, suc, ◌+◌, ◌-◌, ◌≤◌, ◌<◌}
use native.Mathlib.Nat.{zero-add}
use native.Mathlib.Omega.{arith}
use lib.ListN.{length, drop, get_or}
use lib.Seq.{drop-append-le, drop-append-add, drop-drop}
use Rattle.calculus.specs.Processes.{Reference, name, variable}
use Rattle.machine.specs.Elements.{Status, Elements, empty, ambient_then, process_then, blocked_then, Element, ambient_element, process_element, blocked_element, ◌before◌, ◌then◌, only, Position, here, later, inside, into, Has, first, further, Both, first_left, first_right, further_both, element_at}
use Rattle.machine.specs.Positions.{position}
use Rattle.machine.specs.Validity.{Graded}
use Rattle.machine.proofs.Lists.{before_then}
use Rattle.machine.proofs.Elementwise.{then_all}
use Rattle.machine.proofs.Graded.{graded_elementwise, contents_graded}
use Rattle.machine.proofs.Meeting.{both_left, both_right}
use Rattle.machine.specs.Questions.{total, Lawful, numbered}
use Rattle.machine.proofs.search.Numbers.{numbered_here, numbered_later}
use Rattle.machine.proofs.Places.{At, at_start, at_later, at_inside, element_at_at, position_found, has_element_at}
use Rattle.buffers.specs.Words.{word, field}
use Rattle.format.specs.Spelling.{encode_reference}
use Rattle.format.specs.Reading.{word_at}
use Rattle.elements.specs.Spelling.{encode_elements, SpellableElements}
use Rattle.elements.specs.Spelled.{Spells, SpelledList}
use Rattle.buffers.proofs.Parts.{part_all, from, some_left}
use Rattle.elements.proofs.Spellable.{spellable_then, spellable_before}
use Rattle.elements.proofs.Searching.{spelled_then, listed, tree_spelled, part_short}
use Rattle.elements.proofs.Views.{first as first-element, as_process}
use Rattle.places.specs.declared.Spot.{Spot}
use Rattle.places.specs.Offsets.{width, by_bytes, offset, offset_of, place_offset, spot_from, spot_of, Standing}
pub use Rattle.places.proofs.Widths.{width_ambient, width_least, spelled_before, length_before, length_ambient}
use Rattle.places.proofs.Widths.{bytes, bytes_empty}

-- The numbering by bytes

total_bytes : (L : Elements) → total by_bytes L ≡ bytes L
unfolding total ◌before◌
total_bytes empty = sym bytes_empty
total_bytes (ambient_then s a A C) = omega (arith, total_bytes C, length_before (ambient_element s a A) C)
total_bytes (process_then P C) = omega (arith, total_bytes C, length_before (process_element P) C)
total_bytes (blocked_then α P C) = omega (arith, total_bytes C, length_before (blocked_element α P) C)

pub bytes_number : Lawful by_bytes
bytes_number = record {
  positive = λ E. omega (arith, width_least E);
  deepens = omega arith;
  encloses = λ s a A. omega (arith, total_bytes A, width_ambient s a A);
}

-- Offsets

pub offset_here : (o : ℕ) (E : Element) (C : Elements) → offset o (E before C) here ≡ o
offset_here o E C = numbered_here by_bytes o E C

pub offset_later : (o : ℕ) (D : Element) (C : Elements) (π : Position) → offset o (D before C) (later π) ≡ offset (o + width D) C π
offset_later o D C π = numbered_later by_bytes o D C π

pub offset_inside : (o : ℕ) (s : Status) (a : Reference) (A C : Elements) (π : Position) → offset o (ambient_then s a A C) (inside π) ≡ offset (o + 5) A π
unfolding numbered
offset_inside o s a A C π = refl

pub offset_shift : {E : Element} {π : Position} {L : Elements} (o : ℕ) → At E π L → offset o L π ≡ o + offset 0 L π
unfolding ◌before◌
offset_shift {E = E} o (at_start C) = omega (arith, offset_here o E C, offset_here 0 E C)
offset_shift o (at_later D {C = C} {π = π} h) = omega (arith, offset_later o D C π, offset_later 0 D C π, offset_shift (o + width D) h, offset_shift (0 + width D) h)
offset_shift o (at_inside s a {A = A} C {π = π} h) = omega (arith, offset_inside o s a A C π, offset_inside 0 s a A C π, offset_shift (o + 5) h, offset_shift (0 + 5) h)

-- an element ends within its list
pub offset_within : {E : Element} {π : Position} {L : Elements} (o : ℕ) → At E π L → offset o L π + width E ≤ o + length (encode_elements L)
unfolding ◌before◌
offset_within {E = E} o (at_start C) = omega (arith, offset_here o E C, length_before E C)
offset_within o (at_later D {C = C} {π = π} h) = omega (arith, offset_later o D C π, offset_within (o + width D) h, length_before D C)
offset_within {E = E} o (at_inside s a {A = A} C {π = π} h) =
    omega (arith, offset_inside o s a A C π, offset_within (o + 5) h, length_ambient s a A C)

-- Where an element of a list stands in the bytes of the list

abbrev pub Within : ℕ → Elements → ℕ → ℕ → Type 0
Within o L m w = (o ≤ m) × (m + w ≤ o + bytes L)

pub element_at_within : (o : ℕ) (L : Elements) (π : Position) (E : Element) → element_at L π ≡ some E → Within o L (offset o L π) (width E)
element_at_within o L π E e = let g = element_at_at L π E e in (omega (arith, offset_shift o g), offset_within o g)

pub has_within : (o : ℕ) {E : Element} {p : Position} {L : Elements} → Has E p L → Within o L (offset o L p) (width E)
has_within o {E} {p} {L} h = element_at_within o L p E (has_element_at h)

-- what an ambient at c holds stands behind its header
pub held_within : (c : ℕ) (u : Status) (a : Reference) {E : Element} {i : Position} {A : Elements} → Has E i A →
    (c + 5 ≤ offset (c + 5) A i) × (offset (c + 5) A i < c + width (ambient_element u a A)) × (c + width (ambient_element u a A) ≡ c + 5 + bytes A)
held_within c u a {E} {i} {A} h =
    let w = width_ambient u a A in
    let p = width_least E in
    let m = has_within (c + 5) h in
    (omega arith, omega arith, omega arith)

pub both_within : (o : ℕ) {E D : Element} {p q : Position} {L : Elements} → Both E D p q L → Within o L (offset o L p) (width E) × Within o L (offset o L q) (width D)
both_within o b = (has_within o (both_left b), has_within o (both_right b))

-- Two separate elements of a list stand one behind the other.
pub separate : {E : Element} {D : Element} (o : ℕ) {p q : Position} {L : Elements} → Both E D p q L →
    (offset o L p + width E ≤ offset o L q) ⊎ (offset o L q + width D ≤ offset o L p)
separate {E} o (first_left {C = C} {q = q} h) =
    let w = has_within (o + width E) h in
    inl (omega (arith, offset_here o E C, offset_later o E C q))
separate {D = D} o (first_right {C = C} {p = p} h) =
    let w = has_within (o + width D) h in
    inr (omega (arith, offset_here o D C, offset_later o D C p))
separate o (further_both H {C = C} {p = p} {q = q} b) = rw (offset_later o H C p, offset_later o H C q) (separate (o + width H) b)

-- In an ambient at any depth

into_offset : {u : Status} {a : Reference} {A L : Elements} {κ : Position} (o : ℕ) (i : Position) → At (ambient_element u a A) κ L → offset o L (into κ i) ≡ offset (offset o L κ + 5) A i
unfolding into numbered ◌before◌
into_offset o i (at_start C) = refl
into_offset {A = A} o i (at_later D {C = C} {π = κ} h) =
    offset_later o D C (into κ i) ∙ into_offset (o + width D) i h ∙ ap (λ (k : ℕ). offset (k + 5) A i) (sym (offset_later o D C κ))
into_offset o i (at_inside s b C h) = into_offset (o + 5) i h

pub offset_inward : (o : ℕ) (L : Elements) (κ : Position) {u : Status} {a : Reference} {A : Elements} (i : Position) → element_at L κ ≡ some (ambient_element u a A)
    → offset o L (into κ i) ≡ offset (offset o L κ + 5) A i
offset_inward o L κ i e = into_offset o i (element_at_at L κ _ e)

-- Spots

pub spot_later : (w r l o : ℕ) (D : Element) (C : Elements) (π : Position) → spot_from w r l o (D before C) (later π) ≡ spot_from w r l (o + width D) C π
unfolding spot_from ◌before◌
spot_later w r l o (ambient_element s a A) C π = refl
spot_later w r l o (process_element P) C π = refl
spot_later w r l o (blocked_element α P) C π = refl

pub spot_here : (w r l o : ℕ) (E : Element) (C : Elements) → spot_from w r l o (E before C) here ≡ record { at = o; within = w; around = r; level = l }
unfolding spot_from ◌before◌
spot_here w r l o (ambient_element s a A) C = refl
spot_here w r l o (process_element P) C = refl
spot_here w r l o (blocked_element α P) C = refl

pub spot_inside : (w r l o : ℕ) (s : Status) (a : Reference) (A C : Elements) (π : Position) → spot_from w r l o (ambient_then s a A C) (inside π) ≡ spot_from o w (suc l) (o + 5) A π
unfolding spot_from
spot_inside w r l o s a A C π = refl

pub spot_at : {E : Element} {π : Position} {L : Elements} (w r l o : ℕ) → At E π L → (spot_from w r l o L π).at ≡ offset o L π
unfolding spot_from numbered ◌before◌
spot_at {E = E} w r l o (at_start C) = ap (λ (t : Spot). t.at) (spot_here w r l o E C) ∙ sym (offset_here o E C)
spot_at w r l o (at_later D {C = C} {π = π} h) = ap (λ (t : Spot). t.at) (spot_later w r l o D C π) ∙ spot_at w r l (o + width D) h ∙ sym (offset_later o D C π)
spot_at w r l o (at_inside s a C h) = spot_at o w (suc l) (o + 5) h

-- the ambient around an element stands in front of it
pub spot_within : {E : Element} {π : Position} {L : Elements} (w r l o : ℕ) → w ≤ o → At E π L → (spot_from w r l o L π).within ≤ offset o L π
unfolding spot_from numbered ◌before◌
spot_within {E = E} w r l o h (at_start C) = omega (arith, h, ap (λ (t : Spot). t.within) (spot_here w r l o E C), offset_here o E C)
spot_within w r l o h (at_later D {C = C} {π = π} g) =
    let k : w ≤ o + width D = omega arith in
    omega (arith, ap (λ (t : Spot). t.within) (spot_later w r l o D C π), offset_later o D C π, spot_within w r l (o + width D) k g)
spot_within w r l o h (at_inside s a C g) = let k : o ≤ o + 5 = omega arith in spot_within o w (suc l) (o + 5) k g

pub spot_offset : (L : Elements) (π : Position) (E : Element) {t : Spot} → element_at L π ≡ some E → t ≡ spot_of L π → t.at ≡ offset 0 L π
unfolding spot_of
spot_offset L π E e z = ap (λ (t : Spot). t.at) z ∙ spot_at 0 0 0 0 (element_at_at L π E e)

-- the spot of a position in the contents of the ambient of a spot
abbrev pub inward : Spot → Elements → Position → Spot
inward t A i = spot_from t.at t.within (suc t.level) (t.at + 5) A i

pub into_spot : {u : Status} {a : Reference} {A L : Elements} {κ : Position} (w r l o : ℕ) (i : Position) → At (ambient_element u a A) κ L
    → spot_from w r l o L (into κ i) ≡ inward (spot_from w r l o L κ) A i
unfolding into spot_from ◌before◌
into_spot w r l o i (at_start C) = refl
into_spot {A = A} w r l o i (at_later D {C = C} {π = κ} h) =
    spot_later w r l o D C (into κ i) ∙ into_spot w r l (o + width D) i h ∙ ap (λ (t : Spot). inward t A i) (sym (spot_later w r l o D C κ))
into_spot w r l o i (at_inside s b C h) = into_spot o w (suc l) (o + 5) i h

pub has_spot : {E : Element} {p : Position} {L : Elements} (w r l o : ℕ) → Has E p L → spot_from w r l o L p ≡ record { at = offset o L p; within = w; around = r; level = l }
has_spot {E = E} w r l o (first C) = spot_here w r l o E C ∙ ap (λ (k : ℕ). record { at = k; within = w; around = r; level = l }) (sym (offset_here o E C))
has_spot w r l o (further D {C = C} {p = p} h) =
    spot_later w r l o D C p ∙ has_spot w r l (o + width D) h ∙ ap (λ (k : ℕ). record { at = k; within = w; around = r; level = l }) (sym (offset_later o D C p))

-- how many ambients are around an element
spot_level : {E : Element} {π : Position} {L : Elements} (w r l o : ℕ) → At E π L → (spot_from w r l o L π).level ≡ l + (spot_of L π).level
unfolding spot_from spot_of ◌before◌
spot_level {E = E} w r l o (at_start C) = omega (arith, ap (λ (t : Spot). t.level) (spot_here w r l o E C), ap (λ (t : Spot). t.level) (spot_here 0 0 0 0 E C))
spot_level w r l o (at_later D {C = C} {π = π} h) =
    omega (
      arith,
      ap (λ (t : Spot). t.level) (spot_later w r l o D C π),
      ap (λ (t : Spot). t.level) (spot_later 0 0 0 0 D C π),
      spot_level w r l (o + width D) h,
      spot_level 0 0 0 (0 + width D) h,
    )
spot_level w r l o (at_inside s a C h) = omega (arith, spot_level o w (suc l) (o + 5) h, spot_level 0 0 1 (0 + 5) h)

pub level_direct : {E : Element} {p : Position} {L : Elements} → Has E p L → (spot_of L p).level ≡ 0
unfolding spot_of
level_direct h = ap (λ (t : Spot). t.level) (has_spot 0 0 0 0 h)

pub level_into : {u : Status} {a : Reference} {A L : Elements} {p : Position} {E : Element} (π : Position) → Has (ambient_element u a A) p L → element_at A π ≡ some E →
    (spot_of L (into p π)).level ≡ suc (spot_of A π).level
unfolding spot_of
level_into {A = A} {L = L} {p = p} π h e =
    let t = spot_from 0 0 0 0 L p in
    omega (
      arith,
      ap (λ (t : Spot). t.level) (into_spot 0 0 0 0 π (element_at_at L p _ (has_element_at h))),
      spot_level t.at t.within (suc t.level) (t.at + 5) (element_at_at A π _ e),
      level_direct h,
    )

-- What the bytes from an element's offset on spell: the element, and what is behind it in the order of tags

unfoldable pub behind : Elements → Position → Elements
behind empty π = empty
behind (ambient_then s a A C) here = C
behind (ambient_then s a A C) (later π) = behind C π
behind (ambient_then s a A C) (inside π) = behind A π then C
behind (process_then P C) here = C
behind (process_then P C) (later π) = behind C π
behind (process_then P C) (inside π) = empty
behind (blocked_then α P C) here = C
behind (blocked_then α P C) (later π) = behind C π
behind (blocked_then α P C) (inside π) = empty

behind_here : (E : Element) (C : Elements) → behind (E before C) here ≡ C
unfolding behind ◌before◌
behind_here (ambient_element s a A) C = refl
behind_here (process_element P) C = refl
behind_here (blocked_element α P) C = refl

behind_later : (D : Element) (C : Elements) (π : Position) → behind (D before C) (later π) ≡ behind C π
unfolding behind ◌before◌
behind_later (ambient_element s a A) C π = refl
behind_later (process_element P) C π = refl
behind_later (blocked_element α P) C π = refl

-- behind the header and the name of an ambient
pub drop_header : (s : Status) (a : Reference) (A C : Elements) → drop 5 (encode_elements (ambient_then s a A C)) ≡ encode_elements A ++ encode_elements C
unfolding encode_elements field word encode_reference
drop_header s (name n) A C = refl
drop_header s (variable i) A C = refl

pub flattened : {E : Element} {π : Position} {L : Elements} → At E π L → drop (offset 0 L π) (encode_elements L) ≡ encode_elements (E before behind L π)
unfolding numbered behind width ◌before◌
flattened {E = E} (at_start C) = ap (λ (k : ℕ). drop k (encode_elements (E before C))) (offset_here 0 E C) ∙ ap (λ (R : Elements). encode_elements (E before R)) (sym (behind_here E C))
flattened {E = E} (at_later D {C = C} {π = π} h) =
    let k : offset 0 (D before C) (later π) ≡ length (encode_elements (only D)) + offset 0 C π = offset_later 0 D C π ∙ offset_shift (0 + width D) h ∙ ap (λ (k : ℕ). k + offset 0 C π) (zero-add (width D)) in
    ap (λ (k : ℕ). drop k (encode_elements (D before C))) k
    ∙ ap (drop (length (encode_elements (only D)) + offset 0 C π)) (spelled_before D C)
    ∙ drop-append-add (encode_elements (only D)) (encode_elements C) (offset 0 C π)
    ∙ flattened h
    ∙ ap (λ (R : Elements). encode_elements (E before R)) (sym (behind_later D C π))
flattened {E = E} (at_inside s a {A = A} C {π = π} h) =
    ap (λ (k : ℕ). drop k (encode_elements (ambient_then s a A C))) (offset_shift (0 + 5) h)
    ∙ sym (drop-drop (offset 0 A π) (0 + 5) (encode_elements (ambient_then s a A C)))
    ∙ ap (drop (offset 0 A π)) (drop_header s a A C)
    ∙ drop-append-le (offset 0 A π) (encode_elements A) (encode_elements C) (omega (arith, offset_within 0 h))
    ∙ ap (λ (l : List ℕ). l ++ encode_elements C) (flattened h)
    ∙ sym (spelled_then (E before behind A π) C)
    ∙ ap encode_elements (before_then E (behind A π) C)

pub flattened_spellable : {E : Element} {π : Position} {L : Elements} → At E π L → SpellableElements L → SpellableElements (E before behind L π)
unfolding SpellableElements behind ◌before◌
flattened_spellable {E = E} (at_start C) g = rw (behind_here E C) g
flattened_spellable (at_later D {C = C} {π = π} h) g = rw (behind_later D C π) (flattened_spellable h (spellable_before D C g).1)
flattened_spellable {E = E} (at_inside s a {A = A} C {π = π} h) g =
    rw (sym (before_then E (behind A π) C)) (spellable_then (E before behind A π) C (flattened_spellable h g.1) g.2)

pub flattened_graded : {E : Element} {π : Position} {L : Elements} → At E π L → Graded L → Graded (E before behind L π)
unfolding behind ◌before◌
flattened_graded {E = E} (at_start C) g = rw (behind_here E C) g
flattened_graded (at_later D {C = C} {π = π} h) g = rw (behind_later D C π) (flattened_graded h (graded_elementwise.split D C g).1)
flattened_graded {E = E} (at_inside s a {A = A} C {π = π} h) g =
    let t = graded_elementwise.split (ambient_element s a A) C (unfold ◌before◌ in g) in
    rw (sym (before_then E (behind A π) C)) (then_all graded_elementwise (E before behind A π) C (flattened_graded h (contents_graded s a A t.0)) t.1)

-- Bytes with an element at an offset

module _ {s : List ℕ} (L : Elements) (π : Position) (E : Element) {at : ℕ} (e : element_at L π ≡ some E) (o : offset 0 L π ≡ at) where
  pub offset_below : s ≡ encode_elements L → at < length s
  offset_below q = omega (arith, ap length q, offset_within 0 (element_at_at L π E e), width_least E)

  pub spelled_from : s ≡ encode_elements L → from s at ≡ encode_elements (E before behind L π)
  spelled_from q = part_all at s ∙ ap (drop at) q ∙ ap (λ (k : ℕ). drop k (encode_elements L)) (sym o) ∙ flattened (element_at_at L π E e)

  pub spells_from : Spells s L → Spells (from s at) (E before behind L π)
  spells_from p = record {
    spelled = spelled_from p.spelled;
    spellable = flattened_spellable (element_at_at L π E e) p.spellable;
  }

module _ {s : List ℕ} {at : ℕ} (t : Standing s at) where
  pub standing_below : at < length s
  standing_below = offset_below t.list.tree t.position t.element t.stands t.there t.list.spelled

  abbrev pub standing_list : SpelledList (from s at)
  standing_list = listed (spells_from t.list.tree t.position t.element t.stands t.there (tree_spelled t.list)) (part_short t.list (length s - at) at)

  pub standing_some : 0 < length (from s at)
  standing_some = some_left s at standing_below

  -- a process has a header of its own behind that of its element
  pub process_long : get_or (from s at) 0 0 ≡ 0x42 → 3 < length (from s at)
  process_long p =
      let l = standing_list in
      let n = word_at (from s at) 1 in
      omega (arith, (as_process l.tree (from s at) n l.spelled refl standing_some p).long, (first-element l.tree (from s at) n l.spelled refl standing_some).within)

-- The element that a place's offset is of

pub place_found : (L : Elements) (p at : ℕ) → place_offset L p ≡ Some at → (π : Position) × (E : Element) × (position L p ≡ some π) × (element_at L π ≡ some E) × (offset 0 L π ≡ at)
unfolding place_offset offset_of
place_found L p at e = go (position L p) refl e
  where
    go : (m : Option Position) → position L p ≡ m → offset_of 0 L m ≡ Some at → (π : Position) × (E : Element) × (position L p ≡ some π) × (element_at L π ≡ some E) × (offset 0 L π ≡ at)
    go none q f = absurd (let z : ◌≡◌ {A = ℕ} 0 1 = cc in omega arith)
    go (some π) q f = let t = (position_found L p π q).1 in (π, t.0, q, t.1, cc)

pub place_missing : (L : Elements) (p : ℕ) → place_offset L p ≡ None → position L p ≡ none
unfolding place_offset offset_of
place_missing L p e = go (position L p) refl e
  where
    go : (m : Option Position) → position L p ≡ m → offset_of 0 L m ≡ None → position L p ≡ none
    go none q f = q
    go (some π) q f = absurd (let z : ◌≡◌ {A = ℕ} 0 1 = cc in omega arith)
