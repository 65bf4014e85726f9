-- A walk along the elements that a slice spells, in the order of tags: how it goes on from each to the next, and to an offset.
use mathlib.Core.Path.{◌≡◌, refl, sym, ap, ◌∙◌}
use mathlib.Core.Bool.{Bool, true, false}
use mathlib.Core.List.{List, [], ◌∷◌, ◌++◌, append_assoc}
use Rattle.std.specs.Prelude.{Some, slice_get}
use mathlib.Core.Option.{Option, none, some}
use Prim.Native.Nat.{ℕ, zero, suc, ◌+◌, ◌-◌, ◌≤◌, ◌<◌}
use native.Mathlib.Nat.{add-zero}
use native.Mathlib.Omega.{arith}
use borrow.Author.Tests.{ltb-true, ltb-false}
use lib.Dec.{ltb}
use lib.ListN.{length, drop, get_or, length-append}
use lib.Seq.{drop_at}
use Rattle.machine.specs.Elements.{Status, unblocked, blocked, Elements, empty, ambient_then, process_then, blocked_then, Element, ambient_element, process_element, blocked_element, ◌before◌, ◌then◌, only, Position, here, later, inside, size, element_at}
use Rattle.machine.specs.Questions.{numbered}
use Rattle.machine.specs.Positions.{locate, position}
use Rattle.machine.proofs.Lists.{before_then}
use Rattle.buffers.specs.Words.{field}
use Rattle.format.specs.Reading.{word_at}
use Rattle.elements.specs.Spelling.{ambient_tag, encode_elements, SpellableElements}
use Rattle.elements.proofs.Views.{Ambient, first_whole, spells_none}
use Rattle.buffers.proofs.Parts.{part_all, part_part, length_part, from, some_left}
use Rattle.elements.proofs.Spellable.{spellable_then}
use Rattle.elements.proofs.Searching.{spelled_then}
use Rattle.places.specs.declared.Spot.{Spot}
use denote.Ref.{Bor}
use Rattle.places.specs.Places.{PlaceAt}
use Rattle.places.specs.Offsets.{width, stride_of, following, offset, offset_of, spot_from, spot_of}
use Rattle.places.proofs.Widths.{width_ambient, width_least, spelled_before, length_before, first_width}
use Rattle.machine.proofs.Places.{At, at_start, at_later, at_inside, element_at_at}
use Rattle.places.proofs.Offsets.{offset_here, offset_later, offset_inside, offset_shift, offset_within, drop_header, spot_here, spot_later, spot_inside}

-- Strides

pub stride_inward : {s : List ℕ} {A : Elements} {n : ℕ} → Ambient s A n → 5 ≡ stride_of A
unfolding stride_of
stride_inward v = sym (ap stride_of v.is)

pub stride_past : (A : Elements) (s : List ℕ) (n : ℕ) → s ≡ encode_elements A → n ≡ word_at s 1 → 0 < length s → (get_or s 0 0 < 0x42 → ⊥) → 3 + n ≡ stride_of A
unfolding stride_of ◌before◌
stride_past empty s n e k h t = absurd (let z : length s ≡ 0 = unfold encode_elements in ap length e in omega arith)
stride_past (ambient_then u a A C) s n e k h t = absurd (t (let z : get_or s 0 0 ≡ ambient_tag u = unfold encode_elements field in ap (λ (l : List ℕ). get_or l 0 0) e in low u z))
  where
    low : (u : Status) → get_or s 0 0 ≡ ambient_tag u → get_or s 0 0 < 0x42
    low unblocked z = unfold ambient_tag in omega arith
    low blocked z = unfold ambient_tag in omega arith
stride_past (process_then P C) s n e k h t = first_width (process_element P) C s n e k
stride_past (blocked_then α P C) s n e k h t = first_width (blocked_element α P) C s n e k

-- The elements from the next one on

drop_first : (E : Element) (C : Elements) → drop (width E) (encode_elements (E before C)) ≡ encode_elements C
unfolding width
drop_first E C = ap (drop (width E)) (spelled_before E C) ∙ drop_at (encode_elements (only E)) (encode_elements C) (width E) refl

pub following_spelled : (R : Elements) → drop (stride_of R) (encode_elements R) ≡ encode_elements (following R)
unfolding stride_of following ◌before◌
following_spelled empty = refl
following_spelled (ambient_then s a A C) = drop_header s a A C ∙ sym (spelled_then A C)
following_spelled (process_then P C) = drop_first (process_element P) C
following_spelled (blocked_then α P C) = drop_first (blocked_element α P) C

pub following_spellable : (R : Elements) → SpellableElements R → SpellableElements (following R)
unfolding SpellableElements following
following_spellable empty h = h
following_spellable (ambient_then s a A C) h = spellable_then A C h.1 h.2
following_spellable (process_then P C) h = h.1
following_spellable (blocked_then α P C) h = h.2

pub stride_within : (R : Elements) → 0 < length (encode_elements R) → (0 < stride_of R) × (stride_of R ≤ length (encode_elements R))
unfolding stride_of ◌before◌
stride_within empty h = absurd (unfold encode_elements in omega arith)
stride_within (ambient_then s a A C) h = (omega arith, omega (arith, length_before (ambient_element s a A) C, width_ambient s a A))
stride_within (process_then P C) h = (omega (arith, width_least (process_element P)), omega (arith, length_before (process_element P) C))
stride_within (blocked_then α P C) h = (omega (arith, width_least (blocked_element α P)), omega (arith, length_before (blocked_element α P) C))

-- What is left on the way

-- At an offset of s, which spells A: the elements that are left in the order of tags.
pub record Remaining (s : List ℕ) (at : ℕ) (A : Elements) : Type 0 where
  pub rest : Elements
  pub left : from s at ≡ encode_elements rest
  pub spellable : SpellableElements A → SpellableElements rest

abbrev pub remaining_all : (s : List ℕ) (A : Elements) → s ≡ encode_elements A → Remaining s 0 A
remaining_all s A e = record { rest = A; left = part_all 0 s ∙ e; spellable = λ h. h }

module _ {s : List ℕ} {at : ℕ} {A : Elements} (g : Remaining s at A) where
  pub remaining_none : length s ≤ at → g.rest ≡ empty
  remaining_none h = spells_none g.rest (from s at) g.left (omega (arith, length_part at s))

  pub remaining_some : at < length s → 0 < length (encode_elements g.rest)
  remaining_some h = omega (arith, some_left s at h, ap length g.left)

  module _ (next : ℕ) (e : next ≡ at + stride_of g.rest) where
    abbrev pub remaining_next : Remaining s next A
    remaining_next = record {
      rest = following g.rest;
      left = ap (from s) e ∙ part_part at (stride_of g.rest) s ∙ part_all (stride_of g.rest) (from s at) ∙ ap (drop (stride_of g.rest)) g.left ∙ following_spelled g.rest;
      spellable = λ h. following_spellable g.rest (g.spellable h);
    }

    -- the next element starts behind this one and within the bytes
    pub next_within : at < length s → (at < next) × (next ≤ length s)
    next_within h = let w = stride_within g.rest (remaining_some h) in (omega (arith, e, w.0), omega (arith, e, w.1, ap length g.left, length_part at s))

  -- behind an element that is given
  module _ {x : ℕ × Bor (List ℕ)} {t : List ℕ} {next : ℕ} (p : PlaceAt s at x t next) where
    pub further : next ≡ at + stride_of g.rest
    further = p.goes g.rest g.left

    pub spelled_here : x.1.now ≡ encode_elements g.rest
    spelled_here = p.rest ∙ g.left

    abbrev pub remaining_on : Remaining t next A
    remaining_on = record {
      rest = following g.rest;
      left = ap (λ (l : List ℕ). from l next) p.same ∙ (remaining_next next further).left;
      spellable = λ h. following_spellable g.rest (g.spellable h);
    }

-- The offsets of all elements in the order of tags

unfoldable pub offsets : ℕ → Elements → List ℕ
offsets o empty = []
offsets o (ambient_then s a A C) = o ∷ offsets (o + 5) A ++ offsets (o + width (ambient_element s a A)) C
offsets o (process_then P C) = o ∷ offsets (o + width (process_element P)) C
offsets o (blocked_then α P C) = o ∷ offsets (o + width (blocked_element α P)) C

offsets_size : (o : ℕ) (L : Elements) → length (offsets o L) ≡ size L
unfolding offsets size
offsets_size o empty = refl
offsets_size o (ambient_then s a A C) =
    let w = o + width (ambient_element s a A) in
    omega (arith, length-append (offsets (o + 5) A) (offsets w C), offsets_size (o + 5) A, offsets_size w C)
offsets_size o (process_then P C) = ap suc (offsets_size (o + width (process_element P)) C)
offsets_size o (blocked_then α P C) = ap suc (offsets_size (o + width (blocked_element α P)) C)

-- behind a first element, D with C behind it
offsets_moved : (o : ℕ) (E : Element) (A C D : Elements) → offsets (o + width E) D ≡ offsets (o + width E) A ++ offsets (o + width E + length (encode_elements A)) C
    → offsets (o + width E) D ≡ offsets (o + width E) A ++ offsets (o + length (encode_elements (E before A))) C
offsets_moved o E A C D e =
    let k : o + width E + length (encode_elements A) ≡ o + length (encode_elements (E before A)) = omega (arith, length_before E A) in
    e ∙ ap (λ (m : ℕ). offsets (o + width E) A ++ offsets m C) k

offsets_then : (o : ℕ) (A C : Elements) → offsets o (A then C) ≡ offsets o A ++ offsets (o + length (encode_elements A)) C
unfolding offsets ◌then◌ ◌before◌
offsets_then o empty C = unfold encode_elements in ap (λ (m : ℕ). offsets m C) (sym (add-zero o))
offsets_then o (ambient_then s a A D) C =
    let E = ambient_element s a A in
    ap (λ (l : List ℕ). o ∷ offsets (o + 5) A ++ l) (offsets_moved o E D C (D then C) (offsets_then (o + width E) D C))
    ∙ ap (λ (l : List ℕ). o ∷ l) (sym (append_assoc (offsets (o + 5) A) (offsets (o + width E) D) (offsets (o + length (encode_elements (E before D))) C)))
offsets_then o (process_then P D) C =
    let E = process_element P in
    ap (λ (l : List ℕ). o ∷ l) (offsets_moved o E D C (D then C) (offsets_then (o + width E) D C))
offsets_then o (blocked_then α P D) C =
    let E = blocked_element α P in
    ap (λ (l : List ℕ). o ∷ l) (offsets_moved o E D C (D then C) (offsets_then (o + width E) D C))

pub offsets_next : (o : ℕ) (R : Elements) → 0 < length (encode_elements R) → offsets o R ≡ o ∷ offsets (o + stride_of R) (following R)
unfolding offsets stride_of following
offsets_next o empty h = absurd (unfold encode_elements in omega arith)
offsets_next o (ambient_then s a A C) h =
    let k : o + width (ambient_element s a A) ≡ o + 5 + length (encode_elements A) = omega (arith, width_ambient s a A) in
    ap (λ (m : ℕ). o ∷ offsets (o + 5) A ++ offsets m C) k ∙ ap (λ (l : List ℕ). o ∷ l) (sym (offsets_then (o + 5) A C))
offsets_next o (process_then P C) h = refl
offsets_next o (blocked_then α P C) h = refl

-- The offset of a place is the one so numbered

counted_left : (xs ys : List ℕ) (p : ℕ) → p < length xs → slice_get (xs ++ ys) p ≡ slice_get xs p
counted_left [] ys p h = absurd (omega arith)
counted_left (x ∷ xs) ys zero h = refl
counted_left (x ∷ xs) ys (suc p) h = counted_left xs ys p (omega arith)

counted_right : (xs ys : List ℕ) (p : ℕ) → length xs ≤ p → slice_get (xs ++ ys) p ≡ slice_get ys (p - length xs)
counted_right [] ys p h = ap (slice_get ys) (omega arith)
counted_right (x ∷ xs) ys zero h = absurd (omega arith)
counted_right (x ∷ xs) ys (suc p) h = counted_right xs ys p (omega arith) ∙ ap (slice_get ys) (omega arith)

-- A first element at o with n places inside: the offsets inside it are xs, those behind it ys.
module _ (o i w : ℕ) (L A C : Elements) (n : ℕ) (inner : ℕ → Option Position) (xs ys : List ℕ)
    (size : n ≡ length xs)
    (first : offset o L here ≡ o)
    (into : (π : Position) → offset o L (inside π) ≡ offset i A π)
    (past : (π : Position) → offset o L (later π) ≡ offset w C π)
    (contents : (p : ℕ) → offset_of i A (inner p) ≡ slice_get xs p)
    (others : (p : ℕ) → offset_of w C (position C p) ≡ slice_get ys p) where
  inward : (p : ℕ) → ltb p n ≡ true → (m : Option Position) → inner p ≡ m → offset_of o L (locate n inner (position C) (suc p)) ≡ offset_of i A m
  unfolding locate offset_of
  inward p t none e = rw (t, locate) (rw e refl)
  inward p t (some π) e = rw (t, locate) (rw e (ap Some (into π)))

  outward : (p : ℕ) → ltb p n ≡ false → (m : Option Position) → position C (p - n) ≡ m → offset_of o L (locate n inner (position C) (suc p)) ≡ offset_of w C m
  unfolding locate offset_of
  outward p t none e = rw (t, locate) (rw e refl)
  outward p t (some π) e = rw (t, locate) (rw e (ap Some (past π)))

  behind_first : (p : ℕ) (b : Bool) → ltb p n ≡ b → offset_of o L (locate n inner (position C) (suc p)) ≡ slice_get (xs ++ ys) p
  behind_first p true t =
      inward p t (inner p) refl
      ∙ contents p
      ∙ sym (counted_left xs ys p (omega (arith, ltb-true p n t, size)))
  behind_first p false t =
      outward p t (position C (p - n)) refl
      ∙ others (p - n)
      ∙ ap (λ (k : ℕ). slice_get ys (p - k)) size
      ∙ sym (counted_right xs ys p (omega (arith, ltb-false p n t, size)))

  counted_first : (p : ℕ) → offset_of o L (locate n inner (position C) p) ≡ slice_get (o ∷ xs ++ ys) p
  counted_first zero = unfold locate offset_of in ap Some first
  counted_first (suc p) = behind_first p (ltb p n) refl

pub found_counted : (o : ℕ) (L : Elements) (p : ℕ) → offset_of o L (position L p) ≡ slice_get (offsets o L) p
unfolding position offsets numbered offset_of
found_counted o empty p = refl
found_counted o (ambient_then s a A C) p =
    let w = o + width (ambient_element s a A) in
    counted_first o (o + 5) w (ambient_then s a A C) A C (size A) (position A) (offsets (o + 5) A) (offsets w C) (sym (offsets_size (o + 5) A)) refl (λ π. refl) (λ π. refl) (found_counted (o + 5) A) (found_counted w C) p
found_counted o (process_then P C) p =
    let w = o + width (process_element P) in
    counted_first o o w (process_then P C) empty C 0 (λ q. none) [] (offsets w C) refl refl (λ π. refl) (λ π. refl) (λ q. refl) (found_counted w C) p
found_counted o (blocked_then α P C) p =
    let w = o + width (blocked_element α P) in
    counted_first o o w (blocked_then α P C) empty C 0 (λ q. none) [] (offsets w C) refl refl (λ π. refl) (λ π. refl) (λ q. refl) (found_counted w C) p

-- What stands in a list stands there when more is behind it, at the same offset and spot

pub stands_followed : {E : Element} {π : Position} {A : Elements} (C : Elements) → At E π A → At E π (A then C)
unfolding ◌then◌ ◌before◌
stands_followed {E = E} C (at_start D) = rw (before_then E D C) (at_start (D then C))
stands_followed C (at_later D {C = B} h) = rw (before_then D B C) (at_later D (stands_followed C h))
stands_followed C (at_inside s a D h) = at_inside s a (D then C) h

pub offset_followed : {E : Element} {π : Position} {A : Elements} (C : Elements) (o : ℕ) → At E π A → offset o (A then C) π ≡ offset o A π
unfolding ◌then◌ numbered ◌before◌
offset_followed {E = E} C o (at_start D) = rw (before_then E D C) (offset_here o E (D then C) ∙ sym (offset_here o E D))
offset_followed C o (at_later D {C = B} {π = π} h) = rw (before_then D B C) (offset_later o D (B then C) π ∙ offset_followed C (o + width D) h ∙ sym (offset_later o D B π))
offset_followed C o (at_inside s a D h) = refl

spot_followed : {E : Element} {π : Position} {A : Elements} (C : Elements) (w r l o : ℕ) → At E π A → spot_from w r l o (A then C) π ≡ spot_from w r l o A π
unfolding ◌then◌ spot_from ◌before◌
spot_followed {E = E} C w r l o (at_start D) = rw (before_then E D C) (spot_here w r l o E (D then C) ∙ sym (spot_here w r l o E D))
spot_followed C w r l o (at_later D {C = B} {π = π} h) =
    rw (before_then D B C) (spot_later w r l o D (B then C) π ∙ spot_followed C w r l (o + width D) h ∙ sym (spot_later w r l o D B π))
spot_followed C w r l o (at_inside s a D h) = refl

-- The state of a walk to an offset

-- From the offset `current` of s on, the element E that stands at the offset `at` is still ahead, and X is its spot.
pub record Sought (s : List ℕ) (at current within around level : ℕ) (E : Element) (X : Spot) : Type 0 where
  pub rest : Elements
  pub way : Position
  pub left : from s current ≡ encode_elements rest
  pub stands : At E way rest
  pub there : offset current rest way ≡ at
  pub same : X ≡ spot_from within around level current rest way

pub seek : (s : List ℕ) (at : ℕ) (A : Elements) (π : Position) (E : Element) → s ≡ encode_elements A → element_at A π ≡ some E → offset 0 A π ≡ at → Sought s at 0 0 0 0 E (spot_of A π)
unfolding spot_of
seek s at A π E e f o = record { rest = A; way = π; left = part_all 0 s ∙ e; stands = element_at_at A π E f; there = o; same = refl }

-- Where the element is: it is the first, in the first, or behind it.

module _ (w r l at current : ℕ) {X : Spot} where
  at_first : {E : Element} {π : Position} {R : Elements} → At E π R → offset current R π ≡ at → X ≡ spot_from w r l current R π → at ≤ current
      → X ≡ record { at = at; within = w; around = r; level = l }
  unfolding ◌before◌
  at_first {E = E} (at_start C) o e h =
      let k : current ≡ at = sym (offset_here current E C) ∙ o in
      e ∙ spot_here w r l current E C ∙ ap (λ (m : ℕ). record { at = m; within = w; around = r; level = l }) k
  at_first (at_later D {C = C} {π = π} p) o e h = absurd (omega (arith, o, h, offset_later current D C π, offset_shift (current + width D) p, width_least D))
  at_first (at_inside s a {A = A} C {π = π} p) o e h = absurd (omega (arith, o, h, offset_inside current s a A C π, offset_shift (current + 5) p))

  module _ (s : List ℕ) (h : current < at) (n : ℕ) (k : n ≡ word_at (from s current) 1) where
    in_first : {E : Element} {π : Position} {R : Elements} → At E π R → from s current ≡ encode_elements R → offset current R π ≡ at → X ≡ spot_from w r l current R π
        → at < current + (3 + n) → Sought s at (current + 5) current w (l + 1) E X
    unfolding ◌before◌
    in_first {E = E} (at_start C) q o e b = absurd (omega (arith, o, h, offset_here current E C))
    in_first (at_later D {C = C} {π = π} p) q o e b =
        absurd (omega (arith, o, b, offset_later current D C π, offset_shift (current + width D) p, first_width D C (from s current) n q k))
    in_first (at_inside u a {A = A} C {π = π} p) q o e b =
        let z : suc l ≡ l + 1 = omega arith in
        record {
          rest = A then C;
          way = π;
          left = part_part current 5 s ∙ part_all 5 (from s current) ∙ ap (drop 5) q ∙ drop_header u a A C ∙ sym (spelled_then A C);
          stands = stands_followed C p;
          there = offset_followed C (current + 5) p ∙ sym (offset_inside current u a A C π) ∙ o;
          same =
              e
              ∙ spot_inside w r l current u a A C π
              ∙ sym (spot_followed C current w (suc l) (current + 5) p)
              ∙ ap (λ (m : ℕ). spot_from current w m (current + 5) (A then C) π) z;
        }

    past_first : {E : Element} {π : Position} {R : Elements} → At E π R → from s current ≡ encode_elements R → offset current R π ≡ at → X ≡ spot_from w r l current R π
        → current + (3 + n) ≤ at → Sought s at (current + (3 + n)) w r l E X
    unfolding ◌before◌
    past_first {E = E} (at_start C) q o e b = absurd (omega (arith, o, h, offset_here current E C))
    past_first (at_later D {C = C} {π = π} p) q o e b =
        let z : 3 + n ≡ width D = first_width D C (from s current) n q k in
        record {
          rest = C;
          way = π;
          left =
              part_part current (3 + n) s
              ∙ part_all (3 + n) (from s current)
              ∙ ap (drop (3 + n)) q
              ∙ ap (λ (m : ℕ). drop m (encode_elements (D before C))) z
              ∙ drop_first D C;
          stands = p;
          there = ap (λ (m : ℕ). offset (current + m) C π) z ∙ sym (offset_later current D C π) ∙ o;
          same = e ∙ spot_later w r l current D C π ∙ ap (λ (m : ℕ). spot_from w r l (current + m) C π) (sym z);
        }
    past_first {E = E} (at_inside u a {A = A} C {π = π} p) q o e b =
        absurd (omega (arith, o, b, offset_inside current u a A C π, offset_within (current + 5) p, width_least E, width_ambient u a A, first_width (ambient_element u a A) C (from s current) n q k))

module _ {s : List ℕ} {at current w r l : ℕ} {E : Element} {X : Spot} (g : Sought s at current w r l E X) where
  pub sought_ahead : current ≤ at
  sought_ahead = omega (arith, g.there, offset_shift current g.stands)

  pub arrive : at ≤ current → X ≡ record { at = at; within = w; around = r; level = l }
  arrive = at_first w r l at current g.stands g.there g.same

  pub sought_whole : current < length s → 3 ≤ length (from s current)
  sought_whole h = first_whole g.rest (from s current) g.left (some_left s current h)

  module _ (h : current < at) (n : ℕ) (k : n ≡ word_at (from s current) 1) where
    pub enter : at < current + (3 + n) → Sought s at (current + 5) current w (l + 1) E X
    enter = in_first w r l at current s h n k g.stands g.left g.there g.same

    pub pass : current + (3 + n) ≤ at → Sought s at (current + (3 + n)) w r l E X
    pass = past_first w r l at current s h n k g.stands g.left g.there g.same
