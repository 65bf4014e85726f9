-- Offsets and places have one order; and the walk to the lowest place that can act.
use mathlib.Core.Path.{◌≡◌, refl, sym, ap, ◌∙◌}
use mathlib.Core.Bool.{true, false}
use mathlib.Core.List.{[], ◌∷◌, List, ◌++◌}
use Rattle.std.specs.Prelude.{Some, slice_get}
use mathlib.Core.Option.{none, some, Option}
use Prim.Native.Nat.{ℕ, suc, ◌+◌, ◌≤◌, ◌<◌}
use native.Mathlib.Omega.{arith}
use Rattle.machine.specs.Elements.{Elements, empty, ambient_then, process_then, blocked_then, Element, ambient_element, process_element, blocked_element, ◌before◌, Position, here, later, size, place, element_at, state}
use Rattle.machine.specs.Positions.{position}
use Rattle.machine.proofs.Places.{At, at_start, at_later, at_inside, element_at_at, position_place, position_found}
use denote.Ref.{Bor}
use Rattle.places.specs.Places.{PlaceAt}
use Rattle.places.specs.Offsets.{width, offset, stride_of, following, offset_of, place_offset}
use Rattle.machine.specs.Ordered.{lowest}
use Rattle.machine.specs.Lowest.{able, first_able, place_in}
use Rattle.places.proofs.Widths.{width_ambient, width_least, bytes, length_before}
use Rattle.places.proofs.Offsets.{offset_here, offset_later, offset_inside, place_found}
use lib.ListN.{length}
use Rattle.machine.specs.Validity.{Graded}
use Rattle.elements.specs.Spelling.{encode_elements}
use Rattle.places.proofs.Walking.{offsets, offsets_next, found_counted, remaining_some, further}
use Rattle.places.proofs.Able.{first_places, able_first, places_able, places_none, Along, begin, go_on, over}

-- Offsets and places have one order

pub place_here : (E : Element) (C : Elements) → place (E before C) here ≡ 0
unfolding place ◌before◌
place_here (ambient_element s a A) C = refl
place_here (process_element P) C = refl
place_here (blocked_element α P) C = refl

-- how many places an element takes
unfoldable pub places : Element → ℕ
places (ambient_element s a A) = suc (size A)
places (process_element P) = 1
places (blocked_element α P) = 1

pub place_later : (E : Element) (C : Elements) (π : Position) → place (E before C) (later π) ≡ places E + place C π
unfolding place ◌before◌ places
place_later (ambient_element s a A) C π = omega arith
place_later (process_element P) C π = omega arith
place_later (blocked_element α P) C π = omega arith

-- Places in bytes

pub size_small : (L : Elements) → size L ≤ bytes L
unfolding size ◌before◌
size_small empty = omega arith
size_small (ambient_then s a A C) = omega (arith, size_small A, size_small C, length_before (ambient_element s a A) C, width_ambient s a A)
size_small (process_then P C) = omega (arith, size_small C, length_before (process_element P) C, width_least (process_element P))
size_small (blocked_then α P C) = omega (arith, size_small C, length_before (blocked_element α P) C, width_least (blocked_element α P))

places_small : (E : Element) → places E ≤ width E
unfolding places
places_small (ambient_element s a A) = omega (arith, size_small A, width_ambient s a A)
places_small (process_element P) = omega (arith, width_least (process_element P))
places_small (blocked_element α P) = omega (arith, width_least (blocked_element α P))

-- an element stands at least as many bytes behind the start as its place says
place_small : {E : Element} {π : Position} {L : Elements} (o : ℕ) → At E π L → o + place L π ≤ offset o L π
unfolding place ◌before◌
place_small {E = E} o (at_start C) = omega (arith, place_here E C, offset_here o E C)
place_small o (at_later D {C = C} {π = π} h) = omega (arith, place_later D C π, offset_later o D C π, place_small (o + width D) h, places_small D)
place_small o (at_inside s a {A = A} C {π = π} h) = omega (arith, offset_inside o s a A C π, place_small (o + 5) h)

pub counted_least : (o : ℕ) (L : Elements) (p r : ℕ) → slice_get (offsets o L) p ≡ Some r → o + p ≤ r
unfolding offset_of
counted_least o L p r e = go (position L p) refl (found_counted o L p ∙ e)
  where
    go : (m : Option Position) → position L p ≡ m → offset_of o L m ≡ Some r → o + p ≤ r
    go none q f = absurd (let z : ◌≡◌ {A = ℕ} 0 1 = cc in omega arith)
    go (some π) q f =
        let z : offset o L π ≡ r = cc in
        let t = position_found L p π q in
        omega (arith, z, t.0, place_small o (element_at_at L π t.1.0 t.1.1))

-- the offset of an element is the offset of its place
pub place_offset_law : (L : Elements) (π : Position) (E : Element) (at : ℕ) → element_at L π ≡ some E → offset 0 L π ≡ at → place_offset L (place L π) ≡ Some at
unfolding place_offset offset_of
place_offset_law L π E at e o = ap (offset_of 0 L) (position_place L π E e) ∙ ap Some o

-- To the lowest place that can act

-- At an offset of s, which spells A, so many elements are gone by, and none of them can act.
pub record Scanned (s : List ℕ) (at number : ℕ) (A : Elements) : Type 0 where
  pub along : Along s at A
  pub placed : along.place ≡ number
  pub unable : Graded A → along.done ≡ []
  pub found : (k : ℕ) → place_offset A (number + k) ≡ slice_get (offsets at along.ahead.rest) k

pub scan : (s : List ℕ) (A : Elements) → s ≡ encode_elements A → Scanned s 0 0 A
unfolding place_offset
scan s A e = record { along = begin s A e; placed = refl; unable = λ k. refl; found = λ k. let z : 0 + k ≡ k = omega arith in ap (place_offset A) z ∙ found_counted 0 A k }

module _ {s : List ℕ} {at number : ℕ} {A : Elements} (g : Scanned s at number A) where
  -- none is left
  pub scan_over : (F N : ℕ) → length s ≤ at → Graded A → place_in (state F N A) ≡ none
  unfolding place_in lowest
  scan_over F N h k = rw (over s A g.along h k ∙ g.unable k)

  -- this one can act
  pub scan_found : (F N : ℕ) → Graded A → first_able g.along.ahead.rest ≡ true → place_in (state F N A) ≡ some number
  unfolding place_in lowest
  scan_found F N k f =
      let r = g.along.ahead.rest in
      let p = g.along.place in
      ap lowest
      (g.along.same k
      ∙ ap (λ (l : List ℕ). l ++ able p r) (g.unable k)
      ∙ able_first p r (g.along.graded k)
      ∙ ap (λ (l : List ℕ). l ++ able (suc p) (following r)) (places_able p r f))
      ∙ ap some g.placed

  module _ (h : at < length s) where
    behind : (k : ℕ) → place_offset A (number + k) ≡ slice_get (at ∷ offsets (at + stride_of g.along.ahead.rest) (following g.along.ahead.rest)) k
    behind k = g.found k ∙ ap (λ (l : List ℕ). slice_get l k) (offsets_next at g.along.ahead.rest (remaining_some g.along.ahead h))

    pub scan_position : (π : Position) × (E : Element) × (element_at A π ≡ some E) × (offset 0 A π ≡ at) × (place A π ≡ number)
    scan_position =
        let z : number ≡ number + 0 = omega arith in
        let t = place_found A number at (ap (place_offset A) z ∙ behind 0) in
        (t.0, t.1, t.3, t.4, (position_found A number t.0 t.2).0)

  pub scan_next : {x : ℕ × Bor (List ℕ)} {t : List ℕ} {next : ℕ} → PlaceAt s at x t next → (Graded A → first_able g.along.ahead.rest ≡ false) → Scanned t next (number + 1) A
  scan_next {next = next} p f = record {
    along = go_on s A g.along p;
    placed = omega (arith, g.placed);
    unable = λ k. ap (λ (l : List ℕ). l ++ first_places g.along.place g.along.ahead.rest) (g.unable k) ∙ places_none g.along.place g.along.ahead.rest (f k);
    found = λ k.
        let z : number + 1 + k ≡ number + suc k = omega arith in
        ap (place_offset A) z ∙ behind p.below (suc k) ∙ ap (λ m. slice_get (offsets m (following g.along.ahead.rest)) k) (sym (further g.along.ahead p));
  }
