-- The elements of a list in the order of tags, as they are given: how a list goes on behind each, and all their offsets.
use mathlib.Core.Path.{◌≡◌, refl, sym, ap, ◌∙◌}
use mathlib.Core.Bool.{true, false}
use mathlib.Core.List.{List, [], ◌∷◌}
use Prim.Native.Nat.{ℕ, zero, suc, ◌+◌, ◌≤◌, ◌<◌}
use native.Mathlib.Decide.{ℕ_discrete}
use native.Mathlib.Omega.{arith}
use borrow.Author.Tests.{lt-ltb, le-ltb}
use lib.Dec.{ltb}
use lib.ListN.{length, take}
use denote.Ref.{Bor}
use Rattle.std.specs.Prelude.{Option, Some, None, slice_get, MatchOption, IsSomeAnd, option_map}
use Rattle.std.specs.List.{prefix_len}
use Rattle.std.specs.Iterator.{AlwaysYields}
use Rattle.std.proofs.lemmas.Iterator.{YieldsList}
use Rattle.machine.specs.Elements.{Elements, empty}
use Rattle.elements.specs.Spelling.{encode_elements}
use Rattle.elements.proofs.Views.{spells_none}
use Rattle.buffers.proofs.Parts.{part_all, length_part}
use Rattle.places.specs.declared.striding.PlacesOf.{PlacesOf}
use Rattle.places.specs.Offsets.{stride_of, following}
use Rattle.places.specs.Places.{rest_from, ListFrom, GivesPlace}
use Rattle.places.proofs.Walking.{Remaining, remaining_next, remaining_on, further, next_within, stride_within, offsets, offsets_next}
use Rattle.places.proofs.Lowest.{counted_least}

-- How a list goes on behind an element

module _ {s : List ℕ} {at n : ℕ} (f : ListFrom s at) (h : at < length s) (e : (A : Elements) → rest_from s at ≡ encode_elements A → n ≡ stride_of A) where
  abbrev ahead : Remaining s at f.list.tree
  ahead = record { rest = f.list.tree; left = f.list.spelled; spellable = λ h. h }

  stands : at + n ≡ at + stride_of f.list.tree
  stands = ap (λ m. at + m) (e f.list.tree f.list.spelled)

  -- the next element starts behind this one and within the bytes
  pub next_further : (at < at + n) × (at + n ≤ length s)
  next_further = next_within ahead (at + n) stands h

  pub list_further : ListFrom s (at + n)
  list_further =
      let g = remaining_next ahead (at + n) stands in
      record { short = f.short; list = record { tree = g.rest; spelled = g.left; spellable = g.spellable f.list.spellable; short = omega (arith, length_part (at + n) s, f.short) } }

-- The offsets of all elements: what a chain of iterators takes

abbrev steps : PlacesOf → Option (ℕ × Bor (List ℕ)) → PlacesOf → Type 0
steps s r t = GivesPlace s.list.now s.at r t.list.now t.at

given_all : (os : List ℕ) (R : Elements) (s : PlacesOf) → rest_from s.list.now s.at ≡ encode_elements R → offsets s.at R ≡ os → AlwaysYields steps (λ (x : ℕ × Bor (List ℕ)). x.0) s os
unfolding offsets
given_all [] R s e q = λ x t g.
    let h : 0 < length (encode_elements R) = omega (arith, ap length e, length_part s.at s.list.now, g.below) in
    absurd (omega (arith, ap length (sym q ∙ offsets_next s.at R h)))
given_all (o ∷ os) R s e q = (
  λ t g.
      let k : R ≡ empty = spells_none R (rest_from s.list.now s.at) e (omega (arith, length_part s.at s.list.now, g)) in
      absurd (omega (arith, ap length (sym q ∙ ap (offsets s.at) k))),
  λ x t g.
      let h : 0 < length (encode_elements R) = omega (arith, ap length e, length_part s.at s.list.now, g.below) in
      let k : o ∷ os ≡ s.at ∷ offsets (s.at + stride_of R) (following R) = sym q ∙ offsets_next s.at R h in
      let m : o ≡ s.at = cc in
      let l : os ≡ offsets (s.at + stride_of R) (following R) = cc in
      let w : Remaining s.list.now s.at R = record { rest = R; left = e; spellable = λ h. h } in
      (g.offset ∙ sym m, given_all os (following R) t (remaining_on w g).left (rw (further w g) (sym l))),
)

pub given_offsets : (A : Elements) (s : PlacesOf) → s.list.now ≡ encode_elements A → s.at ≡ 0 → YieldsList steps (λ (x : ℕ × Bor (List ℕ)). x.0) s (offsets 0 A)
given_offsets A s e z = record { runs = given_all (offsets 0 A) A s (rw z (part_all 0 s.list.now ∙ e)) (ap (λ k. offsets k A) z) }

nothing_listed : (o : ℕ) (R : Elements) → length (encode_elements R) ≡ 0 → offsets o R ≡ []
unfolding offsets
nothing_listed o R z = ap (offsets o) (spells_none R (encode_elements R) refl z)

listed_some : (o x : ℕ) (xs : List ℕ) (R : Elements) → offsets o R ≡ x ∷ xs → 0 < length (encode_elements R)
listed_some o x xs R q = go (ℕ_discrete (length (encode_elements R)) 0)
  where
    go : Dec (length (encode_elements R) ≡ 0) → 0 < length (encode_elements R)
    go (yes z) = absurd (omega (arith, ap length (sym q ∙ nothing_listed o R z)))
    go (no z) = omega arith

-- as many elements stand before an offset as the place of its element says
pub before_offset : (os : List ℕ) (o : ℕ) (R : Elements) → offsets o R ≡ os → (p at : ℕ) → slice_get os p ≡ Some at → length (take (prefix_len (λ x. ltb x at) os) os) ≡ p
before_offset [] o R q p at e = absurd (let z : ◌≡◌ {A = ℕ} 0 1 = cc in omega arith)
before_offset (x ∷ xs) o R q zero at e =
    let z : x ≡ at = cc in
    let t : ltb x at ≡ false = le-ltb x at (omega (arith, z)) in
    rw t refl
before_offset (x ∷ xs) o R q (suc p) at e =
    let h : 0 < length (encode_elements R) = listed_some o x xs R q in
    let k : x ∷ xs ≡ o ∷ offsets (o + stride_of R) (following R) = sym q ∙ offsets_next o R h in
    let m : x ≡ o = cc in
    let l : offsets (o + stride_of R) (following R) ≡ xs = cc in
    let w = counted_least (o + stride_of R) (following R) p at (rw l e) in
    let t : ltb x at ≡ true = lt-ltb x at (omega (arith, m, w, (stride_within R h).0)) in
    let n = prefix_len (λ z. ltb z at) xs in
    let one : 1 + n ≡ suc n = omega arith in
    rw t (ap (λ m. length (take m (x ∷ xs))) one ∙ ap suc (before_offset xs (o + stride_of R) (following R) l p at e))

-- The offset of an element that is given

pub offset_given : {P : ℕ × Bor (List ℕ) → ℕ → Type 0} (o : Option (ℕ × Bor (List ℕ))) (r : Option ℕ) → MatchOption o (r ≡ None) (λ x. IsSomeAnd r (P x)) → ((x : ℕ × Bor (List ℕ)) (y : ℕ) → P x y → y ≡ x.0)
    → r ≡ option_map (λ x. x.0) o
offset_given None r e k = e
offset_given (Some x) None e k = absurd e
offset_given (Some x) (Some y) e k = ap Some (k x y e)
