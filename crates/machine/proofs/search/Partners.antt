-- The places of the answers are the partners of the step, ascending, each once.
use mathlib.Core.Path.{◌≡◌, refl, sym, subst}
use mathlib.Core.Bool.{Bool, true, false}
use mathlib.Core.Logic.{◌⊎◌, inl, inr}
use mathlib.Core.List.Memᴰ
use mathlib.Core.List.{List, [], ◌∷◌, map}
use mathlib.Core.Option.{some}
use Prim.Native.Nat.{ℕ, zero, suc, ◌+◌, ◌≤◌}
use native.Mathlib.Omega.{arith}
use Rattle.calculus.specs.Processes.{Action, Process, action}
use Rattle.machine.specs.Elements.{unblocked, Elements, process_element, standing, Position, size, place, element_at}
use Rattle.machine.specs.Rules.{Partner, partner}
use Rattle.machine.specs.Kinds.{Side, side_of}
use Rattle.machine.specs.Positions.{position}
use Rattle.machine.specs.Meetings.{meet_place, succeeds, passing, partners}
use Rattle.machine.specs.Ordered.{Among, AscendingFrom}
use Rattle.machine.specs.Answers.{answers}
use Rattle.machine.specs.Questions.{numbered, by_place}
use Rattle.machine.specs.Search.{PartnersAreAnswers}
use Rattle.machine.proofs.Places.{position_place}
use Rattle.machine.proofs.Stepping.{partner_of_law, partners_partner}
use Rattle.machine.proofs.search.Meetings.{answers_meet}
use Rattle.machine.proofs.search.Numbers.{map_same, Within, within_wider, within_ascends, answers_ascend, places_number}

-- Two ascending lists with the same members are equal

pub ascending_above : (k n : ℕ) (ns : List ℕ) → AscendingFrom k ns → Among n ns → k ≤ n
unfolding AscendingFrom
ascending_above k n [] a m = absurd (Memᴰ.not-nil m)
ascending_above k n (x ∷ xs) a m = go (Memᴰ.cases_cons m) (λ t. ascending_above (suc x) n xs a.1 t)
  where
    go : (n ≡ x) ⊎ Among n xs → (Among n xs → suc x ≤ n) → k ≤ n
    go (inl e) f = let l = a.0 in omega arith
    go (inr t) f = let l = a.0 in let r = f t in omega arith

Contains : List ℕ → List ℕ → Type 0
Contains ns ks = (n : ℕ) → Among n ns → Among n ks

-- the tail of one holds what the tail of the other does
contains_tail : (x : ℕ) (xs : List ℕ) (y : ℕ) (ys : List ℕ) → x ≡ y → AscendingFrom (suc x) xs → Contains (x ∷ xs) (y ∷ ys) → Contains xs ys
unfolding Contains
contains_tail x xs y ys e a c n m = go (Memᴰ.cases_cons (c n (Memᴰ.tail m)))
  where
    go : (n ≡ y) ⊎ Among n ys → Among n ys
    go (inl f) = absurd (let l = ascending_above (suc x) n xs a m in omega arith)
    go (inr t) = t

head_least : (l x : ℕ) (xs : List ℕ) (y : ℕ) (ys : List ℕ) → AscendingFrom l (y ∷ ys) → Contains (x ∷ xs) (y ∷ ys) → y ≤ x
unfolding Contains AscendingFrom
head_least l x xs y ys b c = ascending_above y x (y ∷ ys) (omega arith, b.1) (c x (Memᴰ.head refl))

ascending_same : (k l : ℕ) (xs ys : List ℕ) → AscendingFrom k xs → AscendingFrom l ys → Contains xs ys → Contains ys xs → xs ≡ ys
unfolding AscendingFrom Contains
ascending_same k l [] [] a b c d = refl
ascending_same k l [] (y ∷ ys) a b c d = absurd (Memᴰ.not-nil (d y (Memᴰ.head refl)))
ascending_same k l (x ∷ xs) [] a b c d = absurd (Memᴰ.not-nil (c x (Memᴰ.head refl)))
ascending_same k l (x ∷ xs) (y ∷ ys) a b c d =
    let g = head_least k y ys x xs a d in
    let h = head_least l x xs y ys b c in
    let e : x ≡ y = omega arith in
    let t = ascending_same (suc x) (suc y) xs ys a.1 b.1 (contains_tail x xs y ys e a.1 c) (contains_tail y ys x xs (sym e) b.1 d) in
    λ i. e i ∷ t i

-- What passes a test

passing_within : (test : ℕ → Bool) (k n : ℕ) → Within k (k + n) (passing test k n)
unfolding passing Within
passing_within test k zero = omega arith
passing_within test k (suc n) = go (test k) refl (passing_within test (suc k) n)
  where
    go : (b : Bool) → test k ≡ b → Within (suc k) (suc k + n) (passing test (suc k) n) → Within k (k + suc n) (passing test k (suc n))
    go true e h = rw (e, passing) (omega arith, within_wider (suc k) (suc k) (suc k + n) (k + suc n) (passing test (suc k) n) (omega arith) (omega arith) h)
    go false e h = rw (e, passing) (within_wider (suc k) k (suc k + n) (k + suc n) (passing test (suc k) n) (omega arith) (omega arith) h)

-- The partners of the step

pub partners_within : (side : Side) (L : Elements) (π : Position) → Within 0 (0 + size L) (partners side L π)
unfolding partners
partners_within side L π = passing_within (λ q. succeeds (meet_place side L π (position L q))) 0 (size L)

pub partners_ascend : (side : Side) (L : Elements) (π : Position) → AscendingFrom 0 (partners side L π)
partners_ascend side L π = within_ascends 0 0 (0 + size L) (partners side L π) (omega arith) (partners_within side L π)

module _ (L : Elements) (π : Position) (α : Action) (P : Process) (e : element_at L π ≡ some (process_element (action α P))) where
  listed : List ℕ
  listed = map (place L) (answers L π α)

  listed_ascends : AscendingFrom 0 listed
  unfolding listed standing
  listed_ascends =
      subst (AscendingFrom 0) (map_same (numbered by_place 0 L) (place L) (answers L π α) (places_number.1 L)) (answers_ascend by_place places_number.0 unblocked L π α P e)

  listed_partner : (q : ℕ) → Among q listed → Partner L (place L π) q
  unfolding listed
  listed_partner q m =
      let t = Memᴰ.of_map (place L) (answers L π α) m in
      let r = (answers_meet L π α P e t.0).0 t.1 in
      subst (Partner L (place L π)) t.2 (partner r.2)

  partner_listed : (q : ℕ) → Partner L (place L π) q → Among q listed
  unfolding listed
  partner_listed q x =
      let t = partner_of_law x π (position_place L π (process_element (action α P)) e) in
      Memᴰ.cast (sym t.3) (Memᴰ.map (place L) ((answers_meet L π α P e t.1).1 (t.0, t.2, t.4)))

  partners_listed : partners (side_of α) L π ≡ listed
  unfolding Contains
  partners_listed =
      ascending_same 0 0 (partners (side_of α) L π) listed (partners_ascend (side_of α) L π) listed_ascends
      (λ q m. partner_listed q ((partners_partner L π α P e q).0 m)) (λ q m. (partners_partner L π α P e q).1 (listed_partner q m))

pub partners_are_answers : PartnersAreAnswers
unfolding listed
partners_are_answers L π α P e = (partners_listed L π α P e, listed_ascends L π α P e)
