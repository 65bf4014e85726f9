-- How often a number stands in a list, on plain lists of numbers.
use mathlib.Core.Path.{◌≡◌, refl, ◌∙◌, ap}
use mathlib.Core.Logic.{◌≢◌, ⊎_elim}
use mathlib.Core.Bool.{Bool, true, false}
use mathlib.Core.List.Memᴰ
use mathlib.Core.List.{List, [], ◌∷◌, ◌++◌}
use Prim.Native.Nat.{ℕ, suc, ◌+◌, ◌≤◌}
use native.Mathlib.Omega.{arith}
use lib.Dec.{eqb}
use borrow.Author.Tests.{eqb-true, eqb-false, eq-eqb, ne_eqb}
use Rattle.calculus.specs.Names.{Among}
use Rattle.removals.specs.Sweeping.{occurrences}

occurrences_none : (n : ℕ) → occurrences n [] ≡ 0
unfolding occurrences
occurrences_none n = refl

pub occurrences_same : (n m : ℕ) (ms : List ℕ) → n ≡ m → occurrences n (m ∷ ms) ≡ suc (occurrences n ms)
unfolding occurrences
occurrences_same n m ms e = rw (eq-eqb n m e)

pub occurrences_other : (n m : ℕ) (ms : List ℕ) → n ≢ m → occurrences n (m ∷ ms) ≡ occurrences n ms
unfolding occurrences
occurrences_other n m ms d = rw (ne_eqb n m d)

-- what is shown of a number that stands first and of one that does not
at_front : (T : ℕ → Type 0) (n m : ℕ) (ms : List ℕ) → (n ≡ m → T (suc (occurrences n ms))) → (n ≢ m → T (occurrences n ms)) → T (occurrences n (m ∷ ms))
at_front T n m ms same other = go (eqb n m) refl
  where
    go : (b : Bool) → eqb n m ≡ b → T (occurrences n (m ∷ ms))
    go true e = rw (occurrences_same n m ms (eqb-true n m e)) (same (eqb-true n m e))
    go false e = rw (occurrences_other n m ms (eqb-false n m e)) (other (eqb-false n m e))

pub occurrences_itself : (n : ℕ) → occurrences n (n ∷ []) ≡ 1
occurrences_itself n = occurrences_same n n [] refl ∙ ap suc (occurrences_none n)

pub occurrences_another : (n m : ℕ) → n ≢ m → occurrences n (m ∷ []) ≡ 0
occurrences_another n m d = occurrences_other n m [] d ∙ occurrences_none n

pub occurrences_append : (n : ℕ) (ns ms : List ℕ) → occurrences n (ns ++ ms) ≡ occurrences n ns + occurrences n ms
occurrences_append n [] ms = omega (arith, occurrences_none n)
occurrences_append n (m ∷ ns) ms =
    at_front (λ k. k ≡ occurrences n (m ∷ ns) + occurrences n ms) n m (ns ++ ms)
    (λ e. omega (arith, occurrences_append n ns ms, occurrences_same n m ns e))
    (λ d. omega (arith, occurrences_append n ns ms, occurrences_other n m ns d))

pub absent : (n : ℕ) (ns : List ℕ) → ¬ Among n ns → occurrences n ns ≡ 0
absent n [] d = occurrences_none n
absent n (m ∷ ms) d = at_front (λ k. k ≡ 0) n m ms (λ e. absurd (d (Memᴰ.head e))) (λ c. absent n ms (λ a. d (Memᴰ.tail a)))

pub present : (n : ℕ) (ns : List ℕ) → Among n ns → 1 ≤ occurrences n ns
present n [] a = absurd (Memᴰ.not-nil a)
present n (m ∷ ms) a = at_front (λ k. 1 ≤ k) n m ms (λ e. omega arith) (λ d. ⊎_elim (λ e. absurd (d e)) (present n ms) (Memᴰ.cases_cons a))

pub found : (n : ℕ) (ns : List ℕ) → 1 ≤ occurrences n ns → Among n ns
found n [] l = absurd (omega (arith, occurrences_none n))
found n (m ∷ ms) l = at_front (λ k. 1 ≤ k → Among n (m ∷ ms)) n m ms (λ e k. Memᴰ.head e) (λ d k. Memᴰ.tail (found n ms k)) l
