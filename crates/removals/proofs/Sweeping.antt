-- One pass suffices: a removal changes neither the result of the pass nor which other names may be cleared.
use mathlib.Core.Path.{◌≡◌, refl, sym, ◌∙◌, ap, subst}
use mathlib.Core.Logic.{◌⊎◌, inl, inr, ⊎_elim, ⊎_map}
use mathlib.Core.Bool.{Bool, true, false, false≢true}
use mathlib.Core.List.Memᴰ
use mathlib.Core.List.{List, ◌++◌}
use Prim.Native.Nat.{ℕ, zero, suc, ◌≤◌}
use native.Mathlib.Decide.{ℕ_discrete}
use native.Mathlib.Omega.{arith}
use lib.Dec.{ltb, eqb}
use borrow.Author.Tests.{ltb-false, le-ltb, eqb-true, eq-eqb}
use Rattle.calculus.specs.Processes.{Reference, name, variable, Action, Process}
use Rattle.calculus.specs.Names.{Among, names_of_reference, names_of_action, names_of_process}
use Rattle.machine.specs.Elements.{Status, Elements, empty, ambient_then, process_then, blocked_then, ◌then◌, size}
use Rattle.machine.specs.Names.{names}
use Rattle.machine.specs.Tests.{pick}
use Rattle.removals.specs.Removal.{Without, gone, within, behind_ambient, behind_process, behind_blocked, Removes, Reaches, done, remove, Finished}
use Rattle.removals.specs.Sweeping.{occurrences, clearable, unless_cleared, sweep_by, sweep}
use Rattle.removals.proofs.Occurrences.{absent, present, found}
use Rattle.removals.proofs.Removal.{removed_once_law, others_stay_law, without_size}

-- Which ambients may be removed

clearable_name : (F : ℕ) (ns : List ℕ) (n : ℕ) → F ≤ n → occurrences n ns ≡ 1 → clearable F ns (name n) ≡ true
unfolding clearable
clearable_name F ns n l e = rw (le-ltb n F l) (eq-eqb (occurrences n ns) 1 e)

-- Lists of elements side by side

unless_cleared_then : (b : Bool) (s : Status) (a : Reference) (A C D : Elements) → unless_cleared b s a A (C then D) ≡ unless_cleared b s a A C then D
unfolding unless_cleared ◌then◌
unless_cleared_then true s a empty C D = refl
unless_cleared_then true s a (ambient_then t b B E) C D = refl
unless_cleared_then true s a (process_then P E) C D = refl
unless_cleared_then true s a (blocked_then α P E) C D = refl
unless_cleared_then false s a A C D = refl

pub sweep_by_then : (t : Reference → Bool) (C D : Elements) → sweep_by t (C then D) ≡ sweep_by t C then sweep_by t D
unfolding sweep_by ◌then◌
sweep_by_then t empty D = refl
sweep_by_then t (ambient_then s a A C) D =
    ap (unless_cleared (t a) s a (sweep_by t A)) (sweep_by_then t C D) ∙ unless_cleared_then (t a) s a (sweep_by t A) (sweep_by t C) (sweep_by t D)
sweep_by_then t (process_then P C) D = ap (process_then P) (sweep_by_then t C D)
sweep_by_then t (blocked_then α P C) D = ap (blocked_then α P) (sweep_by_then t C D)

-- Counts that agree on the names of a list

abbrev Counted : List ℕ → List ℕ → List ℕ → Type 0
Counted ns ms ks = (n : ℕ) → Among n ks → occurrences n ns ≡ occurrences n ms

module _ (F : ℕ) (ns ms : List ℕ) where
  agree_clearable : (a : Reference) → Counted ns ms (names_of_reference a) → clearable F ns a ≡ clearable F ms a
  unfolding clearable names_of_reference
  agree_clearable (name n) e = ap (λ k. pick (ltb n F) false (eqb k 1)) (e n (Memᴰ.head refl))
  agree_clearable (variable i) e = refl

  agree_ambient : (s : Status) (a : Reference) (A A' C C' : Elements) → Counted ns ms (names (ambient_then s a A' C')) → (Counted ns ms (names A') → sweep_by (clearable F ns) A ≡ sweep_by (clearable F ms) A') →
      (Counted ns ms (names C') → sweep_by (clearable F ns) C ≡ sweep_by (clearable F ms) C') → sweep_by (clearable F ns) (ambient_then s a A C) ≡ sweep_by (clearable F ms) (ambient_then s a A' C')
  unfolding sweep_by names
  agree_ambient s a A A' C C' e f g =
      let b = agree_clearable a (λ n m. e n (Memᴰ.append_left (names C') (Memᴰ.append_left (names A') m))) in
      let x = f (λ n m. e n (Memᴰ.append_left (names C') (Memᴰ.append_right (names_of_reference a) m))) in
      let y = g (λ n m. e n (Memᴰ.append_right (names_of_reference a ++ names A') m)) in
      λ i. unless_cleared (b i) s a (x i) (y i)

  agree_pass : (L : Elements) → Counted ns ms (names L) → sweep_by (clearable F ns) L ≡ sweep_by (clearable F ms) L
  unfolding sweep_by names
  agree_pass empty e = refl
  agree_pass (ambient_then s a A C) e = agree_ambient s a A A C C e (agree_pass A) (agree_pass C)
  agree_pass (process_then P C) e = ap (process_then P) (agree_pass C (λ n m. e n (Memᴰ.append_right (names_of_process P) m)))
  agree_pass (blocked_then α P C) e = ap (blocked_then α P) (agree_pass C (λ n m. e n (Memᴰ.append_right (names_of_action α ++ names_of_process P) m)))

  -- the pass removes what a removal removed, and for the rest goes as before
  without_pass : (n : ℕ) {L L' : Elements} → Without n L L' → clearable F ns (name n) ≡ true → Counted ns ms (names L') → sweep_by (clearable F ns) L ≡ sweep_by (clearable F ms) L'
  unfolding sweep_by names unless_cleared
  without_pass n (gone {s = s} {C = C}) c e = ap (λ b. unless_cleared b s (name n) empty (sweep_by (clearable F ns) C)) c ∙ agree_pass C e
  without_pass n (within {s = s} {a = a} {A = A} {A' = A'} {C = C} w) c e = agree_ambient s a A A' C C e (without_pass n w c) (agree_pass C)
  without_pass n (behind_ambient {s = s} {a = a} {A = A} {C = C} {C' = C'} w) c e = agree_ambient s a A A C C' e (agree_pass A) (without_pass n w c)
  without_pass n (behind_process {P = P} w) c e = ap (process_then P) (without_pass n w c (λ k m. e k (Memᴰ.append_right (names_of_process P) m)))
  without_pass n (behind_blocked {α = α} {P = P} w) c e = ap (blocked_then α P) (without_pass n w c (λ k m. e k (Memᴰ.append_right (names_of_action α ++ names_of_process P) m)))

removes_counted : {F : ℕ} {L L' : Elements} (r : Removes F L L') → Counted (names L) (names L') (names L')
removes_counted {L = L} {L' = L'} r m a = sym (others_stay_law r.removed m L L' r.without (λ e. r.nowhere_else (rw e at a)))

removes_sweep : {F : ℕ} {L L' : Elements} → Removes F L L' → sweep F L ≡ sweep F L'
unfolding sweep
removes_sweep {F} {L} {L'} r =
    without_pass F (names L) (names L') r.removed r.without
    (clearable_name F (names L) r.removed (omega (arith, r.restricted)) ((removed_once_law r.removed L L' r.without).0 r.nowhere_else)) (removes_counted r)

reaches_sweep : {F : ℕ} {L K : Elements} → Reaches F L K → sweep F L ≡ sweep F K
reaches_sweep done = refl
reaches_sweep (remove r t) = removes_sweep r ∙ reaches_sweep t

-- The pass changes nothing, or there is a removal

clearable_parts : (F : ℕ) (ns : List ℕ) (n : ℕ) → clearable F ns (name n) ≡ true → (F ≤ n) × (occurrences n ns ≡ 1)
unfolding clearable
clearable_parts F ns n e = go (ltb n F) refl e
  where
    go : (b : Bool) → ltb n F ≡ b → pick b false (eqb (occurrences n ns) 1) ≡ true → (F ≤ n) × (occurrences n ns ≡ 1)
    go true c d = absurd (false≢true d)
    go false c d = (ltb-false n F c, eqb-true (occurrences n ns) 1 d)

abbrev Clears : ℕ → List ℕ → Elements → Type 0
Clears F ns L = (n : ℕ) × (L' : Elements) × Without n L L' × (clearable F ns (name n) ≡ true)

at_ambient : (F : ℕ) (ns : List ℕ) (s : Status) (a : Reference) (A C : Elements) →
    (unless_cleared (clearable F ns a) s a A C ≡ ambient_then s a A C) ⊎ Clears F ns (ambient_then s a A C)
unfolding unless_cleared clearable
at_ambient F ns s (variable i) A C = inl refl
at_ambient F ns s (name n) A C = go (clearable F ns (name n)) refl A
  where
    go : (b : Bool) → clearable F ns (name n) ≡ b → (B : Elements) → (unless_cleared b s (name n) B C ≡ ambient_then s (name n) B C) ⊎ Clears F ns (ambient_then s (name n) B C)
    go true e empty = inr (n, C, gone, e)
    go true e (ambient_then t b B D) = inl refl
    go true e (process_then P D) = inl refl
    go true e (blocked_then α P D) = inl refl
    go false e B = inl refl

unchanged_or_clears : (F : ℕ) (ns : List ℕ) (L : Elements) → (sweep_by (clearable F ns) L ≡ L) ⊎ Clears F ns L
unfolding sweep_by
unchanged_or_clears F ns empty = inl refl
unchanged_or_clears F ns (ambient_then s a A C) = go (unchanged_or_clears F ns A) (unchanged_or_clears F ns C) (at_ambient F ns s a A C)
  where
    go : (sweep_by (clearable F ns) A ≡ A) ⊎ Clears F ns A → (sweep_by (clearable F ns) C ≡ C) ⊎ Clears F ns C → (unless_cleared (clearable F ns a) s a A C ≡ ambient_then s a A C) ⊎ Clears F ns (ambient_then s a A C) →
        (unless_cleared (clearable F ns a) s a (sweep_by (clearable F ns) A) (sweep_by (clearable F ns) C) ≡ ambient_then s a A C) ⊎ Clears F ns (ambient_then s a A C)
    go (inr t) c x = inr (t.0, ambient_then s a t.1 C, within t.2, t.3)
    go (inl e) (inr t) x = inr (t.0, ambient_then s a A t.1, behind_ambient t.2, t.3)
    go (inl e) (inl f) (inr t) = inr t
    go (inl e) (inl f) (inl x) = inl ((λ i. unless_cleared (clearable F ns a) s a (e i) (f i)) ∙ x)
unchanged_or_clears F ns (process_then P C) = ⊎_map (ap (process_then P)) (λ t. (t.0, process_then P t.1, behind_process t.2, t.3)) (unchanged_or_clears F ns C)
unchanged_or_clears F ns (blocked_then α P C) = ⊎_map (ap (blocked_then α P)) (λ t. (t.0, blocked_then α P t.1, behind_blocked t.2, t.3)) (unchanged_or_clears F ns C)

clears_removes : (F : ℕ) (L : Elements) → Clears F (names L) L → (L' : Elements) × Removes F L L'
clears_removes F L t =
    let c = clearable_parts F (names L) t.0 t.3 in
    (t.1, record { removed = t.0; restricted = c.0; without = t.2; nowhere_else = (removed_once_law t.0 L t.1 t.2).1 c.1 })

unchanged_or_removes : (F : ℕ) (L : Elements) → (sweep F L ≡ L) ⊎ ((L' : Elements) × Removes F L L')
unfolding sweep
unchanged_or_removes F L = ⊎_map (λ e. e) (clears_removes F L) (unchanged_or_clears F (names L) L)

-- The result is reached by removals

reached_within : (k F : ℕ) (L : Elements) → size L ≤ k → Reaches F L (sweep F L)
reached_within zero F L l = ⊎_elim (λ e. rw e done) (λ t. absurd (omega (arith, without_size t.1.without))) (unchanged_or_removes F L)
reached_within (suc k) F L l =
    ⊎_elim (λ e. rw e done) (λ t. rw (removes_sweep t.1) (remove t.1 (reached_within k F t.0 (omega (arith, without_size t.1.without))))) (unchanged_or_removes F L)

pub sweep_reached_law : (F : ℕ) (L : Elements) → Reaches F L (sweep F L)
sweep_reached_law F L = reached_within (size L) F L (omega arith)

-- None is left

without_empty : {n : ℕ} {K : Elements} → Without n empty K → ⊥
without_empty w = elim w [ ]

ambient_without : {n : ℕ} {s : Status} {a : Reference} {A C K : Elements} → Without n (ambient_then s a A C) K →
    ((size A ≡ 0) × (a ≡ name n)) ⊎ ((A' : Elements) × Without n A A') ⊎ ((C' : Elements) × Without n C C')
unfolding size
ambient_without gone = inl (refl, refl)
ambient_without (within {A' = A'} w) = inr (inl (A', w))
ambient_without (behind_ambient {C' = C'} w) = inr (inr (C', w))

process_without : {n : ℕ} {P : Process} {C K : Elements} → Without n (process_then P C) K → (C' : Elements) × Without n C C'
process_without (behind_process {C' = C'} w) = (C', w)

blocked_without : {n : ℕ} {α : Action} {P : Process} {C K : Elements} → Without n (blocked_then α P C) K → (C' : Elements) × Without n C C'
blocked_without (behind_blocked {C' = C'} w) = (C', w)

module _ (F : ℕ) (ns : List ℕ) (n : ℕ) where
  -- an empty ambient of the name n that stands here may not be removed
  abbrev Uncleared : Elements → Type 0
  Uncleared L = (L' : Elements) → Without n L L' → clearable F ns (name n) ≡ false

  ambient_left : (s : Status) (a : Reference) (A C : Elements) → (size A ≡ 0 → clearable F ns a ≡ false) → Uncleared A → Uncleared C → Uncleared (ambient_then s a A C)
  ambient_left s a A C e f g K w =
      ⊎_elim (λ t. ap (clearable F ns) (sym t.1) ∙ e t.0) (⊎_elim (λ t. f t.0 t.1) (λ t. g t.0 t.1)) (ambient_without w)

  cleared_left : (b : Bool) (s : Status) (a : Reference) (A C : Elements) → clearable F ns a ≡ b → Uncleared A → Uncleared C → Uncleared (unless_cleared b s a A C)
  unfolding unless_cleared size
  cleared_left true s a empty C e f g = g
  cleared_left true s a (ambient_then t b B D) C e f g = ambient_left s a (ambient_then t b B D) C (λ z. absurd (omega arith)) f g
  cleared_left true s a (process_then P D) C e f g = ambient_left s a (process_then P D) C (λ z. absurd (omega arith)) f g
  cleared_left true s a (blocked_then α P D) C e f g = ambient_left s a (blocked_then α P D) C (λ z. absurd (omega arith)) f g
  cleared_left false s a A C e f g = ambient_left s a A C (λ z. e) f g

  left_over : (L : Elements) → Uncleared (sweep_by (clearable F ns) L)
  unfolding sweep_by
  left_over empty K w = absurd (without_empty w)
  left_over (ambient_then s a A C) K w = cleared_left (clearable F ns a) s a (sweep_by (clearable F ns) A) (sweep_by (clearable F ns) C) refl (left_over A) (left_over C) K w
  left_over (process_then P C) K w = let t = process_without w in left_over C t.0 t.1
  left_over (blocked_then α P C) K w = let t = blocked_without w in left_over C t.0 t.1

-- what is still there stands as often as at first
reaches_counted : {F : ℕ} {L K : Elements} → Reaches F L K → Counted (names L) (names K) (names K)
reaches_counted done n a = refl
reaches_counted (remove {L' = L'} {K = K} r t) n a =
    let e = reaches_counted t n a in
    let l = present n (names K) a in
    removes_counted r n (found n (names L') (omega arith)) ∙ e

pub sweep_finished_law : (F : ℕ) (L : Elements) → Finished F (sweep F L)
unfolding Finished sweep
sweep_finished_law F L K r =
    let n = r.removed in
    let S = sweep_by (clearable F (names L)) L in
    let one = (removed_once_law n S K r.without).0 r.nowhere_else in
    let same = reaches_counted (sweep_reached_law F L) n (found n (names S) (omega arith)) in
    false≢true (sym (left_over F (names L) n L K r.without) ∙ clearable_name F (names L) n r.restricted (same ∙ one))

-- Any order

pub finished_unchanged : (F : ℕ) (L : Elements) → Finished F L → sweep F L ≡ L
unfolding Finished
finished_unchanged F L f = ⊎_elim (λ e. e) (λ t. absurd (f t.0 t.1)) (unchanged_or_removes F L)

pub unchanged_finished : (F : ℕ) (L : Elements) → sweep F L ≡ L → Finished F L
unchanged_finished F L e = subst (Finished F) e (sweep_finished_law F L)

pub sweep_again_law : (F : ℕ) (L : Elements) → sweep F (sweep F L) ≡ sweep F L
sweep_again_law F L = finished_unchanged F (sweep F L) (sweep_finished_law F L)

pub sweep_continues_law : (F : ℕ) (L K : Elements) → Reaches F L K → Reaches F K (sweep F L)
sweep_continues_law F L K t = rw (reaches_sweep t) (sweep_reached_law F K)

pub sweep_any_order_law : (F : ℕ) (L K : Elements) → Reaches F L K → Finished F K → K ≡ sweep F L
sweep_any_order_law F L K t f = sym (finished_unchanged F K f) ∙ sym (reaches_sweep t)

-- Names afterwards

abbrev Left : ℕ → Elements → Elements → ℕ → Type 0
Left F L K n =
    (occurrences n (names K) ≡ occurrences n (names L)) ⊎ ((F ≤ n) × (occurrences n (names L) ≡ 1) × (occurrences n (names K) ≡ 0))

pub reaches_names : {F : ℕ} {L K : Elements} → Reaches F L K → (n : ℕ) → Left F L K n
reaches_names done n = inl refl
reaches_names {F} {L} {K} (remove {L' = L'} r t) n = go (ℕ_discrete n r.removed) (reaches_names t n)
  where
    gone_then : n ≡ r.removed → (occurrences n (names L) ≡ 1) × (occurrences n (names L') ≡ 0)
    gone_then e = rw e ((removed_once_law r.removed L L' r.without).0 r.nowhere_else, absent r.removed (names L') r.nowhere_else)

    go : Dec (n ≡ r.removed) → Left F L' K n → Left F L K n
    go (yes e) (inl c) = let d = gone_then e in let one = d.0 in let none = d.1 in inr (omega (arith, r.restricted), one, omega arith)
    go (yes e) (inr c) = let d = gone_then e in let none = d.1 in let one = c.1 in absurd (omega arith)
    go (no h) (inl c) = inl (c ∙ others_stay_law r.removed n L L' r.without h)
    go (no h) (inr c) = inr (c.0, sym (others_stay_law r.removed n L L' r.without h) ∙ c.1, c.2)
