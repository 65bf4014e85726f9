-- One removal: what stands how often, and congruence by rule 6 after the restriction has gone inward to the ambient.
use mathlib.Core.Path.{◌≡◌}
use mathlib.Core.Logic.{◌↔◌, ◌≢◌}
use mathlib.Core.List.Memᴰ
use mathlib.Core.List.{List, [], ◌∷◌, ◌++◌}
use Prim.Native.Nat.{ℕ, suc, ◌+◌, ◌-◌, ◌≤◌, ◌<◌}
use native.Mathlib.Omega.{arith}
use Rattle.calculus.specs.Processes.{name, null, restriction, ambient, action, rename, close}
use Rattle.calculus.specs.Names.{Among, names_of_reference, names_of_action, names_of_process}
use Rattle.calculus.specs.Reduction.{◌≅◌, symmetric, rule6}
use Rattle.calculus.proofs.Congruence.{◌∘c◌, null_left}
use Rattle.machine.specs.Elements.{Elements, state, size, decode, decode_state}
use Rattle.machine.specs.Names.{names, decode_without}
use Rattle.machine.specs.Validity.{ReferenceScoped, Scoped}
use Rattle.machine.proofs.Names.{names_decode, unused_restriction_law}
use Rattle.machine.proofs.Scoping.{close_same}
use Rattle.machine.proofs.Soundness.{restrict_congruent}
use Rattle.removals.specs.Removal.{Without, gone, within, behind_ambient, behind_process, behind_blocked}
use Rattle.removals.specs.Sweeping.{occurrences}
use Rattle.removals.proofs.Occurrences.{occurrences_itself, occurrences_another, occurrences_append, absent, present}
use Rattle.removals.proofs.Restrictions.{innermost, outside_right, outside_left, outside_ambient}

-- Occurrences

three_parts : (n : ℕ) (ns ms ks : List ℕ) → occurrences n (ns ++ ms ++ ks) ≡ occurrences n ns + occurrences n ms + occurrences n ks
three_parts n ns ms ks = omega (arith, occurrences_append n (ns ++ ms) ks, occurrences_append n ns ms)

-- every name stands as often as in what is left, and in the ambient's name
without_occurs : (n m : ℕ) {L L' : Elements} → Without n L L' → occurrences m (names L) ≡ occurrences m (n ∷ []) + occurrences m (names L')
unfolding names names_of_reference
without_occurs n m (gone {C = C}) = occurrences_append m (n ∷ []) (names C)
without_occurs n m (within {a = a} {A = A} {A' = A'} {C = C} w) =
    omega (arith, three_parts m (names_of_reference a) (names A) (names C), three_parts m (names_of_reference a) (names A') (names C), without_occurs n m w)
without_occurs n m (behind_ambient {a = a} {A = A} {C = C} {C' = C'} w) =
    omega (arith, three_parts m (names_of_reference a) (names A) (names C), three_parts m (names_of_reference a) (names A) (names C'), without_occurs n m w)
without_occurs n m (behind_process {P = P} {C = C} {C' = C'} w) =
    omega (arith, occurrences_append m (names_of_process P) (names C), occurrences_append m (names_of_process P) (names C'), without_occurs n m w)
without_occurs n m (behind_blocked {α = α} {P = P} {C = C} {C' = C'} w) =
    omega (arith, three_parts m (names_of_action α) (names_of_process P) (names C), three_parts m (names_of_action α) (names_of_process P) (names C'), without_occurs n m w)

pub removed_once_law : (n : ℕ) (L L' : Elements) → Without n L L' → (¬ Among n (names L')) ↔ (occurrences n (names L) ≡ 1)
removed_once_law n L L' w =
    let e = without_occurs n n w in
    let o = occurrences_itself n in
    ((λ d. omega (arith, absent n (names L') d)), (λ c a. absurd (omega (arith, present n (names L') a))))

pub others_stay_law : (n m : ℕ) (L L' : Elements) → Without n L L' → m ≢ n → occurrences m (names L') ≡ occurrences m (names L)
others_stay_law n m L L' w d = omega (arith, without_occurs n m w, occurrences_another m n d)

pub without_size : {n : ℕ} {L L' : Elements} → Without n L L' → size L ≡ suc (size L')
unfolding size
without_size gone = omega arith
without_size (within w) = omega (arith, without_size w)
without_size (behind_ambient w) = omega (arith, without_size w)
without_size (behind_process w) = omega (arith, without_size w)
without_size (behind_blocked w) = omega (arith, without_size w)

-- Congruence

not_decoded : (n : ℕ) (L : Elements) → ¬ Among n (names L) → ¬ Among n (names_of_process (decode L))
not_decoded n L d = rw (names_decode L) d

-- rule 6
cleared : (n : ℕ) → restriction (rename (close n) (ambient (name n) null)) ≅ null
unfolding rename
cleared n = rw (close_same n) rule6

without_decode : (n : ℕ) {L L' : Elements} → Without n L L' → ¬ Among n (names L') → restriction (rename (close n) (decode L)) ≅ decode L'
unfolding decode names names_of_process
without_decode n (gone {C = C}) d = outside_left n (decode C) (ambient (name n) null) null (not_decoded n C d) (cleared n) ∘c null_left
without_decode n (within {a = a} {A = A} {A' = A'} {C = C} w) d =
    outside_left n (decode C) (ambient a (decode A)) (ambient a (decode A')) (not_decoded n C (λ m. d (Memᴰ.append_right (names_of_reference a ++ names A') m)))
    (outside_ambient n a (decode A) (decode A') (λ m. d (Memᴰ.append_left (names C) (Memᴰ.append_left (names A') m)))
    (without_decode n w (λ m. d (Memᴰ.append_left (names C) (Memᴰ.append_right (names_of_reference a) m)))))
without_decode n (behind_ambient {a = a} {A = A} {C = C} {C' = C'} w) d =
    outside_right n (ambient a (decode A)) (decode C) (decode C') (rw (names_decode A) (λ m. d (Memᴰ.append_left (names C') m)))
    (without_decode n w (λ m. d (Memᴰ.append_right (names_of_reference a ++ names A) m)))
without_decode n (behind_process {P = P} {C = C} {C' = C'} w) d =
    outside_right n P (decode C) (decode C') (λ m. d (Memᴰ.append_left (names C') m)) (without_decode n w (λ m. d (Memᴰ.append_right (names_of_process P) m)))
without_decode n (behind_blocked {α = α} {P = P} {C = C} {C' = C'} w) d =
    outside_right n (action α P) (decode C) (decode C') (λ m. d (Memᴰ.append_left (names C') m)) (without_decode n w (λ m. d (Memᴰ.append_right (names_of_action α ++ names_of_process P) m)))

-- the removed name is below N
without_below : (N n : ℕ) {L L' : Elements} → Without n L L' → Scoped N L → n < N
unfolding Scoped ReferenceScoped
without_below N n gone h = h.0
without_below N n (within w) h = without_below N n w h.1
without_below N n (behind_ambient w) h = without_below N n w h.2
without_below N n (behind_process w) h = without_below N n w h.1
without_below N n (behind_blocked w) h = without_below N n w h.2

-- the restriction goes inward past the newer ones, vanishes with the ambient, and comes back around a list of which it is no part
pub without_congruent : (F N n : ℕ) {L L' : Elements} → F ≤ n → Scoped N L → Without n L L' → ¬ Among n (names L') → decode_state (state F N L) ≅ decode_state (state F N L')
unfolding decode_without
without_congruent F N n {L} {L'} l h w d =
    let m = without_below N n w h in
    innermost F N n L l m
    ∘c restrict_congruent F (n - F) (restrict_congruent (suc n) (N - suc n) (without_decode n w d))
    ∘c symmetric (unused_restriction_law F N n L' l m d)
