-- The restriction of a name goes inward: past those of newer names (rule 7), and past what the name does not stand in (rules 8 and 9).
use mathlib.Core.Path.{◌≡◌, refl, sym, ◌∙◌, ap, fun_ext}
use mathlib.Core.Logic.{ite, ◌≢◌}
use mathlib.Core.List.Memᴰ
use Prim.Native.Nat.{ℕ, zero, suc, ◌+◌, ◌-◌, ◌≤◌, ◌<◌}
use native.Mathlib.Decide.{ℕ_discrete}
use native.Mathlib.Omega.{arith}
use Rattle.calculus.specs.Processes.{Reference, name, variable, Process, parallel, restriction, ambient, raise, lift, rename, swap, close}
use Rattle.calculus.specs.Names.{Among, names_of_reference, names_of_process}
use Rattle.calculus.specs.Reduction.{◌≅◌, reflexive, symmetric, rule2, rule7, rule8, rule9, rule13, under_restriction}
use Rattle.calculus.proofs.Renaming.{rename_composition_law}
use Rattle.calculus.proofs.Renamed.{congruent, congruence_rename}
use Rattle.calculus.proofs.Congruence.{◌∘c◌, parallel_right}
use Rattle.calculus.proofs.Names.{close_raises, close_variable, unused_closed}
use Rattle.machine.specs.Elements.{Elements, state, decode, restrict, decode_state}
use Rattle.machine.proofs.Scoping.{close_same}
use Rattle.machine.proofs.Soundness.{restrict_congruent}
use Rattle.machine.proofs.Names.{restrict_between}

-- Past newer names

closes_exchange : (n m : ℕ) → n ≢ m → (r : Reference) → swap (lift (close n) (close m r)) ≡ lift (close m) (close n r)
unfolding swap lift raise close
closes_exchange n m c (name k) = go (ℕ_discrete k m) (ℕ_discrete k n)
  where
    itself : (j : ℕ) → k ≡ j → close j (name k) ≡ variable 0
    itself j e = ap (λ i. close j (name i)) e ∙ close_same j

    go : (d : Dec (k ≡ m)) (e : Dec (k ≡ n)) → swap (lift (close n) (ite d (variable 0) (name k))) ≡ lift (close m) (ite e (variable 0) (name k))
    go (yes d) (yes e) = absurd (c (sym e ∙ d))
    go (yes d) (no e) = sym (ap raise (itself m d))
    go (no d) (yes e) = ap (λ r. swap (raise r)) (itself n e)
    go (no d) (no e) = ap (λ r. swap (raise r)) (close_raises n k e) ∙ sym (ap raise (close_raises m k d))
closes_exchange n m c (variable i) = refl

restrictions_exchange : (n m : ℕ) (P : Process) → n ≢ m →
    restriction (rename (close n) (restriction (rename (close m) P))) ≅ restriction (rename (close m) (restriction (rename (close n) P)))
unfolding rename
restrictions_exchange n m P c = rule7 ∘c under_restriction (under_restriction (congruent (
    ap (rename swap) (rename_composition_law (lift (close n)) (close m) P)
    ∙ rename_composition_law swap (λ r. lift (close n) (close m r)) P
    ∙ ap (λ τ. rename τ P) (fun_ext (closes_exchange n m c))
    ∙ sym (rename_composition_law (lift (close m)) (close n) P))))

inward : (n m d : ℕ) (P : Process) → n < m → restriction (rename (close n) (restrict m d P)) ≅ restrict m d (restriction (rename (close n) P))
unfolding restrict
inward n m zero P l = reflexive
inward n m (suc d) P l =
    inward n m d (restriction (rename (close (m + d)) P)) l ∘c restrict_congruent m d (restrictions_exchange n (m + d) P (λ e. absurd (omega arith)))

-- a state decoded with the restriction of n innermost
pub innermost : (F N n : ℕ) (L : Elements) → F ≤ n → n < N →
    decode_state (state F N L) ≅ restrict F (n - F) (restrict (suc n) (N - suc n) (restriction (rename (close n) (decode L))))
unfolding decode_state
innermost F N n L l m =
    let e : N - F ≡ (n - F) + suc (N - suc n) = omega arith in
    let c : F + (n - F) ≡ n = omega arith in
    rw e (congruent (rw c at (restrict_between F (n - F) (N - suc n) (decode L)))) ∘c restrict_congruent F (n - F) (inward n (suc n) (N - suc n) (decode L) (omega arith))

-- Past what n does not stand in

pub outside_right : (n : ℕ) (P T R : Process) → ¬ Among n (names_of_process P) → restriction (rename (close n) T) ≅ R → restriction (rename (close n) (parallel P T)) ≅ parallel P R
unfolding rename
outside_right n P T R d c = rw (unused_closed n P d) (symmetric rule8 ∘c parallel_right c)

pub outside_left : (n : ℕ) (P T R : Process) → ¬ Among n (names_of_process P) → restriction (rename (close n) T) ≅ R → restriction (rename (close n) (parallel T P)) ≅ parallel R P
outside_left n P T R d c = under_restriction (congruence_rename (close n) rule2) ∘c outside_right n P T R d c ∘c rule2

close_reference : (n : ℕ) (a : Reference) → ¬ Among n (names_of_reference a) → close n a ≡ raise a
unfolding names_of_reference
close_reference n (name m) d = close_raises n m (λ e. d (Memᴰ.head (sym e)))
close_reference n (variable i) d = close_variable n i

pub outside_ambient : (n : ℕ) (a : Reference) (T R : Process) → ¬ Among n (names_of_reference a) → restriction (rename (close n) T) ≅ R → restriction (rename (close n) (ambient a T)) ≅ ambient a R
unfolding rename
outside_ambient n a T R d c = rw (close_reference n a d) (symmetric rule9 ∘c rule13 c)
