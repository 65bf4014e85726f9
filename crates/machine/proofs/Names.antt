-- The restriction of a name that stands nowhere in a list makes no difference to the decoded state.
use mathlib.Core.Path.{◌≡◌, refl, sym, ◌∙◌, ap, ap₂}
use mathlib.Core.Bool.{Bool, true, false, false≢true}
use mathlib.Core.List.{List, ◌++◌}
use Prim.Native.Nat.{ℕ, zero, suc, ◌+◌, ◌-◌, ◌≤◌, ◌<◌}
use native.Mathlib.Omega.{arith}
use Rattle.calculus.specs.Processes.{Process, restriction, rename, close}
use Rattle.calculus.specs.Names.{Among, names_of_reference, names_of_action, names_of_process}
use Rattle.calculus.specs.Reduction.{◌≅◌, reflexive}
use Rattle.calculus.proofs.Renamed.{congruent}
use Rattle.calculus.proofs.Congruence.{◌∘c◌}
use Rattle.calculus.proofs.Names.{closed_names, unused_name_law}
use Rattle.machine.specs.Elements.{Elements, empty, ambient_then, process_then, blocked_then, State, state, decode, restrict, decode_state}
use Rattle.machine.specs.Ordered.{member}
use Rattle.machine.specs.Names.{names, decode_without, restrict_used, decode_used}
use Rattle.machine.specs.Tests.{pick}
use Rattle.machine.proofs.Soundness.{restrict_congruent}
use Rattle.machine.proofs.search.Questions.{member_among}

pub names_decode : (L : Elements) → names_of_process (decode L) ≡ names L
unfolding names names_of_process decode
names_decode empty = refl
names_decode (ambient_then s a A C) = ap₂ (λ (x y : List ℕ). names_of_reference a ++ x ++ y) (names_decode A) (names_decode C)
names_decode (process_then P C) = ap (λ (x : List ℕ). names_of_process P ++ x) (names_decode C)
names_decode (blocked_then α P C) = ap (λ (x : List ℕ). names_of_action α ++ names_of_process P ++ x) (names_decode C)

-- restrictions bring no name
restrict_names : (F d n : ℕ) (P : Process) → Among n (names_of_process (restrict F d P)) → Among n (names_of_process P)
unfolding restrict names_of_process
restrict_names F zero n P a = a
restrict_names F (suc d) n P a = closed_names (F + d) n P (restrict_names F d n (restriction (rename (close (F + d)) P)) a)

-- the restriction of F + d, between those of older names and of newer ones
pub restrict_between : (F d k : ℕ) (P : Process) → restrict F (d + suc k) P ≡ restrict F d (restriction (rename (close (F + d)) (restrict (suc (F + d)) k P)))
unfolding restrict
restrict_between F d zero P = let e : d + suc 0 ≡ suc d = omega arith in ap (λ j. restrict F j P) e
restrict_between F d (suc k) P =
    let e : d + suc (suc k) ≡ suc (d + suc k) = omega arith in
    let c : F + (d + suc k) ≡ suc (F + d) + k = omega arith in
    ap (λ j. restrict F j P) e ∙ restrict_between F d k (restriction (rename (close (F + (d + suc k))) P))
    ∙ ap (λ j. restrict F d (restriction (rename (close (F + d)) (restrict (suc (F + d)) k (restriction (rename (close j) P)))))) c

unused_between : (F d k : ℕ) (P : Process) → ¬ Among (F + d) (names_of_process P) → restrict F (d + suc k) P ≅ restrict F d (restrict (suc (F + d)) k P)
unused_between F d k P u =
    congruent (restrict_between F d k P) ∘c restrict_congruent F d (unused_name_law (F + d) (restrict (suc (F + d)) k P) (λ a. u (restrict_names (suc (F + d)) k (F + d) P a)))

pub unused_restriction_law : (F N n : ℕ) (L : Elements) → F ≤ n → n < N → ¬ Among n (names L) → decode_state (state F N L) ≅ decode_without n (state F N L)
unfolding decode_state decode_without
unused_restriction_law F N n L l m u =
    let e : N - F ≡ (n - F) + suc (N - suc n) = omega arith in
    let c : F + (n - F) ≡ n = omega arith in
    let d : ¬ Among (F + (n - F)) (names_of_process (decode L)) = rw (c, names_decode L) u in
    rw e (rw c at (unused_between F (n - F) (N - suc n) (decode L) d))

-- Under the restrictions of the names in use alone

only_used : (ns : List ℕ) (F d : ℕ) (P : Process) → ((n : ℕ) → Among n (names_of_process P) → Among n ns) → restrict F d P ≅ restrict_used ns F d P
unfolding restrict restrict_used names_of_process
only_used ns F zero P h = reflexive
only_used ns F (suc d) P h = go (member (F + d) ns) refl (only_used ns F d)
  where
    closed : Process
    closed = restriction (rename (close (F + d)) P)

    go : (b : Bool) → member (F + d) ns ≡ b → ((Q : Process) → ((n : ℕ) → Among n (names_of_process Q) → Among n ns) → restrict F d Q ≅ restrict_used ns F d Q) →
        restrict F d closed ≅ restrict_used ns F d (pick b closed P)
    go true e more = more closed (λ n a. h n (closed_names (F + d) n P a))
    go false e more = restrict_congruent F d (unused_name_law (F + d) P (λ a. false≢true (sym e ∙ (member_among (F + d) ns).1 (h (F + d) a)))) ∘c more P h

pub only_used_restricted_law : (S : State) → decode_state S ≅ decode_used S
unfolding decode_state decode_used
only_used_restricted_law (state F N L) = only_used (names L) F (N - F) (decode L) (λ n a. rw (names_decode L) at a)
