-- The proofs of the statements in specs/Theorems.antt.
use mathlib.Core.Path.{◌≡◌, refl, sym, ap, ◌∙◌}
use mathlib.Core.Logic.{◌⊎◌, inl, inr}
use mathlib.Core.Bool.{Bool, true, false}
use mathlib.Core.List.{List}
use Prim.Native.Nat.{ℕ, ◌≤◌}
use native.Mathlib.Omega.{arith}
use lib.ListN.{length}
use Rattle.calculus.specs.Processes.{Reference}
use Rattle.machine.specs.Limits.{byte_limit}
use Rattle.machine.specs.Elements.{Status, Elements, empty, ambient_then, process_then, blocked_then, State, state, weight, weight_state}
use Rattle.machine.specs.Names.{names}
use Rattle.format.specs.Reading.{Outcome, refused, got}
use Rattle.format.specs.Theorems.{Bytes}
use Rattle.elements.specs.Spelling.{encode_state, CountedElements, CountedState}
use Rattle.states.specs.Reading.{read_state}
use Rattle.states.specs.Theorems.{Admitted}
use Rattle.states.proofs.Theorems.{admitted_reads, state_spelling, state_whole}
use Rattle.buffers.specs.Buffers.{kept, wrote, fitting}
use Rattle.buffers.proofs.Answers.{fitting_is, fitting_wrote, fitting_kept, fitting_full}
use Rattle.removals.specs.Sweeping.{unless_cleared, clearable, sweep_by, sweep, sweep_state}
use Rattle.removals.proofs.Theorems.{sweep_reached, sweep_finished, sweep_any_order, sweep_again, sweep_congruent, sweep_valid, sweep_weighs, sweep_irreducible}
use Rattle.sweeping.specs.Sweeping.{sweep_read, sweep_bytes}
use Rattle.sweeping.specs.Theorems.{SweptIsAccepted, AcceptedIsSwept, SweepRefused}
use Rattle.clearing.proofs.Clears.{swept_shorter}
use Rattle.elements.proofs.States.{state_length}

-- Counts are kept

cleared_counted : (b : Bool) (s : Status) (a : Reference) (A C : Elements) → CountedElements A → CountedElements C → CountedElements (unless_cleared b s a A C)
unfolding unless_cleared CountedElements
cleared_counted true s a empty C h k = k
cleared_counted true s a (ambient_then t b B D) C h k = (h, k)
cleared_counted true s a (process_then P D) C h k = (h, k)
cleared_counted true s a (blocked_then α P D) C h k = (h, k)
cleared_counted false s a A C h k = (h, k)

swept_counted : (t : Reference → Bool) (L : Elements) → CountedElements L → CountedElements (sweep_by t L)
unfolding sweep_by CountedElements
swept_counted t empty h = h
swept_counted t (ambient_then s a A C) h = cleared_counted (t a) s a (sweep_by t A) (sweep_by t C) (swept_counted t A h.0) (swept_counted t C h.1)
swept_counted t (process_then P C) h = (h.0, swept_counted t C h.1)
swept_counted t (blocked_then α P C) h = (h.0, h.1, swept_counted t C h.2)

swept_admitted : (S : State) → Admitted S → Admitted (sweep_state S)
unfolding sweep_state sweep CountedState
swept_admitted (state F N L) a =
    let v = sweep_valid (state F N L) a.valid a.well_formed in
    record { valid = v.0; well_formed = v.1; counted = swept_counted (clearable F (names L)) L a.counted }

-- The length

state_shorter : (S : State) → length (encode_state (sweep_state S)) ≤ length (encode_state S)
unfolding sweep_state sweep
state_shorter (state F N L) = omega (arith, swept_shorter (clearable F (names L)) L, state_length F N L, state_length F N (sweep_by (clearable F (names L)) L))

lighter : (F N : ℕ) (L : Elements) → weight (sweep F L) ≤ weight L
unfolding sweep_state weight_state
lighter F N L = sweep_weighs (state F N L)

-- Sweeping an accepted state

module _ (bytes : List ℕ) (S : State) (n : ℕ) (e : read_state bytes ≡ got S n) where
  sweeps_to : (room : ℕ) → sweep_bytes bytes room ≡ fitting byte_limit room tt (encode_state (sweep_state S))
  unfolding sweep_bytes sweep_read
  sweeps_to room = ap (sweep_read room) e

  -- what it writes is the spelling of the swept state
  writes : (room : ℕ) (new : List ℕ) → sweep_bytes bytes room ≡ wrote tt new → new ≡ encode_state (sweep_state S)
  writes room new w = (fitting_wrote {A = Unit {0}} byte_limit room tt (encode_state (sweep_state S)) (sym (sweeps_to room) ∙ w)).0

  module _ (h : Bytes bytes) where
    spelled : (bytes ≡ encode_state S) × Admitted S × (length bytes ≤ byte_limit)
    spelled = (state_spelling bytes S h).0 (e ∙ ap (got S) (state_whole bytes S n e))

    shorter_than : length (encode_state (sweep_state S)) ≤ length bytes
    shorter_than = omega (arith, state_shorter S, ap length spelled.0)

    reads_back : read_state (encode_state (sweep_state S)) ≡ got (sweep_state S) (length (encode_state (sweep_state S)))
    reads_back = admitted_reads (sweep_state S) (swept_admitted S spelled.1) (omega (arith, shorter_than, spelled.2))

    fits_in : (room : ℕ) → length (encode_state (sweep_state S)) ≤ room → sweep_bytes bytes room ≡ wrote tt (encode_state (sweep_state S))
    fits_in room k = sweeps_to room ∙ fitting_is byte_limit room tt (encode_state (sweep_state S)) (omega (arith, shorter_than, spelled.2)) k

pub accepted_is_swept : AcceptedIsSwept
accepted_is_swept bytes S n room h e =
    record {
      sweeps = fits_in bytes S n e h room;
      no_room = λ k. sweeps_to bytes S n e room ∙ fitting_full byte_limit room tt (encode_state (sweep_state S)) (λ f. omega (arith, f, k));
      enough = λ k. fits_in bytes S n e h room (omega (arith, k, shorter_than bytes S n e h));
    }

pub swept_is_accepted : SweptIsAccepted
unfolding sweep_state
swept_is_accepted bytes F N L n room new h e w =
    let S = state F N L in
    let q = writes bytes S n e room new w in
    let a = (spelled bytes S n e h).1 in
    let back = ap read_state q ∙ reads_back bytes S n e h ∙ ap (got (sweep_state S)) (ap length (sym q)) in
    record {
      rest = sweep F L;
      reached = sweep_reached F L;
      finished = sweep_finished F L;
      only = sweep_any_order F L;
      written = q;
      accepted = back;
      congruent = sweep_congruent S a.valid;
      irreducible = sweep_irreducible S a.valid;
      shorter = omega (arith, ap length q, shorter_than bytes S n e h);
      lighter = lighter F N L;
      again = λ r k.
          sweeps_to new (sweep_state S) (length new) back r
          ∙ ap (λ (T : State). fitting byte_limit r tt (encode_state T)) (sweep_again S)
          ∙ ap (fitting byte_limit r tt) (sym q)
          ∙ fitting_is byte_limit r tt new (omega (arith, ap length q, shorter_than bytes S n e h, (spelled bytes S n e h).2)) k;
    }

pub sweep_refused : SweepRefused
unfolding sweep_bytes sweep_read
sweep_refused bytes room k w = go (read_state bytes) refl w
  where
    go : (o : Outcome State) → read_state bytes ≡ o → sweep_read room o ≡ kept k → (read_state bytes ≡ refused k) ⊎ ((k ≡ 13) × (S : State) × (n : ℕ) × (read_state bytes ≡ got S n))
    go (refused j) q e = let i : j ≡ k = cc in inl (q ∙ ap refused i)
    go (got S n) q e = inr (fitting_kept {A = Unit {0}} byte_limit room tt (encode_state (sweep_state S)) e, S, n, q)
