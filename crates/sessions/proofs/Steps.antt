-- The steps of a run are calls of the step, as many as it counts, to its last state.
use mathlib.Core.Path.{◌≡◌, refl, sym, ap, ◌∙◌, subst}
use mathlib.Core.List.{List, [], ◌∷◌}
use Prim.Native.Nat.{ℕ, zero, suc, ◌-◌, ◌<◌}
use native.Mathlib.Omega.{arith}
use lib.ListN.{length}
use Rattle.machine.specs.Elements.{State}
use Rattle.machine.specs.Lowest.{number_in, partner_of}
use Rattle.machine.specs.Stepping.{step}
use Rattle.elements.specs.Spelling.{encode_state}
use Rattle.buffers.specs.Buffers.{Written, kept, wrote}
use Rattle.calls.specs.Steps.{stepped, step_bytes}
use Rattle.calls.proofs.Theorems.{read_step}
use Rattle.runs.specs.Runs.{Ending, Ran, ran, counted, run_from}
use Rattle.runs.specs.Turns.{Moved, moves, turn}
use Rattle.runs.proofs.Places.{partner_meant}
use Rattle.runs.proofs.Turning.{turned, halts, follows}
use Rattle.runs.proofs.Theorems.{moves_lowest}
use Rattle.advancing.specs.Answers.{Present}
use Rattle.telling.specs.Sessions.{run_steps}
use Rattle.sessions.specs.Theorems.{AreCalls, no_call, call}
use Rattle.telling.proofs.Texts.{present_reads, steps_end, steps_go}

-- A turn that wrote a state is a call

turn_called : {s new : List ℕ} (room left : ℕ) {S : State} {p q rule n : ℕ} → Present s S → turn room left S ≡ wrote (moves p q rule n) new → (n ≡ number_in S p) × (step_bytes s p q room ≡ wrote rule new)
turn_called {s} {new} room left {S} {p} {q} {rule} {n} h e =
    let m = moves_lowest room left S p q rule n new e in (
      m.2,
      read_step s S (length s) p q room (present_reads h)
          ∙ ap (λ x. stepped room (step S p x)) (ap partner_of m.1 ∙ partner_meant S p (rw h.spelled at h.short))
          ∙ m.3,
    )

-- The steps of a run

unfoldable pub CallsOf : (room : ℕ) → List ℕ → List Moved → Ran → Type 0
CallsOf room s steps (ran e n T) = AreCalls room s steps (encode_state T) × (length steps ≡ n) × Present (encode_state T) T

module _ (room : ℕ) where
  calls_end : (s : List ℕ) {S : State} (e : Ending) → Present s S → CallsOf room s [] (ran e 0 S)
  unfolding CallsOf
  calls_end s {S} e p = (subst (AreCalls room s []) p.spelled no_call, refl, rw p.spelled at p)

  calls_step : (s new : List ℕ) {S : State} (p q rule n : ℕ) (steps : List Moved) (r : Ran) → Present s S → (n ≡ number_in S p) × (step_bytes s p q room ≡ wrote rule new) → CallsOf room new steps r →
      CallsOf room s (moves p q rule n ∷ steps) (counted r)
  unfolding CallsOf counted
  calls_step s new p q rule n steps (ran d i T) g e h =
      (subst (λ k. AreCalls room s (moves p q rule k ∷ steps) (encode_state T)) (sym e.0) (call (present_reads g) e.1 h.0), ap suc h.1, h.2)

  turn_calls : (budget : ℕ) (s : List ℕ) {S : State} → Present s S →
      (0 < budget → (new : List ℕ) (T : State) → Present new T → CallsOf room new (run_steps room (budget - 1) new) (run_from room (budget - 1) T)) →
      (t : Written Ending Moved) → turn room budget S ≡ t → CallsOf room s (run_steps room budget s) (run_from room budget S)
  turn_calls budget s {S} p more (kept e) u = rw (steps_end room budget p u, halts (turned room budget S) u) (calls_end s e p)
  turn_calls budget s {S} p more (wrote (moves m q rule n) new) u =
      let v = follows (turned room budget S) u in
      let h : Present new v.after = record { spelled = v.bytes; admitted = v.admitted p.admitted; short = v.small } in
      rw (steps_go room budget p v.less u, v.runs)
      (calls_step s new m q rule n (run_steps room (budget - 1) new) (run_from room (budget - 1) v.after) p (turn_called room budget p u) (more v.less new v.after h))

  pub run_calls : (budget : ℕ) (s : List ℕ) (S : State) → Present s S → CallsOf room s (run_steps room budget s) (run_from room budget S)
  run_calls zero s S p = turn_calls zero s p (λ l new T h. absurd (omega arith)) (turn room zero S) refl
  run_calls (suc b) s S p = let e : suc b - 1 ≡ b = omega arith in turn_calls (suc b) s p (λ l new T h. rw e (run_calls b new T h)) (turn room (suc b) S) refl
