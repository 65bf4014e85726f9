-- What is known of a run that was done.
use mathlib.Core.Path.{◌≡◌, refl, ap}
use mathlib.Core.List.{List}
use Prim.Native.Nat.{ℕ, ◌≤◌}
use native.Mathlib.Omega.{arith}
use lib.ListN.{length}
use Rattle.machine.specs.Limits.{byte_limit}
use Rattle.machine.specs.Elements.{State}
use Rattle.elements.specs.Spelling.{encode_state}
use Rattle.format.specs.Theorems.{Bytes}
use Rattle.buffers.specs.Buffers.{Written, kept, wrote}
use Rattle.runs.specs.Runs.{Report, ended, run_bytes}
use Rattle.runs.proofs.Courses.{Turns, still, onward, finished}
use Rattle.advancing.specs.Answers.{ending_of, SpellsAdmitted}
use Rattle.advancing.proofs.Admitting.{read_present}
use Rattle.std.specs.Prelude.{Ok}
use Rattle.refusals.specs.declared.Refusal.{Refusal}
use Rattle.running.specs.declared.Finished.{Finished}
use Rattle.running.specs.Answers.{run_answer}

turns_small : {room n : ℕ} {S T : State} → Turns room S n T → length (encode_state S) ≤ byte_limit → length (encode_state T) ≤ byte_limit
turns_small still u = u
turns_small (onward q f w v r) u = turns_small r w

-- a run that was done had an accepted state; its steps are within the budget, and its last state within the limit of bytes
pub ran_done : {s : List ℕ} (budget room : ℕ) {x : Finished Refusal} → Bytes s → Ok x ≡ run_answer (run_bytes s budget room) → SpellsAdmitted s × (x.steps ≤ budget) × (x.length ≤ byte_limit)
unfolding run_answer
ran_done {s} budget room {x} b f = go (run_bytes s budget room) refl f
  where
    go : (w : Written ℕ Report) → run_bytes s budget room ≡ w → Ok x ≡ run_answer w → SpellsAdmitted s × (x.steps ≤ budget) × (x.length ≤ byte_limit)
    go (kept k) q f = absurd (let z : ◌≡◌ {A = ℕ} 0 1 = cc in omega arith)
    go (wrote (ended d m) t) q f =
        let h = finished s t budget room m d q in
        let p = read_present b h.read in
        let y : x ≡ record { ending = ending_of d; steps = m; length = length t } = cc in
        let i : x.steps ≡ m = ap (λ (z : Finished Refusal). z.steps) y in
        let j : x.length ≡ length t = ap (λ (z : Finished Refusal). z.length) y in (
          record { tree = h.start; present = p },
          omega (arith, i, h.course.within),
          omega (arith, j, ap length h.bytes, turns_small h.course.turns (rw p.spelled at p.short)),
        )
