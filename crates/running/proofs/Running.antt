-- What the run answers, and what it leaves in the output buffer: for a state that is refused, for one too long for the buffer, and for a run that was played to its end.
use mathlib.Core.Path.{◌≡◌, sym, ap, ◌∙◌}
use mathlib.Core.Logic.{◌⊎◌, inl, inr}
use mathlib.Core.Bool.{false}
use mathlib.Core.List.{List}
use Prim.Native.Nat.{ℕ, ◌≤◌}
use native.Mathlib.Omega.{arith}
use lib.ListN.{length, take, length-take}
use Rattle.machine.specs.Limits.{byte_limit}
use Rattle.machine.specs.Elements.{State, state}
use Rattle.elements.specs.Spelling.{encode_state}
use Rattle.states.specs.Reading.{read_state}
use Rattle.buffers.specs.Buffers.{wrote, fits_in, fitting, overlay, Answered}
use Rattle.buffers.proofs.Answers.{answered_kept, answered_wrote, fitting_is}
use Rattle.states.specs.Answers.{state_answer}
use Rattle.states.proofs.Root.{ReadRoot, unnamed}
use Rattle.buffers.proofs.Writing.{overlaid}
use Rattle.std.specs.Prelude.{Ok, Err}
use Rattle.refusals.specs.declared.Refusal.{Refusal}
use Rattle.refusals.specs.declared.Refusal.TheVariants.{NoRoom}
use Rattle.refusals.specs.Refusals.{refusal}
use Rattle.running.specs.declared.Finished.{Finished}
use Rattle.runs.specs.Runs.{ended, ended_in, run_first, run_read, run_bytes}
use Rattle.runs.proofs.Turning.{lesser_room}
use Rattle.running.specs.Answers.{run_answer, Played}

pub run_refused : (s : List ℕ) (budget : ℕ) (x : Refusal) (out : List ℕ) → Err x ≡ state_answer (read_state s) → Answered run_answer (run_bytes s budget (length out)) out (Err x) out
unfolding run_bytes run_read run_answer
run_refused s budget x out e = let t = unnamed (read_state s) x e in rw t.2 (answered_kept run_answer t.0 out (ap (run_read s (length out) budget) t.1))

-- A state that was read

module _ {s : List ℕ} {F N : ℕ} (r : ReadRoot s F N) where
  abbrev pub start : State
  start = state F N r.root.tree

  pub read_fits : (room size : ℕ) → length s ≤ size → (room ≡ byte_limit) ⊎ (room ≡ size) → length s ≤ room
  read_fits room size h (inl e) = omega (arith, r.root.accepted.within)
  read_fits room size h (inr e) = omega arith

  read_run : (room budget : ℕ) → run_bytes s budget room ≡ run_first room budget (fitting byte_limit room start s)
  unfolding run_bytes run_read
  read_run room budget = ap (run_read s room budget) r.read

  pub run_short : (budget : ℕ) (out : List ℕ) → fits_in byte_limit (length out) (length s) ≡ false → Answered run_answer (run_bytes s budget (length out)) out (Err NoRoom) out
  unfolding run_first run_answer fitting refusal
  run_short budget out f = answered_kept run_answer 13 out (read_run (length out) budget ∙ rw f)

  module _ {room budget : ℕ} {p : Finished Refusal} {present : List ℕ} (q : Played room budget start p present) where
    pub played_held : p.length ≤ length present
    played_held = omega (arith, length-take p.length present, ap length q.holds, q.long)

    pub run_done : (out last : List ℕ) → length s ≤ length out → room ≤ length out → (room ≡ byte_limit) ⊎ (room ≡ length out) → last ≡ overlay (take p.length present) out →
        Answered run_answer (run_bytes s budget (length out)) out (Ok p) last
    unfolding ended_in run_first run_answer
    run_done out last h k m e =
        let new = encode_state q.reached in
        let w : run_bytes s budget (length out) ≡ wrote (ended q.end p.steps) new =
        read_run (length out) budget
        ∙ ap (run_first (length out) budget) (fitting_is byte_limit (length out) start s r.root.accepted.within h)
        ∙ ap ended_in (sym (lesser_room room (length out) budget start k m) ∙ q.runs) in
        rw (q.ends, q.long) (answered_wrote run_answer (ended q.end p.steps) new w (e ∙ ap (λ (l : List ℕ). overlay l out) q.holds ∙ overlaid new out (omega (arith, q.long, q.fits))))
