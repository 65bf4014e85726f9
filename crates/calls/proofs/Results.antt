-- The result of an accepted step: it fits the room that there was for it and the limit of bytes, and is an accepted state.
use mathlib.Core.Path.{◌≡◌, refl, sym, ap, ◌∙◌}
use mathlib.Core.List.{List}
use Prim.Native.Nat.{ℕ, ◌≤◌}
use native.Mathlib.Omega.{arith}
use lib.ListN.{length}
use Rattle.machine.specs.Limits.{byte_limit}
use Rattle.machine.specs.Elements.{State}
use Rattle.machine.specs.Stepping.{Answer, refused as refused_step, accepted, step}
use Rattle.machine.specs.Lowest.{partner_of}
use Rattle.buffers.specs.Buffers.{Written, kept, wrote}
use Rattle.buffers.proofs.Answers.{fitting_wrote}
use Rattle.format.specs.Reading.{Outcome, refused, got}
use Rattle.elements.specs.Spelling.{encode_state}
use Rattle.states.specs.Reading.{read_state}
use Rattle.states.specs.Reading.{Accepted}
use Rattle.calls.specs.Steps.{stepped, step_read, step_bytes}
use Rattle.calls.proofs.Theorems.{accepted_call_is_rule}

pub record Result (room : ℕ) (new : List ℕ) : Type 0 where
  pub fits : length new ≤ room
  pub small : length new ≤ byte_limit
  pub reads : Accepted new

stepped_fits : (room rule : ℕ) (a : Answer) (new : List ℕ) → stepped room a ≡ wrote rule new → (length new ≤ room) × (length new ≤ byte_limit)
unfolding stepped
stepped_fits room rule (refused_step k) new e = absurd (let z : ◌≡◌ {A = ℕ} 0 1 = cc in omega arith)
stepped_fits room rule (accepted n S) new e = let f = fitting_wrote byte_limit room n (encode_state S) e in (rw f.0 f.2, rw f.0 f.1)

pub step_result : (bytes : List ℕ) (p q room rule : ℕ) (new : List ℕ) → step_bytes bytes p q room ≡ wrote rule new → Result room new
unfolding step_bytes step_read
step_result bytes p q room rule new e = go (read_state bytes) refl
  where
    go : (o : Outcome State) → read_state bytes ≡ o → Result room new
    go (refused k) f = absurd (let w : ◌≡◌ {A = Written ℕ ℕ} (kept k) (wrote rule new) = sym (ap (step_read p q room) f) ∙ e in let z : ◌≡◌ {A = ℕ} 0 1 = cc in omega arith)
    go (got S m) f =
        let w : stepped room (step S p (partner_of q)) ≡ wrote rule new = sym (ap (step_read p q room) f) ∙ e in
        let h = stepped_fits room rule (step S p (partner_of q)) new w in
        let r = accepted_call_is_rule bytes S m p q room rule new f e in
        record { fits = h.0; small = h.1; reads = (r.0, length new, r.2) }
