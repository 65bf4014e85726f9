-- The turns of a run as calls of the step.
use mathlib.Core.Path.{◌≡◌, refl, ap, ◌∙◌}
use mathlib.Core.List.{List, [], ◌∷◌}
use mathlib.Core.Option.{none}
use Prim.Native.Nat.{ℕ, suc, ◌≤◌}
use lib.ListN.{length, take}
use Rattle.machine.specs.Limits.{byte_limit}
use Rattle.machine.specs.Elements.{State}
use Rattle.machine.specs.Stepping.{accepted, step}
use Rattle.elements.specs.Spelling.{encode_state}
use Rattle.buffers.specs.Buffers.{wrote}
use Rattle.buffers.proofs.Answers.{fitting_is}
use Rattle.states.specs.Theorems.{Admitted}
use Rattle.states.proofs.Theorems.{admitted_reads}
use Rattle.calls.specs.Steps.{stepped, step_bytes}
use Rattle.calls.specs.Calls.{Call, call, Observation, observed, Plays, no_call}
use Rattle.calls.proofs.Calls.{filled, wrote_plays}
use Rattle.calls.proofs.Theorems.{read_step, step_admitted}
use Rattle.machine.specs.Lowest.{partner_number, partner_in}
use Rattle.runs.specs.Theorems.{LowestCalls, done, chosen}
use Rattle.runs.proofs.Courses.{Turns, still, onward}
use Rattle.runs.proofs.Places.{partner_meant}

-- The call of the step at the run's choice, of bytes that spell a state

pub chosen_step : (S : State) (p room : ℕ) → Admitted S → length (encode_state S) ≤ byte_limit →
    step_bytes (encode_state S) p (partner_number (partner_in S p)) room ≡ stepped room (step S p (partner_in S p))
chosen_step S p room a u =
    read_step (encode_state S) S (length (encode_state S)) p (partner_number (partner_in S p)) room (admitted_reads S a u) ∙ ap (λ q. stepped room (step S p q)) (partner_meant S p u)

turn_wrote : (room : ℕ) (S S' : State) (p rule : ℕ) → Admitted S → length (encode_state S) ≤ byte_limit → step S p (partner_in S p) ≡ accepted rule S' →
    length (encode_state S') ≤ byte_limit → length (encode_state S') ≤ room →
    step_bytes (encode_state S) p (partner_number (partner_in S p)) room ≡ wrote rule (encode_state S')
unfolding stepped
turn_wrote room S S' p rule a u f w v = chosen_step S p room a u ∙ ap (stepped room) f ∙ fitting_is byte_limit room rule (encode_state S') w v

-- The calls of a run, each with the choice of the state present, all accepted.
abbrev pub Played : (room : ℕ) (s t : List ℕ) (n : ℕ) → Type 0
Played room s t n = (cs : List Call) × (os : List Observation) × Plays s cs os t n × (length cs ≡ n) × LowestCalls room s cs

pub turns_played : (out : List ℕ) {n : ℕ} {S T : State} → Turns (length out) S n T → Admitted S → length (encode_state S) ≤ byte_limit → Played (length out) (encode_state S) (encode_state T) n
turns_played out still a u = ([], [], no_call, refl, done)
turns_played out {S = S} {T = T} (onward {S' = S'} {p = p} {rule = rule} {n = n} q f w v r) a u =
    let h = turns_played out r (step_admitted S p (partner_in S p) rule S' a f) w in
    let e = turn_wrote (length out) S S' p rule a u f w v in (
      call p (partner_number (partner_in S p)) out ∷ h.0,
      observed none (take (length (encode_state S')) (filled (encode_state S') out)) ∷ h.1,
      wrote_plays (encode_state S') out e h.2,
      ap suc h.3,
      chosen refl (admitted_reads S a u) q e h.4,
    )
