-- What the partners of a place say of its steps.
use Rattle.std.specs.Prelude.{◌≡◌, ◌↔◌, ◌≢◌, List, ℕ, length}
use Rattle.machine.specs.Limits.{absent}
use Rattle.machine.specs.Elements.{Elements, state}
use Rattle.format.specs.Reading.{got}
use Rattle.states.specs.Reading.{read_state}
use Rattle.machine.specs.Lowest.{partners_at}
use Rattle.machine.specs.Ordered.{Among}
use Rattle.machine.specs.Questions.{Tally}
use Rattle.partnering.specs.Partnering.{partners_bytes}
use Rattle.buffers.specs.Buffers.{kept}
use Rattle.calls.specs.Steps.{step_bytes}

-- What is told of the partners of a place says how step calls at it are judged, whatever the buffer: none gets 8; one without a partner gets 10 exactly where the
-- number is not 0, and one with a partner's place 9 exactly where that is none of the partners that were counted.
pub record JudgesSteps (bytes : List ℕ) (L : Elements) (p : ℕ) (t : Tally) (room : ℕ) : Type 0 where
  pub eight : (q : ℕ) → step_bytes bytes p q room ≢ kept 8
  pub nine : (q : ℕ) → q ≢ absent → (step_bytes bytes p q room ≡ kept 9) ↔ ¬ Among q (partners_at L p)
  pub ten : (step_bytes bytes p absent room ≡ kept 10) ↔ (t.number ≢ 0)

abbrev pub PartnersJudgeSteps : Type 0
PartnersJudgeSteps = (bytes : List ℕ) (p m room : ℕ) (t : Tally) → partners_bytes bytes p ≡ got t m →
    (F : ℕ) × (N : ℕ) × (L : Elements) × (read_state bytes ≡ got (state F N L) m) × (t.number ≡ length (partners_at L p)) × JudgesSteps bytes L p t room
