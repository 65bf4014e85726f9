-- The run: the lowest place that can act, its lowest partner or none, again and again (document 01, "The step").
use Rattle.std.specs.Prelude.{List, ℕ, zero, suc}
use Rattle.std.proofs.Math.Option.{Option, none, some}
use Rattle.machine.specs.Limits.{byte_limit}
use Rattle.machine.specs.Elements.{State}
use Rattle.machine.specs.Stepping.{Answer, refused, accepted, step}
use Rattle.format.specs.Reading.{Outcome, refused as unread, got}
use Rattle.elements.specs.Spelling.{encode_state}
use Rattle.states.specs.Reading.{read_state}
use Rattle.buffers.specs.Buffers.{Written, kept, wrote, fitting}
use Rattle.machine.specs.Lowest.{place_in, partner_in}

-- How a run ends: all blocked, at its budget, or at 11, 12 or 13.
pub data Ending : Type 0 where
  blocked spent : Ending
  limit : ℕ → Ending

-- A run that has ended: how, after how many steps, and in which state.
pub data Ran : Type 0 where
  ran : Ending → (count : ℕ) → State → Ran

unfoldable pub counted : Ran → Ran
counted (ran e n S) = ran e (suc n) S

-- What follows a step: 11, 12 and 13 end the run, or it goes on.
unfoldable pub going_on : Written ℕ State → State → (State → Ran) → Ran
going_on (kept k) S more = ran (limit k) 0 S
going_on (wrote S' new) S more = counted (more S')

unfoldable pub after_step : (room : ℕ) → Answer → State → (State → Ran) → Ran
after_step room (refused k) S more = going_on (kept k) S more
after_step room (accepted n S') S more = going_on (fitting byte_limit room S' (encode_state S')) S more

-- All blocked outranks a spent budget, and a spent budget 11, 12 and 13.
unfoldable pub ends : (room budget : ℕ) → Option ℕ → State → (State → Ran) → Ran
ends room budget none S more = ran blocked 0 S
ends room zero (some p) S more = ran spent 0 S
ends room (suc b) (some p) S more = after_step room (step S p (partner_in S p)) S more

-- The run of a state with a budget, for an output buffer of so many bytes.
unfoldable pub run_from : (room budget : ℕ) → State → Ran
run_from room zero S = ends room zero (place_in S) S (ran spent 0)
run_from room (suc b) S = ends room (suc b) (place_in S) S (run_from room b)

-- What a run tells beside the bytes of its last state: how it ended, and after how many steps.
pub data Report : Type 0 where
  ended : Ending → (count : ℕ) → Report

unfoldable pub ended_in : Ran → Written ℕ Report
ended_in (ran e n S) = wrote (ended e n) (encode_state S)

-- The first state is held to the output buffer as the later ones are: too long for it is 13 before any ending.
unfoldable pub run_first : (room budget : ℕ) → Written ℕ State → Written ℕ Report
run_first room budget (kept k) = kept k
run_first room budget (wrote S first) = ended_in (run_from room budget S)

-- Refusals 1 to 7 and 14, then 13.
unfoldable pub run_read : List ℕ → (room budget : ℕ) → Outcome State → Written ℕ Report
run_read bytes room budget (unread k) = kept k
run_read bytes room budget (got S n) = run_first room budget (fitting byte_limit room S bytes)

-- A run of bytes.
unfoldable pub run_bytes : List ℕ → (budget room : ℕ) → Written ℕ Report
run_bytes bytes budget room = run_read bytes room budget (read_state bytes)
