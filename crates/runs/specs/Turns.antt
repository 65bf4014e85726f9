-- One turn of a run: how the run ends there, or its move and the bytes of the state after it.
use Rattle.std.proofs.Math.Option.{Option, none, some}
use Rattle.std.specs.Prelude.{ℕ, zero, suc}
use Rattle.machine.specs.Elements.{State}
use Rattle.machine.specs.Lowest.{partner_number, place_in, partner_in, number_in}
use Rattle.machine.specs.Stepping.{step}
use Rattle.buffers.specs.Buffers.{Written, kept, wrote}
use Rattle.calls.specs.Steps.{stepped}
use Rattle.runs.specs.Runs.{Ending, blocked, spent, limit}

-- A move: the place, its partner's place or 65,535, the rule, and how many partners the place had to choose from.
pub data Moved : Type 0 where
  moves : (place partner rule partners : ℕ) → Moved

-- A step that is refused ends the run.
unfoldable pub moved_at : (place partner partners : ℕ) → Written ℕ ℕ → Written Ending Moved
moved_at p q n (kept k) = kept (limit k)
moved_at p q n (wrote rule new) = wrote (moves p q rule n) new

-- All blocked outranks a spent budget, and a spent budget 11, 12 and 13.
unfoldable pub turn_at : (room left : ℕ) → Option ℕ → State → Written Ending Moved
turn_at room left none S = kept blocked
turn_at room zero (some p) S = kept spent
turn_at room (suc b) (some p) S = moved_at p (partner_number (partner_in S p)) (number_in S p) (stepped room (step S p (partner_in S p)))

-- The turn of a state with so much of the budget left, for a buffer of so many bytes.
unfoldable pub turn : (room left : ℕ) → State → Written Ending Moved
turn room left S = turn_at room left (place_in S) S
