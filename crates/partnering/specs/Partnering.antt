-- The partners of a place of a state: the lowest, and how many there are (document 02, request 3).
use Rattle.std.specs.Prelude.{Bool, true, false, List, ℕ, length}
use Rattle.machine.specs.Elements.{State, state}
use Rattle.machine.specs.Lowest.{able, partners_at}
use Rattle.machine.specs.Ordered.{lowest, member}
use Rattle.machine.specs.Questions.{Tally}
use Rattle.format.specs.Reading.{Outcome, refused, got}
use Rattle.states.specs.Reading.{read_state}

-- What is told of a place that can act, or that cannot, with these partners: the first of them and their number, or 8.
unfoldable pub told : (acts : Bool) → (partners : List ℕ) → (read : ℕ) → Outcome Tally
told true ps n = got (record { lowest = lowest ps; number = length ps }) n
told false ps n = refused 8

unfoldable pub partners_read : (place : ℕ) → Outcome State → Outcome Tally
partners_read p (refused k) = refused k
partners_read p (got (state F N L) n) = told (member p (able 0 L)) (partners_at L p) n

-- The partners of a place of a state's bytes: refusals 1 to 7 and 14, then 8.
unfoldable pub partners_bytes : List ℕ → (place : ℕ) → Outcome Tally
partners_bytes bytes p = partners_read p (read_state bytes)
