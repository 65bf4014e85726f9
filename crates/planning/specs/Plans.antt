-- What two actions that meet change: rules 35 to 42 as plans. A plan counts from the first byte of the state, a spot from the root list, seven bytes behind it.
use Rattle.std.specs.Prelude.{◌≡◌, false, ℕ, ◌+◌, ltb, eqb, Option, Some, None}
use Rattle.machine.specs.Tests.{pick}
use Rattle.rewriting.specs.declared.Plan.{Plan}
use Rattle.places.specs.declared.Spot.{Spot}

-- The ambient that is taken out by rule n, which is 35, 37, 39 or 41: the one that holds the mover at this spot.
unfoldable pub cut_by : ℕ → Spot → Option ℕ
cut_by n mover = pick (ltb n 39) None (Some (7 + mover.within))

-- The element behind which it is set down: the accept at this spot, or the ambient that holds the release.
unfoldable pub after_by : ℕ → Spot → Option ℕ
after_by n other = pick (ltb n 39) None (Some (7 + pick (eqb n 39) other.at other.within))

-- The plan of rule n, with the sender or mover at one spot and the other at the second, whichever acts.
pub record PlanOf (n : ℕ) (sender other : Spot) (k : Plan) : Type 0 where
  pub turns : k.first ≡ 7 + sender.at
  pub answers : k.second ≡ Some (7 + other.at)
  pub cuts : k.cut ≡ cut_by n sender
  pub sets : k.after ≡ after_by n other
  pub meets : k.block ≡ false
