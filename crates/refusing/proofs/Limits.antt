-- The limits at which a turn ends a run: 8 to 12 by the step, and 13 where its result doesn't fit.
use mathlib.Core.Path.{◌≡◌, refl, ap}
use Prim.Native.Nat.{ℕ, zero, suc}
use native.Mathlib.Omega.{arith}
use Rattle.std.proofs.Math.Option.{Option, none, some}
use Rattle.machine.specs.Elements.{State}
use Rattle.machine.specs.Lowest.{place_in, partner_in}
use Rattle.machine.specs.Stepping.{Answer, refused, accepted, step}
use Rattle.machine.proofs.Stepping.{refusals_caused}
use Rattle.refusing.specs.Refusing.{last_of_calls, UpTo, TurnMeets}
use Rattle.refusing.proofs.Theorems.{fitting_refuses}
use Rattle.buffers.specs.Buffers.{Written, kept, wrote}
use Rattle.calls.specs.Steps.{stepped}
use Rattle.elements.specs.Spelling.{encode_state}
use Rattle.runs.specs.Runs.{limit}
use Rattle.runs.specs.Turns.{moved_at, turn_at, turn}

moved_limits : (p q n k : ℕ) (w : Written ℕ ℕ) → moved_at p q n w ≡ kept (limit k) → w ≡ kept k
unfolding moved_at
moved_limits p q n k (kept j) e = let i : j ≡ k = cc in ap kept i
moved_limits p q n k (wrote rule new) e = absurd (let z : ◌≡◌ {A = ℕ} 0 1 = cc in omega arith)

stepped_limits : (room k : ℕ) (S : State) (p : ℕ) (q : Option ℕ) → stepped room (step S p q) ≡ kept k → UpTo last_of_calls k
unfolding stepped
stepped_limits room k S p q = go (step S p q) refl
  where
    go : (a : Answer) → step S p q ≡ a → stepped room a ≡ kept k → UpTo last_of_calls k
    go (refused j) h e = let i : j ≡ k = cc in let n = (refusals_caused S p q).no_other j h in (omega arith, omega arith)
    go (accepted n T) h e = let f = fitting_refuses room k n (encode_state T) e in (omega arith, omega arith)

turn_limits : (room left : ℕ) (S : State) (k : ℕ) → turn room left S ≡ kept (limit k) → UpTo last_of_calls k
unfolding turn turn_at
turn_limits room left S k = go left (place_in S)
  where
    go : (left : ℕ) (p : Option ℕ) → turn_at room left p S ≡ kept (limit k) → UpTo last_of_calls k
    go left none e = absurd (let z : ◌≡◌ {A = ℕ} 0 1 = cc in omega arith)
    go zero (some p) e = absurd (let z : ◌≡◌ {A = ℕ} 0 1 = cc in omega arith)
    go (suc b) (some p) e = stepped_limits room k S p (partner_in S p) (moved_limits p _ _ k _ e)

pub turn_meets : TurnMeets
turn_meets room left S k e = let h = turn_limits room left S k e in (h.0, omega (arith, h.1))
