-- The text of a partner that the code has as a place or none, and the line of a turn, are those of the step.
use mathlib.Core.Path.{◌≡◌, refl}
use mathlib.Core.Bool.{Bool, true, false}
use mathlib.Core.List.{[], ◌∷◌}
use Prim.Native.Nat.{ℕ}
use lib.Dec.{eqb}
use Rattle.std.proofs.Math.Option.{none, some}
use Rattle.machine.specs.Limits.{absent}
use Rattle.machine.specs.Lowest.{partner_of}
use Rattle.machine.specs.Tests.{pick}
use Rattle.format.specs.Answers.{coded}
use Rattle.lines.specs.Lines.{decimal, partner_text, step_line}
use Rattle.lines.specs.Endings.{partner_shown, turn_line, TurnIsStep}

pub partner_shown_law : (q : ℕ) → partner_shown (coded (partner_of q)) ≡ partner_text q
unfolding partner_of partner_text
partner_shown_law q = go (eqb q absent)
  where
    go : (b : Bool) → partner_shown (coded (pick b none (some q))) ≡ pick b (45 ∷ []) (decimal q)
    go true = refl
    go false = refl

pub turn_is_step : TurnIsStep
unfolding turn_line step_line
turn_is_step t q e =
    rw (e, partner_shown_law q) refl
