-- The answer for `goes_on`: a line is left unless the session is over.
use mathlib.Core.Path.{◌≡◌, refl, sym}
use mathlib.Core.Bool.{not, true}
use Prim.Native.Nat.{suc, ◌-◌}
use native.Mathlib.Omega.{arith}
use lib.Dec.{ltb}
use borrow.Author.Tests.{lt-ltb}
use Rattle.telling.specs.Sessions.{step_budget}
use Rattle.telling.specs.Pieces.{lines_left}
use Rattle.telling.specs.declared.Session.{Session}
use Rattle.telling.specs.declared.Session.TheVariants.{Refused, Running, Over}
use Rattle.sessions.proofs.goes_on.Goals.{in-Over, in_default}
use Rattle.sessions.proofs.goes_on.Goals as goal

some_left : (s : Session) → (s ≡ Over → ⊥) → true ≡ ltb 0 (lines_left s)
unfolding lines_left
some_left (Refused e) h = refl
some_left (Running steps n) h = sym (lt-ltb 0 (suc (step_budget - steps)) (omega arith))
some_left Over h = absurd (h refl)

none_left : (s : Session) → s ≡ Over → ltb 0 (lines_left s) ≡ not true
unfolding lines_left
none_left s e = rw e

pub returns : goal.returns
returns c =
    elim c.match-matches.branch [
      | in-Over w ↦ rw w.matches-is (sym (none_left c.args.session w.in-Over.is))
      | in_default w ↦ rw w.matches-is (some_left c.args.session w.in_default.not-Over)
    ]
