-- Between two pieces the session stands, what is printed and what is still to come are the session's text, and after each piece fewer lines are left.
use Rattle.std.proofs.Common.{◌≡◌, ℕ, List, ◌++◌}
use Rattle.std.specs.Io.KnownBytes.{Appends}
use Rattle.telling.specs.Sessions.{session_text}
use Rattle.telling.specs.Pieces.{lines_left, text_left, Stands}
use Rattle.cam.proofs.print_session.Given as goal

abbrev pub invariant-loop-present : goal.invariant-loop-present
invariant-loop-present g l =
    record {
      stands : Stands l.session l.present;
      printed : (bytes : List ℕ) × Appends (g.W.Write.contents l.fn.out) (g.W.Write.contents l.out) bytes × (bytes ++ text_left l.session l.present ≡ session_text l.job);
    }

abbrev pub decreases-loop-present : goal.decreases-loop-present
decreases-loop-present g l = lines_left l.session
