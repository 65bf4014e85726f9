-- What was read is the whole job, or one that is too long as the whole is.
use Rattle.std.proofs.Common.{arith}
use Rattle.std.proofs.lemmas.Result.{on_ok_weaker}
use Rattle.cam.proofs.Cut.{told_whole}
use Rattle.cam.proofs.hold_session.Goals as goal

pub returns : goal.returns
returns g c =
    let read = c.in_ok-n.ensures in
    on_ok_weaker c.print_session.result
    (λ p. told_whole _ _ _ _ _ read.bytes (λ h. read.end (omega (arith, h, read.bound.1))) p)
    c.print_session.ensures
