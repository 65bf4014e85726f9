-- The answers for `finish`.
use mathlib.Core.Path.{◌≡◌}
use native.Mathlib.Omega.{arith}
use Rattle.std.specs.Prelude.{Err}
use Rattle.format.specs.Answers.{finish_at}
use Rattle.format.proofs.Laws.{finish_done, finish_leftover}
use Rattle.format.proofs.finish.Goals as goal

pub returns-in_err-reached : goal.returns-in_err-reached
unfolding finish_at
returns-in_err-reached c =
    let e : c.from_residual.result ≡ Err c.in_err-reached.field-0.0 = grind arith in
    rw c.in_err-reached.was e

pub returns-then-reached-len : goal.returns-then-reached-len
returns-then-reached-len c = rw c.in_ok-reached.was (finish_done _ _ _ (omega arith))

pub returns : goal.returns
returns c = rw c.in_ok-reached.was (finish_leftover _ _ _ (omega arith))
