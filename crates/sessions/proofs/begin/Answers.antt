-- The answers for `begin`: the job refused, or loaded.
use Rattle.telling.proofs.Telling.{begun_refused, begun_loaded}
use Rattle.sessions.proofs.begin.Goals as goal

pub returns-in-Err : goal.returns-in-Err
returns-in-Err c = rw c.number.ensures (begun_refused _ _ _ c.requires _ (rw c.in-Err.is at c.load.ensures))

pub returns-in-Ok : goal.returns-in-Ok
returns-in-Ok c = begun_loaded _ _ _ c.requires _ (rw c.in-Ok.is at c.load.ensures)
