-- The answers for `next`: the record of how the turn ended the run, or of its step.
use Rattle.advancing.proofs.Turning.{turned_left}
use Rattle.running.proofs.Recording.{recorded_over, recorded_took}
use Rattle.running.proofs.Progress.next.Goals as goal

pub returns-in-Err : goal.returns-in-Err
returns-in-Err c S p = recorded_over _ _ _ (turned_left _ c.requires.count_le_budget.0 S (c.take_turn.ensures S p)) c.in-Err.is

pub returns-in-Ok : goal.returns-in-Ok
returns-in-Ok c S p = recorded_took _ _ _ (turned_left _ c.requires.count_le_budget.0 S (c.take_turn.ensures S p)) c.in-Ok.is
