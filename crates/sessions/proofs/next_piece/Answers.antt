-- The answers for `next_piece`: the refusal, the steps, or nothing.
use Rattle.telling.specs.Pieces.{Stands}
use Rattle.telling.proofs.Telling.{refusal_told, over_told}
use Rattle.sessions.proofs.next_piece.Goals as goal

pub tell_steps-requires : goal.tell_steps-requires
unfolding Stands
tell_steps-requires c = (rw c.in-Running.is at c.requires.0, c.requires.1)

pub returns-in-Refused : goal.returns-in-Refused
returns-in-Refused c = rw c.in-Refused.is (refusal_told c.append_refusal.ensures)

pub returns-in-Running : goal.returns-in-Running
returns-in-Running c = rw c.in-Running.is c.tell_steps.ensures

pub returns-in-Over : goal.returns-in-Over
returns-in-Over c = rw c.in-Over.is over_told
