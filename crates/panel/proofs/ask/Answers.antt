-- The answers for `ask`: the length is past the end of the buffer, or a step of its front.
use Rattle.panel.proofs.Accesses.{asked_past, asked_step}
use Rattle.panel.proofs.ask.Goals as goal

pub returns-then-state-n : goal.returns-then-state-n
returns-then-state-n c = asked_past c.args.panel c.args.state.now c.args.spare.now c.if-state-n.true

pub returns : goal.returns
returns c = asked_step _ _ _ _ _ _ _ _ c.if-state-n.false c.least-room.ensures c.pair-place.ensures c.pair-partner.ensures c.step.ensures
