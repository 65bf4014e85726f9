-- `blocked_ambient`: a copy, then its first byte.
use Rattle.buffers.proofs.Appending.{nothing_yet, first_changed}
use Rattle.turning.proofs.blocked_ambient.Goals as goal

pub returns : goal.returns
returns c = first_changed c.args.element.now _ _ _ 0x41 c.requires.element_nonzero (c.append-end.ensures.1 _ _ (nothing_yet c.args.out.now))
