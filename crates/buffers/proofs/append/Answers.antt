-- `append`: one piece, into what is behind the bytes written already.
use Rattle.std.proofs.Common.{refl}
use Rattle.buffers.proofs.Appending.{appended}
use Rattle.buffers.proofs.append.Goals as goal

pub returns : goal.returns
returns c = (refl, λ new old l. appended _ l c.requires c.copy.ensures)
