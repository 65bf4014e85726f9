-- `keep`: a copy, for which there is room.
use Rattle.buffers.proofs.Appending.{kept_whole}
use Rattle.rewriting.proofs.keep.Goals as goal

pub returns : goal.returns
returns c = kept_whole _ _ _ c.requires c.copy.ensures
