-- `start_field`: a header, and a piece in the part behind it.
use Rattle.std.proofs.Common.{refl, arith}
use Rattle.buffers.proofs.Appending.{started}
use Rattle.buffers.proofs.start_field.Goals as goal

pub returns : goal.returns
returns c = (refl, started _ _ _ _ (omega arith) c.requires.len_bound c.write_header.ensures _ c.requires.first_in_bounds c.copy.ensures)
