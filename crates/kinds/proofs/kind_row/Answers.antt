-- `kind_row`: what is taken out of the byte is the row.
use Rattle.std.proofs.Common.{refl}
use Rattle.kinds.proofs.Table.{row_says}
use Rattle.kinds.proofs.kind_row.Goals as goal

pub returns : goal.returns
returns c = row_says c.args.tag _ _ _ _ _ c.kind_byte-byte.ensures refl refl refl refl
