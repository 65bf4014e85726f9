-- `in_parallel`: the start of a field, and the rest of its body.
use Rattle.std.proofs.Common.{refl}
use Rattle.buffers.proofs.Appending.{left_is, field_of_two}
use Rattle.turning.proofs.in_parallel.Goals as goal

pub returns : goal.returns
returns c = left_is (field_of_two 0x21 _ c.args.first.now c.args.second.now refl) (c.append.ensures.1 _ _ c.start_field-n.ensures.1)
