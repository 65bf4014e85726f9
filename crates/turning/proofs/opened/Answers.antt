-- `opened`: the start of a field, and a field in the part behind it.
use Rattle.std.proofs.Common.{arith}
use Rattle.buffers.proofs.Parts.{length_field}
use Rattle.buffers.proofs.Appending.{left_is, lent_behind, field_of_two}
use Rattle.turning.proofs.opened.Goals as goal

pub returns : goal.returns
returns c =
    left_is (field_of_two 0x40 _ _ _ (omega (arith, length_field 0x42 c.args.process.now))) (lent_behind c.start_field-n.ensures.1 c.write_field.ensures.1)
