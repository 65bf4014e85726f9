-- `behind_action`: the start of a field, and a field in the part behind it.
use Rattle.std.proofs.Common.{◌++◌, arith, length-append}
use Rattle.buffers.proofs.Parts.{length_field}
use Rattle.buffers.proofs.Appending.{left_is, lent_behind, field_of_two}
use Rattle.turning.proofs.behind_action.Goals as goal

pub returns : goal.returns
returns c =
    let a = c.args in
    let long = length_field 0x21 (a.first.now ++ a.second.now) in
    left_is (field_of_two 0x24 _ _ _ (omega (arith, long, length-append a.first.now a.second.now)))
    (lent_behind c.start_field-n.ensures.1 c.in_parallel.ensures)
