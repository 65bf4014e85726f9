-- `unfolded`: a header, and a field in the part behind it.
use Rattle.std.proofs.Common.{◌≡◌, ◌++◌, ◌+◌, length, arith, length-append}
use Rattle.buffers.specs.Words.{field}
use Rattle.buffers.proofs.Parts.{length_field}
use Rattle.buffers.proofs.Appending.{field_left}
use Rattle.turning.proofs.unfolded.Goals as goal

pub returns : goal.returns
returns c =
    let a = c.args in
    let beside = a.process.now ++ a.replication.now in
    let long : 6 + (length a.action.now + (length a.process.now + length a.replication.now)) ≡ length (field 0x24 (a.action.now ++ field 0x21 beside)) =
    omega (arith, length_field 0x24 (a.action.now ++ field 0x21 beside), length-append a.action.now (field 0x21 beside), length_field 0x21 beside, length-append a.process.now a.replication.now) in
    field_left _ _ _ _ (omega arith) c.requires.replication_bound c.write_header.ensures _ long c.behind_action.ensures
