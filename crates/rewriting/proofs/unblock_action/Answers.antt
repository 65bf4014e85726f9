-- `unblock_action`: a header, and a field in the part behind it.
use Rattle.std.proofs.Common.{◌≡◌, List, ℕ, length, ap, arith}
use Rattle.buffers.specs.Words.{field}
use Rattle.buffers.proofs.Parts.{length_field, part_all, length_part, from}
use Rattle.buffers.proofs.Appending.{left_is, field_left}
use Rattle.rewriting.proofs.unblock_action.Goals as goal

pub returns : goal.returns
returns c =
    let action = c.args.action.now in
    let long : length action ≡ length (field 0x24 (from action 3)) = omega (arith, length_field 0x24 (from action 3), length_part 3 action) in
    left_is (ap (λ (l : List ℕ). field 0x42 (field 0x24 l)) (part_all 3 action))
    (field_left _ _ _ _ (omega arith) c.requires.action_len_bound c.write_header.ensures _ long c.write_field.ensures.1)
