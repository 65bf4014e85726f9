-- `received`: a field, and the substitution in its body.
use Rattle.std.proofs.Common.{sym, ap, ◌∙◌, length}
use Rattle.calculus.specs.Processes.{lift_by}
use Rattle.buffers.specs.Words.{field}
use Rattle.buffers.proofs.Appending.{left_is, body_part, body_changed}
use Rattle.layouts.proofs.Laying.{length_rename}
use Rattle.turning.proofs.Turned.{under_none}
use Rattle.turning.proofs.received.Goals as goal

pub substitute-requires : goal.substitute-requires
substitute-requires c = rw (body_part 0x42 _ _ _ _ c.write_field-end.ensures.1) c.requires.receiving

pub returns : goal.returns
unfolding lift_by
returns c ns P n e s =
    let l = c.write_field-end.ensures.1 in
    let new = c.substitute.ensures ns P n (body_part 0x42 _ _ _ _ l ∙ e) (under_none (length ns) P s) in
    left_is (ap (field 0x42) new) (body_changed 0x42 _ _ _ _ _ l (ap length new ∙ length_rename _ P ∙ ap length (sym e)))
