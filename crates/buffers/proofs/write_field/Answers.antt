-- `write_field`: a field that starts with all of its body.
use Rattle.buffers.proofs.Appending.{left_is, whole_field}
use Rattle.buffers.proofs.write_field.Goals as goal

pub returns : goal.returns
returns c = (c.start_field.ensures.0, left_is (whole_field _ _) c.start_field.ensures.1)
