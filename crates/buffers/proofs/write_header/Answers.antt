-- `write_header`: three bytes, where there is room for them.
use Rattle.buffers.proofs.Writing.{no_header, header_stored}
use Rattle.buffers.proofs.write_header.Goals as goal

pub returns-then-out-lt3 : goal.returns-then-out-lt3
returns-then-out-lt3 c = no_header _ _ _ c.if-out-lt3.true

pub returns : goal.returns
returns c = let e = c.to_be_bytes.ensures in rw e (header_stored _ _ _ c.if-out-lt3.false)
