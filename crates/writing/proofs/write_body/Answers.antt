-- The answers for `write_body`: F and then the process, to the end of the part.
use Rattle.buffers.proofs.Appending.{nothing_yet}
use Rattle.writing.proofs.Writing.{body_filled}
use Rattle.writing.proofs.write_body.Goals as goal

pub returns : goal.returns
returns c =
    body_filled _ _ c.args.body.now _ c.requires.body_len
    (c.append.ensures.1 _ _ (c.append_word-next.ensures.1 _ _ (nothing_yet c.args.body.now)))
