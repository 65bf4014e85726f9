-- `append_word`: two stores behind the bytes written already.
use Rattle.std.proofs.Common.{◌≡◌, refl, ◌∙◌}
use Rattle.buffers.specs.Words.{word}
use Rattle.buffers.proofs.Appending.{appended_word}
use Rattle.buffers.proofs.Writing.{word_bytes}
use Rattle.buffers.proofs.append_word.Goals as goal

pub returns : goal.returns
unfolding word
returns c =
    let e : c.to_be_bytes.result ≡ word c.args.number = c.to_be_bytes.ensures ∙ word_bytes _ c.requires.number_bound in
    rw e (refl, λ new old l. appended_word new old c.args.out.now c.args.number c.args.at l c.requires.at_in_bounds)
