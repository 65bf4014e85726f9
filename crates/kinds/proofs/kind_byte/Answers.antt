-- `kind_byte`: every byte of the table is the definition's.
use Rattle.std.proofs.Common.{◌%◌, refl, arith}
use Rattle.machine.specs.Kinds.{kind_number, answering, standing_of}
use Rattle.kinds.specs.Kinds.{kind_at, tag_kind, standing_number, reference_count, directed_of, kind_byte}
use Rattle.kinds.proofs.Table.{below_eight}
use Rattle.kinds.proofs.kind_byte.Goals as goal

pub returns : goal.returns
unfolding kind_byte tag_kind kind_at kind_number answering standing_of standing_number reference_count directed_of
returns c =
    let f = c.from.ensures in
    below_eight (c.args.tag % 8) (omega arith)
    (λ e. rw (f, e) refl) (λ e. rw (f, e) refl) (λ e. rw (f, e) refl) (λ e. rw (f, e) refl) (λ e. rw (f, e) refl) (λ e. rw (f, e) refl) (λ e. rw (f, e) refl) (λ e. rw (f, e) refl)
