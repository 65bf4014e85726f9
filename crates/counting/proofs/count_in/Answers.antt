-- `count_in`: by the tag, or the byte at its place.
use Rattle.std.proofs.Common.{◌≡◌, ◌∙◌, ap, get_or, ◌+◌, ◌*◌, ℕ, arith}
use Rattle.std.proofs.lemmas.Grind.{common_steps}
use Rattle.format.specs.Answers.{count_in}
use Rattle.format.specs.Kinds.{tag_kind, directed_of}
use Rattle.format.proofs.ActionKinds.{row_is}
use Rattle.format.proofs.Laws.{count_implied, count_byte}
use Rattle.counting.proofs.count_in.Goals as goal

pub returns-then-tag-lt-FIRST_COUNTED : goal.returns-then-tag-lt-FIRST_COUNTED
returns-then-tag-lt-FIRST_COUNTED c = (c.implied_count.ensures.0 ∙ count_implied _ _ c.if-tag-lt-FIRST_COUNTED.true, c.implied_count.ensures.1)

pub returns : goal.returns
returns c =
    let d : c.from.result ≡ directed_of (tag_kind c.args.tag) = c.from.ensures ∙ (row_is _ _ c.kind_row.ensures).3 in
    let n : get_or c.args.body.now (2 * (1 + c.from.result)) 0 ≡ count_in c.args.tag c.args.body.now =
    count_byte c.args.tag _ c.args.body.now c.if-tag-lt-FIRST_COUNTED.false (ap (λ (m : ℕ). 2 * (1 + m)) d) in
    let e : c.from-2.result ≡ get_or c.args.body.now (2 * (1 + c.from.result)) 0 = grind (arith, common_steps) in
    (e ∙ n, omega arith)
