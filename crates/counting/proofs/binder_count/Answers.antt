-- `binder_count`: one for each of the count, where the answer hands names over.
use Rattle.std.proofs.Common.{◌∙◌, sym, ap, ◌*◌, ℕ, arith}
use Rattle.format.specs.Kinds.{tag_kind, binder_count}
use Rattle.format.proofs.ActionKinds.{implied_binders}
use Rattle.format.proofs.Laws.{count_implied}
use Rattle.counting.proofs.binder_count.Goals as goal

pub returns-then-tag-lt-FIRST_COUNTED : goal.returns-then-tag-lt-FIRST_COUNTED
returns-then-tag-lt-FIRST_COUNTED c =
    let k = tag_kind c.args.tag in (
      c.taken-each.ensures.0 ∙ sym (implied_binders k) ∙ ap (λ (m : ℕ). m * binder_count k) (count_implied _ _ c.if-tag-lt-FIRST_COUNTED.true),
      omega (arith, c.taken-each.ensures.1),
    )
