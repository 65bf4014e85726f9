-- The answers for `action_at`: each part from its spelling, by the rows of its kind and of the one that answers it.
use mathlib.Core.Path.{ap, ◌∙◌}
use native.Mathlib.Omega.{arith}
use lib.ListN.{get_or}
use Rattle.buffers.proofs.Parts.{part_all}
use Rattle.format.specs.Answers.{count_in}
use Rattle.format.proofs.ActionKinds.{row_small}
use Rattle.layouts.proofs.Layouts.{layout_is, spelled_long}
use Rattle.layouts.proofs.action_at.Goals as goal

pub bounds-s-0 : goal.bounds-s-0
bounds-s-0 c = omega (arith, spelled_long c.requires)

pub overflow_add-result : goal.overflow_add-result
overflow_add-result c = record { fits = omega (arith, (row_small _ _ c.kind_row-row.ensures).0, c.type_inv.s 0) }

pub rule_by-requires : goal.rule_by-requires
rule_by-requires c = (omega arith, (row_small _ _ c.kind_row-row.ensures).0)

pub slice_bounds-count_in-count : goal.slice_bounds-count_in-count
slice_bounds-count_in-count c = spelled_long c.requires

pub slice_bounds-count_in-start : goal.slice_bounds-count_in-start
slice_bounds-count_in-start c = spelled_long c.requires

pub returns : goal.returns
returns c α rest e =
    let s = c.args.s.now in
    layout_is α s rest e _ c.kind_row-row.ensures _ c.kind_row-other.ensures _ _ c.rule_by.ensures c.channel_place-2.ensures.0 _ _ _ _ _ c.standing_of.ensures c.target_at.ensures c.word.ensures.0
    (c.count_in.ensures.0 ∙ ap (count_in (get_or s 0 0)) (part_all 3 s)) c.channel_place.ensures.0
