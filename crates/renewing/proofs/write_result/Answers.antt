-- The answers for `write_result`: nothing is set down, or the ambient that was carried to a buffer of its own.
use mathlib.Core.Path.{sym, ap, ◌∙◌}
use native.Mathlib.Omega.{arith}
use lib.Seq.{length-take-le}
use Rattle.elements.specs.Spelling.{encode_elements}
use Rattle.buffers.proofs.Appending.{left_within}
use Rattle.places.proofs.Alone.{nothing_spelled}
use Rattle.renewing.proofs.Renewing.{renewing, sets_nothing, leaver_below, leaver_suits, leaver_within, leaver_spelled, leaver_carrying, leaver_carried}
use Rattle.renewing.proofs.write_result.Goals as goal

-- Nothing is set down

pub write_state-requires-clause-renewing : goal.write_state-requires-clause-renewing
write_state-requires-clause-renewing c =
    let p = c.requires.replanting in
    renewing p (nothing_spelled ∙ ap encode_elements (sym (sets_nothing p.sets c.in_default.is)))

pub returns-in_default : goal.returns-in_default
returns-in_default c F N L Z ns p n h d =
    c.write_state.ensures F N L Z ns p (nothing_spelled ∙ ap encode_elements (sym (sets_nothing d c.in_default.is))) n h

-- An ambient is set down

pub slice_bounds-ambient-count : goal.slice_bounds-ambient-count
slice_bounds-ambient-count c = let p = c.requires.replanting in omega (arith, leaver_below p.spells p.sets c.in-Some.is)

pub slice_bounds-ambient-start : goal.slice_bounds-ambient-start
slice_bounds-ambient-start c = let p = c.requires.replanting in omega (arith, leaver_below p.spells p.sets c.in-Some.is)

pub slice_bounds-carry-end : goal.slice_bounds-carry-end
slice_bounds-carry-end c =
    let p = c.requires.replanting in
    sym (length-take-le _ _ (leaver_within p.spells p.sets c.in-Some.is c.word-end.result c.word-end.ensures.0))

pub carry-n-requires : goal.carry-n-requires
carry-n-requires c =
    let p = c.requires.replanting in
    leaver_carrying p.spells p.sets c.in-Some.is c.word-end.result c.word-end.ensures.0 p.named p.suits p.short (omega (arith, p.within, p.small))

pub slice_bounds-buffer-end : goal.slice_bounds-buffer-end
slice_bounds-buffer-end c =
    let p = c.requires.replanting in
    let h = c.in-Some.is in
    left_within (c.carry-n.ensures p.handed _ _ _ p.named (leaver_spelled p.spells p.sets h c.word-end.result c.word-end.ensures.0) (leaver_suits p.spells p.sets h p.suits))

pub slice_bounds-write_state-end-2 : goal.slice_bounds-write_state-end-2
slice_bounds-write_state-end-2 c =
    let p = c.requires.replanting in
    let h = c.in-Some.is in
    sym (length-take-le _ _ (left_within (c.carry-n.ensures p.handed _ _ _ p.named (leaver_spelled p.spells p.sets h c.word-end.result c.word-end.ensures.0) (leaver_suits p.spells p.sets h p.suits))))

pub write_state-requires-2-clause-renewing : goal.write_state-requires-2-clause-renewing
write_state-requires-2-clause-renewing c =
    let p = c.requires.replanting in
    let h = c.in-Some.is in
    renewing p
    (leaver_carried p.spells p.sets h
    (c.carry-n.ensures p.handed _ _ _ p.named (leaver_spelled p.spells p.sets h c.word-end.result c.word-end.ensures.0) (leaver_suits p.spells p.sets h p.suits)))

pub returns : goal.returns
returns c F N L Z ns p n t d =
    let h = c.in-Some.is in
    c.write_state-2.ensures F N L Z ns p
    (leaver_carried p d h (c.carry-n.ensures ns _ _ _ n (leaver_spelled p d h c.word-end.result c.word-end.ensures.0) (leaver_suits p d h t)))
    n t
