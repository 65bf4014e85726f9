-- The answers for `rewrite`, `rewrite_ambient` and `rewrite_element`: a list, the contents of an ambient, and what stands for an element.
use mathlib.Core.Path.{refl, sym, ap, ◌∙◌}
use Prim.Native.Nat.{◌+◌, ◌-◌, ◌≤◌}
use native.Mathlib.Omega.{arith}
use borrow.Rule.Slice.PartMut.{put_mid, same_len_mid}
use lib.ListN.{length}
use Rattle.machine.specs.Elements.{Elements}
use Rattle.elements.specs.Spelling.{encode_elements}
use Rattle.buffers.proofs.Parts.{length_part}
use Rattle.rewriting.proofs.Writers.{left_as}
use Rattle.places.proofs.Alone.{element_long, enclosed, contents_spelled, as_ambient, ambient_spelled}
use Rattle.applying.proofs.Suiting.{suits_turned}
use Rattle.applying.proofs.Edited.{changed_length, changed_left, instead_turned, ambient_suits, is_cut, is_changed, is_whole, is_still, is_process, is_unblocked, unblocked_length}
use Rattle.applying.proofs.Turns.{begins, to_write, replacing, own_is, goes_on, rewritten}
use Rattle.applying.proofs.+rewrite_rewrite_ambient_rewrite_element.Goals as goal
use Rattle.applying.proofs.+rewrite_rewrite_ambient_rewrite_element.Goals.{rewrite_element-else-unblocks-via-then-unblocks+else-tag-eq67, rewrite_element-else-unblocks-via-else-unblocks}

-- A list

pub rewrite-loop-element-init : goal.rewrite-loop-element-init
rewrite-loop-element-init t c = begins _ _ _ _ _ _ _ _ (ap (λ it. it.rest.now) c.into_iter-element-iterator.ensures.into_iter_gives ∙ c.elements_of-element-items.ensures)

pub rewrite-slice_bounds-rewrite_element-count : goal.rewrite-slice_bounds-rewrite_element-count
rewrite-slice_bounds-rewrite_element-count t c = let i = c.loop-element.invariant in omega (arith, to_write i c.in-Some.ensures.steps c.requires, c.requires.fits, i.long)

pub rewrite-slice_bounds-rewrite_element-start : goal.rewrite-slice_bounds-rewrite_element-start
rewrite-slice_bounds-rewrite_element-start t c = let i = c.loop-element.invariant in omega (arith, to_write i c.in-Some.ensures.steps c.requires, c.requires.fits, i.long)

pub rewrite-rewrite_element-requires : goal.rewrite-rewrite_element-requires
rewrite-rewrite_element-requires t c =
    let i = c.loop-element.invariant in
    let g = c.in-Some.ensures.steps in
    (omega (arith, c.decreases, g.parts, i.remains.within), replacing i g c.requires (omega (arith, i.long, length_part c.loop-element.done c.loop-element.out)))

pub rewrite-overflow_add-mid : goal.rewrite-overflow_add-mid
rewrite-overflow_add-mid t c =
    let i = c.loop-element.invariant in
    let g = c.in-Some.ensures.steps in
    omega (arith, to_write i g c.requires, own_is i g c.requires c.rewrite_element.ensures, c.requires.small)

pub rewrite-slice_bounds-set_behind-count : goal.rewrite-slice_bounds-set_behind-count
rewrite-slice_bounds-set_behind-count t c =
    let i = c.loop-element.invariant in
    let g = c.in-Some.ensures.steps in
    let o = c.loop-element.out in
    let m = c.loop-element.done in
    omega (arith, to_write i g c.requires, own_is i g c.requires c.rewrite_element.ensures, c.requires.fits, i.long, same_len_mid m (length o - m) o c.rewrite_element.new.out c.rewrite_element.auto.out)

pub rewrite-slice_bounds-set_behind-start : goal.rewrite-slice_bounds-set_behind-start
rewrite-slice_bounds-set_behind-start t c =
    let i = c.loop-element.invariant in
    let g = c.in-Some.ensures.steps in
    let o = c.loop-element.out in
    let m = c.loop-element.done in
    omega (arith, to_write i g c.requires, own_is i g c.requires c.rewrite_element.ensures, c.requires.fits, i.long, same_len_mid m (length o - m) o c.rewrite_element.new.out c.rewrite_element.auto.out)

pub rewrite-set_behind-requires : goal.rewrite-set_behind-requires
rewrite-set_behind-requires t c =
    let i = c.loop-element.invariant in
    let g = c.in-Some.ensures.steps in
    let o = c.loop-element.out in
    let m = c.loop-element.done in
    let written = put_mid m (length o - m) o c.rewrite_element.new.out in
    omega
    (arith, to_write i g c.requires, own_is i g c.requires c.rewrite_element.ensures, c.requires.fits, i.long, same_len_mid m (length o - m) o c.rewrite_element.new.out c.rewrite_element.auto.out, length_part (m + c.rewrite_element.result) written)

pub rewrite-overflow_add-done : goal.rewrite-overflow_add-done
rewrite-overflow_add-done t c =
    let i = c.loop-element.invariant in
    let g = c.in-Some.ensures.steps in
    omega (arith, c.set_behind.ensures.count, to_write i g c.requires, own_is i g c.requires c.rewrite_element.ensures, c.requires.small)

pub rewrite-overflow_add-at : goal.rewrite-overflow_add-at
rewrite-overflow_add-at t c = omega (arith, c.loop-element.invariant.offset, c.in-Some.ensures.steps.parts, c.requires.near)

pub rewrite-loop-element-preserved : goal.rewrite-loop-element-preserved
rewrite-loop-element-preserved t c =
    let i = c.loop-element.invariant in
    let o = c.loop-element.out in
    let m = c.loop-element.done in
    let written = put_mid m (length o - m) o c.rewrite_element.new.out in
    let n = m + c.rewrite_element.result in
    goes_on i c.in-Some.ensures.steps c.rewrite_element.ensures c.set_behind.ensures
    (same_len_mid n (length written - n) written c.set_behind.new.out c.set_behind.auto.out ∙ same_len_mid m (length o - m) o c.rewrite_element.new.out c.rewrite_element.auto.out ∙ i.long)

pub rewrite-returns : goal.rewrite-returns
rewrite-returns t c = rewritten c.loop-element.invariant c.in-None.ensures.steps

-- An ambient

pub rewrite_ambient-slice_bounds-rewrite-count : goal.rewrite_ambient-slice_bounds-rewrite-count
rewrite_ambient-slice_bounds-rewrite-count t c = let p = c.requires in omega (arith, (enclosed c.args.ambient.now p.status p.called p.contents p.spells).long)

pub rewrite_ambient-slice_bounds-rewrite-start : goal.rewrite_ambient-slice_bounds-rewrite-start
rewrite_ambient-slice_bounds-rewrite-start t c = let p = c.requires in omega (arith, (enclosed c.args.ambient.now p.status p.called p.contents p.spells).long)

pub rewrite_ambient-slice_bounds-rewrite-count-2 : goal.rewrite_ambient-slice_bounds-rewrite-count-2
rewrite_ambient-slice_bounds-rewrite-count-2 t c =
    let p = c.requires in omega (arith, p.fits, changed_length c.args.k p.handed p.moved c.args.unblocks c.args.at p.called p.contents)

pub rewrite_ambient-slice_bounds-rewrite-start-2 : goal.rewrite_ambient-slice_bounds-rewrite-start-2
rewrite_ambient-slice_bounds-rewrite-start-2 t c =
    let p = c.requires in omega (arith, p.fits, changed_length c.args.k p.handed p.moved c.args.unblocks c.args.at p.called p.contents)

pub rewrite_ambient-rewrite-n-requires : goal.rewrite_ambient-rewrite-n-requires
rewrite_ambient-rewrite-n-requires t c =
    let p = c.requires in
    let v = enclosed c.args.ambient.now p.status p.called p.contents p.spells in
    let l = changed_length c.args.k p.handed p.moved c.args.unblocks c.args.at p.called p.contents in (
      omega (arith, v.long, length_part 5 c.args.ambient.now),
      record {
        handed = p.handed;
        named = p.named;
        tree = p.contents;
        spells = contents_spelled c.args.ambient.now p.status p.called p.contents p.spells;
        suits = p.suits;
        moved = p.moved;
        carries = p.carries;
        fits = omega (arith, p.fits, l, length_part 5 c.args.out.now);
        small = omega (arith, p.small, l);
        near = omega (arith, p.near, v.long, length_part 5 c.args.ambient.now);
      },
    )

pub rewrite_ambient-name_ambient-requires-clause-in_bounds : goal.rewrite_ambient-name_ambient-requires-clause-in_bounds
rewrite_ambient-name_ambient-requires-clause-in_bounds t c =
    let p = c.requires in omega (arith, (enclosed c.args.ambient.now p.status p.called p.contents p.spells).long)

pub rewrite_ambient-name_ambient-requires-clause-in_bounds_2 : goal.rewrite_ambient-name_ambient-requires-clause-in_bounds_2
rewrite_ambient-name_ambient-requires-clause-in_bounds_2 t c =
    let p = c.requires in
    omega (
      arith,
      same_len_mid 5 (length c.args.out.now - 5) c.args.out.now c.rewrite-n.new.out c.rewrite-n.auto.out,
      p.fits,
      changed_length c.args.k p.handed p.moved c.args.unblocks c.args.at p.called p.contents,
    )

pub rewrite_ambient-name_ambient-requires-clause-n_bound : goal.rewrite_ambient-name_ambient-requires-clause-n_bound
rewrite_ambient-name_ambient-requires-clause-n_bound t c =
    let p = c.requires in
    omega (
      arith,
      (c.rewrite-n.ensures p.handed p.contents p.moved p.named (contents_spelled c.args.ambient.now p.status p.called p.contents p.spells) p.suits p.carries).count,
      p.small,
      changed_length c.args.k p.handed p.moved c.args.unblocks c.args.at p.called p.contents,
    )

pub rewrite_ambient-overflow_add-result : goal.rewrite_ambient-overflow_add-result
rewrite_ambient-overflow_add-result t c =
    let p = c.requires in
    omega (
      arith,
      (c.rewrite-n.ensures p.handed p.contents p.moved p.named (contents_spelled c.args.ambient.now p.status p.called p.contents p.spells) p.suits p.carries).count,
      p.small,
      changed_length c.args.k p.handed p.moved c.args.unblocks c.args.at p.called p.contents,
    )

pub rewrite_ambient-returns : goal.rewrite_ambient-returns
rewrite_ambient-returns t c ns u a A Z n p h e =
    let q = c.requires in
    changed_left c.args.ambient.now c.args.k ns Z c.args.unblocks c.args.at u a A p c.args.out.now _ _ _
    (omega (arith, q.fits, changed_length c.args.k q.handed q.moved c.args.unblocks c.args.at q.called q.contents))
    (c.rewrite-n.ensures ns A Z n (contents_spelled c.args.ambient.now u a A p) h e) c.name_ambient.ensures

-- An element

pub rewrite_element-turn-requires : goal.rewrite_element-turn-requires
rewrite_element-turn-requires t c =
    let p = c.requires in
    let m = sym c.is_marked.ensures ∙ c.if-is_marked.true in
    let e = ap (λ (A : Elements). length (encode_elements A)) (instead_turned c.args.k p.handed p.moved c.args.unblocks c.args.at p.element m) in
    record {
      handed = p.handed;
      named = p.named;
      element = p.element;
      spells = p.spells;
      suited = suits_turned c.args.k p.handed c.args.at p.element p.suits m;
      fits = omega (arith, p.fits, e);
      small = omega (arith, p.small, e);
      short = omega (arith, p.near);
    }

pub rewrite_element-returns-then-is_marked : goal.rewrite_element-returns-then-is_marked
rewrite_element-returns-then-is_marked t c ns E Z n p h e =
    let m = sym c.is_marked.ensures ∙ c.if-is_marked.true in
    left_as (ap encode_elements (instead_turned c.args.k ns Z c.args.unblocks c.args.at E m)) (c.turn.ensures ns E n p (suits_turned c.args.k ns c.args.at E h m))

pub rewrite_element-bounds-element-0 : goal.rewrite_element-bounds-element-0
rewrite_element-bounds-element-0 t c = let p = c.requires in omega (arith, ap length p.spells.spelled, element_long p.element)

pub rewrite_element-returns-then-eq : goal.rewrite_element-returns-then-eq
rewrite_element-returns-then-eq t c ns E Z n p h e =
    left_as (is_cut c.args.k ns Z c.args.unblocks c.args.at E c.args.element.now p (sym c.is_marked.ensures ∙ c.if-is_marked.false) c.if-tag-lt66.true (sym c.eq.ensures ∙ c.if-eq.true)) record { written = refl; count = refl }

pub rewrite_element-rewrite_ambient-requires : goal.rewrite_element-rewrite_ambient-requires
rewrite_element-rewrite_ambient-requires t c =
    let p = c.requires in
    let v = as_ambient c.args.element.now p.element p.spells c.if-tag-lt66.true in
    let e = ap length (is_changed c.args.k p.handed p.moved c.args.unblocks c.args.at p.element c.args.element.now p.spells (sym c.is_marked.ensures ∙ c.if-is_marked.false) v (sym c.eq.ensures ∙ c.if-eq.false) (sym c.holds_mark.ensures ∙ c.if-holds_mark.true)) in (
      omega arith,
      record {
        handed = p.handed;
        named = p.named;
        status = v.status;
        called = v.called;
        contents = v.contents;
        spells = ambient_spelled c.args.element.now p.element v p.spells;
        suits = ambient_suits c.args.k p.handed c.args.at p.element v p.suits;
        moved = p.moved;
        carries = p.carries;
        fits = omega (arith, p.fits, e);
        small = omega (arith, p.small, e);
        near = p.near;
      },
    )

pub rewrite_element-returns-then-holds_mark : goal.rewrite_element-returns-then-holds_mark
rewrite_element-returns-then-holds_mark t c ns E Z n p h e =
    let v = as_ambient c.args.element.now E p c.if-tag-lt66.true in
    left_as (is_changed c.args.k ns Z c.args.unblocks c.args.at E c.args.element.now p (sym c.is_marked.ensures ∙ c.if-is_marked.false) v (sym c.eq.ensures ∙ c.if-eq.false) (sym c.holds_mark.ensures ∙ c.if-holds_mark.true))
    (c.rewrite_ambient.ensures ns v.status v.called v.contents Z n (ambient_spelled c.args.element.now E v p) (ambient_suits c.args.k ns c.args.at E v h) e)

pub rewrite_element-keep-requires : goal.rewrite_element-keep-requires
rewrite_element-keep-requires t c =
    let p = c.requires in
    omega (arith, p.fits, ap length (is_whole c.args.k p.handed p.moved c.args.unblocks c.args.at p.element c.args.element.now p.spells (sym c.is_marked.ensures ∙ c.if-is_marked.false) c.if-tag-lt66.true (sym c.eq.ensures ∙ c.if-eq.false) (sym c.holds_mark.ensures ∙ c.if-holds_mark.false)))

pub rewrite_element-returns-then-tag-lt66 : goal.rewrite_element-returns-then-tag-lt66
rewrite_element-returns-then-tag-lt66 t c ns E Z n p h e =
    left_as (is_whole c.args.k ns Z c.args.unblocks c.args.at E c.args.element.now p (sym c.is_marked.ensures ∙ c.if-is_marked.false) c.if-tag-lt66.true (sym c.eq.ensures ∙ c.if-eq.false) (sym c.holds_mark.ensures ∙ c.if-holds_mark.false)) c.keep.ensures

pub rewrite_element-unblock_action-requires-clause-in_bounds : goal.rewrite_element-unblock_action-requires-clause-in_bounds
rewrite_element-unblock_action-requires-clause-in_bounds t c =
    let p = c.requires in omega (arith, ap length p.spells.spelled, element_long p.element)

pub rewrite_element-unblock_action-requires-clause-action_in_bounds : goal.rewrite_element-unblock_action-requires-clause-action_in_bounds
rewrite_element-unblock_action-requires-clause-action_in_bounds t c =
    let p = c.requires in
    let l : 3 ≤ length c.args.element.now = omega (arith, ap length p.spells.spelled, element_long p.element) in
    let e = ap length (is_unblocked c.args.k p.handed p.moved c.args.unblocks c.args.at p.element c.args.element.now p.spells (sym c.is_marked.ensures ∙ c.if-is_marked.false) c.if-tag-eq67.true c.if-unblocks.true) in
    omega (arith, p.fits, e, unblocked_length c.args.element.now l)

pub rewrite_element-returns-then-tag-eq67 : goal.rewrite_element-returns-then-tag-eq67
rewrite_element-returns-then-tag-eq67 t c ns E Z n p h e =
    left_as (is_unblocked c.args.k ns Z c.args.unblocks c.args.at E c.args.element.now p (sym c.is_marked.ensures ∙ c.if-is_marked.false) c.if-tag-eq67.true c.if-unblocks.true) c.unblock_action.ensures

pub rewrite_element-keep-requires-2 : goal.rewrite_element-keep-requires-2
rewrite_element-keep-requires-2 t c =
    let p = c.requires in
    elim c.else-unblocks.branch [
      | rewrite_element-else-unblocks-via-then-unblocks+else-tag-eq67 w ↦ omega (arith, p.fits, ap length (is_process c.args.k p.handed p.moved c.args.unblocks c.args.at p.element c.args.element.now p.spells (sym c.is_marked.ensures ∙ c.if-is_marked.false) c.if-tag-lt66.false w.if-tag-eq67.false))
      | rewrite_element-else-unblocks-via-else-unblocks w ↦ omega (arith, p.fits, ap length (is_still c.args.k p.handed p.moved c.args.unblocks c.args.at p.element c.args.element.now p.spells (sym c.is_marked.ensures ∙ c.if-is_marked.false) c.if-tag-lt66.false w.if-unblocks.false))
    ]

pub rewrite_element-returns : goal.rewrite_element-returns
rewrite_element-returns t c ns E Z n p h e =
    elim c.else-unblocks.branch [
      | rewrite_element-else-unblocks-via-then-unblocks+else-tag-eq67 w ↦ left_as (is_process c.args.k ns Z c.args.unblocks c.args.at E c.args.element.now p (sym c.is_marked.ensures ∙ c.if-is_marked.false) c.if-tag-lt66.false w.if-tag-eq67.false) c.keep-2.ensures
      | rewrite_element-else-unblocks-via-else-unblocks w ↦ left_as (is_still c.args.k ns Z c.args.unblocks c.args.at E c.args.element.now p (sym c.is_marked.ensures ∙ c.if-is_marked.false) c.if-tag-lt66.false w.if-unblocks.false) c.keep-2.ensures
    ]
