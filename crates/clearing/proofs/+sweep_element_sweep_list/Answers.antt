-- `sweep_element` and `sweep_list`: what is left of an element, and of a list, as it is written.
use Rattle.std.proofs.Common.{[], ◌++◌, ◌∙◌, ◌-◌, refl, sym, ap, length, arith, append_assoc, append-nil, length-append}
use borrow.Rule.Slice.PartMut.{same_len_mid}
use Rattle.calculus.specs.Processes.{name}
use Rattle.machine.specs.Elements.{only}
use Rattle.buffers.proofs.Appending.{nothing_yet, lent_behind, left_is}
use Rattle.buffers.proofs.Parts.{length_part}
use Rattle.format.specs.Reading.{word_at}
use Rattle.places.proofs.Alone.{element_long, as_ambient, ambient_spelled, contents_spelled}
use Rattle.elements.proofs.Each.{begin, go_on, over, element_spelled}
use Rattle.clearing.specs.Clears.{is_cleared_by}
use Rattle.clearing.proofs.Clears.{swept, swept_still, swept_shorter, element_width, room_inside, ambient_swept, swept_first_of, swept_none, element_longer}
use Rattle.clearing.proofs.+sweep_element_sweep_list.Goals as goal

pub sweep_element-bounds-element-0 : goal.sweep_element-bounds-element-0
sweep_element-bounds-element-0 t c = let p = c.requires in omega (arith, ap length p.spells.spelled, element_long p.element)

-- A process or a blocked action

pub sweep_element-append-requires : goal.sweep_element-append-requires
sweep_element-append-requires t c =
    let p = c.requires in
    omega (arith, p.fits, ap length (swept_still (is_cleared_by c.args.free c.args.table.now) p.element _ p.spells.spelled (omega arith)))

pub sweep_element-returns-then-element-gt65 : goal.sweep_element-returns-then-element-gt65
sweep_element-returns-then-element-gt65 t c E q =
    left_is (sym (swept_still (is_cleared_by c.args.free c.args.table.now) E _ q.spelled (omega arith))) (c.append.ensures.1 _ _ (nothing_yet _))

-- An ambient: room for what is left of its contents

pub sweep_element-slice_bounds-sweep_list-count : goal.sweep_element-slice_bounds-sweep_list-count
sweep_element-slice_bounds-sweep_list-count t c = omega (arith, element_longer _ c.requires.element c.requires.spells (omega arith))

pub sweep_element-slice_bounds-sweep_list-start : goal.sweep_element-slice_bounds-sweep_list-start
sweep_element-slice_bounds-sweep_list-start t c = omega (arith, element_longer _ c.requires.element c.requires.spells (omega arith))

pub sweep_element-sweep_list-n-requires : goal.sweep_element-sweep_list-n-requires
sweep_element-sweep_list-n-requires t c =
    let p = c.requires in
    let w = is_cleared_by c.args.free c.args.table.now in
    let v = as_ambient _ p.element p.spells (omega arith) in
    let l = length_part 5 c.args.element.now in
    let o = length_part c.min-front.result c.args.out.now in
    let e = element_width w _ p.element p.spells v (length (swept w v.contents)) _ _ refl refl refl in
    let f = room_inside (w (name (word_at c.args.element.now 3))) (length (swept w v.contents)) _ (length c.args.out.now) (omega (arith, e, p.fits)) c.min-front.ensures in (
      omega (arith, c.decreases, l, element_longer _ p.element p.spells (omega arith)),
      record {
        tree = v.contents;
        spells = contents_spelled _ v.status v.called v.contents (ambient_spelled _ p.element v p.spells);
        fits = omega (arith, f, o);
        short = omega (arith, p.short, l);
      },
    )

pub sweep_element-keep_ambient-requires : goal.sweep_element-keep_ambient-requires
sweep_element-keep_ambient-requires t c =
    let p = c.requires in
    let w = is_cleared_by c.args.free c.args.table.now in
    let v = as_ambient _ p.element p.spells (omega arith) in
    let q = contents_spelled _ v.status v.called v.contents (ambient_spelled _ p.element v p.spells) in
    let n = (c.sweep_list-n.ensures v.contents q).count in
    let long = element_longer _ p.element p.spells (omega arith) in
    let o = c.args.out.now in
    let m = c.min-front.result in
    let same = same_len_mid m (length o - m) o c.sweep_list-n.new.out c.sweep_list-n.auto.out in
    record {
      in_bounds = long;
      n_bound = omega (arith, n, swept_shorter w v.contents, ap length q.spelled, length_part 5 c.args.element.now, long, p.short);
      n_in_bounds = omega (arith, element_width w _ p.element p.spells v c.sweep_list-n.result _ _ n refl refl, p.fits, same);
    }

pub sweep_element-returns : goal.sweep_element-returns
sweep_element-returns t c E q =
    let w = is_cleared_by c.args.free c.args.table.now in
    let p = c.requires in
    let v = as_ambient _ E q (omega arith) in
    let u = as_ambient _ p.element p.spells (omega arith) in
    let n = (c.sweep_list-n.ensures u.contents (contents_spelled _ u.status u.called u.contents (ambient_spelled _ p.element u p.spells))).count in
    ambient_swept w _ E q v _ _ _ _ _ _ c.min-front.ensures (omega (arith, element_width w _ p.element p.spells u c.sweep_list-n.result _ _ n refl refl, p.fits))
    (c.sweep_list-n.ensures v.contents (contents_spelled _ v.status v.called v.contents (ambient_spelled _ E v q)))
    c.keep_ambient.ensures

-- Along a list

pub sweep_list-loop-element-init : goal.sweep_list-loop-element-init
sweep_list-loop-element-init t c = (refl, begin (ap (λ it. it.rest.now) c.into_iter-element-iterator.ensures.into_iter_gives ∙ c.elements_of-element-items.ensures) (λ A h. ([], refl, nothing_yet _)))

pub sweep_list-sweep_element-done-requires : goal.sweep_list-sweep_element-done-requires
sweep_list-sweep_element-done-requires t c =
    let p = c.requires in
    let k = is_cleared_by c.args.free c.args.table.now in
    let i = c.loop-element.invariant in
    let g = c.in-Some.ensures.steps in
    let b = i.1.of p.tree p.spells.spelled in
    let w = g.begins b.others b.spelled in
    let d = b.holds p.spells.spellable in (
      omega (arith, c.decreases, g.parts, i.1.within),
      record {
        element = w.element;
        spells = element_spelled w (b.spellable p.spells.spellable);
        fits =
            omega
            (arith, d.2.count, p.fits, ap length d.1, ap length (swept_first_of k w), length-append d.0 (swept k b.others), length-append (swept k (only w.element)) (swept k w.others), length_part c.loop-element.done c.loop-element.out, i.0);
        short = omega (arith, p.short, g.parts, i.1.within);
      },
    )

pub sweep_list-loop-element-preserved : goal.sweep_list-loop-element-preserved
sweep_list-loop-element-preserved t c =
    let k = is_cleared_by c.args.free c.args.table.now in
    let i = c.loop-element.invariant in
    let o = c.loop-element.out in
    let m = c.loop-element.done in (
      same_len_mid m (length o - m) o c.sweep_element-done.new.out c.sweep_element-done.auto.out ∙ i.0,
      go_on i.1 c.in-Some.ensures.steps
          (λ A b w h.
          let d = b.holds h in (
            d.0 ++ swept k (only w.element),
            d.1 ∙ ap (λ r. d.0 ++ r) (swept_first_of k w) ∙ sym (append_assoc d.0 (swept k (only w.element)) (swept k w.others)),
            lent_behind d.2 (c.sweep_element-done.ensures w.element (element_spelled w (b.spellable h))),
          )),
    )

pub sweep_list-overflow_add-done : goal.sweep_list-overflow_add-done
sweep_list-overflow_add-done t c =
    let p = c.requires in
    let k = is_cleared_by c.args.free c.args.table.now in
    let b = (sweep_list-loop-element-preserved t c).1.of p.tree p.spells.spelled in
    let d = b.holds p.spells.spellable in
    omega (arith, d.2.count, ap length d.1, length-append d.0 (swept k b.others), swept_shorter k p.tree, ap length p.spells.spelled, p.short)

pub sweep_list-returns : goal.sweep_list-returns
sweep_list-returns t c A q =
    let k = is_cleared_by c.args.free c.args.table.now in
    let d = over c.loop-element.invariant.1 c.in-None.ensures.steps A q.spelled q.spellable in
    left_is (sym (d.1 ∙ ap (λ r. d.0 ++ r) (swept_none k) ∙ append-nil d.0)) d.2
