-- `element_left` and `list_left`: how many bytes are left of an element, and of a list.
use Rattle.std.proofs.Common.{◌∙◌, sym, ap, length, arith, length-append}
use Rattle.machine.specs.Elements.{only}
use Rattle.buffers.proofs.Parts.{length_part}
use Rattle.elements.proofs.Searching.{listed}
use Rattle.places.proofs.Alone.{element_long, as_ambient, ambient_spelled, contents_spelled}
use Rattle.elements.proofs.Each.{begin, go_on, over, element_spelled}
use Rattle.clearing.specs.Clears.{is_cleared_by}
use Rattle.clearing.proofs.Clears.{swept, swept_still, swept_shorter, element_width, swept_first_of, swept_none, element_longer}
use Rattle.clearing.proofs.+element_left_list_left.Goals as goal

-- One element

pub element_left-bounds-element-0 : goal.element_left-bounds-element-0
element_left-bounds-element-0 t c = let p = c.requires in omega (arith, ap length p.spells.spelled, element_long p.element)

pub element_left-slice_bounds-list_left-count : goal.element_left-slice_bounds-list_left-count
element_left-slice_bounds-list_left-count t c = omega (arith, element_longer _ c.requires.element c.requires.spells (omega arith))

pub element_left-slice_bounds-list_left-start : goal.element_left-slice_bounds-list_left-start
element_left-slice_bounds-list_left-start t c = omega (arith, element_longer _ c.requires.element c.requires.spells (omega arith))

pub element_left-list_left-n-requires : goal.element_left-list_left-n-requires
element_left-list_left-n-requires t c =
    let p = c.requires in
    let v = as_ambient _ p.element p.spells (omega arith) in
    let l = length_part 5 c.args.element.now in (
      omega (arith, c.decreases, l, element_longer _ p.element p.spells (omega arith)),
      listed (contents_spelled _ v.status v.called v.contents (ambient_spelled _ p.element v p.spells)) (omega (arith, p.short, l)),
    )

-- what is left of the contents is no longer than they are
pub element_left-width_left-requires : goal.element_left-width_left-requires
element_left-width_left-requires t c =
    let p = c.requires in
    let v = as_ambient _ p.element p.spells (omega arith) in
    let q = contents_spelled _ v.status v.called v.contents (ambient_spelled _ p.element v p.spells) in
    omega (arith, c.list_left-n.ensures v.contents q, swept_shorter (is_cleared_by c.args.free c.args.table.now) v.contents, ap length q.spelled, length_part 5 c.args.element.now, p.short)

pub element_left-returns-then-element-lt66 : goal.element_left-returns-then-element-lt66
element_left-returns-then-element-lt66 t c E q =
    let v = as_ambient _ E q (omega arith) in
    element_width (is_cleared_by c.args.free c.args.table.now) _ E q v _ _ _
    (c.list_left-n.ensures v.contents (contents_spelled _ v.status v.called v.contents (ambient_spelled _ E v q)))
    c.word.ensures.0
    c.width_left.ensures

pub element_left-returns : goal.element_left-returns
element_left-returns t c E q = sym (ap length (swept_still _ E _ q.spelled (omega arith)))

-- Along a list

pub list_left-loop-element-init : goal.list_left-loop-element-init
list_left-loop-element-init t c = begin (ap (λ it. it.rest.now) c.into_iter-element-iterator.ensures.into_iter_gives ∙ c.elements_of-element-items.ensures) (λ A h. omega arith)

pub list_left-element_left-left-requires : goal.list_left-element_left-left-requires
list_left-element_left-left-requires t c =
    let l = c.loop-element.iterator.0 in
    let g = c.in-Some.ensures.steps in
    let w = g.begins l.tree l.spelled in
    (omega (arith, c.decreases, g.parts, c.loop-element.invariant.within), record { element = w.element; spells = element_spelled w l.spellable; short = omega (arith, l.short, g.parts) })

pub list_left-loop-element-preserved : goal.list_left-loop-element-preserved
list_left-loop-element-preserved t c =
    let k = is_cleared_by c.args.free c.args.table.now in
    go_on c.loop-element.invariant c.in-Some.ensures.steps
    (λ A b w h. omega (arith, b.holds h, c.element_left-left.ensures w.element (element_spelled w (b.spellable h)), ap length (swept_first_of k w), length-append (swept k (only w.element)) (swept k w.others)))

-- what is counted with this element is within the list
pub list_left-overflow_add-left : goal.list_left-overflow_add-left
list_left-overflow_add-left t c =
    let p = c.requires in
    omega (arith, ((list_left-loop-element-preserved t c).of p.tree p.spelled).holds p.spellable, swept_shorter (is_cleared_by c.args.free c.args.table.now) p.tree, ap length p.spelled, p.short)

pub list_left-returns : goal.list_left-returns
list_left-returns t c A q = omega (arith, over c.loop-element.invariant c.in-None.ensures.steps A q.spelled q.spellable, ap length (swept_none (is_cleared_by c.args.free c.args.table.now)))
