-- The answers for `lowest_at`: only an action has a partner.
use native.Mathlib.Omega.{arith}
use Rattle.alone.proofs.Turnings.{chosen_below, some_there, process_within}
use Rattle.selecting.proofs.LowestChoices.{none_sought, chosen_lone}
use Rattle.selecting.proofs.lowest_at.Goals as goal
use Rattle.selecting.proofs.lowest_at.Goals.{else-rest-eq66-via-then-rest-eq66+else-rest-eq36, else-rest-eq66-via-else-rest-eq66}

pub slice_bounds-rest-count : goal.slice_bounds-rest-count
slice_bounds-rest-count c = omega (arith, chosen_below c.requires)

pub slice_bounds-rest-start : goal.slice_bounds-rest-start
slice_bounds-rest-start c = omega (arith, chosen_below c.requires)

pub bounds-rest-0 : goal.bounds-rest-0
bounds-rest-0 c = some_there c.requires

pub bounds-rest-3 : goal.bounds-rest-3
bounds-rest-3 c = process_within c.requires c.if-rest-eq66.true

pub returns : goal.returns
returns c F L π E a e o q h =
    chosen_lone a π e q h _ _
    (none_sought a π E e o (λ d f. elim c.else-rest-eq66.branch [ else-rest-eq66-via-then-rest-eq66+else-rest-eq36 w ↦ w.if-rest-eq36.false f | else-rest-eq66-via-else-rest-eq66 w ↦ w.if-rest-eq66.false d ]))
    (c.choose_at.ensures F L π E a e o)
