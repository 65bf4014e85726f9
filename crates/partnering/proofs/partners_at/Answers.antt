-- The answers for `partners_at`: 8 where the element cannot act; of those that can, only an action has partners.
use native.Mathlib.Omega.{arith}
use Rattle.machine.proofs.Places.{element_at_at}
use Rattle.places.proofs.Offsets.{standing_below, standing_list, standing_some, process_long, spelled_from, flattened_graded}
use Rattle.partnering.proofs.Partnering.{element_standing, element_action, element_refused, element_lone, element_acts}
use Rattle.partnering.proofs.partners_at.Goals as goal
use Rattle.partnering.proofs.partners_at.Goals.{else-rest-eq66-via-then-rest-eq66+else-rest-eq36, else-rest-eq66-via-else-rest-eq66}

pub slice_bounds-rest-count : goal.slice_bounds-rest-count
slice_bounds-rest-count c = omega (arith, standing_below (element_standing c.requires))

pub slice_bounds-rest-start : goal.slice_bounds-rest-start
slice_bounds-rest-start c = omega (arith, standing_below (element_standing c.requires))

pub can_act-requires-clause-list_nonzero : goal.can_act-requires-clause-list_nonzero
can_act-requires-clause-list_nonzero c = standing_some (element_standing c.requires)

pub can_act-requires-clause-spelled_list : goal.can_act-requires-clause-spelled_list
can_act-requires-clause-spelled_list c = standing_list (element_standing c.requires)

pub returns-then-not-can_act : goal.returns-then-not-can_act
returns-then-not-can_act c L π E n p g e o =
    element_refused L π E p g e o n (c.can_act.ensures _ (spelled_from L π E e o p.spelled) (flattened_graded (element_at_at L π E e) g)) c.if-not-can_act.true

pub bounds-rest-0 : goal.bounds-rest-0
bounds-rest-0 c = standing_some (element_standing c.requires)

pub bounds-rest-3 : goal.bounds-rest-3
bounds-rest-3 c = process_long (element_standing c.requires) c.if-rest-eq66.true

pub action_partners-requires : goal.action_partners-requires
action_partners-requires c = element_action c.requires c.if-rest-eq66.true c.if-rest-eq36.true

pub returns-then-rest-eq36 : goal.returns-then-rest-eq36
returns-then-rest-eq36 c L π E n p g e o =
    element_acts L π E p g e o n (c.can_act.ensures _ (spelled_from L π E e o p.spelled) (flattened_graded (element_at_at L π E e) g)) c.if-not-can_act.false c.if-rest-eq66.true c.if-rest-eq36.true
    _ (λ α P d. c.action_partners.ensures L π α P n p d o)

pub returns : goal.returns
returns c L π E n p g e o =
    element_lone L π E p g e o n (c.can_act.ensures _ (spelled_from L π E e o p.spelled) (flattened_graded (element_at_at L π E e) g)) c.if-not-can_act.false
    (λ a b. elim c.else-rest-eq66.branch [ else-rest-eq66-via-then-rest-eq66+else-rest-eq36 w ↦ w.if-rest-eq36.false b | else-rest-eq66-via-else-rest-eq66 w ↦ w.if-rest-eq66.false a ])
