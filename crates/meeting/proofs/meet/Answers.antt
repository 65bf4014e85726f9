-- The answers for `meet`: what both actions say, and the sender or mover joined with the other.
use native.Mathlib.Omega.{arith}
use Rattle.meeting.proofs.Joining.{acting_long, answering_long, acting_spelled, answering_spelled, both_fit, both_sent, meeting_of, joinable, sends_joining, takes_joining, chosen_by}
use Rattle.meeting.proofs.meet.Goals as goal
use Rattle.meeting.proofs.meet.Goals.{then-acts-eq1, else-acts-eq1}

pub overflow_add-here : goal.overflow_add-here
overflow_add-here c = let p = c.requires in omega (arith, acting_long p, p.admitting.short)

pub overflow_add-there : goal.overflow_add-there
overflow_add-there c = let p = c.requires in omega (arith, answering_long p, p.admitting.short)

pub slice_bounds-extent_of-count : goal.slice_bounds-extent_of-count
slice_bounds-extent_of-count c = omega (arith, acting_long c.requires)

pub slice_bounds-extent_of-start : goal.slice_bounds-extent_of-start
slice_bounds-extent_of-start c = omega (arith, acting_long c.requires)

pub extent_of-acts-requires : goal.extent_of-acts-requires
extent_of-acts-requires c = acting_spelled c.requires

pub slice_bounds-extent_of-count-2 : goal.slice_bounds-extent_of-count-2
slice_bounds-extent_of-count-2 c = omega (arith, answering_long c.requires)

pub slice_bounds-extent_of-start-2 : goal.slice_bounds-extent_of-start-2
slice_bounds-extent_of-start-2 c = omega (arith, answering_long c.requires)

pub extent_of-answers-requires : goal.extent_of-answers-requires
extent_of-answers-requires c = answering_spelled c.requires

pub overflow_sub-handing : goal.overflow_sub-handing
overflow_sub-handing c = omega (arith, both_fit c.requires _ _ c.extent_of-acts.ensures.0 c.extent_of-answers.ensures.0)

pub overflow_sub-handing-2 : goal.overflow_sub-handing-2
overflow_sub-handing-2 c = omega (arith, both_fit c.requires _ _ c.extent_of-acts.ensures.0 c.extent_of-answers.ensures.0)

pub overflow_add-handing-2 : goal.overflow_add-handing-2
overflow_add-handing-2 c =
    let h = both_sent c.requires _ _ c.extent_of-acts.ensures.0 c.extent_of-answers.ensures.0 in
    elim c.if-acts-eq1.branch [ then-acts-eq1 w ↦ rw w.at-is (omega (arith, h)) | else-acts-eq1 w ↦ rw w.at-is (omega (arith, h)) ]

pub overflow_add-handing-3 : goal.overflow_add-handing-3
overflow_add-handing-3 c =
    let h = both_sent c.requires _ _ c.extent_of-acts.ensures.0 c.extent_of-answers.ensures.0 in
    elim c.if-acts-eq1.branch [ then-acts-eq1 w ↦ rw w.at-is (omega (arith, h)) | else-acts-eq1 w ↦ rw w.at-is (omega (arith, h)) ]

pub overflow_add-handing-4 : goal.overflow_add-handing-4
overflow_add-handing-4 c =
    let h = both_sent c.requires _ _ c.extent_of-acts.ensures.0 c.extent_of-answers.ensures.0 in
    elim c.if-acts-eq1.branch [ then-acts-eq1 w ↦ rw w.at-is (omega (arith, h)) | else-acts-eq1 w ↦ rw w.at-is (omega (arith, h)) ]

pub overflow_add-handing-5 : goal.overflow_add-handing-5
overflow_add-handing-5 c =
    let h = both_sent c.requires _ _ c.extent_of-acts.ensures.0 c.extent_of-answers.ensures.0 in
    elim c.if-acts-eq1.branch [ then-acts-eq1 w ↦ rw w.at-is (omega (arith, h)) | else-acts-eq1 w ↦ rw w.at-is (omega (arith, h)) ]

pub overflow_add-handing-6 : goal.overflow_add-handing-6
overflow_add-handing-6 c =
    let h = both_sent c.requires _ _ c.extent_of-acts.ensures.0 c.extent_of-answers.ensures.0 in
    elim c.if-acts-eq1.branch [ then-acts-eq1 w ↦ rw w.at-is (omega (arith, h)) | else-acts-eq1 w ↦ rw w.at-is (omega (arith, h)) ]

pub overflow_add-handing-7 : goal.overflow_add-handing-7
overflow_add-handing-7 c =
    let h = both_sent c.requires _ _ c.extent_of-acts.ensures.0 c.extent_of-answers.ensures.0 in
    elim c.if-acts-eq1.branch [ then-acts-eq1 w ↦ rw w.at-is (omega (arith, h)) | else-acts-eq1 w ↦ rw w.at-is (omega (arith, h)) ]

pub join-requires : goal.join-requires
join-requires c =
    let p = c.requires in
    elim c.if-acts-eq1.branch [
      | then-acts-eq1 w ↦ rw w.at-is (joinable (sends_joining p _ _ c.extent_of-acts.ensures.0 c.extent_of-answers.ensures.0 w.if-acts-eq1.true))
      | else-acts-eq1 w ↦ rw w.at-is (joinable (takes_joining p _ _ c.extent_of-acts.ensures.0 c.extent_of-answers.ensures.0 w.if-acts-eq1.false))
    ]

pub returns : goal.returns
returns c F L π α P κ n L' ad el sp me fo =
    let p = meeting_of ad el sp me fo in
    chosen_by p _ _ c.extent_of-acts.ensures.0 c.extent_of-answers.ensures.0 _
    (c.join.ensures F L L'
    (elim c.if-acts-eq1.branch [
      | then-acts-eq1 w ↦ rw w.at-is (sends_joining p _ _ c.extent_of-acts.ensures.0 c.extent_of-answers.ensures.0 w.if-acts-eq1.true)
      | else-acts-eq1 w ↦ rw w.at-is (takes_joining p _ _ c.extent_of-acts.ensures.0 c.extent_of-answers.ensures.0 w.if-acts-eq1.false)
    ]))
