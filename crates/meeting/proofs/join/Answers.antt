-- The answers for `join`: the move of each pair of rules, or 12.
use native.Mathlib.Omega.{arith}
use Rattle.measuring.proofs.Contents.{at_below}
use Rattle.meeting.proofs.Joining.{holding, other_below, level_below, counted, hands_over, leaves, enters, breaks, short}
use Rattle.meeting.proofs.join.Goals as goal
use Rattle.meeting.proofs.join.Goals.{then-rule-gt40, else-rule-gt40+else-from-sender}

pub returns-then-rule-lt39 : goal.returns-then-rule-lt39
returns-then-rule-lt39 c F L L' j = hands_over j c.if-rule-lt39.true

pub growth-requires : goal.growth-requires
growth-requires c = holding c.requires.joining c.if-rule-lt39.false

pub overflow_sub-length-2 : goal.overflow_sub-length-2
overflow_sub-length-2 c = omega (arith, c.from.ensures, counted c.requires.joining c.if-rule-lt39.false c.growth.result c.growth.ensures.0)

pub overflow_add-sender : goal.overflow_add-sender
overflow_add-sender c = omega (arith, level_below c.requires.joining)

pub nested-requires : goal.nested-requires
nested-requires c = holding c.requires.joining c.if-rule-lt39.false

pub overflow_add-sender-else-rule-gt40 : goal.overflow_add-sender-else-rule-gt40
overflow_add-sender-else-rule-gt40 c = let j = c.requires.joining in omega (arith, level_below j, c.nested.ensures.1, short j)

pub returns-then-from-sender : goal.returns-then-from-sender
returns-then-from-sender c F L L' j =
    breaks j c.if-rule-lt39.false c.growth.result c.growth.ensures.0 c.if-rule-gt40.false c.nested.result c.nested.ensures.0 (omega arith)

pub returns : goal.returns
returns c F L L' j =
    rw c.from.ensures
    (elim c.if-rule-gt40.branch [
      | then-rule-gt40 w ↦ leaves j c.if-rule-lt39.false c.growth.result c.growth.ensures.0 w.if-rule-gt40.true c.if-rule-gt40.after (omega arith)
      | else-rule-gt40+else-from-sender w ↦
          enters j c.if-rule-lt39.false c.growth.result c.growth.ensures.0 w.if-rule-gt40.false w.nested.result w.nested.ensures.0 (omega arith) c.if-rule-gt40.after (omega arith)
    ])

pub overflow_add-plan : goal.overflow_add-plan
overflow_add-plan c = let j = c.requires.joining in omega (arith, at_below (holding j c.if-rule-lt39.false), short j)

pub overflow_add-plan-2 : goal.overflow_add-plan-2
overflow_add-plan-2 c =
    let j = c.requires.joining in
    elim c.if-rule-gt40.branch [
      | then-rule-gt40 w ↦ omega (arith, other_below j, short j)
      | else-rule-gt40+else-from-sender w ↦ omega (arith, other_below j, short j)
    ]
