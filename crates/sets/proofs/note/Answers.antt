-- The answers for `note`: a name that is not there or no free name's is in no set.
use native.Mathlib.Omega.{arith}
use Rattle.sets.specs.Sets.{holds_given, with_given}
use Rattle.sets.proofs.Sets.{NoFreeName, none_held, none_put}
use Rattle.sets.proofs.note.Goals as goal

pub returns-in-Some : goal.returns-in-Some
unfolding holds_given with_given
returns-in-Some c = rw c.in-Some.is (c.holds.ensures, c.put.ensures)

pub returns-in_default : goal.returns-in_default
unfolding NoFreeName
returns-in_default c =
    let h : NoFreeName c.args.name = rw c.in-Some.is (omega arith) in
    (none_held _ _ h, none_put _ _ h)

pub returns-in_default-2 : goal.returns-in_default-2
unfolding NoFreeName
returns-in_default-2 c =
    let h : NoFreeName c.args.name = rw c.in_default.is tt in
    (none_held _ _ h, none_put _ _ h)
