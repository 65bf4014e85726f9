-- The answers for `standing_of`: the three numbers.
use native.Mathlib.Omega.{arith}
use Rattle.layouts.proofs.Layouts.{stands_sibling, stands_outside, stands_child}
use Rattle.layouts.proofs.standing_of.Goals as goal

pub returns-in-0 : goal.returns-in-0
returns-in-0 c d e = stands_sibling d (omega arith)

pub returns-in-1 : goal.returns-in-1
returns-in-1 c d e = stands_outside d (omega arith)

pub returns-in_default : goal.returns-in_default
returns-in_default c d e = stands_child d (omega arith)
