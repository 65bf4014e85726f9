-- The proof of `count_width`.
use mathlib.Core.Path.{sym, ap}
use mathlib.Core.List.{List}
use Prim.Native.Nat.{ℕ}
use native.Mathlib.Omega.{arith}
use lib.ListN.{length}
use Rattle.machine.specs.Kinds.{count, kind_of}
use Rattle.format.proofs.ActionKinds.{tag_implied, tag_spelled}
use Rattle.layouts.proofs.Layouts.{count_implied_is, count_spelled_is}
use Rattle.layouts.proofs.count_width.Statement.{statement}
use Rattle.layouts.proofs.count_width.Tie as tie

none : tie.Need-returns-then-tag-lt-FIRST_COUNTED
none c = (λ α e. sym (ap (λ (l : List ℕ). length l) (tag_implied (kind_of α) (count α) (count_implied_is α _ e c.if-tag-lt-FIRST_COUNTED.true)).1), omega arith)

one : tie.Need-returns
one c = (λ α e. sym (ap (λ (l : List ℕ). length l) (tag_spelled (kind_of α) (count α) (count_spelled_is α _ e c.if-tag-lt-FIRST_COUNTED.false)).1), omega arith)

pub count_width_spec : {M : Type 1} → statement M
count_width_spec = tie.close (tie.spec none one)
