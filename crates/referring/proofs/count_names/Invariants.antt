-- `count_names`: opening after opening.
use mathlib.Core.Path.{◌≡◌}
use Prim.Native.Nat.{◌-◌}
use lib.ListN.{length}
use Rattle.machine.specs.Elements.{Elements}
use Rattle.elements.specs.Spelling.{encode_elements}
use Rattle.referring.proofs.Tables.{Opens}
use Rattle.referring.proofs.count_names.Given as goal

abbrev pub invariant-loop-at : goal.invariant-loop-at
invariant-loop-at l =
    (length l.table ≡ length l.fn.table) × ((A : Elements) → l.fn.list ≡ encode_elements A → Opens l.fn.list A l.fn.table l.at l.table)

abbrev pub decreases-loop-at : goal.decreases-loop-at
decreases-loop-at l = length l.fn.list - l.at
