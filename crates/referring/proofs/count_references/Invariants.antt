-- `count_references`: two bytes after two bytes.
use mathlib.Core.Path.{◌≡◌}
use mathlib.Core.List.{List}
use lib.ListN.{length}
use Rattle.calculus.specs.Processes.{Reference}
use Rattle.format.specs.Spelling.{encode_references}
use Rattle.referring.proofs.Tables.{Referring}
use Rattle.referring.proofs.count_references.Given as goal

abbrev pub invariant-loop-reference : goal.invariant-loop-reference
invariant-loop-reference l =
    (length l.table ≡ length l.fn.table) × (l.reference-iterator.size ≡ 2)
    × ((rs : List Reference) → l.fn.s ≡ encode_references rs → Referring rs l.fn.table l.reference-iterator.rest.now l.table)
