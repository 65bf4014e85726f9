use Rattle.std.proofs.Common.{◌≡◌, length, max}
use Rattle.machine.specs.Elements.{nesting}
use Rattle.elements.proofs.Each.{Remains}
use Rattle.measuring.proofs.+nesting_depth.Given as goal

abbrev pub decreases-nesting_depth : goal.decreases-nesting_depth
decreases-nesting_depth a = length a.list.now

abbrev pub invariant-loop-element : goal.invariant-loop-element
invariant-loop-element l = Remains l.list l.element-iterator.rest.now (λ A B. nesting A ≡ max l.deepest (nesting B))
