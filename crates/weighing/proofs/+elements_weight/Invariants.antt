use Rattle.std.proofs.Common.{◌≡◌, ◌+◌, length}
use Rattle.machine.specs.Elements.{weight}
use Rattle.elements.proofs.Each.{Remains}
use Rattle.weighing.proofs.+elements_weight.Given as goal

abbrev pub decreases-elements_weight : goal.decreases-elements_weight
decreases-elements_weight a = length a.list.now

abbrev pub invariant-loop-element : goal.invariant-loop-element
invariant-loop-element l = Remains l.list l.element-iterator.rest.now (λ A B. weight A ≡ l.total + weight B)
