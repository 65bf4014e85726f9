-- How many bytes are left of an element, and of a list: so many of those gone by, and those of the elements to come.
use Rattle.std.proofs.Common.{◌≡◌, ◌+◌, ◌*◌, length}
use Rattle.elements.specs.Spelling.{SpellableElements}
use Rattle.elements.proofs.Each.{Remains}
use Rattle.clearing.specs.Clears.{is_cleared_by}
use Rattle.clearing.proofs.Clears.{swept}
use Rattle.clearing.proofs.+element_left_list_left.Given as goal

abbrev pub decreases-element_left : goal.decreases-element_left
decreases-element_left l = 2 * length l.element.now

abbrev pub decreases-list_left : goal.decreases-list_left
decreases-list_left l = 2 * length l.list.now + 1

abbrev pub invariant-list_left-loop-element : goal.invariant-list_left-loop-element
invariant-list_left-loop-element l =
    let w = is_cleared_by l.free l.table in
    Remains l.list l.element-iterator.rest.now (λ A B. SpellableElements A → length (swept w A) ≡ l.left + length (swept w B))
