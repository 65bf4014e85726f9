-- What is left of an element, and of a list, as it is written: what is left of the elements gone by stands at the front of the buffer.
use Rattle.std.proofs.Common.{List, ◌++◌, ◌≡◌, ◌+◌, ◌*◌, ℕ, length}
use Rattle.buffers.specs.Buffers.{Left}
use Rattle.elements.specs.Spelling.{SpellableElements}
use Rattle.elements.proofs.Each.{Remains}
use Rattle.clearing.specs.Clears.{is_cleared_by}
use Rattle.clearing.proofs.Clears.{swept}
use Rattle.clearing.proofs.+sweep_element_sweep_list.Given as goal

abbrev pub decreases-sweep_element : goal.decreases-sweep_element
decreases-sweep_element l = 2 * length l.element.now

abbrev pub decreases-sweep_list : goal.decreases-sweep_list
decreases-sweep_list l = 2 * length l.list.now + 1

abbrev pub invariant-sweep_list-loop-element : goal.invariant-sweep_list-loop-element
invariant-sweep_list-loop-element l =
    let w = is_cleared_by l.free l.table in
    (length l.out ≡ length l.fn.out)
    × Remains l.list l.element-iterator.rest.now
    (λ A B. SpellableElements A → (bytes : List ℕ) × (swept w A ≡ bytes ++ swept w B) × Left bytes l.fn.out l.out l.done)
