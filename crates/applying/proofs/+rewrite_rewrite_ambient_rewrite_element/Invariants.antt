-- A list, one of its elements, and the contents of an ambient of them.
use Rattle.std.proofs.Common.{◌+◌, ◌*◌, length}
use Rattle.applying.proofs.Turns.{Midway}
use Rattle.applying.proofs.+rewrite_rewrite_ambient_rewrite_element.Given as goal

abbrev pub decreases-rewrite : goal.decreases-rewrite
decreases-rewrite a = 3 * length a.list.now + 2

abbrev pub decreases-rewrite_ambient : goal.decreases-rewrite_ambient
decreases-rewrite_ambient a = 3 * length a.ambient.now

abbrev pub decreases-rewrite_element : goal.decreases-rewrite_element
decreases-rewrite_element a = 3 * length a.element.now + 1

abbrev pub invariant-rewrite-loop-element : goal.invariant-rewrite-loop-element
invariant-rewrite-loop-element l = Midway l.k l.unblocks l.list l.moved l.names l.fn.out l.out l.element-iterator.rest.now l.start l.at l.done
