-- The measure of `elements`, `element`, `element_parts` and `ambient`, which call one another: four times the nesting left and a little. In the loop,
-- the answer from the start is the answer from here.
use mathlib.Core.Path.{◌≡◌}
use Prim.Native.Nat.{◌+◌, ◌-◌, ◌*◌}
use lib.ListN.{length, drop}
use Rattle.format.specs.Answers.{answer}
use Rattle.contents.specs.Reading.{read_elements, read_ambient}
use Rattle.contents.specs.Answers.{status_of}
use Rattle.contents.proofs.+ambient_element_element_parts_elements.Given as goal

abbrev pub decreases-ambient : goal.decreases-ambient
decreases-ambient l = 4 * l.nest

abbrev pub decreases-element_parts : goal.decreases-element_parts
decreases-element_parts l = 4 * l.nest + 1

abbrev pub decreases-element : goal.decreases-element
decreases-element l = 4 * l.nest + 2

abbrev pub decreases-elements : goal.decreases-elements
decreases-elements l = 4 * l.nest + 3

abbrev pub invariant-elements-loop-next : goal.invariant-elements-loop-next
invariant-elements-loop-next l =
    answer l.fn.c.at (read_elements (read_ambient l.nest l.names) (status_of l.blocked) l.names (drop l.fn.c.at l.s))
    ≡ answer l.next.at (read_elements (read_ambient l.nest l.names) (status_of l.blocked) l.names (drop l.next.at l.s))

abbrev pub decreases-elements-loop-next : goal.decreases-elements-loop-next
decreases-elements-loop-next l = length l.s - l.next.at
