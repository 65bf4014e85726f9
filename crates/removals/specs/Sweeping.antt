-- Sweeping (document 02, request 5) in one pass, contents before the ambient that holds them.
use Rattle.std.specs.Prelude.{Bool, true, false, List, [], ◌∷◌, ℕ, suc, ltb, eqb}
use Rattle.calculus.specs.Processes.{Reference, name, variable}
use Rattle.machine.specs.Elements.{Status, Elements, empty, ambient_then, process_then, blocked_then, State, state}
use Rattle.machine.specs.Names.{names}
use Rattle.machine.specs.Tests.{pick}

-- How often n stands in a list.
unfoldable pub occurrences : ℕ → List ℕ → ℕ
occurrences n [] = 0
occurrences n (m ∷ ms) = pick (eqb n m) (suc (occurrences n ms)) (occurrences n ms)

-- An ambient of this name may be removed when it is empty: the name is F or above, and stands once among the names ns of the whole.
unfoldable pub clearable : ℕ → List ℕ → Reference → Bool
clearable F ns (name n) = pick (ltb n F) false (eqb (occurrences n ns) 1)
clearable F ns (variable i) = false

-- An ambient and what is behind it, or only that if the ambient is clearable and empty.
unfoldable pub unless_cleared : Bool → Status → Reference → Elements → Elements → Elements
unless_cleared true s a empty C = C
unless_cleared true s a (ambient_then t b B D) C = ambient_then s a (ambient_then t b B D) C
unless_cleared true s a (process_then P D) C = ambient_then s a (process_then P D) C
unless_cleared true s a (blocked_then α P D) C = ambient_then s a (blocked_then α P D) C
unless_cleared false s a A C = ambient_then s a A C

-- The pass, with a test of which names may be cleared.
unfoldable pub sweep_by : (Reference → Bool) → Elements → Elements
sweep_by clears empty = empty
sweep_by clears (ambient_then s a A C) = unless_cleared (clears a) s a (sweep_by clears A) (sweep_by clears C)
sweep_by clears (process_then P C) = process_then P (sweep_by clears C)
sweep_by clears (blocked_then α P C) = blocked_then α P (sweep_by clears C)

-- The names are counted once, in the whole, and not again behind a removal.
unfoldable pub sweep : ℕ → Elements → Elements
sweep F L = sweep_by (clearable F (names L)) L

-- F and N stay.
unfoldable pub sweep_state : State → State
sweep_state (state F N L) = state F N (sweep F L)
