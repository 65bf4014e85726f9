-- Removing empty ambients (document 02, request 5), one at a time.
use Rattle.std.specs.Prelude.{ℕ, ◌≤◌}
use Rattle.calculus.specs.Processes.{Reference, name, Action, Process}
use Rattle.calculus.specs.Names.{Among}
use Rattle.machine.specs.Elements.{Status, Elements, empty, ambient_then, process_then, blocked_then}
use Rattle.machine.specs.Names.{names}

-- The second list is the first without one empty ambient of the name n, blocked or not, at any depth.
pub data Without (n : ℕ) : Elements → Elements → Type 0 where
  gone : {s : Status} {C : Elements} → Without n (ambient_then s (name n) empty C) C
  within : {s : Status} {a : Reference} {A A' C : Elements} → Without n A A' → Without n (ambient_then s a A C) (ambient_then s a A' C)
  behind_ambient : {s : Status} {a : Reference} {A C C' : Elements} → Without n C C' → Without n (ambient_then s a A C) (ambient_then s a A C')
  behind_process : {P : Process} {C C' : Elements} → Without n C C' → Without n (process_then P C) (process_then P C')
  behind_blocked : {α : Action} {P : Process} {C C' : Elements} → Without n C C' → Without n (blocked_then α P C) (blocked_then α P C')

-- One removal: the ambient's name is F or above, and stands nowhere in what is left.
pub record Removes (F : ℕ) (L L' : Elements) : Type 0 where
  pub removed : ℕ
  pub restricted : F ≤ removed
  pub without : Without removed L L'
  pub nowhere_else : ¬ Among removed (names L')

-- Any number of removals, one after another.
pub data Reaches (F : ℕ) : Elements → Elements → Type 0 where
  done : {L : Elements} → Reaches F L L
  remove : {L L' K : Elements} → Removes F L L' → Reaches F L' K → Reaches F L K

-- None is left.
unfoldable pub Finished : ℕ → Elements → Type 0
Finished F L = (L' : Elements) → ¬ Removes F L L'
