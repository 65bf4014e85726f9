-- Bytes that spell a process, or an action and the process behind it, under no binder.
use Rattle.std.specs.Prelude.{◌≡◌, Bool, List, ◌++◌, ℕ, ◌+◌, ◌≤◌, ◌<◌, length}
use Rattle.calculus.specs.Processes.{Reference, Action, Process, action}
use Rattle.machine.specs.Limits.{byte_limit}
use Rattle.machine.specs.Elements.{process_element}
use Rattle.format.specs.Spelling.{word_limit, encode_action, encode}
use Rattle.format.specs.Spellable.{Spellable}
use Rattle.elements.specs.Spelling.{encode_elements}
use Rattle.substituting.specs.Substituting.{SpellsNames}
use Rattle.turning.specs.Turning.{turned, Takes, Suited}

pub record SpellsProcess (s : List ℕ) (P : Process) : Type 0 where
  pub spelled : s ≡ encode P
  pub spellable : Spellable 0 P

pub record SpellsAction (s : List ℕ) (α : Action) (P : Process) : Type 0 where
  pub spelled : s ≡ encode_action α ++ encode P
  pub spellable : Spellable 0 (action α P)

-- with names for its variables, and room for what is to stand for the process
pub record TurningProcess (s names : List ℕ) (block : Bool) (room : ℕ) : Type 0 where
  pub handed : List Reference
  pub named : SpellsNames names handed
  pub process : Process
  pub spells : SpellsProcess s process
  pub suited : Suited block handed (process_element process)
  pub fits : length (encode_elements (turned block handed (process_element process))) ≤ room
  pub small : length (encode_elements (turned block handed (process_element process))) < word_limit
  pub short : length s < byte_limit

-- with names for its variables, and room for the process in an element of its own
pub record Meeting (s names : List ℕ) (room : ℕ) : Type 0 where
  pub handed : List Reference
  pub named : SpellsNames names handed
  pub doing : Action
  pub process : Process
  pub spells : SpellsAction s doing process
  pub takes : Takes handed doing
  pub fits : 3 + length (encode process) ≤ room
  pub short : length s < byte_limit
