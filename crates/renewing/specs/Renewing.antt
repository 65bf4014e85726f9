-- What is known before the state after a move is written.
use Rattle.std.specs.Prelude.{◌≡◌, List, ℕ, ◌+◌, ◌≤◌, length, false}
use Rattle.machine.specs.Limits.{byte_limit}
use Rattle.calculus.specs.Processes.{Reference}
use Rattle.machine.specs.Elements.{Elements, state}
use Rattle.elements.specs.Spelling.{encode_elements, encode_state, SpellableElements}
use Rattle.rewriting.specs.declared.Plan.{Plan}
use Rattle.substituting.specs.Substituting.{SpellsNames}
use Rattle.rewriting.specs.Editing.{edit, Suits}
use Rattle.planning.specs.Choices.{SetDown}

-- Bytes that spell a state, in which every reference and every count can be spelled.
pub record SpellsState (s : List ℕ) (F N : ℕ) (L : Elements) : Type 0 where
  pub spelled : s ≡ encode_state (state F N L)
  pub spellable : SpellableElements L

-- Bytes that spell a state, bytes that spell what is to be set down in its root list, the names for its variables, and room for the state after it.
pub record Renewing (s z n : List ℕ) (k : Plan) (room : ℕ) : Type 0 where
  pub handed : List Reference
  pub named : SpellsNames n handed
  pub free : ℕ
  pub names : ℕ
  pub tree : Elements
  pub spells : SpellsState s free names tree
  pub short : length s ≤ byte_limit
  pub suits : Suits k handed 7 tree
  pub moved : Elements
  pub carries : z ≡ encode_elements moved
  pub fits : 7 + length (encode_elements (edit k handed moved false 7 tree)) ≤ room
  pub small : 7 + length (encode_elements (edit k handed moved false 7 tree)) ≤ byte_limit

-- The same where the plan says what is set down.
pub record Replanting (s n : List ℕ) (k : Plan) (room : ℕ) : Type 0 where
  pub handed : List Reference
  pub named : SpellsNames n handed
  pub free : ℕ
  pub names : ℕ
  pub tree : Elements
  pub spells : SpellsState s free names tree
  pub short : length s ≤ byte_limit
  pub suits : Suits k handed 7 tree
  pub moved : Elements
  pub sets : SetDown tree k handed moved
  pub within : length (encode_elements moved) ≤ length (encode_elements (edit k handed moved false 7 tree))
  pub fits : 7 + length (encode_elements (edit k handed moved false 7 tree)) ≤ room
  pub small : 7 + length (encode_elements (edit k handed moved false 7 tree)) ≤ byte_limit
