-- Which ambients go by a table of names, and what the functions that clear ask of each other.
use Rattle.std.specs.Prelude.{Bool, true, false, ◌≡◌, List, ◌∷◌, ◌++◌, ℕ, zero, suc, ◌+◌, ◌≤◌, ◌<◌, ltb, eqb, length, take, drop, get_or}
use Rattle.calculus.specs.Processes.{Reference, name, variable}
use Rattle.machine.specs.Elements.{Elements, Element, only}
use Rattle.machine.specs.Tests.{pick}
use Rattle.buffers.specs.Words.{word}
use Rattle.format.specs.Spelling.{word_limit}
use Rattle.elements.specs.Spelling.{encode_elements}
use Rattle.elements.specs.Spelled.{Spells}
use Rattle.removals.specs.Sweeping.{sweep_by}

-- By the table: an ambient of this name may be removed where it is empty, since it is F or above and stands once.
unfoldable pub is_cleared_by : ℕ → List ℕ → Reference → Bool
is_cleared_by F table (name n) = pick (ltb n F) false (eqb (get_or table n 0) 1)
is_cleared_by F table (variable i) = false

-- How many bytes an ambient takes, cleared where it is empty or not, with so many bytes of its contents left.
unfoldable pub width_left : Bool → ℕ → ℕ
width_left true zero = 0
width_left true (suc n) = 5 + suc n
width_left false n = 5 + n

-- What becomes of a buffer that has n bytes of the contents of the ambient s behind room for its header and its name: these are written, or nothing is where the ambient takes no byte.
pub record AmbientKept (s : List ℕ) (n width : ℕ) (old last : List ℕ) (r : ℕ) : Type 0 where
  pub counts : r ≡ width
  pub gone : width ≡ 0 → last ≡ old
  pub headed : (width ≡ 0 → ⊥) → last ≡ ((get_or s 0 0 ∷ word (2 + n)) ++ take 2 (drop 3 s)) ++ drop 5 old

-- Bytes that spell one element.
pub record SpelledElement (s : List ℕ) : Type 0 where
  pub element : Element
  pub spells : Spells s (only element)
  pub short : length s < word_limit

-- Bytes that spell a list, and room for what is left of it.
pub record Clearable (s : List ℕ) (free : ℕ) (table : List ℕ) (room : ℕ) : Type 0 where
  pub tree : Elements
  pub spells : Spells s tree
  pub fits : length (encode_elements (sweep_by (is_cleared_by free table) tree)) ≤ room
  pub short : length s < word_limit

-- The same of one element.
pub record ElementClearable (s : List ℕ) (free : ℕ) (table : List ℕ) (room : ℕ) : Type 0 where
  pub element : Element
  pub spells : Spells s (only element)
  pub fits : length (encode_elements (sweep_by (is_cleared_by free table) (only element))) ≤ room
  pub short : length s < word_limit
