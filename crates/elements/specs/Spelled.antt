-- Bytes that spell elements, as the code finds them behind an accepted reading.
use Rattle.std.specs.Prelude.{◌≡◌, List, ℕ, ◌<◌, length}
use Rattle.machine.specs.Elements.{Elements}
use Rattle.format.specs.Spelling.{word_limit}
use Rattle.elements.specs.Spelling.{encode_elements, SpellableElements}

-- Bytes that spell A, in which every reference and every count can be spelled.
pub record Spells (s : List ℕ) (A : Elements) : Type 0 where
  pub spelled : s ≡ encode_elements A
  pub spellable : SpellableElements A

-- Bytes that spell such a list of elements.
pub record SpelledList (s : List ℕ) : Type 0 where
  pub tree : Elements
  pub spelled : s ≡ encode_elements tree
  pub spellable : SpellableElements tree
  pub short : length s < word_limit
