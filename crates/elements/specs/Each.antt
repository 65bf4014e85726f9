-- The elements of a list one by one, each as the bytes that spell it.
use Rattle.std.specs.Prelude.{◌≡◌, List, ℕ, ◌+◌, ◌≤◌, length, MatchOption}
use Rattle.std.specs.declared.option.Option.{Option}
use denote.Ref.{Bor}
use Rattle.machine.specs.Elements.{Element, Elements, only, ◌before◌}
use Rattle.elements.specs.Spelling.{encode_elements}

-- A begins with an element that x spells, and t spells the others.
pub record BeginsWith (A : Elements) (x t : List ℕ) : Type 0 where
  pub element : Element
  pub others : Elements
  pub is : A ≡ element before others
  pub first : x ≡ encode_elements (only element)
  pub left : t ≡ encode_elements others

-- x is the first element of the bytes s, whatever list they spell, and t is the others.
pub record First (s x t : List ℕ) : Type 0 where
  pub long : 3 ≤ length x
  pub parts : length s ≡ length x + length t
  pub begins : (A : Elements) → s ≡ encode_elements A → BeginsWith A x t

-- Of the bytes s the first element is given, and t is left of them; nothing is given where none is left.
abbrev pub GivesFirst : List ℕ → Option (Bor (List ℕ)) → List ℕ → Type 0
GivesFirst s r t = MatchOption r (length s ≡ 0) (λ x. First s x.now t)
