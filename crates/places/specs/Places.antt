-- The elements of a list in the order of tags, each as its offset and the bytes from it on.
use Rattle.std.specs.Prelude.{◌≡◌, List, ℕ, ◌+◌, ◌-◌, ◌≤◌, ◌<◌, length, take, drop, MatchOption}
use Rattle.std.specs.declared.option.Option.{Option}
use denote.Ref.{Bor}
use Rattle.machine.specs.Elements.{Elements}
use Rattle.format.specs.Spelling.{word_limit}
use Rattle.elements.specs.Spelled.{SpelledList}
use Rattle.elements.specs.Spelling.{encode_elements}
use Rattle.places.specs.Offsets.{stride_of}

-- The bytes of s from an offset on.
abbrev pub rest_from : List ℕ → ℕ → List ℕ
rest_from s at = take (length s - at) (drop at s)

-- From an offset on, the bytes s spell a list.
pub record ListFrom (s : List ℕ) (at : ℕ) : Type 0 where
  pub short : length s < word_limit
  pub list : SpelledList (rest_from s at)

-- x is the element at the offset `at` of the bytes s, and the next one is at the offset `next`, whatever list the bytes from `at` on spell.
pub record PlaceAt (s : List ℕ) (at : ℕ) (x : ℕ × Bor (List ℕ)) (t : List ℕ) (next : ℕ) : Type 0 where
  pub below : at < length s
  pub offset : x.0 ≡ at
  pub rest : x.1.now ≡ rest_from s at
  pub same : t ≡ s
  pub later : at < next
  pub within : next ≤ length s
  pub goes : (A : Elements) → rest_from s at ≡ encode_elements A → next ≡ at + stride_of A

-- Of the bytes s the element at an offset is given; nothing is given where none is left.
abbrev pub GivesPlace : List ℕ → ℕ → Option (ℕ × Bor (List ℕ)) → List ℕ → ℕ → Type 0
GivesPlace s at r t next = MatchOption r (length s ≤ at) (λ x. PlaceAt s at x t next)
