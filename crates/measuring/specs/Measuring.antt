-- What is measured: an ambient at an offset, by its contents, and a process.
use Rattle.std.specs.Prelude.{◌≡◌, List, ℕ, ◌+◌, ◌-◌, ◌*◌, ◌≤◌, ◌<◌, length, take, drop}
use Rattle.std.proofs.Math.Option.{some}
use Rattle.calculus.specs.Processes.{Reference, Process}
use Rattle.machine.specs.Limits.{byte_limit}
use Rattle.machine.specs.Elements.{Status, Elements, ambient_element, Position, element_at, nesting, blocked_actions}
use Rattle.format.specs.Spelling.{word_limit, encode}
use Rattle.format.specs.Spellable.{Counted}
use Rattle.elements.specs.Spelling.{encode_elements}
use Rattle.elements.specs.Spelled.{Spells, SpelledList}
use Rattle.places.specs.Offsets.{offset}

-- An ambient in bytes that spell a list, at an offset.
pub record Holding (s : List ℕ) (at : ℕ) : Type 0 where
  pub tree : Elements
  pub spells : Spells s tree
  pub short : length s < byte_limit
  pub position : Position
  pub status : Status
  pub called : Reference
  pub inside : Elements
  pub stands : element_at tree position ≡ some (ambient_element status called inside)
  pub there : offset 0 tree position ≡ at

-- Its contents, from five bytes behind the offset to the end.
pub record Contents (s : List ℕ) (at end : ℕ) : Type 0 where
  pub starts : at + 5 ≤ end
  pub ends : end ≤ length s
  pub listed : SpelledList (take (end - (at + 5)) (drop (at + 5) s))
  pub held : (h : Holding s at) → take (end - (at + 5)) (drop (at + 5) s) ≡ encode_elements h.inside

-- How many bytes the blocked actions directly in it grow by when they are unblocked, and how deep ambients nest in it.
abbrev pub GrowsBy : List ℕ → (at n : ℕ) → Type 0
GrowsBy s at n = (h : Holding s at) → n ≡ 3 * blocked_actions h.inside

abbrev pub NestsBy : List ℕ → (at n : ℕ) → Type 0
NestsBy s at n = (h : Holding s at) → n ≡ nesting h.inside

-- Bytes that spell a process, with counts that are spelled.
pub record CountedProcess (s : List ℕ) : Type 0 where
  pub process : Process
  pub spelled : s ≡ encode process
  pub counted : Counted process
  pub short : length s < word_limit
