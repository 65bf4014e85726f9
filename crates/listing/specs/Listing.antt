-- The listing: the places that can act, ascending, two bytes each (document 01, "When a call is turned down").
use Rattle.std.specs.Prelude.{List, [], ◌∷◌, ◌++◌, ℕ, ◌≤◌, ◌<◌, length}
use Rattle.machine.specs.Limits.{listing_nesting_limit, byte_limit}
use Rattle.machine.specs.Elements.{Elements, State, state}
use Rattle.machine.specs.Validity.{Graded}
use Rattle.buffers.specs.Words.{word}
use Rattle.format.specs.Reading.{Outcome, refused, got}
use Rattle.states.specs.Reading.{read_within}
use Rattle.elements.specs.Spelled.{Spells}
use Rattle.buffers.specs.Buffers.{Written, kept, fitting}
use Rattle.machine.specs.Lowest.{able}

unfoldable pub words : List ℕ → List ℕ
words [] = []
words (p ∷ ps) = word p ++ words ps

unfoldable pub list_read : ℕ → Outcome State → Written ℕ (Unit {0})
list_read room (refused k) = kept k
list_read room (got (state F N L) n) = fitting byte_limit room tt (words (able 0 L))

-- The listing of a state's bytes for an output buffer of so many bytes: refusals 1 to 7 and 14, then 13. It reads at a limit of nesting of its own
-- (document 02, request 8).
unfoldable pub list_bytes : List ℕ → ℕ → Written ℕ (Unit {0})
list_bytes bytes room = list_read room (read_within listing_nesting_limit bytes)

-- Bytes that spell a list, and room for its listing.
pub record Listable (s : List ℕ) (room : ℕ) : Type 0 where
  pub tree : Elements
  pub spells : Spells s tree
  pub graded : Graded tree
  pub fits : length (words (able 0 tree)) ≤ room
  pub short : length s < 65536
