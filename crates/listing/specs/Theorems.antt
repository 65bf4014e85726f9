-- What is proved of the listing, each statement a named type: of states that every call reads, and of deeper ones, which the listing alone reads
-- (document 02, request 8).
use Rattle.std.specs.Prelude.{◌≡◌, ◌↔◌, ◌⊎◌, List, ℕ, ◌≤◌, ◌<◌, length}
use Rattle.machine.specs.Limits.{nesting_limit, listing_nesting_limit, byte_limit}
use Rattle.machine.specs.Elements.{Elements, nesting, state}
use Rattle.machine.specs.Ordered.{Among, AscendingFrom}
use Rattle.machine.specs.Rules.{CanAct}
use Rattle.machine.specs.Lowest.{able}
use Rattle.format.specs.Reading.{refused, got}
use Rattle.format.specs.Theorems.{Bytes}
use Rattle.buffers.specs.Buffers.{wrote, fitting}
use Rattle.elements.specs.Spelling.{encode_state}
use Rattle.states.specs.Reading.{read_within, read_state}
use Rattle.states.specs.Theorems.{AdmittedWithin}
use Rattle.listing.specs.Listing.{words, list_bytes}

-- The bytes spell a state with ambients nested at most as deep as the listing reads, and the new bytes are those of its places that can act, ascending. Every
-- other call reads that state too, or refuses it with 5.
pub record ListedState (bytes new : List ℕ) : Type 0 where
  pub free : ℕ
  pub next : ℕ
  pub elements : Elements
  pub spelled : bytes ≡ encode_state (state free next elements)
  pub admitted : AdmittedWithin listing_nesting_limit (state free next elements)
  pub places : List ℕ
  pub written : new ≡ words places
  pub can_act : (p : ℕ) → Among p places ↔ CanAct elements p
  pub ascending : AscendingFrom 0 places
  pub shallow : nesting elements ≤ nesting_limit → read_state bytes ≡ got (state free next elements) (length bytes)
  pub deep : nesting_limit < nesting elements → read_state bytes ≡ refused 5

abbrev pub ListingTells : Type 0
ListingTells = (bytes new : List ℕ) (room : ℕ) → Bytes bytes → list_bytes bytes room ≡ wrote tt new → ListedState bytes new

-- Every such state is listed, if its places fit.
abbrev pub AdmittedIsListed : Type 0
AdmittedIsListed = (F N : ℕ) (L : Elements) (room : ℕ) → AdmittedWithin listing_nesting_limit (state F N L) → length (encode_state (state F N L)) ≤ byte_limit →
    list_bytes (encode_state (state F N L)) room ≡ fitting byte_limit room tt (words (able 0 L))

-- The listing reads every input as the other calls do, but for those that they refuse with 5.
abbrev pub ListingReads : Type 0
ListingReads = (bytes : List ℕ) → (read_state bytes ≡ read_within listing_nesting_limit bytes) ⊎ (read_state bytes ≡ refused 5)
