-- What the writer is handed and what it leaves: of a list, of one element, of an ambient whose contents are changed, and of the ambient that is moved.
use Rattle.std.specs.Prelude.{◌≡◌, Bool, false, List, ℕ, ◌+◌, ◌≤◌, ◌<◌, length}
use Rattle.calculus.specs.Processes.{Reference}
use Rattle.machine.specs.Elements.{Status, unblocked, Elements, empty, Element, ambient_element, process_element, blocked_element, only}
use Rattle.machine.specs.Tests.{pick}
use Rattle.machine.specs.Limits.{byte_limit}
use Rattle.format.specs.Spelling.{word_limit}
use Rattle.elements.specs.Spelling.{encode_elements}
use Rattle.elements.specs.Spelled.{Spells}
use Rattle.buffers.specs.Buffers.{Left}
use Rattle.substituting.specs.Substituting.{SpellsNames}
use Rattle.turning.specs.Turning.{turned}
use Rattle.rewriting.specs.declared.Plan.{Plan}
use Rattle.rewriting.specs.Editing.{marked, ambient_at, blocked_at, edit, carried, Suits}

-- An ambient whose contents are changed; A is its contents, o its offset.
unfoldable pub changed : Plan → List Reference → Elements → Bool → ℕ → Reference → Elements → Element
changed k ns Z w o a A = ambient_element unblocked a (edit k ns Z w (o + 5) A)

-- What stands for an element that is not turned.
unfoldable pub unturned : Plan → List Reference → Elements → Bool → ℕ → Element → Elements
unturned k ns Z w o (ambient_element s a A) = ambient_at k o (ambient_element s a A) (changed k ns Z false o a A)
unturned k ns Z w o (process_element P) = only (process_element P)
unturned k ns Z w o (blocked_element α P) = blocked_at w α P

-- What stands for an element, without what is set down behind it.
unfoldable pub instead : Plan → List Reference → Elements → Bool → ℕ → Element → Elements
instead k ns Z w o E = pick (marked k o) (turned k.block ns E) (unturned k ns Z w o E)

-- Bytes that spell a list which starts at the offset o, bytes that spell what is to be set down in it, the names for the variables of what is turned, and room for the result.
pub record Rewriting (s z names : List ℕ) (k : Plan) (unblocks : Bool) (o room : ℕ) : Type 0 where
  pub handed : List Reference
  pub named : SpellsNames names handed
  pub tree : Elements
  pub spells : Spells s tree
  pub suits : Suits k handed o tree
  pub moved : Elements
  pub carries : z ≡ encode_elements moved
  pub fits : length (encode_elements (edit k handed moved unblocks o tree)) ≤ room
  pub small : length (encode_elements (edit k handed moved unblocks o tree)) < word_limit
  pub near : (o + length s ≤ byte_limit) × (length s < byte_limit)

-- Bytes that spell one element at the offset o, bytes that spell what is to be set down, and room for what is to stand for the element.
pub record Replacing (s z names : List ℕ) (k : Plan) (unblocks : Bool) (o room : ℕ) : Type 0 where
  pub handed : List Reference
  pub named : SpellsNames names handed
  pub element : Element
  pub spells : Spells s (only element)
  pub suits : Suits k handed o (only element)
  pub moved : Elements
  pub carries : z ≡ encode_elements moved
  pub fits : length (encode_elements (instead k handed moved unblocks o element)) ≤ room
  pub small : length (encode_elements (instead k handed moved unblocks o element)) < word_limit
  pub near : (o + length s ≤ byte_limit) × (length s < byte_limit)

-- The same of an ambient whose contents are to be changed.
pub record Changing (s z names : List ℕ) (k : Plan) (unblocks : Bool) (o room : ℕ) : Type 0 where
  pub handed : List Reference
  pub named : SpellsNames names handed
  pub status : Status
  pub called : Reference
  pub contents : Elements
  pub spells : Spells s (only (ambient_element status called contents))
  pub suits : Suits k handed (o + 5) contents
  pub moved : Elements
  pub carries : z ≡ encode_elements moved
  pub fits : length (encode_elements (only (changed k handed moved unblocks o called contents))) ≤ room
  pub small : length (encode_elements (only (changed k handed moved unblocks o called contents))) < word_limit
  pub near : (o + length s ≤ byte_limit) × (length s < byte_limit)

-- Bytes that spell the ambient at the offset o, and room for it as it is set down.
pub record Carrying (s names : List ℕ) (k : Plan) (o room : ℕ) : Type 0 where
  pub handed : List Reference
  pub named : SpellsNames names handed
  pub status : Status
  pub called : Reference
  pub contents : Elements
  pub spells : Spells s (only (ambient_element status called contents))
  pub suits : Suits k handed (o + 5) contents
  pub fits : length (encode_elements (only (carried k handed empty o (ambient_element status called contents)))) ≤ room
  pub small : length (encode_elements (only (carried k handed empty o (ambient_element status called contents)))) < word_limit
  pub near : (o + length s ≤ byte_limit) × (length s < byte_limit)

-- What is left at the front of a buffer: the list that the bytes spell, as the plan changes it.
abbrev pub Rewritten : (s z names : List ℕ) (k : Plan) (unblocks : Bool) (o : ℕ) (old last : List ℕ) (n : ℕ) → Type 0
Rewritten s z names k w o old last n = (ns : List Reference) (A Z : Elements) → SpellsNames names ns → Spells s A → Suits k ns o A → z ≡ encode_elements Z → Left (encode_elements (edit k ns Z w o A)) old last n

-- The same of one element: what stands for it.
abbrev pub Replaced : (s z names : List ℕ) (k : Plan) (unblocks : Bool) (o : ℕ) (old last : List ℕ) (n : ℕ) → Type 0
Replaced s z names k w o old last n = (ns : List Reference) (E : Element) (Z : Elements) → SpellsNames names ns → Spells s (only E) → Suits k ns o (only E) → z ≡ encode_elements Z → Left (encode_elements (instead k ns Z w o E)) old last n

-- The same of an ambient: its contents changed.
abbrev pub ContentsChanged : (s z names : List ℕ) (k : Plan) (unblocks : Bool) (o : ℕ) (old last : List ℕ) (n : ℕ) → Type 0
ContentsChanged s z names k w o old last n =
    (ns : List Reference) (u : Status) (a : Reference) (A Z : Elements) → SpellsNames names ns → Spells s (only (ambient_element u a A)) → Suits k ns (o + 5) A → z ≡ encode_elements Z
    → Left (encode_elements (only (changed k ns Z w o a A))) old last n

-- The same of the ambient that is moved: as it is set down.
abbrev pub CarriedOut : (s names : List ℕ) (k : Plan) (o : ℕ) (old last : List ℕ) (n : ℕ) → Type 0
CarriedOut s names k o old last n =
    (ns : List Reference) (u : Status) (a : Reference) (A : Elements) → SpellsNames names ns → Spells s (only (ambient_element u a A)) → Suits k ns (o + 5) A
    → Left (encode_elements (only (carried k ns empty o (ambient_element u a A)))) old last n
