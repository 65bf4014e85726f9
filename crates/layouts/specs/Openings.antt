-- The opening of a field: its header and its own references, up to the field in it or behind it. The bytes of a list are openings, one behind the other.
use Rattle.std.specs.Prelude.{◌≡◌, List, [], ◌∷◌, ◌++◌, ℕ, ◌+◌, ltb, eqb, length}
use Rattle.calculus.specs.Processes.{Reference, Action}
use Rattle.calculus.specs.Names.{names_of_all}
use Rattle.machine.specs.Tests.{pick}
use Rattle.buffers.specs.Words.{word}
use Rattle.format.specs.Kinds.{spelled_count, address_of, handed}
use Rattle.format.specs.Spelling.{encode_references, encode_action}
use Rattle.layouts.specs.declared.Opened.{Opened}
use Rattle.layouts.specs.declared.Form.{Form as Answer}
use Rattle.layouts.specs.declared.Form.TheVariants.{Bare, Naming, Acting}

-- A header alone, a header and the name of an ambient, or the whole of an action.
pub data Form : Type 0 where
  bare naming acting : Form

-- By the tag: 23, 40 and 41 are ambients, 30 to 3F actions.
unfoldable pub form_of : ℕ → Form
form_of tag = pick (ltb tag 0x30) (pick (eqb tag 0x23) naming bare) (pick (ltb tag 0x40) acting (pick (ltb tag 0x42) naming bare))

-- The forms as the code has them.
unfoldable pub form_answer : Form → Answer
form_answer bare = Bare
form_answer naming = Naming
form_answer acting = Acting

pub data Opening : Type 0 where
  alone : (tag len : ℕ) → form_of tag ≡ bare → Opening
  named : (tag len : ℕ) → form_of tag ≡ naming → Reference → Opening
  whole : Action → Opening

-- Its references in front of a count, the count, and the references behind it.

unfoldable pub first_of : Opening → List Reference
first_of (alone tag len f) = []
first_of (named tag len f a) = a ∷ []
first_of (whole α) = address_of α

unfoldable pub between_of : Opening → List ℕ
between_of (alone tag len f) = []
between_of (named tag len f a) = []
between_of (whole α) = spelled_count α

unfoldable pub second_of : Opening → List Reference
second_of (alone tag len f) = []
second_of (named tag len f a) = []
second_of (whole α) = handed α

unfoldable pub encode_opening : Opening → List ℕ
encode_opening (alone tag len f) = tag ∷ word len
encode_opening (named tag len f a) = (tag ∷ word len) ++ encode_references (a ∷ [])
encode_opening (whole α) = encode_action α

unfoldable pub encode_openings : List Opening → List ℕ
encode_openings [] = []
encode_openings (o ∷ os) = encode_opening o ++ encode_openings os

-- Bytes that begin with an opening.
pub record SpelledOpening (s : List ℕ) : Type 0 where
  pub opening : Opening
  pub rest : List ℕ
  pub spelled : s ≡ encode_opening opening ++ rest

-- Where its references stand, and where the next opening starts.
abbrev pub opened_of : Opening → Opened
opened_of o = record {
  middle = 3 + length (encode_references (first_of o));
  next = 3 + length (encode_references (first_of o)) + length (between_of o);
  end = 3 + length (encode_references (first_of o)) + length (between_of o) + length (encode_references (second_of o));
}

-- The names that stand in openings, in their order.
unfoldable pub names_of_openings : List Opening → List ℕ
names_of_openings [] = []
names_of_openings (o ∷ os) = names_of_all (first_of o) ++ names_of_all (second_of o) ++ names_of_openings os
