-- The table of the eight action kinds: the kind that answers each, how the two stand, how many references are spelled, and whether the
-- first names the ambient that the action goes to.
use Rattle.std.specs.Prelude.{ℕ, zero, suc, ◌+◌, ◌*◌, ◌/◌, ◌%◌}
use Rattle.calculus.specs.Redexes.{Kind, sibling_outputs, parent_outputs, internal_inputs, external_inputs, enters, leaves, accepts, releases}
use Rattle.machine.specs.Kinds.{kind_number, answering, Standing, sibling, outside, child, standing_of}
use Rattle.kinds.specs.declared.Row.{Row}

-- The kinds in the order of their tags, from 0x30; those with a count go by the tags from 0x38.
unfoldable pub kind_at : ℕ → Kind
kind_at zero = sibling_outputs
kind_at (suc zero) = parent_outputs
kind_at (suc (suc zero)) = internal_inputs
kind_at (suc (suc (suc zero))) = external_inputs
kind_at (suc (suc (suc (suc zero)))) = enters
kind_at (suc (suc (suc (suc (suc zero))))) = leaves
kind_at (suc (suc (suc (suc (suc (suc zero)))))) = accepts
kind_at (suc (suc (suc (suc (suc (suc (suc n))))))) = releases

unfoldable pub tag_kind : ℕ → Kind
tag_kind tag = kind_at (tag % 8)

-- Where the answer stands, as the table has it: in an ambient beside the action's own, in the list around the action's ambient, in an ambient beside the action.
unfoldable pub standing_number : Standing → ℕ
standing_number sibling = 0
standing_number outside = 1
standing_number child = 2

-- How many references an action of the kind is spelled with, where it hands over or takes one name or none.
unfoldable pub reference_count : Kind → ℕ
reference_count sibling_outputs = 3
reference_count parent_outputs = 2
reference_count internal_inputs = 1
reference_count external_inputs = 1
reference_count enters = 2
reference_count leaves = 1
reference_count accepts = 1
reference_count releases = 1

-- 1 where the first of them names the ambient that the action goes to.
unfoldable pub directed_of : Kind → ℕ
directed_of sibling_outputs = 1
directed_of parent_outputs = 0
directed_of internal_inputs = 0
directed_of external_inputs = 0
directed_of enters = 1
directed_of leaves = 0
directed_of accepts = 0
directed_of releases = 0

-- The row of the kind of this number.
unfoldable pub row_of : ℕ → Row
row_of n = record { answer = kind_number (answering (kind_at n)); standing = standing_number (standing_of (kind_at n)); references = reference_count (kind_at n); directed = directed_of (kind_at n) }

-- The row of a kind in a byte, as the code's table has it, from its lowest bit: three for the answer, two for the standing, two for the references, one for directed.
unfoldable pub kind_byte : Kind → ℕ
kind_byte k = kind_number (answering k) + 8 * standing_number (standing_of k) + 32 * reference_count k + 128 * directed_of k

-- What a byte says of each part.

abbrev pub answer_in : ℕ → ℕ
answer_in byte = byte % 8

abbrev pub standing_in : ℕ → ℕ
standing_in byte = byte / 8 % 4

abbrev pub references_in : ℕ → ℕ
references_in byte = byte / 32 % 4

abbrev pub directed_in : ℕ → ℕ
directed_in byte = byte / 128
