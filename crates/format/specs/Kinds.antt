-- What an action's tag, references and counts are, by the table of the eight kinds, which is passed on from here. A tag with a count is a spelling of one of the first four.
use Rattle.std.specs.Prelude.{List, [], ◌∷◌, ℕ, zero, suc, ◌+◌, ◌-◌, eqb}
use Rattle.calculus.specs.Processes.{Reference, name, Action, sibling_output, parent_output, internal_input, external_input, enter, leave, accept, release}
use Rattle.calculus.specs.Redexes.{Kind, sibling_outputs, parent_outputs, internal_inputs, external_inputs, enters, leaves, accepts, releases}
use Rattle.machine.specs.Kinds.{count, kind_of, kind_number, answering}
use Rattle.machine.specs.Tests.{pick}
unfoldable pub use Rattle.kinds.specs.Kinds.{kind_at, tag_kind, standing_number, reference_count, directed_of, row_of}

-- How many of the names of a message it hands over, 1 for all or 0: the references behind the channel, which is the one behind the target.
unfoldable pub handed_count : Kind → ℕ
handed_count k = reference_count k - (1 + directed_of k)

-- How many variables it binds for each of them: 1 where the kind that answers it hands names over.
unfoldable pub binder_count : Kind → ℕ
binder_count k = handed_count (answering k)

-- The count that its tag from 0x30 means: 1 where names are handed over or taken.
unfoldable pub implied_count : Kind → ℕ
implied_count k = handed_count k + binder_count k

-- Actions

unfoldable pub tag_of : Kind → ℕ
tag_of k = 0x30 + kind_number k

-- The tag of a kind with a count: 8 more where it is not the one that is implied.
unfoldable pub tag_with : Kind → ℕ → ℕ
tag_with k n = pick (eqb n (implied_count k)) (tag_of k) (8 + tag_of k)

-- And the byte that spells the count then.
unfoldable pub count_bytes : Kind → ℕ → List ℕ
count_bytes k n = pick (eqb n (implied_count k)) [] (n ∷ [])

unfoldable pub action_tag : Action → ℕ
action_tag α = tag_with (kind_of α) (count α)

abbrev pub spelled_count : Action → List ℕ
spelled_count α = count_bytes (kind_of α) (count α)

-- The references in front of the count: target, channel.
unfoldable pub address_of : Action → List Reference
address_of (sibling_output a x ns) = a ∷ x ∷ []
address_of (parent_output x ns) = x ∷ []
address_of (internal_input x k) = x ∷ []
address_of (external_input x k) = x ∷ []
address_of (enter a x) = a ∷ x ∷ []
address_of (leave x) = x ∷ []
address_of (accept x) = x ∷ []
address_of (release x) = x ∷ []

-- And those behind it: the names that are handed over.
unfoldable pub handed : Action → List Reference
handed (sibling_output a x ns) = ns
handed (parent_output x ns) = ns
handed (internal_input x k) = []
handed (external_input x k) = []
handed (enter a x) = []
handed (leave x) = []
handed (accept x) = []
handed (release x) = []

unfoldable pub reference_at : List Reference → ℕ → Reference
reference_at [] n = name 0
reference_at (r ∷ rs) zero = r
reference_at (r ∷ rs) (suc n) = reference_at rs n

-- The action of a kind with the references in front of the count, the count, and those behind it.
unfoldable pub action_from : Kind → List Reference → ℕ → List Reference → Action
action_from sibling_outputs rs n ns = sibling_output (reference_at rs 0) (reference_at rs 1) ns
action_from parent_outputs rs n ns = parent_output (reference_at rs 0) ns
action_from internal_inputs rs n ns = internal_input (reference_at rs 0) n
action_from external_inputs rs n ns = external_input (reference_at rs 0) n
action_from enters rs n ns = enter (reference_at rs 0) (reference_at rs 1)
action_from leaves rs n ns = leave (reference_at rs 0)
action_from accepts rs n ns = accept (reference_at rs 0)
action_from releases rs n ns = release (reference_at rs 0)
