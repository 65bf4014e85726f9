-- Reading processes over plain lists of bytes: what was read and in how many bytes, or the number of document 01's refusal.
use Rattle.machine.specs.Tests.{pick}
use Rattle.std.specs.Prelude.{List, [], ◌∷◌, ℕ, zero, suc, ◌+◌, ◌-◌, ◌*◌, length, get_or, take, drop, ltb, eqb}
use Rattle.calculus.specs.Processes.{Reference, name, variable, Action, Process, null, parallel, restriction, ambient, action, replication, binders}
use Rattle.machine.specs.Limits.{name_limit, count_limit}
use Rattle.format.specs.Spelling.{first_variable}
use Rattle.format.specs.Kinds.{tag_kind, directed_of, handed_count, implied_count, action_from}

pub data Outcome (A : Type 0) : Type 0 where
  refused : ℕ → Outcome A
  got : A → ℕ → Outcome A

unfoldable pub map_outcome : {A B : Type 0} → (A → B) → Outcome A → Outcome B
map_outcome f (refused k) = refused k
map_outcome f (got a n) = got (f a) n

unfoldable pub shift : {A : Type 0} → ℕ → Outcome A → Outcome A
shift m (refused k) = refused k
shift m (got a n) = got a (m + n)

-- First one part, then, behind it, another.
unfoldable pub and_then : {A B : Type 0} → Outcome A → List ℕ → (A → List ℕ → Outcome B) → Outcome B
and_then (refused k) bytes f = refused k
and_then (got a n) bytes f = shift n (f a (drop n bytes))

-- Fields

pub data Opened : Type 0 where
  shut : ℕ → Opened
  opened : ℕ → ℕ → Opened

abbrev pub word_at : List ℕ → ℕ → ℕ
word_at bytes i = get_or bytes i 0 * 256 + get_or bytes (i + 1) 0

-- The header: present (2), its tag due here (3), its length within the bytes (2).
unfoldable pub open_field : ℕ → ℕ → List ℕ → Opened
open_field low high bytes =
    pick (ltb (length bytes) 3) (shut 2)
    (pick (ltb (get_or bytes 0 0) low) (shut 3)
    (pick (ltb high (get_or bytes 0 0)) (shut 3)
    (pick (ltb (length bytes - 3) (word_at bytes 1)) (shut 2)
    (opened (get_or bytes 0 0) (word_at bytes 1)))))

-- The parts of a field make up the whole of its body (4).
unfoldable pub whole : {A : Type 0} → ℕ → Outcome A → Outcome A
whole len (refused k) = refused k
whole len (got a n) = pick (eqb n len) (got a (3 + len)) (refused 4)

-- A field: its header, then its parts, read by f from the tag and the body.
unfoldable pub read_field : {A : Type 0} → Opened → List ℕ → (ℕ → List ℕ → Outcome A) → Outcome A
read_field (shut k) bytes f = refused k
read_field (opened tag len) bytes f = whole len (f tag (take len (drop 3 bytes)))

-- References and actions

-- 0 to 4,095 is a name, below `names`; 32,768 + i the variable of one of the binders; nothing else is a reference (6).
unfoldable pub reference_of : ℕ → ℕ → ℕ → Outcome Reference
reference_of names binders v =
    pick (ltb v name_limit) (pick (ltb v names) (got (name v) 2) (refused 6))
    (pick (ltb v first_variable) (refused 6)
    (pick (ltb (v - first_variable) binders) (got (variable (v - first_variable)) 2) (refused 6)))

unfoldable pub read_reference : ℕ → ℕ → List ℕ → Outcome Reference
read_reference names binders bytes = pick (ltb (length bytes) 2) (refused 2) (reference_of names binders (word_at bytes 0))

unfoldable pub read_references : ℕ → ℕ → ℕ → List ℕ → Outcome (List Reference)
read_references zero names binders bytes = got [] 0
read_references (suc k) names binders bytes =
    and_then (read_reference names binders bytes) bytes (λ r rest. map_outcome (λ rs. r ∷ rs) (read_references k names binders rest))

-- A count where it is spelled: one byte (2), which is not 1 and not above the limit (14).
unfoldable pub read_spelled_count : List ℕ → Outcome ℕ
read_spelled_count bytes =
    pick (ltb (length bytes) 1) (refused 2)
    (pick (eqb (get_or bytes 0 0) 1) (refused 14)
    (pick (ltb count_limit (get_or bytes 0 0)) (refused 14)
    (got (get_or bytes 0 0) 1)))

-- The count behind target and channel: the implied one up to the tag 0x37, and a spelled one from 0x38 on.
unfoldable pub read_name_count : ℕ → List ℕ → Outcome ℕ
read_name_count tag bytes = pick (ltb tag 0x38) (got (implied_count (tag_kind tag)) 0) (read_spelled_count bytes)

-- The parts of an action: target and channel, the count, and as many names where the kind hands them over.
unfoldable pub read_action_parts : ℕ → ℕ → ℕ → List ℕ → Outcome Action
read_action_parts tag names binders body =
    and_then (read_references (1 + directed_of (tag_kind tag)) names binders body) body (λ rs behind.
    and_then (read_name_count tag behind) behind (λ n rest.
    map_outcome (action_from (tag_kind tag) rs n) (read_references (n * handed_count (tag_kind tag)) names binders rest)))

unfoldable pub read_action : ℕ → ℕ → List ℕ → Outcome Action
read_action names binders bytes = read_field (open_field 0x30 0x3B bytes) bytes (λ tag body. read_action_parts tag names binders body)

-- Processes. `P b` reads the processes inside, under b binders.

unfoldable pub read_acting : (ℕ → List ℕ → Outcome Process) → ℕ → ℕ → List ℕ → Outcome (Action × Process)
read_acting P names around bytes =
    and_then (read_action names around bytes) bytes (λ α rest. map_outcome (λ p. (α, p)) (P (around + binders α) rest))

pub data Shape : Type 0 where
  is_null is_parallel is_restriction is_ambient is_action is_replication : Shape

unfoldable pub shape_of : ℕ → Shape
shape_of tag =
    pick (eqb tag 0x20) is_null
    (pick (eqb tag 0x21) is_parallel
    (pick (eqb tag 0x22) is_restriction
    (pick (eqb tag 0x23) is_ambient
    (pick (eqb tag 0x24) is_action is_replication))))

unfoldable pub read_parts : Shape → (ℕ → List ℕ → Outcome Process) → ℕ → ℕ → List ℕ → Outcome Process
read_parts is_null P names around body = got null 0
read_parts is_parallel P names around body = and_then (P around body) body (λ p rest. map_outcome (parallel p) (P around rest))
read_parts is_restriction P names around body = map_outcome restriction (P (around + 1) body)
read_parts is_ambient P names around body =
    and_then (read_reference names around body) body (λ a rest. map_outcome (ambient a) (P around rest))
read_parts is_action P names around body = map_outcome (λ t. action t.0 t.1) (read_acting P names around body)
read_parts is_replication P names around body = map_outcome (λ t. replication t.0 t.1) (read_acting P names around body)

-- A process of at most the given depth (5), with names below `names` and under `around` binders.
unfoldable pub read_process : ℕ → ℕ → ℕ → List ℕ → Outcome Process
read_process zero names around bytes = read_field (open_field 0x20 0x25 bytes) bytes (λ tag body. refused 5)
read_process (suc d) names around bytes =
    read_field (open_field 0x20 0x25 bytes) bytes (λ tag body. read_parts (shape_of tag) (read_process d names) names around body)

-- Counts

-- Two bytes, from `least` to `most` (6).
unfoldable pub read_count : ℕ → ℕ → List ℕ → Outcome ℕ
read_count least most bytes =
    pick (ltb (length bytes) 2) (refused 2)
    (pick (ltb (word_at bytes 0) least) (refused 6)
    (pick (ltb most (word_at bytes 0)) (refused 6)
    (got (word_at bytes 0) 2)))
