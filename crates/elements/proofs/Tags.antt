-- The forms of processes and elements by the tags of their spellings.
use mathlib.Core.Path.{◌≡◌, refl, subst}
use mathlib.Core.List.{List}
use Prim.Native.Nat.{ℕ, ◌<◌}
use native.Mathlib.Omega.{arith}
use lib.ListN.{get_or}
use Rattle.calculus.specs.Processes.{Reference, Action, Process, null, parallel, restriction, ambient, action, replication}
use Rattle.machine.specs.Elements.{unblocked, blocked, Elements, Element, ambient_element, process_element, blocked_element, ◌before◌, only}
use Rattle.buffers.specs.Words.{field}
use Rattle.format.specs.Spelling.{encode}
use Rattle.elements.specs.Spelling.{ambient_tag, encode_elements}

-- A process with the tag that its spelling begins with.
pub data Tagged : ℕ → Process → Type 0 where
  tagged_null : Tagged 0x20 null
  tagged_parallel : (P Q : Process) → Tagged 0x21 (parallel P Q)
  tagged_restriction : (P : Process) → Tagged 0x22 (restriction P)
  tagged_ambient : (a : Reference) (P : Process) → Tagged 0x23 (ambient a P)
  tagged_action : (α : Action) (P : Process) → Tagged 0x24 (action α P)
  tagged_replication : (α : Action) (P : Process) → Tagged 0x25 (replication α P)

tagged_spelling : (P : Process) → Tagged (get_or (encode P) 0 0) P
unfolding encode field
tagged_spelling null = tagged_null
tagged_spelling (parallel P Q) = tagged_parallel P Q
tagged_spelling (restriction P) = tagged_restriction P
tagged_spelling (ambient a P) = tagged_ambient a P
tagged_spelling (action α P) = tagged_action α P
tagged_spelling (replication α P) = tagged_replication α P

-- the tag in the bytes
pub tagged : {s : List ℕ} {P : Process} → s ≡ encode P → Tagged (get_or s 0 0) P
tagged {P = P} e = rw e (tagged_spelling P)

pub tagged_as : {s : List ℕ} {P : Process} {tag : ℕ} → s ≡ encode P → get_or s 0 0 ≡ tag → Tagged tag P
tagged_as {P = P} e t = subst (λ (n : ℕ). Tagged n P) t (tagged e)

-- a tag that is none of the others is a replication's
pub tagged_last : {tag : ℕ} {P : Process} → Tagged tag P → (tag ≡ 0x20 → ⊥) → (tag ≡ 0x21 → ⊥) → (tag ≡ 0x22 → ⊥) → (tag ≡ 0x23 → ⊥) → (tag ≡ 0x24 → ⊥)
    → Tagged 0x25 P
tagged_last tagged_null h i j k l = absurd (h refl)
tagged_last (tagged_parallel P Q) h i j k l = absurd (i refl)
tagged_last (tagged_restriction P) h i j k l = absurd (j refl)
tagged_last (tagged_ambient a P) h i j k l = absurd (k refl)
tagged_last (tagged_action α P) h i j k l = absurd (l refl)
tagged_last (tagged_replication α P) h i j k l = tagged_replication α P

-- An element with the tag that its spelling begins with.
pub data TaggedElement : ℕ → Element → Type 0 where
  tagged_unblocked_ambient : (a : Reference) (A : Elements) → TaggedElement 0x40 (ambient_element unblocked a A)
  tagged_blocked_ambient : (a : Reference) (A : Elements) → TaggedElement 0x41 (ambient_element blocked a A)
  tagged_process : (P : Process) → TaggedElement 0x42 (process_element P)
  tagged_blocked_action : (α : Action) (P : Process) → TaggedElement 0x43 (blocked_element α P)

tagged_alone : (E : Element) → TaggedElement (get_or (encode_elements (only E)) 0 0) E
unfolding encode_elements field ◌before◌ ambient_tag
tagged_alone (ambient_element unblocked a A) = tagged_unblocked_ambient a A
tagged_alone (ambient_element blocked a A) = tagged_blocked_ambient a A
tagged_alone (process_element P) = tagged_process P
tagged_alone (blocked_element α P) = tagged_blocked_action α P

-- the tag in the bytes
pub tagged_element : {s : List ℕ} {E : Element} → s ≡ encode_elements (only E) → TaggedElement (get_or s 0 0) E
tagged_element {E = E} e = rw e (tagged_alone E)

pub tagged_element_as : {s : List ℕ} {E : Element} {tag : ℕ} → s ≡ encode_elements (only E) → get_or s 0 0 ≡ tag → TaggedElement tag E
tagged_element_as {E = E} e t = subst (λ (n : ℕ). TaggedElement n E) t (tagged_element e)

-- no element has a higher tag than a blocked action
pub tag_small : {tag : ℕ} {E : Element} → TaggedElement tag E → tag < 0x44
tag_small (tagged_unblocked_ambient a A) = omega arith
tag_small (tagged_blocked_ambient a A) = omega arith
tag_small (tagged_process P) = omega arith
tag_small (tagged_blocked_action α P) = omega arith
