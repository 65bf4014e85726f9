-- The openings of processes and of elements: the same bytes, and the same names in the same order.
use mathlib.Core.Path.{◌≡◌, refl, sym, ap, ◌∙◌}
use mathlib.Core.List.{List, [], ◌∷◌, ◌++◌, append_assoc, append-nil}
use Prim.Native.Nat.{ℕ}
use native.Mathlib.Omega.{arith}
use lib.ListN.{length}
use Rattle.calculus.specs.Processes.{Reference, Action, sibling_output, parent_output, internal_input, external_input, enter, leave, accept, release, Process, null, parallel, restriction, ambient, action, replication}
use Rattle.calculus.specs.Names.{names_of_reference, names_of_all, names_of_action, names_of_process}
use Rattle.machine.specs.Elements.{Status, unblocked, blocked, Elements, empty, ambient_then, process_then, blocked_then}
use Rattle.machine.specs.Names.{names}
use Rattle.buffers.specs.Words.{word, field}
use Rattle.format.specs.Kinds.{address_of, handed}
use Rattle.format.specs.Spelling.{encode_reference, encode_references, encode_action, encode}
use Rattle.layouts.specs.Openings.{naming, form_of, Opening, alone, named, whole, first_of, second_of, encode_opening, encode_openings, names_of_openings}
use Rattle.layouts.proofs.Openings.{form_ambient, form_process, form_box, form_element}
use Rattle.elements.specs.Spelling.{ambient_tag, encode_elements}

-- The openings of a process, in front of others

unfoldable pub openings : Process → List Opening → List Opening
openings null os = alone 0x20 0 (form_process 0x20 (omega arith) (λ e. omega arith)) ∷ os
openings (parallel P Q) os = alone 0x21 (length (encode P ++ encode Q)) (form_process 0x21 (omega arith) (λ e. omega arith)) ∷ openings P (openings Q os)
openings (restriction P) os = alone 0x22 (length (encode P)) (form_process 0x22 (omega arith) (λ e. omega arith)) ∷ openings P os
openings (ambient a P) os = named 0x23 (length (encode_reference a ++ encode P)) (form_ambient 0x23 (omega arith) refl) a ∷ openings P os
openings (action α P) os = alone 0x24 (length (encode_action α ++ encode P)) (form_process 0x24 (omega arith) (λ e. omega arith)) ∷ whole α ∷ openings P os
openings (replication α P) os = alone 0x25 (length (encode_action α ++ encode P)) (form_process 0x25 (omega arith) (λ e. omega arith)) ∷ whole α ∷ openings P os

pub tag_naming : (s : Status) → form_of (ambient_tag s) ≡ naming
unfolding ambient_tag
tag_naming unblocked = form_box 0x40 (omega arith) (omega arith)
tag_naming blocked = form_box 0x41 (omega arith) (omega arith)

-- and of a list
unfoldable pub list_openings : Elements → List Opening → List Opening
list_openings empty os = os
list_openings (ambient_then s a A C) os = named (ambient_tag s) (length (encode_reference a ++ encode_elements A)) (tag_naming s) a ∷ list_openings A (list_openings C os)
list_openings (process_then P C) os = alone 0x42 (length (encode P)) (form_element 0x42 (omega arith)) ∷ openings P (list_openings C os)
list_openings (blocked_then α P C) os = alone 0x43 (length (encode_action α ++ encode P)) (form_element 0x43 (omega arith)) ∷ whole α ∷ openings P (list_openings C os)

-- Their bytes

headed : (tag : ℕ) (body rest : List ℕ) {last : List ℕ} → last ≡ body ++ rest → (tag ∷ word (length body)) ++ last ≡ field tag body ++ rest
unfolding field word
headed tag body rest e = rw e

inside : (front body rest last : List ℕ) → last ≡ body ++ rest → front ++ last ≡ (front ++ body) ++ rest
inside front body rest last e = ap (λ (l : List ℕ). front ++ l) e ∙ sym (append_assoc front body rest)

named_bytes : (tag len : ℕ) (f : form_of tag ≡ naming) (a : Reference) (last : List ℕ) → encode_opening (named tag len f a) ++ last ≡ (tag ∷ word len) ++ (encode_reference a ++ last)
unfolding encode_opening encode_references encode_reference word
named_bytes tag len f a last = refl

pub openings_spelled : (P : Process) (os : List Opening) → encode_openings (openings P os) ≡ encode P ++ encode_openings os
unfolding openings encode_openings encode_opening encode
openings_spelled null os = headed 0x20 [] (encode_openings os) refl
openings_spelled (parallel P Q) os =
    headed 0x21 (encode P ++ encode Q) (encode_openings os) (openings_spelled P (openings Q os) ∙ inside (encode P) (encode Q) (encode_openings os) (encode_openings (openings Q os)) (openings_spelled Q os))
openings_spelled (restriction P) os = headed 0x22 (encode P) (encode_openings os) (openings_spelled P os)
openings_spelled (ambient a P) os =
    named_bytes 0x23 (length (encode_reference a ++ encode P)) (form_ambient 0x23 (omega arith) refl) a (encode_openings (openings P os))
    ∙ headed 0x23 (encode_reference a ++ encode P) (encode_openings os) (inside (encode_reference a) (encode P) (encode_openings os) (encode_openings (openings P os)) (openings_spelled P os))
openings_spelled (action α P) os = headed 0x24 (encode_action α ++ encode P) (encode_openings os) (inside (encode_action α) (encode P) (encode_openings os) (encode_openings (openings P os)) (openings_spelled P os))
openings_spelled (replication α P) os = headed 0x25 (encode_action α ++ encode P) (encode_openings os) (inside (encode_action α) (encode P) (encode_openings os) (encode_openings (openings P os)) (openings_spelled P os))

list_openings_spelled : (A : Elements) (os : List Opening) → encode_openings (list_openings A os) ≡ encode_elements A ++ encode_openings os
unfolding list_openings encode_openings encode_opening encode_elements
list_openings_spelled empty os = refl
list_openings_spelled (ambient_then s a A C) os =
    named_bytes (ambient_tag s) (length (encode_reference a ++ encode_elements A)) (tag_naming s) a (encode_openings (list_openings A (list_openings C os)))
    ∙ headed (ambient_tag s) (encode_reference a ++ encode_elements A) (encode_openings (list_openings C os))
    (inside (encode_reference a) (encode_elements A) (encode_openings (list_openings C os)) (encode_openings (list_openings A (list_openings C os))) (list_openings_spelled A (list_openings C os)))
    ∙ inside (field (ambient_tag s) (encode_reference a ++ encode_elements A)) (encode_elements C) (encode_openings os) (encode_openings (list_openings C os)) (list_openings_spelled C os)
list_openings_spelled (process_then P C) os =
    headed 0x42 (encode P) (encode_openings (list_openings C os)) (openings_spelled P (list_openings C os))
    ∙ inside (field 0x42 (encode P)) (encode_elements C) (encode_openings os) (encode_openings (list_openings C os)) (list_openings_spelled C os)
list_openings_spelled (blocked_then α P C) os =
    headed 0x43 (encode_action α ++ encode P) (encode_openings (list_openings C os)) (inside (encode_action α) (encode P) (encode_openings (list_openings C os)) (encode_openings (openings P (list_openings C os))) (openings_spelled P (list_openings C os)))
    ∙ inside (field 0x43 (encode_action α ++ encode P)) (encode_elements C) (encode_openings os) (encode_openings (list_openings C os)) (list_openings_spelled C os)

pub elements_spelled : (A : Elements) → encode_elements A ≡ encode_openings (list_openings A [])
unfolding encode_openings
elements_spelled A = sym (list_openings_spelled A [] ∙ append-nil (encode_elements A))

-- Their names

named_names : (tag len : ℕ) (f : form_of tag ≡ naming) (a : Reference) (os : List Opening) → names_of_openings (named tag len f a ∷ os) ≡ names_of_reference a ++ names_of_openings os
unfolding names_of_openings first_of second_of names_of_all
named_names tag len f a os = ap (λ (l : List ℕ). l ++ names_of_openings os) (append-nil (names_of_reference a ++ []) ∙ append-nil (names_of_reference a))

action_names : (α : Action) → names_of_all (address_of α) ++ names_of_all (handed α) ≡ names_of_action α
unfolding names_of_all address_of handed names_of_action
action_names (sibling_output a x ns) = ap (λ (l : List ℕ). names_of_reference a ++ l ++ names_of_all ns) (append-nil (names_of_reference x))
action_names (parent_output x ns) = ap (λ (l : List ℕ). l ++ names_of_all ns) (append-nil (names_of_reference x))
action_names (internal_input x k) = append-nil (names_of_reference x ++ []) ∙ append-nil (names_of_reference x)
action_names (external_input x k) = append-nil (names_of_reference x ++ []) ∙ append-nil (names_of_reference x)
action_names (enter a x) = append-nil (names_of_reference a ++ (names_of_reference x ++ [])) ∙ ap (λ (l : List ℕ). names_of_reference a ++ l) (append-nil (names_of_reference x))
action_names (leave x) = append-nil (names_of_reference x ++ []) ∙ append-nil (names_of_reference x)
action_names (accept x) = append-nil (names_of_reference x ++ []) ∙ append-nil (names_of_reference x)
action_names (release x) = append-nil (names_of_reference x ++ []) ∙ append-nil (names_of_reference x)

whole_names : (α : Action) (os : List Opening) → names_of_openings (whole α ∷ os) ≡ names_of_action α ++ names_of_openings os
unfolding names_of_openings first_of second_of
whole_names α os = ap (λ (l : List ℕ). l ++ names_of_openings os) (action_names α)

alone_names : (o : Opening) (os : List Opening) → first_of o ≡ [] → second_of o ≡ [] → names_of_openings (o ∷ os) ≡ names_of_openings os
unfolding names_of_openings names_of_all
alone_names o os e f = rw (e, f)

openings_names : (P : Process) (os : List Opening) → names_of_openings (openings P os) ≡ names_of_process P ++ names_of_openings os
unfolding openings names_of_process first_of second_of
openings_names null os = alone_names _ os refl refl
openings_names (parallel P Q) os =
    alone_names _ (openings P (openings Q os)) refl refl ∙ openings_names P (openings Q os) ∙ inside (names_of_process P) (names_of_process Q) (names_of_openings os) (names_of_openings (openings Q os)) (openings_names Q os)
openings_names (restriction P) os = alone_names _ (openings P os) refl refl ∙ openings_names P os
openings_names (ambient a P) os = named_names 0x23 _ (form_ambient 0x23 (omega arith) refl) a (openings P os) ∙ inside (names_of_reference a) (names_of_process P) (names_of_openings os) (names_of_openings (openings P os)) (openings_names P os)
openings_names (action α P) os =
    alone_names _ (whole α ∷ openings P os) refl refl ∙ whole_names α (openings P os)
    ∙ inside (names_of_action α) (names_of_process P) (names_of_openings os) (names_of_openings (openings P os)) (openings_names P os)
openings_names (replication α P) os =
    alone_names _ (whole α ∷ openings P os) refl refl ∙ whole_names α (openings P os)
    ∙ inside (names_of_action α) (names_of_process P) (names_of_openings os) (names_of_openings (openings P os)) (openings_names P os)

list_openings_names : (A : Elements) (os : List Opening) → names_of_openings (list_openings A os) ≡ names A ++ names_of_openings os
unfolding list_openings names first_of second_of
list_openings_names empty os = refl
list_openings_names (ambient_then s a A C) os =
    named_names (ambient_tag s) _ (tag_naming s) a (list_openings A (list_openings C os))
    ∙ inside (names_of_reference a) (names A) (names_of_openings (list_openings C os)) (names_of_openings (list_openings A (list_openings C os))) (list_openings_names A (list_openings C os))
    ∙ inside (names_of_reference a ++ names A) (names C) (names_of_openings os) (names_of_openings (list_openings C os)) (list_openings_names C os)
list_openings_names (process_then P C) os =
    alone_names _ (openings P (list_openings C os)) refl refl ∙ openings_names P (list_openings C os)
    ∙ inside (names_of_process P) (names C) (names_of_openings os) (names_of_openings (list_openings C os)) (list_openings_names C os)
list_openings_names (blocked_then α P C) os =
    alone_names _ (whole α ∷ openings P (list_openings C os)) refl refl ∙ whole_names α (openings P (list_openings C os))
    ∙ inside (names_of_action α) (names_of_process P) (names_of_openings (list_openings C os)) (names_of_openings (openings P (list_openings C os))) (openings_names P (list_openings C os))
    ∙ inside (names_of_action α ++ names_of_process P) (names C) (names_of_openings os) (names_of_openings (list_openings C os)) (list_openings_names C os)

pub elements_names : (A : Elements) → names_of_openings (list_openings A []) ≡ names A
unfolding names_of_openings
elements_names A = list_openings_names A [] ∙ append-nil (names A)
