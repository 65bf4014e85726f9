-- How many bytes spell what a step leaves.
use mathlib.Core.Path.{◌≡◌, refl, ◌∙◌, ap}
use mathlib.Core.Bool.{Bool, true}
use mathlib.Core.List.{List}
use mathlib.Core.Option.{some}
use Prim.Native.Nat.{ℕ, suc, ◌+◌, ◌*◌, ◌≤◌}
use native.Mathlib.Omega.{arith}
use lib.ListN.{length}
use lib.Dec.{ltb}
use Rattle.calculus.specs.Processes.{Reference, Action, sibling_output, parent_output, internal_input, external_input, enter, leave, accept, release, Process, null, parallel, restriction, ambient, action, replication, rename, receive}
use Rattle.layouts.proofs.Laying.{length_rename}
use Rattle.machine.specs.Elements.{Status, unblocked, blocked, Elements, empty, ambient_then, process_then, blocked_then, Element, ambient_element, process_element, blocked_element, ◌before◌, only, standing, Position, into, Has, Both, first_left, first_right, further_both, element_at, unblock, blocked_actions}
use Rattle.machine.specs.Rules.{Replace, replaced, kept, ReplaceBoth, replaced_left, replaced_right, kept_both, Anywhere, directly, Meets, rules35_36, rules37_38, rules39_40, rules41_42}
use Rattle.machine.specs.Positions.{replace_at}
use Rattle.machine.proofs.Lists.{replace_has, replace_both_both, blocked_actions_process, replace_blocked_actions}
use Rattle.machine.proofs.Places.{has_element_at, into_element_at, element_at_anywhere}
use Rattle.machine.proofs.Meeting.{both_left, both_right, replace_element_at}
use Rattle.machine.specs.Kinds.{rule_of}
use Rattle.machine.specs.Tests.{pick}
use Rattle.format.specs.Spelling.{encode_reference, encode_action, encode}
use Rattle.buffers.proofs.Parts.{length_field}
use Rattle.format.proofs.Readback.{length_reference}
use Rattle.turning.specs.Turning.{turned}
pub use Rattle.places.proofs.Widths.{bytes, bytes_ambient, bytes_process, bytes_blocked, bytes_action, bytes_null, bytes_empty, bytes_before, bytes_then}
use Rattle.places.specs.Offsets.{width}
use Rattle.places.proofs.Widths.{length_parts}
use Rattle.places.proofs.Offsets.{has_within}
use Rattle.planning.proofs.Holders.{holder}

-- Elements replaced

pub replace_bytes : {E : Element} {X L L' : Elements} {p : Position} → Replace E X p L L' → bytes L' + bytes (only E) ≡ bytes L + bytes X
replace_bytes {E} {X} (replaced C) = omega (arith, bytes_before E C, bytes_then X C)
replace_bytes (kept D {C = C} {C' = C'} r) = omega (arith, bytes_before D C, bytes_before D C', replace_bytes r)

replace_both_bytes : {E D : Element} {X Y L L' : Elements} {p q : Position} → ReplaceBoth E X D Y p q L L' →
    bytes L' + bytes (only E) + bytes (only D) ≡ bytes L + bytes X + bytes Y
replace_both_bytes {E} {X = X} (replaced_left {C = C} {C' = C'} r) = omega (arith, bytes_before E C, bytes_then X C', replace_bytes r)
replace_both_bytes {D = D} {Y = Y} (replaced_right {C = C} {C' = C'} r) = omega (arith, bytes_before D C, bytes_then Y C', replace_bytes r)
replace_both_bytes (kept_both H {C = C} {C' = C'} r) = omega (arith, bytes_before H C, bytes_before H C', replace_both_bytes r)

-- what is put in is a part of the result
pub replace_within : {E : Element} {X L L' : Elements} {p : Position} → Replace E X p L L' → bytes X ≤ bytes L'
replace_within {X = X} (replaced C) = omega (arith, bytes_then X C)
replace_within (kept D {C' = C'} r) = omega (arith, bytes_before D C', replace_within r)

pub replace_both_within : {E D : Element} {X Y L L' : Elements} {p q : Position} → ReplaceBoth E X D Y p q L L' → bytes Y ≤ bytes L'
replace_both_within {X = X} (replaced_left {C' = C'} r) = omega (arith, bytes_then X C', replace_within r)
replace_both_within {Y = Y} (replaced_right {C' = C'} r) = omega (arith, bytes_then Y C')
replace_both_within (kept_both H {C' = C'} r) = omega (arith, bytes_before H C', replace_both_within r)

-- an ambient grows as its contents do
ambient_bytes_law : (s t : Status) (a : Reference) (A A' : Elements) → bytes (only (ambient_element t a A')) + bytes A ≡ bytes (only (ambient_element s a A)) + bytes A'
ambient_bytes_law s t a A A' = omega (arith, bytes_ambient s a A, bytes_ambient t a A')

-- What is exchanged at any depth: this element for this list.
pub record Exchanges (E : Element) (X : Elements) (D : Element) (Y : Elements) : Type 0 where
  pub from : D ≡ E
  pub to : Y ≡ X

abbrev pub Exchanged : Element → Elements → Position → Elements → Elements → Type 0
Exchanged E X π L L' = Anywhere (Exchanges E X) π L L'

pub exchanged : (L : Elements) (π : Position) (E : Element) (X : Elements) → element_at L π ≡ some E → Exchanged E X π L (replace_at L π X)
exchanged L π E X e = element_at_anywhere L π E X e (record { from = refl; to = refl })

exchanged_bytes : {E : Element} {X L L' : Elements} {π : Position} → Exchanged E X π L L' → bytes L' + bytes (only E) ≡ bytes L + bytes X
exchanged_bytes (directly c r) = omega (arith, replace_bytes r, ap (λ (F : Element). bytes (only F)) c.from, ap bytes c.to)
exchanged_bytes (Anywhere.rule27 {s = s} {a = a} {A = A} {A' = A'} c r) = omega (arith, exchanged_bytes c, replace_bytes r, ambient_bytes_law s s a A A')

pub length_one : (L : Elements) (π : Position) (E : Element) (X : Elements) → element_at L π ≡ some E →
    bytes (replace_at L π X) + bytes (only E) ≡ bytes L + bytes X
length_one L π E X e = exchanged_bytes (exchanged L π E X e)

-- What stands for an element that is turned

pub turned_ambient : (b : Bool) (ns : List Reference) (s : Status) (a : Reference) (A : Elements) →
    bytes (turned b ns (ambient_element s a A)) ≡ bytes (only (ambient_element s a A))
unfolding turned
turned_ambient b ns s a A = omega (arith, bytes_ambient s a A, bytes_ambient blocked a A)

pub turned_null : (b : Bool) (ns : List Reference) → bytes (turned b ns (process_element null)) ≡ 0
unfolding turned
turned_null b ns = bytes_empty

pub turned_parallel : (b : Bool) (ns : List Reference) (P Q : Process) → bytes (turned b ns (process_element (parallel P Q))) ≡ bytes (only (process_element (parallel P Q)))
unfolding turned encode
turned_parallel b ns P Q =
    omega (arith, bytes_before (process_element P) (only (process_element Q)), bytes_process P, bytes_process Q, bytes_process (parallel P Q), length_parts 0x21 (encode P) (encode Q))

pub turned_restriction : (b : Bool) (ns : List Reference) (P : Process) →
    bytes (turned b ns (process_element (restriction P))) + 3 ≡ bytes (only (process_element (restriction P)))
unfolding turned encode
turned_restriction b ns P =
    let σ = receive ns in
    omega (arith, bytes_process (rename σ P), length_rename σ P, bytes_process (restriction P), length_field 0x22 (encode P))

pub turned_process_ambient : (b : Bool) (ns : List Reference) (a : Reference) (P : Process) →
    bytes (turned b ns (process_element (ambient a P))) ≡ bytes (only (process_element (ambient a P)))
unfolding turned encode
turned_process_ambient b ns a P =
    omega (arith, bytes_ambient unblocked a (only (process_element P)), bytes_process P, bytes_process (ambient a P), length_parts 0x23 (encode_reference a) (encode P), length_reference a)

pub turned_blocking : (ns : List Reference) (α : Action) (P : Process) →
    bytes (turned true ns (process_element (action α P))) + 3 ≡ bytes (only (process_element (action α P)))
unfolding turned
turned_blocking ns α P = omega (arith, bytes_blocked α P, bytes_action α P)

pub turned_replication : (b : Bool) (ns : List Reference) (α : Action) (P : Process) →
    bytes (turned b ns (process_element (replication α P))) ≡ 2 * bytes (only (process_element (replication α P)))
unfolding turned encode
turned_replication b ns α P =
    omega (
      arith,
      bytes_action α (parallel P (replication α P)),
      length_parts 0x21 (encode P) (encode (replication α P)),
      bytes_process (replication α P),
      length_parts 0x25 (encode_action α) (encode P),
    )

-- Unblocking

unblock_bytes : (L : Elements) → bytes (unblock L) ≡ bytes L + 3 * blocked_actions L
unfolding unblock blocked_actions ◌before◌
unblock_bytes empty = omega arith
unblock_bytes (ambient_then s a A C) =
    omega (arith, bytes_before (ambient_element s a A) C, bytes_before (ambient_element s a A) (unblock C), unblock_bytes C)
unblock_bytes (process_then P C) = omega (arith, bytes_before (process_element P) C, bytes_before (process_element P) (unblock C), unblock_bytes C)
unblock_bytes (blocked_then α P C) =
    omega (arith, bytes_before (blocked_element α P) C, bytes_before (process_element (action α P)) (unblock C), bytes_blocked α P, bytes_action α P, unblock_bytes C)

-- The bytes that a blocked action is shorter by than the same action to be executed.
unfoldable pub spared : Status → ℕ
spared unblocked = 0
spared blocked = 3

blocked_actions_standing : (s : Status) (α : Action) (P : Process) → 3 * blocked_actions (only (standing s α P)) ≡ spared s
unfolding blocked_actions standing spared ◌before◌
blocked_actions_standing unblocked α P = refl
blocked_actions_standing blocked α P = refl

-- an action to be executed or blocked, and its continuation in its place
standing_bytes : (s : Status) (α : Action) (P : Process) → bytes (only (standing s α P)) + spared s ≡ 6 + length (encode_action α) + length (encode P)
unfolding standing spared
standing_bytes unblocked α P = omega (arith, bytes_action α P)
standing_bytes blocked α P = omega (arith, bytes_blocked α P)

continued_bytes : (s : Status) (α : Action) (P Q : Process) {A A' : Elements} {i : Position} → length (encode Q) ≡ length (encode P) → Replace (standing s α P) (only (process_element Q)) i A A' →
    bytes A' + 3 + length (encode_action α) ≡ bytes A + spared s
continued_bytes s α P Q e r = omega (arith, replace_bytes r, standing_bytes s α P, bytes_process Q, e)

-- an ambient that moves: its contents without the mover, unblocked
moved_bytes : (s : Status) (α : Action) (P : Process) {A A' : Elements} {i : Position} → Replace (standing s α P) (only (process_element P)) i A A' →
    bytes (unblock A') + 3 + length (encode_action α) ≡ bytes A + 3 * blocked_actions A
moved_bytes s α P {A' = A'} r = omega (arith, unblock_bytes A', replace_blocked_actions r, blocked_actions_standing s α P, blocked_actions_process P, continued_bytes s α P P refl r)

-- Two actions that meet: rules 39 and 41 unblock the blocked actions beside the mover, three bytes each, the others only the sender itself.

unfoldable pub unblocked_growth : ℕ → Status → Elements → ℕ
unblocked_growth n s A = pick (ltb n 39) (spared s) (3 * blocked_actions A)

-- both actions have room in the list
has_bytes : {E : Element} {p : Position} {L : Elements} → Has E p L → bytes (only E) ≤ bytes L
unfolding width
has_bytes h = omega (arith, has_within 0 h)

both_bytes : {E D : Element} {p q : Position} {L : Elements} → Both E D p q L → bytes (only E) + bytes (only D) ≤ bytes L
both_bytes {E} (first_left {C = C} h) = omega (arith, bytes_before E C, has_bytes h)
both_bytes {D = D} (first_right {C = C} h) = omega (arith, bytes_before D C, has_bytes h)
both_bytes (further_both H {C = C} w) = omega (arith, bytes_before H C, both_bytes w)

action_within : (s : Status) (α : Action) (P : Process) → length (encode_action α) ≤ bytes (only (standing s α P))
unfolding standing
action_within unblocked α P = omega (arith, bytes_action α P)
action_within blocked α P = omega (arith, bytes_blocked α P)

held_action : (s : Status) (α : Action) (P : Process) (u : Status) (a : Reference) {A : Elements} {i : Position} → Has (standing s α P) i A → length (encode_action α) ≤ bytes (only (ambient_element u a A))
held_action s α P u a {A} h = omega (arith, action_within s α P, has_bytes h, bytes_ambient u a A)

-- What stands at the two positions, the rules of the two actions, how long the result is, and that both have room; A is what the sender's or mover's ambient holds.
abbrev Joined : Status → Status → ℕ → Position → Position → Elements → Elements → Elements → Type 0
Joined s t n σ ρ L L' A = (α β : Action) × (P Q : Process) × (element_at L σ ≡ some (standing s α P)) × (element_at L ρ ≡ some (standing t β Q)) × (rule_of α ≡ n) × (rule_of β ≡ suc n)
    × (bytes L' + 6 + length (encode_action α) + length (encode_action β) ≡ bytes L + spared t + unblocked_growth n s A) × (length (encode_action α) + length (encode_action β) ≤ bytes L)

pub joined : {s t : Status} {n : ℕ} {σ ρ : Position} {L L' : Elements} (m : Meets s t n σ ρ L L') → Joined s t n σ ρ L L' (holder m).inside
unfolding rule_of holder unblocked_growth
joined {s} {t} (rules35_36 x ns P Q {u = u} {v = v} {a = a} {b = b} {A = A} {A' = A'} {B = B} {B' = B'} r r' k) =
    let w = replace_both_both k in
    let α = sibling_output b x ns in
    let β = external_input x (length ns) in
    let R = rename (receive ns) Q in
    let e = continued_bytes s α P P refl r in
    let f = continued_bytes t β Q R (length_rename (receive ns) Q) r' in
    (α, β, P, Q, replace_element_at r (both_left w), replace_element_at r' (both_right w), refl, refl, omega (arith, e, f, replace_both_bytes k, ambient_bytes_law u unblocked a A A', ambient_bytes_law v unblocked b B B'), omega (arith, both_bytes w, held_action s α P u a (replace_has r), held_action t β Q v b (replace_has r')))
joined {s} {t} (rules37_38 x ns P Q {u = u} {a = a} {A = A} {A' = A'} r k) =
    let w = replace_both_both k in
    let α = parent_output x ns in
    let β = internal_input x (length ns) in
    let e = continued_bytes s α P P refl r in
    let f = standing_bytes t β Q in
    let g = bytes_process (rename (receive ns) Q) in
    let l = length_rename (receive ns) Q in
    (α, β, P, Q, replace_element_at r (both_left w), has_element_at (both_right w), refl, refl, omega (arith, e, f, g, l, replace_both_bytes k, ambient_bytes_law u unblocked a A A'), omega (arith, both_bytes w, held_action s α P u a (replace_has r), action_within t β Q))
joined {s} {t} (rules39_40 x P Q {u = u} {v = v} {a = a} {b = b} {A = A} {A' = A'} {B = B} {B' = B'} r r' k) =
    let w = replace_both_both k in
    let e = moved_bytes s (enter b x) P r in
    let f = standing_bytes t (accept x) Q in
    let g = bytes_before (process_element Q) (only (ambient_element unblocked a (unblock A'))) in
    let p = bytes_process Q in
    let mover = ambient_bytes_law u unblocked a A (unblock A') in
    let other = ambient_bytes_law v unblocked b B B' in
    let sends = replace_element_at r (both_left w) in
    let takes = replace_element_at r' (both_right w) in
    (enter b x, accept x, P, Q, sends, takes, refl, refl, omega (arith, e, f, g, p, mover, other, replace_both_bytes k, replace_bytes r', bytes_empty), omega (arith, both_bytes w, held_action s (enter b x) P u a (replace_has r), held_action t (accept x) Q v b (replace_has r')))
joined {s} {t} (rules41_42 x P Q {u = u} {v = v} {a = a} {b = b} {A = A} {A' = A'} {B = B} {B' = B'} {i = i} {p = p} {r = j} r k r') =
    let w = replace_both_both k in
    let h = replace_has r' in
    let e = moved_bytes s (leave x) P r in
    let f = standing_bytes t (release x) Q in
    let g = bytes_before (ambient_element unblocked b B') (only (ambient_element unblocked a (unblock A'))) in
    let q = bytes_process Q in
    let mover = ambient_bytes_law u unblocked a A (unblock A') in
    let other = ambient_bytes_law v unblocked b B B' in
    let sends = into_element_at (into p i) h ∙ replace_element_at r (both_left w) in
    let takes = into_element_at j h ∙ has_element_at (both_right w) in
    (leave x, release x, P, Q, sends, takes, refl, refl, omega (arith, e, f, g, q, mover, other, replace_both_bytes k, replace_bytes r', bytes_empty), omega (arith, both_bytes w, held_action s (leave x) P u a (replace_has r), action_within t (release x) Q, bytes_ambient v b B, has_bytes h))
joined (Meets.rule27 {u = u} {a = a} {A = A} {A' = A'} {σ = σ} {ρ = ρ} m r) =
    let t = joined m in
    let h = replace_has r in
    (t.0, t.1, t.2, t.3, into_element_at σ h ∙ t.4, into_element_at ρ h ∙ t.5, t.6, t.7, omega (arith, t.8, replace_bytes r, ambient_bytes_law u u a A A'), omega (arith, t.9, bytes_ambient u a A, has_bytes h))
