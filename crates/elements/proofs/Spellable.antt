-- The parts of a list that can be spelled can be spelled, and steps keep every count one that can be spelled.
use mathlib.Core.List.{List, [], ◌∷◌}
use mathlib.Core.Option.{Option}
use Prim.Native.Nat.{ℕ, ◌+◌, ◌≤◌}
use lib.ListN.{length}
use Rattle.calculus.specs.Processes.{Reference, name, Action, sibling_output, parent_output, internal_input, external_input, enter, leave, accept, release, Process, replication, binders, raise_by, rename, receive}
use Rattle.machine.specs.Limits.{name_limit}
use Rattle.machine.specs.Elements.{Status, unblocked, blocked, Elements, empty, ambient_then, process_then, blocked_then, Element, ambient_element, process_element, blocked_element, ◌before◌, ◌then◌, only, standing, State, Position, unblock}
use Rattle.machine.specs.Validity.{ReferenceScoped, Scoped}
use Rattle.machine.specs.Rules.{Replace, Anywhere, directly, Turns, rule29, rule30, rule31, rule32, rule33, rule34, Blocks, blocks, Meets, rules35_36, rules37_38, rules39_40, rules41_42, Meeting, sender_acts, receiver_acts, Step, turns, meets, rule43}
use Rattle.machine.proofs.Lists.{replace_both_both}
use Rattle.machine.proofs.Elementwise.{Elementwise, then_all, only_all, both_one, replace_all, replace_both_all}
use Rattle.machine.proofs.Scoping.{reference_more, action_more}
use Rattle.format.specs.Spellable.{CountedAction, Counted, SpellableAction, Spellable}
use Rattle.format.proofs.Spellable.{counted_rename, spellable_below}
use Rattle.elements.specs.Spelling.{SpellableElements, CountedElements, CountedState}

-- Elements that can be spelled

unfoldable pub ElementSpellable : Element → Type 0
ElementSpellable (ambient_element s a A) = ReferenceScoped name_limit 0 a × SpellableElements A
ElementSpellable (process_element P) = Spellable 0 P
ElementSpellable (blocked_element α P) = SpellableAction 0 α × Spellable (binders α + 0) P

spellable_build : (E : Element) (C : Elements) → ElementSpellable E → SpellableElements C → SpellableElements (E before C)
unfolding ElementSpellable SpellableElements ◌before◌
spellable_build (ambient_element s a A) C e c = (e.0, e.1, c)
spellable_build (process_element P) C e c = (e, c)
spellable_build (blocked_element α P) C e c = (e.0, e.1, c)

spellable_split : (E : Element) (C : Elements) → SpellableElements (E before C) → ElementSpellable E × SpellableElements C
unfolding ElementSpellable SpellableElements ◌before◌
spellable_split (ambient_element s a A) C h = ((h.0, h.1), h.2)
spellable_split (process_element P) C h = h
spellable_split (blocked_element α P) C h = ((h.0, h.1), h.2)

pub spellable_empty : SpellableElements empty
unfolding SpellableElements
spellable_empty = tt

pub spellable_elementwise : Elementwise SpellableElements ElementSpellable
spellable_elementwise = record { nothing = spellable_empty; build = spellable_build; split = spellable_split }

pub spellable_then : (A C : Elements) → SpellableElements A → SpellableElements C → SpellableElements (A then C)
spellable_then = then_all spellable_elementwise

-- the first of them, and those behind it
pub spellable_before : (E : Element) (C : Elements) → SpellableElements (E before C) → SpellableElements (only E) × SpellableElements C
spellable_before E C h = let t = spellable_split E C h in (only_all spellable_elementwise E t.0, t.1)

pub spellable_contents : (s : Status) (a : Reference) (A C : Elements) → SpellableElements (ambient_element s a A before C) → SpellableElements A
unfolding SpellableElements ◌before◌
spellable_contents s a A C h = h.1

-- what is in scope below a lesser limit, with such counts; and what is in scope and has such counts
pub spellable_elements : (N : ℕ) → N ≤ name_limit → (L : Elements) → Scoped N L → CountedElements L → SpellableElements L
unfolding SpellableElements Scoped CountedElements
spellable_elements N few empty s u = tt
spellable_elements N few (ambient_then t a A C) s u =
    (reference_more N name_limit 0 few a s.0, spellable_elements N few A s.1 u.0, spellable_elements N few C s.2 u.1)
spellable_elements N few (process_then P C) s u = (spellable_below N 0 P few s.0 u.0, spellable_elements N few C s.1 u.1)
spellable_elements N few (blocked_then α P C) s u =
    ((action_more N name_limit 0 few α s.0, u.0), spellable_below N (binders α + 0) P few s.1 u.1, spellable_elements N few C s.2 u.2)

-- Counts of elements

unfoldable ElementCounted : Element → Type 0
ElementCounted (ambient_element s a A) = CountedElements A
ElementCounted (process_element P) = Counted P
ElementCounted (blocked_element α P) = CountedAction α × Counted P

counted_build : (E : Element) (C : Elements) → ElementCounted E → CountedElements C → CountedElements (E before C)
unfolding ElementCounted CountedElements ◌before◌
counted_build (ambient_element s a A) C e c = (e, c)
counted_build (process_element P) C e c = (e, c)
counted_build (blocked_element α P) C e c = (e.0, e.1, c)

counted_split : (E : Element) (C : Elements) → CountedElements (E before C) → ElementCounted E × CountedElements C
unfolding ElementCounted CountedElements ◌before◌
counted_split (ambient_element s a A) C h = h
counted_split (process_element P) C h = h
counted_split (blocked_element α P) C h = ((h.0, h.1), h.2)

counted_empty : CountedElements empty
unfolding CountedElements
counted_empty = tt

counted_elementwise : Elementwise CountedElements ElementCounted
counted_elementwise = record { nothing = counted_empty; build = counted_build; split = counted_split }

unblock_counted : (L : Elements) → CountedElements L → CountedElements (unblock L)
unfolding CountedElements Counted unblock
unblock_counted empty h = h
unblock_counted (ambient_then s a A C) h = (h.0, unblock_counted C h.1)
unblock_counted (process_then P C) h = (h.0, unblock_counted C h.1)
unblock_counted (blocked_then α P C) h = ((h.0, h.1), unblock_counted C h.2)

contents_counted : (s : Status) (a : Reference) (A : Elements) → ElementCounted (ambient_element s a A) → CountedElements A
unfolding ElementCounted
contents_counted s a A h = h

ambient_counted : (s : Status) (a : Reference) (A : Elements) → CountedElements A → ElementCounted (ambient_element s a A)
unfolding ElementCounted
ambient_counted s a A h = h

process_counted : (P : Process) → Counted P → ElementCounted (process_element P)
unfolding ElementCounted
process_counted P h = h

standing_counted : (s : Status) (α : Action) (P : Process) → ElementCounted (standing s α P) → Counted P
unfolding ElementCounted Counted standing
standing_counted unblocked α P h = h.1
standing_counted blocked α P h = h.1

only_ambient : (s : Status) (a : Reference) (A : Elements) → CountedElements A → CountedElements (only (ambient_element s a A))
only_ambient s a A h = only_all counted_elementwise (ambient_element s a A) (ambient_counted s a A h)

only_process : (P : Process) → Counted P → CountedElements (only (process_element P))
only_process P h = only_all counted_elementwise (process_element P) (process_counted P h)

-- One element changes by itself.

turns_counted : {N N' n : ℕ} {E : Element} {X : Elements} → Turns N N' n E X → ElementCounted E → CountedElements X
unfolding ElementCounted CountedElements Counted ◌before◌
turns_counted (rule29 b) h = (h, tt)
turns_counted (rule30 {α = α} {P = P}) h = ((h.0, (h.1, counted_rename (raise_by (binders α)) (replication α P) h)), tt)
turns_counted rule31 h = tt
turns_counted rule32 h = (h.0, (h.1, tt))
turns_counted {N} (rule33 {P = P}) h = (counted_rename (receive (name N ∷ [])) P h, tt)
turns_counted rule34 h = ((h, tt), tt)

blocks_counted : {E : Element} {X : Elements} → Blocks E X → ElementCounted E → CountedElements X
unfolding ElementCounted CountedElements Counted ◌before◌
blocks_counted blocks h = (h.0, h.1, tt)

anywhere_counted : {R : Element → Elements → Type 0} → ((E : Element) (X : Elements) → R E X → ElementCounted E → CountedElements X) →
    {π : Position} {L L' : Elements} → Anywhere R π L L' → CountedElements L → CountedElements L'
anywhere_counted f (directly {E = E} {X = X} x r) h = replace_all counted_elementwise r (f E X x) h
anywhere_counted f (Anywhere.rule27 {s = s} {a = a} {A = A} {A' = A'} d r) h =
    replace_all counted_elementwise r (λ e. only_ambient s a A' (anywhere_counted f d (contents_counted s a A e))) h

-- Two elements meet.

-- an action replaced by its continuation
continued_counted : (s : Status) (α : Action) (P : Process) {i : Position} {A A' : Elements} →
    Replace (standing s α P) (only (process_element P)) i A A' → CountedElements A → CountedElements A'
continued_counted s α P r h = replace_all counted_elementwise r (λ o. only_process P (standing_counted s α P o)) h

-- an input, replaced by its continuation with the names received
received_counted : (t : Status) (β : Action) (ns : List Reference) (Q : Process) → ElementCounted (standing t β Q) → CountedElements (only (process_element (rename (receive ns) Q)))
received_counted t β ns Q h = only_process (rename (receive ns) Q) (counted_rename (receive ns) Q (standing_counted t β Q h))

-- an ambient that moves, unblocked at its top level
moved_counted : (s : Status) (α : Action) (P : Process) (u : Status) (a : Reference) {i : Position} {A A' : Elements} →
    Replace (standing s α P) (only (process_element P)) i A A' → ElementCounted (ambient_element u a A) → CountedElements (only (ambient_element unblocked a (unblock A')))
moved_counted s α P u a {i} {A} {A'} r h = only_ambient unblocked a (unblock A') (unblock_counted A' (continued_counted s α P r (contents_counted u a A h)))

meets_counted : {s t : Status} {n : ℕ} {σ ρ : Position} {L L' : Elements} → Meets s t n σ ρ L L' → CountedElements L → CountedElements L'
meets_counted {s} {t} (rules35_36 x ns P Q {u = u} {v = v} {a = a} {b = b} {A = A} {A' = A'} {B = B} {B' = B'} r r' q) h =
    replace_both_all counted_elementwise q
    (λ e f. (
      only_ambient unblocked a A' (continued_counted s (sibling_output b x ns) P r (contents_counted u a A e)),
      only_ambient unblocked b B' (replace_all counted_elementwise r' (received_counted t (external_input x (length ns)) ns Q) (contents_counted v b B f)),
    )) h
meets_counted {s} {t} (rules37_38 x ns P Q {u = u} {a = a} {A = A} {A' = A'} r q) h =
    replace_both_all counted_elementwise q
    (λ e f. (
      only_ambient unblocked a A' (continued_counted s (parent_output x ns) P r (contents_counted u a A e)),
      received_counted t (internal_input x (length ns)) ns Q f,
    )) h
meets_counted {s} {t} (rules39_40 x P Q {u = u} {v = v} {a = a} {b = b} {A = A} {A' = A'} {B = B} {B' = B'} r r' q) h =
    replace_both_all counted_elementwise q
    (λ e f. (
      counted_empty,
      only_ambient unblocked b B' (replace_all counted_elementwise r'
          (λ o. counted_build (process_element Q) (only (ambient_element unblocked a (unblock A'))) (process_counted Q (standing_counted t (accept x) Q o)) (moved_counted s (enter b x) P u a r e))
          (contents_counted v b B f)),
    )) h
meets_counted {s} {t} (rules41_42 x P Q {u = u} {v = v} {a = a} {b = b} {A = A} {A' = A'} {B = B} {B' = B'} r q r') h =
    replace_all counted_elementwise r'
    (λ f.
    let c = contents_counted v b B f in
    counted_build (ambient_element unblocked b B') (only (ambient_element unblocked a (unblock A')))
    (ambient_counted unblocked b B' (replace_both_all counted_elementwise q (λ e k. (counted_empty, only_process Q (standing_counted t (release x) Q k))) c))
    (moved_counted s (leave x) P u a r (both_one counted_elementwise (replace_both_both q) c).0)) h
meets_counted (Meets.rule27 {u = u} {a = a} {A = A} {A' = A'} m r) h = replace_all counted_elementwise r (λ e. only_ambient u a A' (meets_counted m (contents_counted u a A e))) h

meeting_counted : {n : ℕ} {π κ : Position} {L L' : Elements} → Meeting n π κ L L' → CountedElements L → CountedElements L'
meeting_counted (sender_acts m) h = meets_counted m h
meeting_counted (receiver_acts m) h = meets_counted m h

pub step_counted : {S : State} {p : ℕ} {q : Option ℕ} {n : ℕ} {S' : State} → Step S p q n S' → CountedState S → CountedState S'
unfolding CountedState
step_counted (turns d) h = anywhere_counted (λ E X x. turns_counted x) d h
step_counted (meets m) h = meeting_counted m h
step_counted (rule43 d b) h = anywhere_counted (λ E X x. blocks_counted x) d h
