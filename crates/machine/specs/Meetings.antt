-- Two actions that meet, as a function: what becomes of them, and the places of the partners of an action.
use Rattle.std.specs.Prelude.{Bool, true, false, List, [], ◌∷◌, ℕ, zero, suc}
use Rattle.std.proofs.Math.Option.{Option, none, some}
use Rattle.calculus.specs.Processes.{Reference, Action, sibling_output, parent_output, internal_input, external_input, enter, leave, accept, release, Process, null, parallel, restriction, ambient, action, replication, rename, receive}
use Rattle.machine.specs.Elements.{Status, unblocked, blocked, Elements, empty, ambient_then, process_then, blocked_then, Element, ambient_element, process_element, blocked_element, ◌before◌, ◌then◌, only, Position, here, later, inside, size, unblock}
use Rattle.machine.specs.Tests.{◌and◌, same}
use Rattle.machine.specs.Kinds.{Side, sender, receiver, agree}
use Rattle.machine.specs.Positions.{position, element_of, replace_at, replace_around}

-- An action of a wanted status, alone in the list or held by an ambient of it.
pub data Located : Type 0 where
  nowhere : Located
  alone : Action → Process → Located
  held : Reference → Elements → Position → Action → Process → Located

unfoldable pub found_alone : Status → Element → Located
found_alone unblocked (process_element null) = nowhere
found_alone unblocked (process_element (parallel P Q)) = nowhere
found_alone unblocked (process_element (restriction P)) = nowhere
found_alone unblocked (process_element (ambient a P)) = nowhere
found_alone unblocked (process_element (action α P)) = alone α P
found_alone unblocked (process_element (replication α P)) = nowhere
found_alone unblocked (ambient_element s a A) = nowhere
found_alone unblocked (blocked_element α P) = nowhere
found_alone blocked (process_element P) = nowhere
found_alone blocked (ambient_element s a A) = nowhere
found_alone blocked (blocked_element α P) = alone α P

unfoldable pub found_held : Reference → Elements → Position → Located → Located
found_held a A i nowhere = nowhere
found_held a A i (alone α P) = held a A i α P
found_held a A i (held b B j β Q) = nowhere

unfoldable pub found_in : Status → Option Element → Located
found_in s none = nowhere
found_in s (some E) = found_alone s E

unfoldable pub find : Status → Element → Position → Located
find s E here = found_alone s E
find s E (later p) = nowhere
find s (ambient_element u a A) (inside i) = found_held a A i (found_in s (element_of A i))
find s (process_element P) (inside i) = nowhere
find s (blocked_element α P) (inside i) = nowhere

unfoldable pub find_around : Status → Elements → Position → Located
find_around s empty p = nowhere
find_around s (ambient_then u a A C) here = find s (ambient_element u a A) here
find_around s (ambient_then u a A C) (later p) = find_around s C p
find_around s (ambient_then u a A C) (inside i) = find s (ambient_element u a A) (inside i)
find_around s (process_then P C) here = find s (process_element P) here
find_around s (process_then P C) (later p) = find_around s C p
find_around s (process_then P C) (inside i) = nowhere
find_around s (blocked_then α P C) here = find s (blocked_element α P) here
find_around s (blocked_then α P C) (later p) = find_around s C p
find_around s (blocked_then α P C) (inside i) = nowhere

-- What becomes of two elements that meet: rule, what stands for the sender's, what stands for its partner's; and an ambient that
-- goes to stand behind the ambient around.
pub data Joint : Type 0 where
  apart : Joint
  joins : ℕ → Elements → Elements → Joint
  departs : ℕ → Elements → Elements → Reference → Elements → Joint

unfoldable pub provided : Bool → Joint → Joint
provided true j = j
provided false j = apart

-- The sender in the ambient a, its partner in the ambient b.
unfoldable pub join_held : Action → Process → Reference → Elements → Position → Action → Process → Reference → Elements → Position → Joint
join_held (sibling_output c x ns) P a A i β Q b B j =
    provided (same c b and agree (sibling_output c x ns) β)
    (joins 35
    (only (ambient_element unblocked a (replace_at A i (only (process_element P)))))
    (only (ambient_element unblocked b (replace_at B j (only (process_element (rename (receive ns) Q)))))))
join_held (enter c x) P a A i β Q b B j =
    provided (same c b and agree (enter c x) β)
    (joins 39
    empty
    (only (ambient_element unblocked b (replace_at B j (process_element Q before only (ambient_element unblocked a (unblock (replace_at A i (only (process_element P))))))))))
join_held (parent_output x ns) P a A i β Q b B j = apart
join_held (internal_input x k) P a A i β Q b B j = apart
join_held (external_input x k) P a A i β Q b B j = apart
join_held (leave x) P a A i β Q b B j = apart
join_held (accept x) P a A i β Q b B j = apart
join_held (release x) P a A i β Q b B j = apart

-- The sender in the ambient a, its partner alone.
unfoldable pub join_alone : Action → Process → Reference → Elements → Position → Action → Process → Joint
join_alone (parent_output x ns) P a A i β Q =
    provided (agree (parent_output x ns) β)
    (joins 37 (only (ambient_element unblocked a (replace_at A i (only (process_element P))))) (only (process_element (rename (receive ns) Q))))
join_alone (leave x) P a A i β Q =
    provided (agree (leave x) β) (departs 41 empty (only (process_element Q)) a (unblock (replace_at A i (only (process_element P)))))
join_alone (sibling_output c x ns) P a A i β Q = apart
join_alone (internal_input x k) P a A i β Q = apart
join_alone (external_input x k) P a A i β Q = apart
join_alone (enter c x) P a A i β Q = apart
join_alone (accept x) P a A i β Q = apart
join_alone (release x) P a A i β Q = apart

unfoldable pub join : Located → Located → Joint
join nowhere f = apart
join (alone α P) f = apart
join (held a A i α P) nowhere = apart
join (held a A i α P) (alone β Q) = join_alone α P a A i β Q
join (held a A i α P) (held b B j β Q) = join_held α P a A i β Q b B j

-- What becomes of a list in which a sender and its partner are given by their positions.
pub data Result : Type 0 where
  nothing : Result
  becomes : ℕ → Elements → Result
  parts : ℕ → Elements → Reference → Elements → Result

-- The first element is the sender's; its partner's stands at, or around, ρ in the rest.
unfoldable pub sender_first : Joint → Elements → Position → Result
sender_first apart C ρ = nothing
sender_first (joins n X Y) C ρ = becomes n (X then replace_around C ρ Y)
sender_first (departs n X Y a M) C ρ = parts n (X then replace_around C ρ Y) a M

unfoldable pub receiver_first : Joint → Elements → Position → Result
receiver_first apart C σ = nothing
receiver_first (joins n X Y) C σ = becomes n (Y then replace_around C σ X)
receiver_first (departs n X Y a M) C σ = parts n (Y then replace_around C σ X) a M

unfoldable pub behind : Element → Result → Result
behind E nothing = nothing
behind E (becomes n C) = becomes n (E before C)
behind E (parts n C a M) = parts n (E before C) a M

-- In the contents of an ambient; what leaves them stands right behind it.
unfoldable pub around : Status → Reference → Elements → Result → Result
around u b C nothing = nothing
around u b C (becomes n B) = becomes n (ambient_then u b B C)
around u b C (parts n B a M) = becomes n (ambient_then unblocked b B (ambient_then unblocked a M C))

unfoldable pub meet_from : Status → Status → Element → Elements → (Position → Position → Result) → (Position → Position → Result) → Position → Position → Result
meet_from s t E C inner outer here ρ = nothing
meet_from s t E C inner outer (inside σ) here = nothing
meet_from s t E C inner outer (inside σ) (inside ρ) = inner σ ρ
meet_from s t E C inner outer (inside σ) (later ρ) = sender_first (join (find s E (inside σ)) (find_around t C ρ)) C ρ
meet_from s t E C inner outer (later σ) here = receiver_first (join (find_around s C σ) (find t E here)) C σ
meet_from s t E C inner outer (later σ) (inside ρ) = receiver_first (join (find_around s C σ) (find t E (inside ρ))) C σ
meet_from s t E C inner outer (later σ) (later ρ) = behind E (outer σ ρ)

unfoldable pub meet : Status → Status → Elements → Position → Position → Result
meet s t empty σ ρ = nothing
meet s t (ambient_then u a A C) σ ρ = meet_from s t (ambient_element u a A) C (λ σ' ρ'. around u a C (meet s t A σ' ρ')) (λ σ' ρ'. meet s t C σ' ρ') σ ρ
meet s t (process_then P C) σ ρ = meet_from s t (process_element P) C (λ σ' ρ'. nothing) (λ σ' ρ'. meet s t C σ' ρ') σ ρ
meet s t (blocked_then α P C) σ ρ = meet_from s t (blocked_element α P) C (λ σ' ρ'. nothing) (λ σ' ρ'. meet s t C σ' ρ') σ ρ

unfoldable pub next_rule : Result → Result
next_rule nothing = nothing
next_rule (becomes n L) = becomes (suc n) L
next_rule (parts n L a M) = parts n L a M

-- An action of that side at π, with a blocked one at κ.
unfoldable pub meet_as : Side → Elements → Position → Position → Result
meet_as sender L π κ = meet unblocked blocked L π κ
meet_as receiver L π κ = next_rule (meet blocked unblocked L κ π)

unfoldable pub meet_place : Side → Elements → Position → Option Position → Result
meet_place side L π none = nothing
meet_place side L π (some κ) = meet_as side L π κ

unfoldable pub succeeds : Result → Bool
succeeds nothing = false
succeeds (becomes n L) = true
succeeds (parts n L a M) = false

-- The places below n, from k on, that pass a test.
unfoldable pub passing : (ℕ → Bool) → ℕ → ℕ → List ℕ
passing test k zero = []
passing test k (suc n) = elim (test k) [ true ↦ k ∷ passing test (suc k) n | false ↦ passing test (suc k) n ]

-- The places of the blocked partners of an action of that side at π, ascending.
unfoldable pub partners : Side → Elements → Position → List ℕ
partners side L π = passing (λ q. succeeds (meet_place side L π (position L q))) 0 (size L)
