-- The choice of a run: its place can act, its partner is one; where it chooses none, all is blocked; and a partner's place is never 65,535.
use mathlib.Core.Path.{◌≡◌, refl}
use mathlib.Core.List.{◌++◌}
use mathlib.Core.Option.{Option, none, some}
use Prim.Native.Nat.{ℕ, ◌≤◌, ◌<◌}
use native.Mathlib.Omega.{arith}
use borrow.Author.Tests.{ne_eqb}
use lib.ListN.{length, length-append}
use Rattle.machine.specs.Limits.{byte_limit, absent}
use Rattle.machine.specs.Elements.{Elements, empty, ambient_then, process_then, blocked_then, State, state, size, weight_state}
use Rattle.machine.specs.Rules.{Partner, partner}
use Rattle.machine.specs.Causes.{Cause8, Cause9, Cause10}
use Rattle.machine.specs.Validity.{ValidWithin, Valid}
use Rattle.machine.specs.Theorems.{CanActAt}
use Rattle.machine.proofs.Places.{place_below, element_at_at}
use Rattle.machine.proofs.Stepping.{meeting_acting}
use Rattle.machine.proofs.Theorems.{weight_zero, acts_allowed}
use Rattle.buffers.specs.Words.{word, field}
use Rattle.format.specs.Spelling.{encode_reference, encode_action, encode}
use Rattle.elements.specs.Spelling.{encode_elements, encode_state}
use Rattle.machine.specs.Lowest.{partner_of, partner_number, place_in, partner_in}
use Rattle.machine.proofs.Lowest.{place_is_lowest, partner_is_lowest}

-- The lowest place that can act

pub none_weightless : (S : State) → Valid S → place_in S ≡ none → weight_state S ≡ 0
unfolding CanActAt ValidWithin
none_weightless (state F N L) v e = (weight_zero (state F N L) v).1 ((place_is_lowest F N L v.graded).1 e)

pub chosen_acts : (S : State) (p : ℕ) → Valid S → place_in S ≡ some p → CanActAt S p
unfolding CanActAt ValidWithin
chosen_acts (state F N L) p v e = ((place_is_lowest F N L v.graded).0 p e).0

-- the partner chosen is one, and where none is chosen there is none
well_partnered : (S : State) (p : ℕ) (q : Option ℕ) → partner_in S p ≡ q → ¬ Cause9 S p q × ¬ Cause10 S p q
unfolding Cause9 Cause10
well_partnered (state F N L) p none e = (λ x. x, λ x. (partner_is_lowest F N L p).1 e x.0 x.1)
well_partnered (state F N L) p (some q) e = (λ x. x ((partner_is_lowest F N L p).0 q e).0, λ x. x)

-- the choice meets no cause of 8, 9 or 10
pub chosen_free : (S : State) (p : ℕ) → Valid S → place_in S ≡ some p → ¬ Cause8 S p (partner_in S p) × ¬ Cause9 S p (partner_in S p) × ¬ Cause10 S p (partner_in S p)
chosen_free S p v c =
    let h = well_partnered S p (partner_in S p) refl in
    (acts_allowed S p (partner_in S p) (chosen_acts S p v c), h.0, h.1)

-- Places and bytes

-- a list has no more elements than bytes
size_small : (L : Elements) → size L ≤ length (encode_elements L)
unfolding size encode_elements field word
size_small empty = omega arith
size_small (ambient_then s a A C) =
    omega (arith, size_small A, size_small C, length-append (encode_reference a) (encode_elements A), length-append (encode_reference a ++ encode_elements A) (encode_elements C))
size_small (process_then P C) = omega (arith, size_small C, length-append (encode P) (encode_elements C))
size_small (blocked_then α P C) = omega (arith, size_small C, length-append (encode_action α ++ encode P) (encode_elements C))

state_long : (F N : ℕ) (L : Elements) → length (encode_elements L) ≤ length (encode_state (state F N L))
unfolding encode_state field word
state_long F N L = omega arith

partner_below : {L : Elements} {p q : ℕ} → Partner L p q → q < size L
partner_below {L} (partner {κ = κ} m) = let t = meeting_acting m in place_below (element_at_at L κ t.2 t.4)

number_meant : (o : Option ℕ) → ((q : ℕ) → o ≡ some q → q < absent) → partner_of (partner_number o) ≡ o
unfolding partner_number partner_of
number_meant none h = refl
number_meant (some q) h = let l = h q refl in rw (ne_eqb q absent (λ e. omega arith))

-- the number of a lowest partner, or of none, is read as just that
pub partner_meant : (S : State) (p : ℕ) → length (encode_state S) ≤ byte_limit → partner_of (partner_number (partner_in S p)) ≡ partner_in S p
partner_meant (state F N L) p w =
    number_meant (partner_in (state F N L) p) (λ q e. omega (arith, partner_below ((partner_is_lowest F N L p).0 q e).0, size_small L, state_long F N L))
