-- The places that can act and the partners of a place; the lowest place, and its lowest partner or none: the choice of a run
-- (document 01, "The step").
use Rattle.std.specs.Prelude.{Bool, true, false, List, [], ◌∷◌, ◌++◌, ℕ, suc, ◌+◌, eqb, length, ◌≡◌, ◌↔◌, ◌≤◌, ◌<◌}
use Rattle.std.proofs.Math.Option.{Option, none, some}
use Rattle.calculus.specs.Processes.{null, parallel, restriction, ambient, action, replication}
use Rattle.machine.specs.Limits.{absent}
use Rattle.machine.specs.Ordered.{lowest, Among, AscendingFrom}
use Rattle.machine.specs.Elements.{unblocked, blocked, Elements, empty, ambient_then, process_then, blocked_then, State, state, size, Element, ambient_element, process_element, blocked_element, Position, element_at}
use Rattle.machine.specs.Tests.{all_blocked, pick}
use Rattle.machine.specs.Kinds.{side_of}
use Rattle.machine.specs.Positions.{position}
use Rattle.machine.specs.Meetings.{partners}
use Rattle.machine.specs.Rules.{Partner, Step, CanAct}
use Rattle.machine.specs.Validity.{Graded}

-- The places of a list that can act, numbered from k. What is in a blocked ambient is blocked.
unfoldable pub able : ℕ → Elements → List ℕ
able k empty = []
able k (ambient_then unblocked a A C) = pick (all_blocked A) (k ∷ []) (able (suc k) A) ++ able (suc (k + size A)) C
able k (ambient_then blocked a A C) = able (suc (k + size A)) C
able k (process_then P C) = k ∷ able (suc k) C
able k (blocked_then α P C) = able (suc k) C

-- The listing as it goes over bytes, from tag to tag

-- The first element can act.
unfoldable pub first_able : Elements → Bool
first_able empty = false
first_able (ambient_then unblocked a A C) = all_blocked A
first_able (ambient_then blocked a A C) = false
first_able (process_then P C) = true
first_able (blocked_then α P C) = false

-- Partners

-- The partners of the element at a position: only an action that is not blocked has any.
unfoldable pub partners_of : Elements → Position → Option Element → List ℕ
partners_of L π none = []
partners_of L π (some (ambient_element s a A)) = []
partners_of L π (some (blocked_element α P)) = []
partners_of L π (some (process_element null)) = []
partners_of L π (some (process_element (parallel P Q))) = []
partners_of L π (some (process_element (restriction P))) = []
partners_of L π (some (process_element (ambient a P))) = []
partners_of L π (some (process_element (action α P))) = partners (side_of α) L π
partners_of L π (some (process_element (replication α P))) = []

unfoldable pub partners_in : Elements → Option Position → List ℕ
partners_in L none = []
partners_in L (some π) = partners_of L π (element_at L π)

-- The partners of a place.
abbrev pub partners_at : Elements → ℕ → List ℕ
partners_at L p = partners_in L (position L p)

-- The choice

-- The lowest place that can act.
unfoldable pub place_in : State → Option ℕ
place_in (state F N L) = lowest (able 0 L)

-- The lowest partner of a place, or none.
unfoldable pub partner_in : State → ℕ → Option ℕ
partner_in (state F N L) p = lowest (partners_at L p)

-- How many partners a place has.
unfoldable pub number_in : State → ℕ → ℕ
number_in (state F N L) p = length (partners_at L p)

-- 65,535 for no partner.
unfoldable pub partner_number : Option ℕ → ℕ
partner_number none = absent
partner_number (some q) = q

-- A partner's place, or 65,535 for no partner.
unfoldable pub partner_of : ℕ → Option ℕ
partner_of q = pick (eqb q absent) none (some q)

-- What is listed, counted and chosen is what can act and what answers.

-- The places listed are those that can act, ascending.
abbrev pub ListedCanAct : Type 0
ListedCanAct = (L : Elements) → Graded L → ((p : ℕ) → Among p (able 0 L) ↔ CanAct L p) × AscendingFrom 0 (able 0 L)

-- The places listed are those of its blocked partners, ascending.
abbrev pub ListedArePartners : Type 0
ListedArePartners = (L : Elements) (p : ℕ) → ((q : ℕ) → Among q (partners_at L p) ↔ Partner L p q) × AscendingFrom 0 (partners_at L p)

-- The choice of a run is the lowest: no lower place can act, and no lower partner stands anywhere.
abbrev pub PlaceIsLowest : Type 0
PlaceIsLowest = (F N : ℕ) (L : Elements) → Graded L →
    ((p : ℕ) → place_in (state F N L) ≡ some p → CanAct L p × ((q : ℕ) → q < p → ¬ CanAct L q)) × (place_in (state F N L) ≡ none → (p : ℕ) → ¬ CanAct L p)

abbrev pub PartnerIsLowest : Type 0
PartnerIsLowest = (F N : ℕ) (L : Elements) (p : ℕ) →
    ((q : ℕ) → partner_in (state F N L) p ≡ some q → Partner L p q × ((r : ℕ) → r < q → ¬ Partner L p r)) × (partner_in (state F N L) p ≡ none → (q : ℕ) → ¬ Partner L p q)

-- The number is 0 exactly where there is no partner, and then none is the lowest; there are no more than elements, and the lowest is one of these.
pub record NumberTold (F N : ℕ) (L : Elements) (p : ℕ) : Type 0 where
  pub alone : (number_in (state F N L) p ≡ 0) ↔ ((q : ℕ) → ¬ Partner L p q)
  pub unnamed : (number_in (state F N L) p ≡ 0) ↔ (partner_in (state F N L) p ≡ none)
  pub most : number_in (state F N L) p ≤ size L
  pub below : (q : ℕ) → partner_in (state F N L) p ≡ some q → q < size L

abbrev pub NumberTells : Type 0
NumberTells = (F N : ℕ) (L : Elements) (p : ℕ) → NumberTold F N L p

-- A place that steps by one of rules 29 to 34 has none.
abbrev pub TurningAlone : Type 0
TurningAlone = (S S' : State) (p n : ℕ) (q : Option ℕ) → Step S p q n S' → n ≤ 34 → number_in S p ≡ 0
