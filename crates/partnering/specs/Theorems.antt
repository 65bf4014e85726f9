-- What is proved of the partners of a place, each statement a named type.
use Rattle.std.specs.Prelude.{◌≡◌, ◌⊎◌, ◌↔◌, List, ℕ, ◌≤◌, ◌<◌, length}
use Rattle.std.proofs.Math.Option.{Option, none, some}
use Rattle.machine.specs.Limits.{byte_limit}
use Rattle.machine.specs.Elements.{Elements, State, state}
use Rattle.machine.specs.Rules.{Partner, Step, CanAct}
use Rattle.machine.specs.Lowest.{partners_at}
use Rattle.machine.specs.Ordered.{lowest}
use Rattle.machine.specs.Questions.{Tally}
use Rattle.machine.specs.Theorems.{CanActAt}
use Rattle.format.specs.Reading.{refused, got}
use Rattle.format.specs.Theorems.{Bytes}
use Rattle.states.specs.Reading.{read_state}
use Rattle.partnering.specs.Partnering.{partners_bytes}

-- What is told of a place: the number of its partners and the first of them. The number is 0 exactly where there is none, and then no lowest is told; the lowest is
-- a partner, and no lower place is.
pub record Tells (F N : ℕ) (L : Elements) (p : ℕ) (t : Tally) : Type 0 where
  pub acts : CanAct L p
  pub counts : t.number ≡ length (partners_at L p)
  pub first : t.lowest ≡ lowest (partners_at L p)
  pub zero : (t.number ≡ 0) ↔ ((q : ℕ) → ¬ Partner L p q)
  pub nobody : (t.number ≡ 0) ↔ (t.lowest ≡ none)
  pub least : (q : ℕ) → t.lowest ≡ some q → Partner L p q × ((r : ℕ) → r < q → ¬ Partner L p r)
  -- a place that steps by one of rules 29 to 34 has none
  pub turning : (q : Option ℕ) (rule : ℕ) (S' : State) → Step (state F N L) p q rule S' → rule ≤ 34 → (t.number ≡ 0) × (t.lowest ≡ none)

abbrev pub PartnersTell : Type 0
PartnersTell = (s : List ℕ) (p m : ℕ) (t : Tally) → partners_bytes s p ≡ got t m →
    (F : ℕ) × (N : ℕ) × (L : Elements) × (read_state s ≡ got (state F N L) m) × Tells F N L p t

-- A refusal is that of reading the state, or 8 where the place cannot act; and then it is refused.
abbrev pub PartnersRefused : Type 0
PartnersRefused = (s : List ℕ) (p k : ℕ) → (partners_bytes s p ≡ refused k) ↔
    ((read_state s ≡ refused k) ⊎ ((k ≡ 8) × (S : State) × (m : ℕ) × (read_state s ≡ got S m) × ¬ CanActAt S p))

-- Both are less than the limit of bytes: no state has more elements.
abbrev pub PartnersFit : Type 0
PartnersFit = (s : List ℕ) (p m : ℕ) (t : Tally) → Bytes s → partners_bytes s p ≡ got t m → (t.number < byte_limit) × ((q : ℕ) → t.lowest ≡ some q → q < byte_limit)
