-- What the call tells of a place, and when it is refused.
use mathlib.Core.Path.{◌≡◌, refl, sym, ap, ◌∙◌, subst}
use mathlib.Core.Logic.{◌⊎◌, inl, inr}
use mathlib.Core.Bool.{Bool, true, false, false≢true}
use mathlib.Core.List.{List}
use mathlib.Core.Option.{Option, none, some}
use Prim.Native.Nat.{ℕ, ◌<◌}
use native.Mathlib.Omega.{arith}
use lib.ListN.{length, length-drop}
use Rattle.machine.specs.Limits.{byte_limit, nesting_limit}
use Rattle.machine.specs.Elements.{Elements, State, state, size}
use Rattle.machine.specs.Lowest.{able, partners_at, partner_in, number_in}
use Rattle.machine.specs.Ordered.{lowest, member}
use Rattle.machine.specs.Questions.{Tally}
use Rattle.machine.specs.Theorems.{CanActAt}
use Rattle.machine.specs.Validity.{Graded}
use Rattle.machine.proofs.Lowest.{partner_is_lowest, number_tells, turning_alone}
use Rattle.format.specs.Reading.{Outcome, refused, got}
use Rattle.format.specs.Theorems.{Bytes}
use Rattle.places.proofs.Lowest.{size_small}
use Rattle.states.specs.Reading.{read_state}
use Rattle.states.proofs.Theorems.{read_graded}
use Rattle.states.proofs.Whole.{accepted_parsed}
use Rattle.states.proofs.Accepted.{accepted_state}
use Rattle.partnering.specs.Partnering.{told, partners_read, partners_bytes}
use Rattle.partnering.specs.declared.PartnerCount.{PartnerCount}
use Rattle.std.specs.Prelude.{Some, Ok}
use Rattle.places.specs.Offsets.{coded}
use Rattle.partnering.specs.Answers.{partners_answer}
use Rattle.partnering.specs.Theorems.{Tells, PartnersTell, PartnersRefused, PartnersFit}
use Rattle.partnering.proofs.Acting.{listed_acts}

abbrev tally : Elements → ℕ → Tally
tally L p = record { lowest = lowest (partners_at L p); number = length (partners_at L p) }

tally_tells : (F N : ℕ) (L : Elements) (p : ℕ) → Graded L → member p (able 0 L) ≡ true → Tells F N L p (tally L p)
unfolding number_in partner_in
tally_tells F N L p g a =
    let n = number_tells F N L p in
    record {
      acts = (listed_acts L g p).0 a;
      counts = refl;
      first = refl;
      zero = n.alone;
      nobody = n.unnamed;
      least = (partner_is_lowest F N L p).0;
      turning = λ q rule S' s h. let z = turning_alone (state F N L) S' p rule q s h in (z, n.unnamed.0 z);
    }

told_tells : (s : List ℕ) (p m : ℕ) (t : Tally) (F N : ℕ) (L : Elements) (n : ℕ) → read_state s ≡ got (state F N L) n → (b : Bool) → member p (able 0 L) ≡ b → told b (partners_at L p) n ≡ got t m →
    (read_state s ≡ got (state F N L) m) × Tells F N L p t
unfolding told
told_tells s p m t F N L n q false a e = absurd (let z : ◌≡◌ {A = ℕ} 0 1 = cc in omega arith)
told_tells s p m t F N L n q true a e =
    let i : n ≡ m = cc in
    let j : tally L p ≡ t = cc in
    (q ∙ ap (got (state F N L)) i, subst (Tells F N L p) j (tally_tells F N L p (read_graded s F N L n q) a))

pub partners_tell : PartnersTell
unfolding partners_bytes partners_read
partners_tell s p m t e = go (read_state s) refl e
  where
    go : (o : Outcome State) → read_state s ≡ o → partners_read p o ≡ got t m → (F : ℕ) × (N : ℕ) × (L : Elements) × (read_state s ≡ got (state F N L) m) × Tells F N L p t
    go (refused k) q f = absurd (let z : ◌≡◌ {A = ℕ} 0 1 = cc in omega arith)
    go (got (state F N L) n) q f = let u = told_tells s p m t F N L n q (member p (able 0 L)) refl f in (F, N, L, u.0, u.1)

-- Refusals

abbrev Refuses : List ℕ → ℕ → ℕ → Type 0
Refuses s p k = (read_state s ≡ refused k) ⊎ ((k ≡ 8) × (S : State) × (m : ℕ) × (read_state s ≡ got S m) × ¬ CanActAt S p)

told_refuses : (s : List ℕ) (p k F N : ℕ) (L : Elements) (n : ℕ) → read_state s ≡ got (state F N L) n → (b : Bool) → member p (able 0 L) ≡ b → told b (partners_at L p) n ≡ refused k → Refuses s p k
unfolding told CanActAt
told_refuses s p k F N L n q true a e = absurd (let z : ◌≡◌ {A = ℕ} 0 1 = cc in omega arith)
told_refuses s p k F N L n q false a e =
    let i : 8 ≡ k = cc in
    inr (sym i, state F N L, n, q, λ c. false≢true (sym a ∙ (listed_acts L (read_graded s F N L n q) p).1 c))

idle_told : (s : List ℕ) (p : ℕ) (S : State) (m : ℕ) → read_state s ≡ got S m → ¬ CanActAt S p → partners_read p (got S m) ≡ refused 8
unfolding partners_read told CanActAt
idle_told s p (state F N L) m q h = go (member p (able 0 L)) refl
  where
    go : (b : Bool) → member p (able 0 L) ≡ b → told b (partners_at L p) m ≡ refused 8
    go true a = absurd (h ((listed_acts L (read_graded s F N L m q) p).0 a))
    go false a = refl

pub partners_refused : PartnersRefused
unfolding partners_bytes partners_read
partners_refused s p k = ((λ e. go (read_state s) refl e), back)
  where
    go : (o : Outcome State) → read_state s ≡ o → partners_read p o ≡ refused k → Refuses s p k
    go (refused j) q f = let i : j ≡ k = cc in inl (q ∙ ap refused i)
    go (got (state F N L) n) q f = told_refuses s p k F N L n q (member p (able 0 L)) refl f

    back : Refuses s p k → partners_read p (read_state s) ≡ refused k
    back (inl e) = ap (partners_read p) e
    back (inr (i, S, m, q, h)) = ap (partners_read p) q ∙ idle_told s p S m q h ∙ ap refused (sym i)

-- Bounds

pub partners_fit : PartnersFit
unfolding number_in partner_in
partners_fit s p m t b e =
    let u = partners_tell s p m t e in
    let F = u.0 in
    let N = u.1 in
    let L = u.2 in
    let a = accepted_state nesting_limit s F N L m ((accepted_parsed s F N L m).0 u.3).0 b in
    let small : size L < byte_limit = omega (arith, size_small L, ap length a.root, length-drop 7 s, a.within, a.long) in
    let n = number_tells F N L p in
    (omega (arith, u.4.counts, n.most, small), λ q f. omega (arith, n.below q (sym u.4.first ∙ f), small))

-- what is answered is below the limit of bytes
pub answer_small : (s : List ℕ) (p : ℕ) (x : PartnerCount) → Bytes s → Ok x ≡ partners_answer (partners_bytes s p) → ((q : ℕ) → x.lowest ≡ Some q → q < byte_limit) × (x.count < byte_limit)
unfolding partners_answer
answer_small s p x b e = go (partners_bytes s p) refl e
  where
    lowest_small : (o : Option ℕ) → ((q : ℕ) → o ≡ some q → q < byte_limit) → (q : ℕ) → coded o ≡ Some q → q < byte_limit
    lowest_small none h q f = absurd (let z : ◌≡◌ {A = ℕ} 0 1 = cc in omega arith)
    lowest_small (some r) h q f = h q (let i : r ≡ q = cc in ap some i)

    go : (o : Outcome Tally) → partners_bytes s p ≡ o → Ok x ≡ partners_answer o → ((q : ℕ) → x.lowest ≡ Some q → q < byte_limit) × (x.count < byte_limit)
    go (refused k) u f = absurd (let z : ◌≡◌ {A = ℕ} 0 1 = cc in omega arith)
    go (got t m) u f =
        let h = partners_fit s p m t b u in
        let i : x ≡ record { lowest = coded t.lowest; count = t.number } = cc in
        let j : x.lowest ≡ coded t.lowest = ap (λ (y : PartnerCount). y.lowest) i in
        let k : x.count ≡ t.number = ap (λ (y : PartnerCount). y.count) i in
        ((λ q f. lowest_small t.lowest h.1 q (sym j ∙ f)), omega (arith, k, h.0))
