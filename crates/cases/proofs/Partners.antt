-- What is told of the partners of a place, and the causes of 8, 9 and 10 there.
use mathlib.Core.Path.{◌≡◌, refl, sym, subst}
use mathlib.Core.Logic.{◌↔◌, ◌≢◌}
use mathlib.Core.List.{List}
use mathlib.Core.Option.{Option, none, some}
use Prim.Native.Nat.{ℕ, ◌<◌}
use native.Mathlib.Omega.{arith}
use borrow.Author.Tests.{ne_eqb}
use Rattle.machine.specs.Limits.{absent}
use Rattle.machine.specs.Elements.{Elements, State, state}
use Rattle.machine.specs.Rules.{Partner, CanAct}
use Rattle.machine.specs.Causes.{Cause8, Cause9, Cause10}
use Rattle.machine.specs.Lowest.{partner_of}
use Rattle.machine.specs.Questions.{Tally}
use Rattle.machine.proofs.Lowest.{listed_are_partners}
use Rattle.format.specs.Reading.{got}
use Rattle.states.specs.Reading.{read_state}
use Rattle.buffers.specs.Buffers.{kept}
use Rattle.partnering.specs.Theorems.{Tells}
use Rattle.partnering.proofs.Theorems.{partners_tell}
use Rattle.calls.specs.Steps.{step_bytes}
use Rattle.calls.specs.Causes.{Cause, cause8, cause9, cause10, cause11, cause12, cause13}
use Rattle.cases.specs.Partners.{JudgesSteps, PartnersJudgeSteps}
use Rattle.calls.proofs.Causes.{cause_number}
use Rattle.calls.proofs.Theorems.{refused_call_by_cause}

unnamed : partner_of absent ≡ none
unfolding partner_of
unnamed = refl

named : (q : ℕ) → q ≢ absent → partner_of q ≡ some q
unfolding partner_of
named q h = rw (ne_eqb q absent h)

-- the causes up to 10, by their numbers
causes : {room p k : ℕ} {S : State} {o : Option ℕ} → Cause room S p o k → (k ≡ 8 → Cause8 S p o) × (k ≡ 9 → Cause9 S p o) × (k ≡ 10 → Cause10 S p o)
causes (cause8 c) = (λ e. c, λ e. absurd (omega (arith, e)), λ e. absurd (omega (arith, e)))
causes (cause9 c) = (λ e. absurd (omega (arith, e)), λ e. c, λ e. absurd (omega (arith, e)))
causes (cause10 c) = (λ e. absurd (omega (arith, e)), λ e. absurd (omega (arith, e)), λ e. c)
causes (cause11 c) = (λ e. absurd (omega (arith, e)), λ e. absurd (omega (arith, e)), λ e. absurd (omega (arith, e)))
causes (cause12 c) = (λ e. absurd (omega (arith, e)), λ e. absurd (omega (arith, e)), λ e. absurd (omega (arith, e)))
causes (cause13 c) = (λ e. absurd (omega (arith, e)), λ e. absurd (omega (arith, e)), λ e. absurd (omega (arith, e)))

-- none comes before 9 where the place can act, nor before 10 where no partner is named either
before_nine : {room F N p j : ℕ} {L : Elements} {o : Option ℕ} → CanAct L p → j < 9 → ¬ Cause room (state F N L) p o j
unfolding Cause8
before_nine a l c = (causes c).0 (omega (arith, (cause_number c).0, l)) a

before_ten : {room F N p j : ℕ} {L : Elements} {o : Option ℕ} → CanAct L p → o ≡ none → j < 10 → ¬ Cause room (state F N L) p o j
unfolding Cause8 Cause9
before_ten {F = F} {N} {p} {j} {L} a u l c =
    let d : ¬ (j ≡ 8) = λ e. (causes c).0 e a in
    subst (Cause9 (state F N L) p) u ((causes c).1 (omega (arith, (cause_number c).0, l, d)))

-- where the number is not 0 there is a partner
told_partner : {F N p : ℕ} {L : Elements} {t : Tally} → Tells F N L p t → t.number ≢ 0 → (q : ℕ) × Partner L p q
told_partner {p = p} {L} {t} h d = go t.lowest refl
  where
    go : (o : Option ℕ) → t.lowest ≡ o → (q : ℕ) × Partner L p q
    go none e = absurd (d (h.nobody.1 e))
    go (some q) e = (q, (h.least q e).0)

judges : (bytes : List ℕ) (F N : ℕ) (L : Elements) (p m room : ℕ) (t : Tally) → read_state bytes ≡ got (state F N L) m → Tells F N L p t → JudgesSteps bytes L p t room
unfolding Cause8 Cause9 Cause10
judges bytes F N L p m room t e h =
    let by : (q k : ℕ) → (step_bytes bytes p q room ≡ kept k) ↔ (Cause room (state F N L) p (partner_of q) k × ((j : ℕ) → j < k → ¬ Cause room (state F N L) p (partner_of q) j)) =
    λ q k. refused_call_by_cause bytes (state F N L) m p q room k e in
    let listed = (listed_are_partners L p).0 in
    record {
      eight = λ q f. (causes ((by q 8).0 f).0).0 refl h.acts;
      nine = λ q d. (
        (λ f x. subst (Cause9 (state F N L) p) (named q d) ((causes ((by q 9).0 f).0).1 refl) ((listed q).0 x)),
        (λ f. (by q 9).1 (cause9 (subst (Cause9 (state F N L) p) (sym (named q d)) (λ x. f ((listed q).1 x))), λ j l. before_nine h.acts l)),
      );
      ten = (
        (λ f z. let u = subst (Cause10 (state F N L) p) unnamed ((causes ((by absent 10).0 f).0).2 refl) in h.zero.0 z u.0 u.1),
        (λ d. (by absent 10).1 (cause10 (subst (Cause10 (state F N L) p) (sym unnamed) (told_partner h d)), λ j l. before_ten h.acts unnamed l)),
      );
    }

pub partners_judge_steps : PartnersJudgeSteps
partners_judge_steps bytes p m room t e =
    let u = partners_tell bytes p m t e in
    (u.0, u.1, u.2, u.3, u.4.counts, judges bytes u.0 u.1 u.2 p m room t u.3 u.4)
