-- Which places can act, and which elements have partners, by the bytes of an element.
use mathlib.Core.Path.{◌≡◌, refl, sym, ap, ◌∙◌, subst}
use mathlib.Core.Logic.{◌↔◌}
use mathlib.Core.Bool.{true, false, false≢true}
use mathlib.Core.Option.{none, some, none-ne-some, some-injective}
use Prim.Native.Nat.{ℕ}
use Rattle.machine.specs.Elements.{unblocked, blocked, Elements, Element, ambient_element, process_element, blocked_element, ◌before◌, Position, place, element_at}
use Rattle.machine.specs.Rules.{Ready, CanAct}
use Rattle.machine.specs.Lowest.{able, first_able}
use Rattle.machine.specs.Ordered.{member}
use Rattle.machine.specs.Positions.{position}
use Rattle.machine.specs.Validity.{Graded}
use Rattle.machine.proofs.Tests.{all_blocked_true, true_all_blocked, both_true}
use Rattle.machine.proofs.Places.{position_place}
use Rattle.machine.proofs.Lowest.{listed_can_act}
use Rattle.machine.proofs.search.Questions.{member_among}

-- a place is listed exactly if it can act
pub listed_acts : (L : Elements) → Graded L → (p : ℕ) → (member p (able 0 L) ≡ true) ↔ CanAct L p
listed_acts L g p =
    let m = member_among p (able 0 L) in
    let c = (listed_can_act L g).0 p in
    ((λ e. c.0 (m.0 e)), (λ x. m.1 (c.1 x)))

first_ready : (E : Element) (C : Elements) → (first_able (E before C) ≡ true) ↔ Ready E
unfolding first_able Ready ◌before◌
first_ready (ambient_element unblocked a A) C = (all_blocked_true A, true_all_blocked A)
first_ready (ambient_element blocked a A) C = ((λ e. false≢true e), (λ h. absurd h))
first_ready (process_element P) C = ((λ e. tt), (λ h. refl))
first_ready (blocked_element α P) C = ((λ e. false≢true e), (λ h. absurd h))

standing_acts : (L : Elements) (π : Position) (E : Element) → element_at L π ≡ some E → CanAct L (place L π) ↔ Ready E
standing_acts L π E e = (there, (λ h. record { position = π; element = E; stands = e; numbered = refl; ready = h }))
  where
    there : CanAct L (place L π) → Ready E
    there c =
        let p : c.position ≡ π = some-injective c.position π (sym (position_place L c.position c.element c.stands) ∙ ap (position L) c.numbered ∙ position_place L π E e) in
        subst Ready (some-injective c.element E (sym c.stands ∙ ap (element_at L) p ∙ e)) c.ready

pub listed_first : (L : Elements) → Graded L → (π : Position) (E : Element) (C : Elements) → element_at L π ≡ some E → member (place L π) (able 0 L) ≡ first_able (E before C)
listed_first L g π E C e =
    let l = listed_acts L g (place L π) in
    let a = standing_acts L π E e in
    let f = first_ready E C in
    both_true _ _ (λ m. f.1 (a.0 (l.0 m))) (λ m. l.1 (a.1 (f.0 m)))

-- where no element stands none can act
pub unlisted : (L : Elements) → Graded L → (p : ℕ) → position L p ≡ none → member p (able 0 L) ≡ false
unlisted L g p e = both_true _ _ (λ m. absurd (there ((listed_acts L g p).0 m))) (λ h. absurd (false≢true h))
  where
    there : ¬ CanAct L p
    there c = none-ne-some c.position (sym e ∙ ap (position L) (sym c.numbered) ∙ position_place L c.position c.element c.stands)
