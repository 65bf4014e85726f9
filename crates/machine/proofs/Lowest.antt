-- The places listed are those that can act, and those of the partners of a place, ascending; the choice of a run is the lowest.
use mathlib.Core.Path.{◌≡◌, refl, sym, ◌∙◌, ap, subst}
use mathlib.Core.Logic.{◌⊎◌, inl, inr, ◌↔◌}
use mathlib.Core.Bool.{Bool, true, false}
use mathlib.Core.List.Memᴰ
use mathlib.Core.List.{List, [], ◌∷◌}
use mathlib.Core.Option.{Option, none, some, none-ne-some, some-injective}
use Prim.Native.Nat.{ℕ, suc, ◌+◌, ◌<◌}
use native.Mathlib.Omega.{arith}
use lib.ListN.{length}
use Rattle.machine.specs.Elements.{unblocked, blocked, Elements, empty, ambient_then, process_then, blocked_then, Element, ambient_element, process_element, blocked_element, standing, ◌before◌, Position, here, later, inside, size, place, element_at}
use Rattle.machine.specs.Rules.{Turns, rule29, rule30, rule31, rule32, rule33, rule34, sender_acts, receiver_acts, Ready, Partner, partner, turns, meets, rule43}
use Rattle.machine.specs.Tests.{all_blocked, pick}
use Rattle.machine.specs.Validity.{Graded}
use Rattle.machine.proofs.Tests.{all_blocked_true, true_all_blocked}
use Rattle.machine.proofs.Places.{At, at_start, at_later, at_inside, element_at_at, position_place, position_found, anywhere_element_at}
use Rattle.machine.proofs.Meeting.{found_alone_standing, nowhere_alone, meet_rule_bounds}
use Rattle.machine.proofs.Stepping.{meeting_acting, partner_of_law, partners_partner}
use Rattle.machine.proofs.Graded.{blocked_at_law}
use Rattle.machine.proofs.Weight.{blocked_not_ready}
use Rattle.machine.specs.Positions.{position}
use Rattle.machine.specs.Kinds.{side_of}
use Rattle.machine.specs.Meetings.{nowhere, found_alone}
use Rattle.machine.specs.Ordered.{lowest, Among, AscendingFrom}
use Rattle.machine.specs.Lowest.{able, partners_of, partners_in, partners_at, place_in, partner_in, number_in, ListedCanAct, ListedArePartners, PlaceIsLowest, PartnerIsLowest, NumberTells, TurningAlone}
use Rattle.machine.proofs.search.Numbers.{Within, within_wider, within_append, within_ascends, within_length}
use Rattle.machine.proofs.search.Partners.{ascending_above, partners_within, partners_ascend}
use Rattle.machine.proofs.search.Questions.{empty_none}
use Rattle.calculus.specs.Processes.{null, parallel, restriction, ambient, action, replication}

-- an element that can act, at a place numbered from k
abbrev Acts : ℕ → Elements → ℕ → Type 0
Acts k L p = (π : Position) × (E : Element) × (element_at L π ≡ some E) × (k + place L π ≡ p) × Ready E

-- what is listed can act
listed_acts : (k : ℕ) (L : Elements) (p : ℕ) → Among p (able k L) → Acts k L p
unfolding able element_at place size Ready
listed_acts k empty p h = absurd (Memᴰ.not-nil h)
listed_acts k (ambient_then unblocked a A C) p h = go (all_blocked A) refl (Memᴰ.append_cases (pick (all_blocked A) (k ∷ []) (able (suc k) A)) h) (λ m. listed_acts (suc k) A p m) (λ m. listed_acts (suc (k + size A)) C p m)
  where
    go : (b : Bool) → all_blocked A ≡ b → Among p (pick (all_blocked A) (k ∷ []) (able (suc k) A)) ⊎ Among p (able (suc (k + size A)) C) →
        (Among p (able (suc k) A) → Acts (suc k) A p) → (Among p (able (suc (k + size A)) C) → Acts (suc (k + size A)) C p) → Acts k (ambient_then unblocked a A C) p
    go b e (inr m) f h = let t = h m in (later t.0, t.1, t.2, omega (arith, t.3), t.4)
    go true e (inl m) f h = (here, ambient_element unblocked a A, refl, omega (arith, Memᴰ.eq_of_singleton (rw e at m)), all_blocked_true A e)
    go false e (inl m) f h = let t = f (rw e at m) in (inside t.0, t.1, t.2, omega (arith, t.3), t.4)
listed_acts k (ambient_then blocked a A C) p h = let t = listed_acts (suc (k + size A)) C p h in (later t.0, t.1, t.2, omega (arith, t.3), t.4)
listed_acts k (process_then P C) p h = go (Memᴰ.cases_cons h) (λ m. listed_acts (suc k) C p m)
  where
    go : (p ≡ k) ⊎ Among p (able (suc k) C) → (Among p (able (suc k) C) → Acts (suc k) C p) → Acts k (process_then P C) p
    go (inl e) f = (here, process_element P, refl, omega (arith, e), tt)
    go (inr m) f = let t = f m in (later t.0, t.1, t.2, omega (arith, t.3), t.4)
listed_acts k (blocked_then α P C) p h = let t = listed_acts (suc k) C p h in (later t.0, t.1, t.2, omega (arith, t.3), t.4)

-- what can act is listed
acts_listed : {E : Element} (k : ℕ) {L : Elements} {π : Position} → At E π L → Graded L → Ready E → Among (k + place L π) (able k L)
unfolding able Graded place size Ready ◌before◌
acts_listed {E = ambient_element unblocked a A} k (at_start C) g r =
    let b : all_blocked A ≡ true = true_all_blocked A r in
    Memᴰ.append_left {s = pick (all_blocked A) (k ∷ []) (able (suc k) A)} (able (suc (k + size A)) C) (rw b (Memᴰ.head {x = k} (omega arith)))
acts_listed {E = ambient_element blocked a A} k (at_start C) g r = absurd r
acts_listed {E = process_element P} k (at_start C) g r = Memᴰ.head {x = k} (omega arith)
acts_listed {E = blocked_element α P} k (at_start C) g r = absurd r
acts_listed k (at_later (ambient_element unblocked a A) {C = C} {π = π} x) g r =
    let n : k + suc (size A + place C π) ≡ suc (k + size A) + place C π = omega arith in
    rw n (Memᴰ.append_right (pick (all_blocked A) (k ∷ []) (able (suc k) A)) (acts_listed (suc (k + size A)) x g.1 r))
acts_listed k (at_later (ambient_element blocked a A) {C = C} {π = π} x) g r =
    let n : k + suc (size A + place C π) ≡ suc (k + size A) + place C π = omega arith in rw n (acts_listed (suc (k + size A)) x g.1 r)
acts_listed k (at_later (process_element P) {C = C} {π = π} x) g r =
    let n : k + suc (place C π) ≡ suc k + place C π = omega arith in Memᴰ.tail {xs = able (suc k) C} (rw n (acts_listed (suc k) x g r))
acts_listed k (at_later (blocked_element α P) {C = C} {π = π} x) g r = let n : k + suc (place C π) ≡ suc k + place C π = omega arith in rw n (acts_listed (suc k) x g r)
acts_listed {E = E} k (at_inside unblocked a {A = A} C {π = π} x) g r =
    let n : k + suc (place A π) ≡ suc k + place A π = omega arith in rw n (Memᴰ.append_left (able (suc (k + size A)) C) (go (all_blocked A) refl (acts_listed (suc k) x g.0 r)))
  where
    go : (b : Bool) → all_blocked A ≡ b → Among (suc k + place A π) (able (suc k) A) → Among (suc k + place A π) (pick (all_blocked A) (k ∷ []) (able (suc k) A))
    go true b h = absurd (blocked_not_ready E (blocked_at_law x (all_blocked_true A b)) r)
    go false b h = rw b h
acts_listed {E = E} k (at_inside blocked a C x) g r = absurd (blocked_not_ready E (blocked_at_law x g.0) r)

-- they ascend, within the list's numbers
able_within : (k : ℕ) (L : Elements) → Within k (k + size L) (able k L)
unfolding able Within size
able_within k empty = omega arith
able_within k (ambient_then unblocked a A C) =
    within_append k (suc (k + size A)) (k + suc (size A + size C)) (pick (all_blocked A) (k ∷ []) (able (suc k) A)) (able (suc (k + size A)) C) (go (all_blocked A) (able_within (suc k) A))
    (within_wider (suc (k + size A)) (suc (k + size A)) (suc (k + size A) + size C) (k + suc (size A + size C)) (able (suc (k + size A)) C) (omega arith) (omega arith) (able_within (suc (k + size A)) C))
  where
    go : (b : Bool) → Within (suc k) (suc k + size A) (able (suc k) A) → Within k (suc (k + size A)) (pick b (k ∷ []) (able (suc k) A))
    go true h = (omega arith, omega arith)
    go false h = within_wider (suc k) k (suc k + size A) (suc (k + size A)) (able (suc k) A) (omega arith) (omega arith) h
able_within k (ambient_then blocked a A C) =
    within_wider (suc (k + size A)) k (suc (k + size A) + size C) (k + suc (size A + size C)) (able (suc (k + size A)) C) (omega arith) (omega arith) (able_within (suc (k + size A)) C)
able_within k (process_then P C) = (omega arith, within_wider (suc k) (suc k) (suc k + size C) (k + suc (size C)) (able (suc k) C) (omega arith) (omega arith) (able_within (suc k) C))
able_within k (blocked_then α P C) = within_wider (suc k) k (suc k + size C) (k + suc (size C)) (able (suc k) C) (omega arith) (omega arith) (able_within (suc k) C)

pub listed_can_act : ListedCanAct
listed_can_act L g = (
  λ p. (
    λ m. let t = listed_acts 0 L p m in record { position = t.0; element = t.1; stands = t.2; numbered = omega (arith, t.3); ready = t.4 },
    λ c. subst (λ n. Among n (able 0 L)) (omega (arith, c.numbered)) (acts_listed 0 (element_at_at L c.position c.element c.stands) g c.ready),
  ),
  within_ascends 0 0 (0 + size L) (able 0 L) (omega arith) (able_within 0 L),
)

-- Partners

abbrev Listed : Elements → ℕ → List ℕ → Type 0
Listed L p ns = ((q : ℕ) → Among q ns ↔ Partner L p q) × AscendingFrom 0 ns

none_listed : (L : Elements) (p : ℕ) → ((q : ℕ) → ¬ Partner L p q) → Listed L p []
unfolding AscendingFrom
none_listed L p f = ((λ q. ((λ m. absurd (Memᴰ.not-nil m)), (λ x. absurd (f q x)))), tt)

unplaced : {L : Elements} {p q : ℕ} → position L p ≡ none → ¬ Partner L p q
unplaced {L} e (partner {π = π} m) =
    let t = meeting_acting m in
    none-ne-some π (sym e ∙ position_place L π (process_element (action t.0 t.1)) t.3)

-- what is no action to be executed has no partner
idle_listed : (L : Elements) (π : Position) {E : Element} → element_at L π ≡ some E → found_alone unblocked E ≡ nowhere → Listed L (place L π) []
unfolding standing
idle_listed L π {E} e s =
    none_listed L (place L π)
    (λ q x.
    let t = partner_of_law x π (position_place L π E e) in
    let u = meeting_acting t.4 in
    nowhere_alone (sym s ∙ ap (found_alone unblocked) (some-injective E (process_element (action u.0 u.1)) (sym e ∙ u.3)) ∙ found_alone_standing unblocked u.0 u.1))

element_listed : (L : Elements) (π : Position) (E : Element) → element_at L π ≡ some E → Listed L (place L π) (partners_of L π (some E))
unfolding partners_of found_alone
element_listed L π (ambient_element s a A) e = idle_listed L π e refl
element_listed L π (blocked_element α P) e = idle_listed L π e refl
element_listed L π (process_element null) e = idle_listed L π e refl
element_listed L π (process_element (parallel P Q)) e = idle_listed L π e refl
element_listed L π (process_element (restriction P)) e = idle_listed L π e refl
element_listed L π (process_element (ambient a P)) e = idle_listed L π e refl
element_listed L π (process_element (action α P)) e = (partners_partner L π α P e, partners_ascend (side_of α) L π)
element_listed L π (process_element (replication α P)) e = idle_listed L π e refl

pub partners_standing : (L : Elements) (π : Position) (E : Element) → element_at L π ≡ some E → partners_at L (place L π) ≡ partners_of L π (some E)
unfolding partners_in
partners_standing L π E e = ap (partners_in L) (position_place L π E e) ∙ ap (partners_of L π) e

pub listed_are_partners : ListedArePartners
unfolding partners_in
listed_are_partners L p = go (position L p) refl
  where
    go : (o : Option Position) → position L p ≡ o → Listed L p (partners_in L o)
    go none e = none_listed L p (λ q x. unplaced e x)
    go (some π) e =
        let t = position_found L p π e in
        subst (λ k. Listed L k (partners_in L (some π))) t.0
        (subst (λ o. Listed L (place L π) (partners_of L π o)) (sym t.1.1) (element_listed L π t.1.0 t.1.1))

-- The lowest

-- of ascending numbers the first is the least
least_listed : (ns : List ℕ) → AscendingFrom 0 ns →
    ((k : ℕ) → lowest ns ≡ some k → Among k ns × ((j : ℕ) → j < k → ¬ Among j ns)) × (lowest ns ≡ none → (j : ℕ) → ¬ Among j ns)
unfolding lowest AscendingFrom
least_listed [] a = ((λ k e. absurd (none-ne-some k e)), (λ e j m. Memᴰ.not-nil m))
least_listed (n ∷ ns) a = (
  (λ k e.
      let s : n ≡ k = some-injective n k e in
      (Memᴰ.head (sym s), (λ j l m. absurd (let r = ascending_above n j (n ∷ ns) (omega arith, a.1) m in omega arith)))),
  (λ e. absurd (none-ne-some n (sym e))),
)

pub place_is_lowest : PlaceIsLowest
unfolding place_in
place_is_lowest F N L g =
    let t = least_listed (able 0 L) (listed_can_act L g).1 in
    let c = (listed_can_act L g).0 in (
      (λ p e. let r = t.0 p e in ((c p).0 r.0, (λ q l h. r.1 q l ((c q).1 h)))),
      (λ e p h. t.1 e p ((c p).1 h)),
    )

pub partner_is_lowest : PartnerIsLowest
unfolding partner_in
partner_is_lowest F N L p =
    let t = least_listed (partners_at L p) (listed_are_partners L p).1 in
    let c = (listed_are_partners L p).0 in (
      (λ q e. let r = t.0 q e in ((c q).0 r.0, (λ k l h. r.1 k l ((c k).1 h)))),
      (λ e q h. t.1 e q ((c q).1 h)),
    )

-- How many

pub first_none : (ns : List ℕ) → (length ns ≡ 0) ↔ (lowest ns ≡ none)
unfolding lowest
first_none [] = ((λ e. refl), (λ e. refl))
first_none (n ∷ ns) = ((λ e. absurd (omega (arith, e))), (λ e. absurd (none-ne-some n (sym e))))

element_within : (L : Elements) (π : Position) (o : Option Element) → Within 0 (0 + size L) (partners_of L π o)
unfolding partners_of Within
element_within L π none = omega arith
element_within L π (some (ambient_element s a A)) = omega arith
element_within L π (some (blocked_element α P)) = omega arith
element_within L π (some (process_element null)) = omega arith
element_within L π (some (process_element (parallel P Q))) = omega arith
element_within L π (some (process_element (restriction P))) = omega arith
element_within L π (some (process_element (ambient a P))) = omega arith
element_within L π (some (process_element (action α P))) = partners_within (side_of α) L π
element_within L π (some (process_element (replication α P))) = omega arith

place_within : (L : Elements) (o : Option Position) → Within 0 (0 + size L) (partners_in L o)
unfolding partners_in Within
place_within L none = omega arith
place_within L (some π) = element_within L π (element_at L π)

first_below : (lo hi q : ℕ) (ns : List ℕ) → Within lo hi ns → lowest ns ≡ some q → q < hi
unfolding lowest Within
first_below lo hi q [] w e = absurd (none-ne-some q e)
first_below lo hi q (n ∷ ns) w e = omega (arith, some-injective n q e, within_length (suc n) hi ns w.1)

pub number_tells : NumberTells
unfolding number_in partner_in
number_tells F N L p =
    let c = (listed_are_partners L p).0 in
    let t = empty_none (partners_at L p) in
    record {
      alone = ((λ z q x. t.0 z q ((c q).1 x)), (λ f. t.1 (λ q m. f q ((c q).0 m))));
      unnamed = first_none (partners_at L p);
      most = omega (arith, within_length 0 (0 + size L) (partners_at L p) (place_within L (position L p)));
      below = λ q e. omega (arith, first_below 0 (0 + size L) q (partners_at L p) (place_within L (position L p)) e);
    }

-- what turns is no action
turns_idle : {N N' n : ℕ} (E : Element) (X : Elements) → Turns N N' n E X → found_alone unblocked E ≡ nowhere
unfolding found_alone
turns_idle E X (rule29 b) = refl
turns_idle E X rule30 = refl
turns_idle E X rule31 = refl
turns_idle E X rule32 = refl
turns_idle E X rule33 = refl
turns_idle E X rule34 = refl

pub turning_alone : TurningAlone
turning_alone S S' p n q (turns {F = F} {N = N} {L = L} {π = π} d) h =
    let t = anywhere_element_at d in
    let f = (idle_listed L π t.3 (turns_idle t.0 t.1 t.2)).0 in
    (number_tells F N L (place L π)).alone.1 (λ k x. Memᴰ.not-nil ((f k).1 x))
turning_alone S S' p n q (meets (sender_acts m)) h = absurd (omega (arith, meet_rule_bounds m, h))
turning_alone S S' p n q (meets (receiver_acts m)) h = absurd (omega (arith, meet_rule_bounds m, h))
turning_alone S S' p n q (rule43 d f) h = absurd (omega (arith, h))
