-- What the loop over a list gives, and where it stands.
use mathlib.Core.Path.{◌≡◌, refl, sym, ◌∙◌, ap, subst}
use mathlib.Core.Bool.{Bool, true, false, false≢true}
use mathlib.Core.Logic.{⊎_elim}
use mathlib.Core.List.Memᴰ
use mathlib.Core.List.{List, [], ◌∷◌, ◌++◌, map}
use mathlib.Core.Option.{Option, none, some, none-ne-some, some-injective}
use Rattle.calculus.specs.Processes.{Reference, Action, Process}
use Rattle.machine.specs.Elements.{Status, unblocked, blocked, Elements, Element, ambient_element, process_element, blocked_element, ◌before◌, standing, Position, here, later, inside, into, Has, first, further, Both, first_left, first_right, further_both}
use Rattle.machine.specs.Positions.{element_of}
use Rattle.machine.specs.Answers.{called, Want, matches, when, beyond, throughout, itself, answers_in, admits, contained, answers_among}
use Rattle.machine.specs.Meetings.{found_alone}
use Rattle.machine.specs.Ordered.{Among}
use Rattle.machine.proofs.Meeting.{found_alone_standing, nowhere_alone}
use Rattle.machine.proofs.Lists.{by_elements}
use Rattle.machine.proofs.Places.{element_of_here, element_of_later, has_element_of, element_of_has}

-- Two separate elements of a list

pub element_of_inside : (E : Element) (C : Elements) (p : Position) → element_of (E before C) (inside p) ≡ none
unfolding element_of ◌before◌
element_of_inside (ambient_element s a A) C p = refl
element_of_inside (process_element P) C p = refl
element_of_inside (blocked_element β Q) C p = refl

element_both : {E : Element} {p : Position} {L : Elements} → Has E p L → (D : Element) (q : Position) → element_of L q ≡ some D → ¬ (p ≡ q) → Both E D p q L
element_both (first C) D here e d = absurd (d refl)
element_both {E} (first C) D (later q) e d = first_left (element_of_has C q D (sym (element_of_later E C q) ∙ e))
element_both {E} (first C) D (inside q) e d = absurd (none-ne-some D (sym (element_of_inside E C q) ∙ e))
element_both {E} (further H {C = C} {p = p} h) D here e d =
    subst (λ (F : Element). Both E D (later p) here (F before C)) (some-injective D H (sym e ∙ element_of_here H C)) (first_right h)
element_both (further H {C = C} h) D (later q) e d = further_both H (element_both h D q (sym (element_of_later H C q) ∙ e) (λ s. d (ap later s)))
element_both (further H {C = C} h) D (inside q) e d = absurd (none-ne-some D (sym (element_of_inside H C q) ∙ e))

pub has_both : {E D : Element} {p q : Position} {L : Elements} → Has E p L → Has D q L → ¬ (p ≡ q) → Both E D p q L
has_both {D = D} {q = q} h g d = element_both h D q (has_element_of g) d

-- One place holds one element.
pub has_same : {E D : Element} {p q : Position} {L : Elements} → Has E p L → Has D q L → p ≡ q → E ≡ D
has_same {E} {D} {p} {q} {L} h g e = some-injective E D (sym (has_element_of h) ∙ ap (element_of L) e ∙ has_element_of g)

pub ambient_not_standing : (s t : Status) (a : Reference) (A : Elements) (α : Action) (P : Process) → ¬ (ambient_element t a A ≡ standing s α P)
unfolding found_alone
ambient_not_standing unblocked t a A α P e = nowhere_alone (ap (found_alone unblocked) e ∙ found_alone_standing unblocked α P)
ambient_not_standing blocked t a A α P e = nowhere_alone (ap (found_alone blocked) e ∙ found_alone_standing blocked α P)

-- An ambient and a blocked action are two elements.
pub beside_action : {s : Status} {a : Reference} {A : Elements} {β : Action} {Q : Process} {p q : Position} {L : Elements} → Has (ambient_element s a A) p L → Has (blocked_element β Q) q L →
    Both (ambient_element s a A) (blocked_element β Q) p q L
unfolding standing
beside_action {s} {a} {A} {β} {Q} h g = has_both h g (λ e. ambient_not_standing blocked s a A β Q (has_same h g e))

-- The loop

-- The position i of the element at p; and the position to leave out, seen from that element.
unfoldable from : Position → Position → Position
from here i = i
from (later p) i = later (from p i)
from (inside p) i = i

unfoldable pub skip_at : Option Position → Position → Option Position
skip_at skip here = skip
skip_at skip (later p) = skip_at (beyond skip) p
skip_at skip (inside p) = skip

pub throughout_before : (one : Option Position → Element → List Position) (skip : Option Position) (E : Element) (C : Elements) →
    throughout one skip (E before C) ≡ one skip E ++ map later (throughout one (beyond skip) C)
unfolding throughout ◌before◌
throughout_before one skip (ambient_element s a A) C = refl
throughout_before one skip (process_element P) C = refl
throughout_before one skip (blocked_element β Q) C = refl

record Given (one : Option Position → Element → List Position) (skip : Option Position) (κ : Position) (L : Elements) : Type 0 where
  element : Element
  at : Position
  part : Position
  stands : Has element at L
  given : Among part (one (skip_at skip at) element)
  same : κ ≡ from at part

before_given : (one : Option Position → Element → List Position) (skip : Option Position) (κ : Position) (E : Element) (C : Elements) →
    ((μ : Position) → Among μ (throughout one (beyond skip) C) → Given one (beyond skip) μ C) →
    Among κ (throughout one skip (E before C)) → Given one skip κ (E before C)
unfolding from skip_at
before_given one skip κ E C ih m =
    ⊎_elim
    (λ (a : Among κ (one skip E)). record { element = E; at = here; part = κ; stands = first C; given = a; same = refl })
    (λ (a : Among κ (map later (throughout one (beyond skip) C))).
    let t = Memᴰ.of_map later (throughout one (beyond skip) C) a in
    let g = ih t.0 t.1 in
    record { element = g.element; at = later g.at; part = g.part; stands = further E g.stands; given = g.given; same = sym t.2 ∙ ap later g.same })
    (Memᴰ.append_cases (one skip E) (subst (Among κ) (throughout_before one skip E C) m))

found_given : (one : Option Position → Element → List Position) (L : Elements) (skip : Option Position) (κ : Position) → Among κ (throughout one skip L) → Given one skip κ L
unfolding throughout
found_given one =
    by_elements (λ (L : Elements). (skip : Option Position) (κ : Position) → Among κ (throughout one skip L) → Given one skip κ L) (λ skip κ m. absurd (Memᴰ.not-nil m))
    (λ E C h skip κ m. before_given one skip κ E C (h (beyond skip)) m)

given_found : (one : Option Position → Element → List Position) {E : Element} (skip : Option Position) {p : Position} {L : Elements} (i : Position) →
    Has E p L → Among i (one (skip_at skip p) E) → Among (from p i) (throughout one skip L)
unfolding from skip_at
given_found one {E} skip i (first C) m = rw (throughout_before one skip E C) (Memᴰ.append_left (map later (throughout one (beyond skip) C)) m)
given_found one skip i (further D {C = C} h) m =
    rw (throughout_before one skip D C) (Memᴰ.append_right (one skip D) (Memᴰ.map later (given_found one (beyond skip) i h m)))

-- Directly in a list

among_when : {A : Type 0} {a : A} (b : Bool) (all : List A) → Among a (when b all) → (b ≡ true) × Among a all
unfolding when
among_when true all m = (refl, m)
among_when false all m = absurd (Memᴰ.not-nil m)

when_among : {A : Type 0} {a : A} (b : Bool) (all : List A) → b ≡ true → Among a all → Among a (when b all)
unfolding when
when_among b all e m = rw (e, when) m

from_here : {E : Element} {p : Position} {L : Elements} → Has E p L → from p here ≡ p
unfolding from
from_here (first C) = refl
from_here (further D h) = ap later (from_here h)

from_inside : {E : Element} {p : Position} {L : Elements} (j : Position) → Has E p L → from p (inside j) ≡ into p j
unfolding from into
from_inside j (first C) = refl
from_inside j (further D h) = ap later (from_inside j h)

abbrev pub Direct : Want → Position → Elements → Type 0
Direct w κ L = (β : Action) × (Q : Process) × Has (blocked_element β Q) κ L × (matches w β ≡ true)

pub answers_in_direct : (w : Want) (κ : Position) (L : Elements) → Among κ (answers_in w L) → Direct w κ L
unfolding answers_in itself
answers_in_direct w κ L m = let g = found_given (itself w) L none κ m in go g.element g.at g.part g.stands (skip_at none g.at) g.given g.same
  where
    go : (E : Element) (p i : Position) → Has E p L → (skip : Option Position) → Among i (itself w skip E) → κ ≡ from p i → Direct w κ L
    go (ambient_element s a A) p i h skip m e = absurd (Memᴰ.not-nil m)
    go (process_element P) p i h skip m e = absurd (Memᴰ.not-nil m)
    go (blocked_element β Q) p i h skip m e =
        let t = among_when (matches w β) (here ∷ []) m in
        (β, Q, subst (λ q. Has (blocked_element β Q) q L) (sym (e ∙ ap (from p) (Memᴰ.eq_of_singleton t.1) ∙ from_here h)) h, t.0)

pub direct_answers_in : (w : Want) {κ : Position} {L : Elements} {β : Action} {Q : Process} → Has (blocked_element β Q) κ L → matches w β ≡ true → Among κ (answers_in w L)
unfolding answers_in itself
direct_answers_in w {β = β} h e = Memᴰ.cast (sym (from_here h)) (given_found (itself w) none here h (when_among (matches w β) (here ∷ []) e (Memᴰ.head refl)))

-- In the ambients of a list

pub record Held (w : Want) (n : Option Reference) (skip : Option Position) (κ : Position) (L : Elements) : Type 0 where
  pub status : Status
  pub name : Reference
  pub contents : Elements
  pub around : Position
  pub position : Position
  pub answer : Action
  pub process : Process
  pub stands : Has (ambient_element status name contents) around L
  pub holds : Has (blocked_element answer process) position contents
  pub located : κ ≡ into around position
  pub wanted : matches w answer ≡ true
  pub admitted : admits (skip_at skip around) n name ≡ true

pub answers_among_held : (w : Want) (n : Option Reference) (skip : Option Position) (κ : Position) (L : Elements) → Among κ (answers_among w n skip L) → Held w n skip κ L
unfolding answers_among contained
answers_among_held w n skip κ L m =
    let g = found_given (contained w n) L skip κ m in
    go g.element g.at g.part g.stands (skip_at skip g.at) refl g.given g.same
  where
    go : (E : Element) (p i : Position) → Has E p L → (k : Option Position) → skip_at skip p ≡ k → Among i (contained w n k E) → κ ≡ from p i → Held w n skip κ L
    go (process_element P) p i h k s m e = absurd (Memᴰ.not-nil m)
    go (blocked_element β Q) p i h k s m e = absurd (Memᴰ.not-nil m)
    go (ambient_element u b B) p i h k s m e =
        let t = among_when (admits k n b) (map inside (answers_in w B)) m in
        let r = Memᴰ.of_map inside (answers_in w B) t.1 in
        let d = answers_in_direct w r.0 B r.1 in
        record {
          status = u;
          name = b;
          contents = B;
          around = p;
          position = r.0;
          answer = d.0;
          process = d.1;
          stands = h;
          holds = d.2;
          located = e ∙ ap (from p) (sym r.2) ∙ from_inside r.0 h;
          wanted = d.3;
          admitted = ap (λ o. admits o n b) s ∙ t.0;
        }

pub held_answers_among : (w : Want) (n : Option Reference) (skip : Option Position) {u : Status} {b : Reference} {B L : Elements} {q j : Position} {β : Action} {Q : Process} →
    Has (ambient_element u b B) q L → Has (blocked_element β Q) j B → matches w β ≡ true → admits (skip_at skip q) n b ≡ true → Among (into q j) (answers_among w n skip L)
unfolding answers_among contained
held_answers_among w n skip {b = b} {B = B} {q = q} {j = j} h g e a =
    Memᴰ.cast (sym (from_inside j h))
    (given_found (contained w n) skip (inside j) h (when_among (admits (skip_at skip q) n b) (map inside (answers_in w B)) a (Memᴰ.map inside (direct_answers_in w g e))))

-- The position to leave out

skip_at_none : (p : Position) → skip_at none p ≡ none
unfolding skip_at beyond
skip_at_none here = refl
skip_at_none (later p) = skip_at_none p
skip_at_none (inside p) = refl

pub admits_any : (p : Position) (n : Option Reference) (b : Reference) → admits (skip_at none p) n b ≡ called n b
unfolding admits
admits_any p n b = ap (λ k. admits k n b) (skip_at_none p)

pub admits_other : {E D : Element} {p q : Position} {L : Elements} (n : Option Reference) (b : Reference) → Both E D p q L → admits (skip_at (some p) q) n b ≡ called n b
unfolding admits skip_at beyond
admits_other n b (first_left {q = q} h) = admits_any q n b
admits_other n b (first_right h) = refl
admits_other n b (further_both H w) = admits_other n b w

admits_itself : {E : Element} {p : Position} {L : Elements} (n : Option Reference) (b : Reference) → Has E p L → admits (skip_at (some p) p) n b ≡ false
unfolding admits skip_at beyond
admits_itself n b (first C) = refl
admits_itself n b (further D h) = admits_itself n b h

-- What is looked into is another element.
pub admitted_both : {E D : Element} {p q : Position} {L : Elements} (n : Option Reference) (b : Reference) → Has E p L → Has D q L → admits (skip_at (some p) q) n b ≡ true → Both E D p q L
admitted_both {p = p} n b h g e = has_both h g (λ s. false≢true (sym (admits_itself n b h) ∙ ap (λ r. admits (skip_at (some p) r) n b) s ∙ e))
