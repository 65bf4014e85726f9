-- The frame of an element: where it stands, and how what happens in its list happens in the root list.
use mathlib.Core.Path.{◌≡◌, refl, sym, ◌∙◌, ap, subst}
use mathlib.Core.Option.{some}
use Rattle.calculus.specs.Processes.{Reference}
use Rattle.machine.specs.Elements.{Status, Elements, Element, ambient_element, process_element, blocked_element, ◌before◌, Position, here, later, inside, into, Has, first, further, element_at}
use Rattle.machine.specs.Frames.{Frame, outermost, within, list_of, index_of, position_of, put, frame_by, frame_of}
use Rattle.machine.proofs.Lists.{Rest, whole, past, ahead, rest_has}
use Rattle.machine.proofs.WellFormed.{Meetable, meetable_inside}
use Rattle.machine.proofs.Places.{At, at_start, at_later, at_inside, element_at_at}

pub into_associative : (p q i : Position) → into (into p q) i ≡ into p (into q i)
unfolding into
into_associative here q i = refl
into_associative (later p) q i = ap later (into_associative p q i)
into_associative (inside p) q i = ap inside (into_associative p q i)

pub put_index : (f : Frame) → put f (index_of f) ≡ position_of f
unfolding put index_of position_of
put_index (outermost L i) = refl
put_index (within f s a A i) = refl

pub put_into : (f : Frame) (p i : Position) → put f (into p i) ≡ into (put f p) i
unfolding put
put_into (outermost L j) p i = refl
put_into (within f s a A j) p i = sym (into_associative (position_of f) p i)

-- what stands in the framed ambient
pub put_held : (f : Frame) (i : Position) → put f (into (index_of f) i) ≡ into (position_of f) i
put_held f i = put_into f (index_of f) i ∙ ap (λ p. into p i) (put_index f)

-- Frames of a root list L: each ambient around stands in the list around it.
pub data Framed (L : Elements) : Frame → Type 0 where
  at_root : (i : Position) → Framed L (outermost L i)
  in_ambient : {f : Frame} {s : Status} {a : Reference} {A : Elements} → Framed L f → Has (ambient_element s a A) (index_of f) (list_of f) → (i : Position) → Framed L (within f s a A i)

abbrev pub Stands : Element → Frame → Type 0
Stands E f = Has E (index_of f) (list_of f)

-- The frame of what stands at a position

pub record FramedAt (L : Elements) (π : Position) (E : Element) (f : Frame) : Type 0 where
  pub framed : Framed L f
  pub stands : Stands E f
  pub positioned : position_of f ≡ π

-- Frames of the elements of a list A.
pub record Frames (L A : Elements) (around : Position → Frame) : Type 0 where
  pub framed : (i : Position) → Framed L (around i)
  pub list : (i : Position) → list_of (around i) ≡ A
  pub index : (i : Position) → index_of (around i) ≡ i
  pub put_same : (i j k : Position) → put (around i) k ≡ put (around j) k

pub root_frames : (L : Elements) → Frames L L (outermost L)
unfolding list_of index_of put
root_frames L = record { framed = at_root; list = λ i. refl; index = λ i. refl; put_same = λ i j k. refl }

pub inner_frames : {L : Elements} {f : Frame} {s : Status} {a : Reference} {A : Elements} → Framed L f → Stands (ambient_element s a A) f → Frames L A (within f s a A)
unfolding list_of index_of put
inner_frames F h = record { framed = in_ambient F h; list = λ i. refl; index = λ i. refl; put_same = λ i j k. refl }

ahead_later : (p i : Position) → ahead p (later i) ≡ later (ahead p i)
unfolding ahead
ahead_later here i = refl
ahead_later (later p) i = ahead_later p (later i)
ahead_later (inside p) i = refl

rest_here : {A C : Elements} {p : Position} → Rest A p C → ahead p here ≡ p
unfolding ahead
rest_here whole = refl
rest_here (past E {p = p} r) = ahead_later p here ∙ ap later (rest_here r)

rest_inside : {A C : Elements} {p : Position} (i : Position) → Rest A p C → ahead p (inside i) ≡ into p i
unfolding ahead into
rest_inside i whole = refl
rest_inside i (past E {p = p} r) = ahead_later p (inside i) ∙ ap later (rest_inside i r)

module _ {L A : Elements} {around : Position → Frame} (w : Frames L A around) where
  pub put_at : (p : Position) → put (around p) p ≡ position_of (around p)
  put_at p = ap (put (around p)) (sym (w.index p)) ∙ put_index (around p)

  frame_first : {p : Position} (E : Element) (C : Elements) → Rest A p (E before C) → FramedAt L (put (around p) (ahead p here)) E (around p)
  frame_first {p} E C r = record {
    framed = w.framed p;
    stands = subst (λ (B : Elements). Has E (index_of (around p)) B) (sym (w.list p)) (subst (λ i. Has E i A) (rest_here r ∙ sym (w.index p)) (rest_has r (first C)));
    positioned = sym (put_at p) ∙ ap (put (around p)) (sym (rest_here r));
  }

  frame_behind : (p : Position) {E : Element} (π : Position) {f : Frame} → FramedAt L (put (around (later p)) (ahead (later p) π)) E f → FramedAt L (put (around p) (ahead p (later π))) E f
  unfolding ahead
  frame_behind p π x = record { framed = x.framed; stands = x.stands; positioned = x.positioned ∙ w.put_same (later p) p (ahead p (later π)) }

  frame_inside : {p : Position} {C : Elements} {E : Element} (π : Position) {f : Frame} → Rest A p C → FramedAt L (into (position_of (around p)) π) E f → FramedAt L (put (around p) (ahead p (inside π))) E f
  frame_inside {p} π r x = record {
    framed = x.framed;
    stands = x.stands;
    positioned = x.positioned ∙ sym (ap (put (around p)) (rest_inside π r) ∙ put_into (around p) p π ∙ ap (λ q. into q π) (put_at p));
  }

frame_by_first : (around : Position → Frame) (p : Position) (E : Element) (C : Elements) → frame_by around p (E before C) here ≡ around p
unfolding frame_by ◌before◌
frame_by_first around p (ambient_element s a A) C = refl
frame_by_first around p (process_element P) C = refl
frame_by_first around p (blocked_element β Q) C = refl

pub frame_by_later : (around : Position → Frame) (p : Position) (E : Element) (C : Elements) (π : Position) → frame_by around p (E before C) (later π) ≡ frame_by around (later p) C π
unfolding frame_by ◌before◌
frame_by_later around p (ambient_element s a A) C π = refl
frame_by_later around p (process_element P) C π = refl
frame_by_later around p (blocked_element β Q) C π = refl

frame_by_framed : {L : Elements} {E : Element} {A : Elements} {C : Elements} {around : Position → Frame} {p π : Position} → Frames L A around → Rest A p C → At E π C →
    FramedAt L (put (around p) (ahead p π)) E (frame_by around p C π)
unfolding frame_by ◌before◌ put ahead
frame_by_framed {E = E} {around = around} {p = p} w r (at_start C) = rw (frame_by_first around p E C) (frame_first w E C r)
frame_by_framed {around = around} {p = p} w r (at_later D {C = C} {π = π} h) = rw (frame_by_later around p D C π) (frame_behind w p π (frame_by_framed w (past D r) h))
frame_by_framed w r (at_inside s a {A = B} C {π = π} h) =
    let x = frame_first w (ambient_element s a B) C r in
    frame_inside w π r (frame_by_framed (inner_frames x.framed x.stands) whole h)

pub frame_of_framed : (L : Elements) (π : Position) (E : Element) → element_at L π ≡ some E → FramedAt L π E (frame_of L π)
unfolding frame_of put ahead
frame_of_framed L π E e = frame_by_framed (root_frames L) whole (element_at_at L π E e)

-- The frame of what stands directly in the list, and of what stands in an ambient of it

pub frame_by_has : {A : Elements} {E : Element} {L : Elements} {q : Position} {p : Position} (around : Position → Frame) → Rest A q L → Has E p L → frame_by around q L p ≡ around (ahead q p)
unfolding ahead
frame_by_has {E = E} {q = q} around r (first C) = frame_by_first around q E C ∙ ap around (sym (rest_here r))
frame_by_has {q = q} around r (further D {C = C} {p = p} h) = frame_by_later around q D C p ∙ frame_by_has around (past D r) h

pub frame_by_into : {A : Elements} {B : Elements} {a : Reference} {s : Status} {L : Elements} {q : Position} {p : Position} (around : Position → Frame) (i : Position) → Rest A q L → Has (ambient_element s a B) p L →
    frame_by around q L (into p i) ≡ frame_by (within (around (ahead q p)) s a B) here B i
unfolding ahead into frame_by ◌before◌
frame_by_into {B = B} {a = a} {s = s} around i r (first C) = ap (λ q. frame_by (within (around q) s a B) here B i) (sym (rest_here r))
frame_by_into {q = q} around i r (further D {C = C} {p = p} h) = frame_by_later around q D C (into p i) ∙ frame_by_into around i (past D r) h

-- What meets in the list of a frame meets in the root list

pub placed : {s t : Status} {L : Elements} {σ σ' ρ ρ' : Position} → σ ≡ σ' → ρ ≡ ρ' → Meetable s t σ ρ L → Meetable s t σ' ρ' L
placed {s} {t} {L} {σ} {σ'} {ρ} {ρ'} e f m = subst (λ p. Meetable s t p ρ' L) e (subst (λ p. Meetable s t σ p L) f m)

pub meetable_framed : {s t : Status} {L : Elements} {f : Frame} (σ ρ : Position) → Framed L f → Meetable s t σ ρ (list_of f) → Meetable s t (put f σ) (put f ρ) L
unfolding list_of put
meetable_framed σ ρ (at_root i) m = m
meetable_framed σ ρ (in_ambient {f = f} F h i) m = placed (put_held f σ) (put_held f ρ) (meetable_framed (into (index_of f) σ) (into (index_of f) ρ) F (meetable_inside h m))
