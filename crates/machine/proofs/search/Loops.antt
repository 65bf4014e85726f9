-- The loops that a program goes through make of a question what its reading of the list of the answers is.
use mathlib.Core.Path.{◌≡◌, refl, sym, ◌∙◌, ap}
use mathlib.Core.Bool.{Bool, true, false}
use mathlib.Core.List.{List, [], ◌∷◌, ◌++◌, map}
use mathlib.Core.Option.{Option, none, some, none-ne-some}
use Prim.Native.Nat.{ℕ, ◌+◌, ◌<◌}
use native.Mathlib.Omega.{arith}
use borrow.Author.Tests.{eq-eqb, ne_eqb}
use Rattle.calculus.specs.Processes.{Reference}
use Rattle.machine.specs.Elements.{Status, Elements, empty, ambient_then, process_then, blocked_then, Element, ambient_element, process_element, blocked_element, ◌before◌, standing, Position, here, later, inside}
use Rattle.machine.specs.Kinds.{Standing, sibling, outside, child, kind_of, standing_of, target}
use Rattle.machine.specs.Positions.{element_of}
use Rattle.machine.specs.Frames.{Frame, list_of, index_of, frame_of}
use Rattle.machine.specs.Answers.{called, Want, matches, want_of, when, beyond, throughout, itself, answers_in, admits, contained, answers_among, look, look_from, seek, answers}
use Rattle.machine.specs.Questions.{Numbering, Lawful, numbered, start_of, Question, Tally, untold, settled, note, gather, tally_in, looks_into, tally_among, tally_of, tally_from, ask}
use Rattle.machine.specs.Tests.{pick}
use Rattle.machine.specs.Search.{AskedIsRead, told_by, told_within, LoopsStep, SettledStays}
use Rattle.machine.proofs.Lists.{by_elements}
use Rattle.machine.proofs.Places.{element_of_later, has_element_of}
use Rattle.machine.proofs.search.Frames.{Stands, frame_of_framed}
use Rattle.machine.proofs.search.Throughout.{element_of_inside}
use Rattle.machine.proofs.search.Numbers.{numbered_from, numbered_here, numbered_later, numbers_before, inside_numbers, FramedIf, unframed, framed_by, meeting_framed, look_numbers}

gather_append : (q : Question) (t : Tally) (ns ks : List ℕ) → gather q t (ns ++ ks) ≡ gather q (gather q t ns) ks
unfolding gather
gather_append q t [] ks = refl
gather_append q t (n ∷ ns) ks = gather_append q (note q t n) ns ks

-- Turn by turn

tally_in_before : (m : Numbering) (q : Question) (w : Want) (o : ℕ) (t : Tally) (E : Element) (C : Elements) → tally_in m q w o t (E before C) ≡ tally_in m q w (o + m.width E) (told_by q w o t E) C
unfolding tally_in told_by ◌before◌
tally_in_before m q w o t (ambient_element s a A) C = refl
tally_in_before m q w o t (process_element P) C = refl
tally_in_before m q w o t (blocked_element β Q) C = refl

tally_among_before : (m : Numbering) (q : Question) (w : Want) (o : ℕ) (t : Tally) (E : Element) (C : Elements) (n : Option Reference) (skip : Option ℕ) →
    tally_among m q w n skip o t (E before C) ≡ tally_among m q w n skip (o + m.width E) (told_within m q w n skip o t E) C
unfolding tally_among told_within ◌before◌
tally_among_before m q w o t (ambient_element s a A) C n skip = refl
tally_among_before m q w o t (process_element P) C n skip = refl
tally_among_before m q w o t (blocked_element β Q) C n skip = refl

pub loops_step : LoopsStep
loops_step m q w o t E C = record { directly = tally_in_before m q w o t E C; in_ambients = tally_among_before m q w o t E C }

-- Directly in a list

-- one element gives what it adds to the list
told_by_gathers : (m : Numbering) (q : Question) (w : Want) (o : ℕ) (t : Tally) (E : Element) (C : Elements) → gather q t (map (numbered m o (E before C)) (itself w none E)) ≡ told_by q w o t E
unfolding itself told_by gather ◌before◌
told_by_gathers m q w o t (ambient_element s a A) C = refl
told_by_gathers m q w o t (process_element P) C = refl
told_by_gathers m q w o t (blocked_element β Q) C = go (matches w β)
  where
    go : (b : Bool) → gather q t (map (numbered m o (blocked_then β Q C)) (when b (here ∷ []))) ≡ pick b (note q t o) t
    go true = unfold when in unfold gather in unfold numbered in refl
    go false = unfold when in unfold gather in refl

-- the reading of a list by its first element and the rest
gathers_before : (m : Numbering) (q : Question) (o : ℕ) (t : Tally) (one : Option Position → Element → List Position) (skip : Option Position) (E : Element) (C : Elements) →
    gather q t (map (numbered m o (E before C)) (throughout one skip (E before C))) ≡
    gather q (gather q t (map (numbered m o (E before C)) (one skip E))) (map (numbered m (o + m.width E) C) (throughout one (beyond skip) C))
gathers_before m q o t one skip E C =
    ap (gather q t) (numbers_before m o one skip E C) ∙ gather_append q t (map (numbered m o (E before C)) (one skip E)) (map (numbered m (o + m.width E) C) (throughout one (beyond skip) C))

tally_in_gathers : (m : Numbering) (q : Question) (w : Want) (o : ℕ) (t : Tally) (L : Elements) → tally_in m q w o t L ≡ gather q t (map (numbered m o L) (throughout (itself w) none L))
unfolding tally_in throughout beyond gather
tally_in_gathers m q w o t L =
    by_elements (λ (L : Elements). (o : ℕ) (t : Tally) → tally_in m q w o t L ≡ gather q t (map (numbered m o L) (throughout (itself w) none L))) (λ o t. refl)
    (λ E C h o t.
    tally_in_before m q w o t E C
    ∙ h (o + m.width E) (told_by q w o t E)
    ∙ ap (λ r. gather q r (map (numbered m (o + m.width E) C) (throughout (itself w) none C))) (sym (told_by_gathers m q w o t E C))
    ∙ sym (gathers_before m q o t (itself w) none E C)) L o t

-- In the ambients of a list

-- The number of the ambient to leave out, and its position: it stands ahead, it was passed, or there is none.
data Agrees (m : Numbering) (o : ℕ) (L : Elements) : Option ℕ → Option Position → Type 0 where
  none_left : Agrees m o L none none
  passed : {k : ℕ} → k < o → Agrees m o L (some k) none
  ahead : {k : ℕ} {D : Element} (p : Position) → element_of L p ≡ some D → k ≡ numbered m o L p → Agrees m o L (some k) (some p)

-- behind the first element, and at it
record AgreesOn (m : Numbering) (o : ℕ) (E : Element) (C : Elements) (n : Option Reference) (skip : Option ℕ) (left : Option Position) : Type 0 where
  behind : Agrees m (o + m.width E) C skip (beyond left)
  at : (a : Reference) → looks_into skip n o a ≡ admits left n a

looks_into_at : (k o : ℕ) (n : Option Reference) (a : Reference) → k ≡ o → looks_into (some k) n o a ≡ false
unfolding looks_into
looks_into_at k o n a e = ap (λ b. pick b false (called n a)) (eq-eqb k o e)

looks_into_other : (k o : ℕ) (n : Option Reference) (a : Reference) → ¬ (k ≡ o) → looks_into (some k) n o a ≡ called n a
unfolding looks_into
looks_into_other k o n a e = ap (λ b. pick b false (called n a)) (ne_eqb k o e)

agrees_on : (m : Numbering) → Lawful m → (o : ℕ) (E : Element) (C : Elements) (n : Option Reference) {skip : Option ℕ} {left : Option Position} →
    Agrees m o (E before C) skip left → AgreesOn m o E C n skip left
unfolding beyond admits
agrees_on m k o E C n none_left = record { behind = none_left; at = λ a. unfold looks_into in refl }
agrees_on m k o E C n (passed {k = j} l) = record { behind = passed {k = j} (omega arith); at = λ a. looks_into_other j o n a (λ s. omega arith) }
agrees_on m k o E C n (ahead {k = j} here f s) =
    let r : j ≡ o = s ∙ numbered_here m o E C in
    let w = k.positive E in
    record { behind = passed {k = j} (omega arith); at = λ a. looks_into_at j o n a r }
agrees_on m k o E C n (ahead {k = j} (later p) f s) =
    let r : j ≡ numbered m (o + m.width E) C p = s ∙ numbered_later m o E C p in
    let w = k.positive E in
    let l = numbered_from m (o + m.width E) C p in
    record { behind = ahead p (sym (element_of_later E C p) ∙ f) r; at = λ a. looks_into_other j o n a (λ z. omega arith) }
agrees_on m k o E C n (ahead {D = D} (inside p) f s) = absurd (none-ne-some D (sym (element_of_inside E C p) ∙ f))

contained_gathers : (m : Numbering) (q : Question) (w : Want) (o : ℕ) (t : Tally) (b : Bool) (s : Status) (a : Reference) (A C : Elements) →
    gather q t (map (numbered m o (ambient_then s a A C)) (when b (map inside (answers_in w A)))) ≡ pick b (tally_in m q w (o + m.header) t A) t
unfolding when answers_in
contained_gathers m q w o t true s a A C = ap (gather q t) (inside_numbers m o s a A C (throughout (itself w) none A)) ∙ sym (tally_in_gathers m q w (o + m.header) t A)
contained_gathers m q w o t false s a A C = unfold gather in refl

told_within_gathers : (m : Numbering) (q : Question) (w : Want) (n : Option Reference) (skip : Option ℕ) (left : Option Position) (o : ℕ) (t : Tally) (E : Element) (C : Elements) →
    ((a : Reference) → looks_into skip n o a ≡ admits left n a) → gather q t (map (numbered m o (E before C)) (contained w n left E)) ≡ told_within m q w n skip o t E
unfolding contained told_within gather ◌before◌
told_within_gathers m q w n skip left o t (ambient_element s a A) C g =
    contained_gathers m q w o t (admits left n a) s a A C ∙ ap (λ b. pick b (tally_in m q w (o + m.header) t A) t) (sym (g a))
told_within_gathers m q w n skip left o t (process_element P) C g = refl
told_within_gathers m q w n skip left o t (blocked_element β Q) C g = refl

tally_among_gathers : (m : Numbering) → Lawful m → (q : Question) (w : Want) (n : Option Reference) (skip : Option ℕ) (L : Elements) (left : Option Position) (o : ℕ) (t : Tally) →
    Agrees m o L skip left → tally_among m q w n skip o t L ≡ gather q t (map (numbered m o L) (throughout (contained w n) left L))
unfolding tally_among throughout gather
tally_among_gathers m k q w n skip =
    by_elements
    (λ (L : Elements). (left : Option Position) (o : ℕ) (t : Tally) → Agrees m o L skip left → tally_among m q w n skip o t L ≡ gather q t (map (numbered m o L) (throughout (contained w n) left L)))
    (λ left o t g. refl)
    (λ E C h left o t g.
    let x = agrees_on m k o E C n g in
    tally_among_before m q w o t E C n skip
    ∙ h (beyond left) (o + m.width E) (told_within m q w n skip o t E) x.behind
    ∙ ap (λ r. gather q r (map (numbered m (o + m.width E) C) (throughout (contained w n) (beyond left) C))) (sym (told_within_gathers m q w n skip left o t E C x.at))
    ∙ sym (gathers_before m q o t (contained w n) left E C))

-- The whole question

tally_of_gathers : (m : Numbering) → Lawful m → (q : Question) (d : Standing) (w : Want) (n : Option Reference) (f : Frame) {D : Element} → Stands D f →
    tally_of m q d w n f ≡ gather q untold (map (numbered m (start_of m f) (list_of f)) (look d w n f))
unfolding tally_of look answers_in answers_among
tally_of_gathers m k q sibling w n f h =
    tally_among_gathers m k q w n (some (numbered m (start_of m f) (list_of f) (index_of f))) (list_of f) (some (index_of f)) (start_of m f) untold (ahead (index_of f) (has_element_of h) refl)
tally_of_gathers m k q outside w n f h = tally_in_gathers m q w (start_of m f) untold (list_of f)
tally_of_gathers m k q child w n f h = tally_among_gathers m k q w n none (list_of f) none (start_of m f) untold none_left

tally_from_gathers : (m : Numbering) → Lawful m → (q : Question) {L : Elements} (d : Standing) (w : Want) (n : Option Reference) {o : Option Frame} → FramedIf L o →
    tally_from m q d w n o ≡ gather q untold (map (numbered m 0 L) (look_from d w n o))
unfolding tally_from look_from gather
tally_from_gathers m k q d w n unframed = refl
tally_from_gathers m k q d w n (framed_by {f = f} F h) = tally_of_gathers m k q d w n f h ∙ ap (gather q untold) (sym (look_numbers m (look d w n f) F))

pub asked_is_read : AskedIsRead
unfolding ask answers seek
asked_is_read m k q s L π α P e =
    let x = frame_of_framed L π (standing s α P) e in
    tally_from_gathers m k q (standing_of (kind_of α)) (want_of (frame_of L π) α) (target α) (meeting_framed α x.framed x.stands)

-- Stopping

pick_same : {A : Type 0} (b : Bool) (x y : A) → x ≡ y → pick b x y ≡ y
pick_same true x y e = e
pick_same false x y e = refl

pub gather_settled : (q : Question) (t : Tally) (ns : List ℕ) → settled q t ≡ true → gather q t ns ≡ t
unfolding gather note
gather_settled q t [] e = refl
gather_settled q t (n ∷ ns) e = ap (λ r. gather q r ns) (rw e refl) ∙ gather_settled q t ns e

tally_in_settled : (m : Numbering) (q : Question) (w : Want) (t : Tally) → settled q t ≡ true → (o : ℕ) (A : Elements) → tally_in m q w o t A ≡ t
tally_in_settled m q w t e o A = tally_in_gathers m q w o t A ∙ gather_settled q t (map (numbered m o A) (throughout (itself w) none A)) e

tally_among_settled : (m : Numbering) (q : Question) (w : Want) (t : Tally) → settled q t ≡ true → (n : Option Reference) (skip : Option ℕ) (o : ℕ) (A : Elements) → tally_among m q w n skip o t A ≡ t
unfolding tally_among
tally_among_settled m q w t e n skip o empty = refl
tally_among_settled m q w t e n skip o (ambient_then s a A C) =
    let d = m.width (ambient_element s a A) in
    ap (λ r. tally_among m q w n skip (o + d) r C) (pick_same (looks_into skip n o a) (tally_in m q w (o + m.header) t A) t (tally_in_settled m q w t e (o + m.header) A))
    ∙ tally_among_settled m q w t e n skip (o + d) C
tally_among_settled m q w t e n skip o (process_then P C) = tally_among_settled m q w t e n skip (o + m.width (process_element P)) C
tally_among_settled m q w t e n skip o (blocked_then β Q C) = tally_among_settled m q w t e n skip (o + m.width (blocked_element β Q)) C

pub settled_stays : SettledStays
settled_stays m q w t e = record { directly = tally_in_settled m q w t e; in_ambients = tally_among_settled m q w t e }
