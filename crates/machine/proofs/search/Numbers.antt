-- The numbers of the answers ascend; places are one numbering.
use mathlib.Core.Path.{◌≡◌, refl, sym, ◌∙◌, ap, subst}
use mathlib.Core.Bool.{Bool, true, false}
use mathlib.Core.List.{List, [], ◌∷◌, ◌++◌, map, map-map}
use mathlib.Core.Option.{Option, none, some, none-ne-some}
use Prim.Native.Nat.{ℕ, suc, ◌+◌, ◌≤◌, ◌<◌}
use native.Mathlib.Omega.{arith}
use lib.ListN.{length}
use Rattle.calculus.specs.Processes.{Reference, Action}
use Rattle.machine.specs.Elements.{Status, Elements, empty, ambient_then, process_then, blocked_then, Element, ambient_element, process_element, blocked_element, ◌before◌, standing, Position, here, later, inside, into, size, place, Has, first, further, element_at}
use Rattle.machine.specs.Kinds.{Standing, sibling, outside, child, kind_of, standing_of, inside_only, target}
use Rattle.machine.specs.Frames.{Frame, list_of, index_of, outer, put, frame_of}
use Rattle.machine.specs.Answers.{Want, matches, want_of, when, beyond, throughout, itself, answers_in, admits, contained, answers_among, arena, allowed, look, look_from, seek, answers}
use Rattle.machine.specs.Questions.{Numbering, total, Lawful, numbered, by_place, start_of}
use Rattle.machine.specs.Search.{FramesDownwards, NumbersGoOn, AnswersAscend, NumbersDiffer, PlacesNumber}
use Rattle.machine.specs.Ordered.{AscendingFrom}
use Rattle.machine.proofs.Lists.{by_elements}
use Rattle.machine.proofs.Places.{element_at_later, has_element_of, element_of_has, At, at_start, at_later, at_inside, element_at_at}
use Rattle.machine.proofs.search.Frames.{put_index, put_held, Framed, at_root, in_ambient, Stands, frame_of_framed}
use Rattle.machine.proofs.search.Throughout.{throughout_before}

-- Numbers in a list and in the root list

numbered_first : (m : Numbering) (o : ℕ) (L : Elements) → numbered m o L here ≡ o
unfolding numbered
numbered_first m o empty = refl
numbered_first m o (ambient_then s a A C) = refl
numbered_first m o (process_then P C) = refl
numbered_first m o (blocked_then β Q C) = refl

pub numbered_here : (m : Numbering) (o : ℕ) (E : Element) (C : Elements) → numbered m o (E before C) here ≡ o
numbered_here m o E C = numbered_first m o (E before C)

pub numbered_later : (m : Numbering) (o : ℕ) (E : Element) (C : Elements) (π : Position) → numbered m o (E before C) (later π) ≡ numbered m (o + m.width E) C π
unfolding numbered ◌before◌
numbered_later m o (ambient_element s a A) C π = refl
numbered_later m o (process_element P) C π = refl
numbered_later m o (blocked_element β Q) C π = refl

numbered_into : (m : Numbering) {A : Elements} {a : Reference} {s : Status} (o : ℕ) {L : Elements} {p : Position} (j : Position) → Has (ambient_element s a A) p L →
    numbered m o L (into p j) ≡ numbered m (numbered m o L p + m.header) A j
unfolding numbered into ◌before◌
numbered_into m o j (first C) = refl
numbered_into m {A = A} o j (further D {C = C} {p = p} h) =
    numbered_later m o D C (into p j) ∙ numbered_into m (o + m.width D) j h ∙ ap (λ k. numbered m (k + m.header) A j) (sym (numbered_later m o D C p))

pub numbered_put : (m : Numbering) {L : Elements} {f : Frame} (j : Position) → Framed L f → numbered m 0 L (put f j) ≡ numbered m (start_of m f) (list_of f) j
unfolding put start_of list_of
numbered_put m j (at_root i) = refl
numbered_put m {L} j (in_ambient {f = f} F h i) =
    ap (numbered m 0 L) (sym (put_held f j))
    ∙ numbered_put m (into (index_of f) j) F
    ∙ numbered_into m (start_of m f) j h

pub frames_downwards : FramesDownwards
frames_downwards L π E e =
    let x = frame_of_framed L π E e in
    let f = frame_of L π in
    record {
      reaches = x.positioned;
      stands = has_element_of x.stands;
      numbers = λ m. sym (numbered_put m (index_of f) x.framed) ∙ ap (numbered m 0 L) (put_index f ∙ x.positioned);
    }

pub map_same : {A B : Type 0} (f g : A → B) (all : List A) → ((a : A) → f a ≡ g a) → map f all ≡ map g all
map_same f g [] e = refl
map_same f g (x ∷ xs) e = λ i. e x i ∷ map_same f g xs e i

pub map_append : {A B : Type 0} (f : A → B) (xs ys : List A) → map f (xs ++ ys) ≡ map f xs ++ map f ys
map_append f [] ys = refl
map_append f (x ∷ xs) ys = ap (λ r. f x ∷ r) (map_append f xs ys)

-- the numbers of what the loop gives for a list, its first element apart
pub numbers_before : (m : Numbering) (o : ℕ) (one : Option Position → Element → List Position) (skip : Option Position) (E : Element) (C : Elements) →
    map (numbered m o (E before C)) (throughout one skip (E before C)) ≡
    map (numbered m o (E before C)) (one skip E) ++ map (numbered m (o + m.width E) C) (throughout one (beyond skip) C)
numbers_before m o one skip E C =
    ap (map (numbered m o (E before C))) (throughout_before one skip E C)
    ∙ map_append (numbered m o (E before C)) (one skip E) (map later (throughout one (beyond skip) C))
    ∙ ap (λ r. map (numbered m o (E before C)) (one skip E) ++ r)
    (map-map (numbered m o (E before C)) later (throughout one (beyond skip) C)
    ∙ map_same (λ π. numbered m o (E before C) (later π)) (numbered m (o + m.width E) C) (throughout one (beyond skip) C) (numbered_later m o E C))

pub total_before : (m : Numbering) (E : Element) (C : Elements) → total m (E before C) ≡ m.width E + total m C
unfolding total ◌before◌
total_before m (ambient_element s a A) C = refl
total_before m (process_element P) C = refl
total_before m (blocked_element β Q) C = refl

numbered_next : (m : Numbering) {E : Element} (o : ℕ) {p : Position} {L : Elements} → Has E p L → numbered m o L (later p) ≡ numbered m o L p + m.width E
numbered_next m {E} o (first C) = numbered_later m o E C here ∙ numbered_first m (o + m.width E) C ∙ ap (λ k. k + m.width E) (sym (numbered_here m o E C))
numbered_next m {E} o (further D {C = C} {p = p} h) = numbered_later m o D C (later p) ∙ numbered_next m (o + m.width D) h ∙ ap (λ k. k + m.width E) (sym (numbered_later m o D C p))

pub numbers_go_on : NumbersGoOn
numbers_go_on m o L p E e = numbered_next m o (element_of_has L p E e)

-- Ascending numbers between two bounds

unfoldable pub Within : ℕ → ℕ → List ℕ → Type 0
Within lo hi [] = lo ≤ hi
Within lo hi (n ∷ ns) = (lo ≤ n) × Within (suc n) hi ns

pub within_wider : (lo lo' hi hi' : ℕ) (ns : List ℕ) → lo' ≤ lo → hi ≤ hi' → Within lo hi ns → Within lo' hi' ns
unfolding Within
within_wider lo lo' hi hi' [] l h w = omega arith
within_wider lo lo' hi hi' (n ∷ ns) l h w = let k = w.0 in (omega arith, within_wider (suc n) (suc n) hi hi' ns (omega arith) h w.1)

pub within_append : (lo mid hi : ℕ) (ns ks : List ℕ) → Within lo mid ns → Within mid hi ks → Within lo hi (ns ++ ks)
unfolding Within
within_append lo mid hi [] ks w v = within_wider mid lo hi hi ks w (omega arith) v
within_append lo mid hi (n ∷ ns) ks w v = (w.0, within_append (suc n) mid hi ns ks w.1 v)

pub within_ascends : (k lo hi : ℕ) (ns : List ℕ) → k ≤ lo → Within lo hi ns → AscendingFrom k ns
unfolding Within AscendingFrom
within_ascends k lo hi [] l w = tt
within_ascends k lo hi (n ∷ ns) l w = let g = w.0 in (omega arith, within_ascends (suc n) (suc n) hi ns (omega arith) w.1)

pub within_length : (lo hi : ℕ) (ns : List ℕ) → Within lo hi ns → lo + length ns ≤ hi
unfolding Within
within_length lo hi [] w = omega (arith, w)
within_length lo hi (n ∷ ns) w = omega (arith, w.0, within_length (suc n) hi ns w.1)

-- What the loop gives

abbrev OneWithin : Numbering → (Option Position → Element → List Position) → Type 0
OneWithin m one = (skip : Option Position) (o : ℕ) (E : Element) (C : Elements) → Within o (o + m.width E) (map (numbered m o (E before C)) (one skip E))

before_within : (m : Numbering) (one : Option Position → Element → List Position) → OneWithin m one → (skip : Option Position) (o : ℕ) (E : Element) (C : Elements) →
    Within (o + m.width E) ((o + m.width E) + total m C) (map (numbered m (o + m.width E) C) (throughout one (beyond skip) C)) →
    Within o (o + total m (E before C)) (map (numbered m o (E before C)) (throughout one skip (E before C)))
before_within m one law skip o E C ih =
    subst (Within o (o + total m (E before C))) (sym (numbers_before m o one skip E C))
    (subst (λ h. Within o h (map (numbered m o (E before C)) (one skip E) ++ map (numbered m (o + m.width E) C) (throughout one (beyond skip) C))) bound
    (within_append o (o + m.width E) ((o + m.width E) + total m C) (map (numbered m o (E before C)) (one skip E)) (map (numbered m (o + m.width E) C) (throughout one (beyond skip) C)) (law skip o E C) ih))
  where
    bound : (o + m.width E) + total m C ≡ o + total m (E before C)
    bound = let e = total_before m E C in omega arith

throughout_within : (m : Numbering) (one : Option Position → Element → List Position) → OneWithin m one → (L : Elements) (skip : Option Position) (o : ℕ) →
    Within o (o + total m L) (map (numbered m o L) (throughout one skip L))
unfolding throughout total
throughout_within m one law =
    by_elements (λ (L : Elements). (skip : Option Position) (o : ℕ) → Within o (o + total m L) (map (numbered m o L) (throughout one skip L))) (λ skip o. unfold Within in omega arith)
    (λ E C h skip o. before_within m one law skip o E C (h (beyond skip) (o + m.width E)))

throughout_ascends : (m : Numbering) (one : Option Position → Element → List Position) → OneWithin m one → (skip : Option Position) (o : ℕ) (L : Elements) →
    AscendingFrom 0 (map (numbered m o L) (throughout one skip L))
throughout_ascends m one law skip o L = within_ascends 0 o (o + total m L) (map (numbered m o L) (throughout one skip L)) (omega arith) (throughout_within m one law L skip o)

when_within : (lo hi : ℕ) (f : Position → ℕ) (b : Bool) (all : List Position) → lo ≤ hi → Within lo hi (map f all) → Within lo hi (map f (when b all))
unfolding when Within
when_within lo hi f true all l w = w
when_within lo hi f false all l w = l

itself_within : (m : Numbering) → Lawful m → (w : Want) → OneWithin m (itself w)
unfolding itself Within ◌before◌ numbered
itself_within m k w skip o (ambient_element s a A) C = omega arith
itself_within m k w skip o (process_element P) C = omega arith
itself_within m k w skip o (blocked_element β Q) C =
    let p = k.positive (blocked_element β Q) in
    when_within o (o + m.width (blocked_element β Q)) (numbered m o (blocked_then β Q C)) (matches w β) (here ∷ []) (omega arith) (omega arith, omega arith)

answers_in_within : (m : Numbering) → Lawful m → (w : Want) (o : ℕ) (L : Elements) → Within o (o + total m L) (map (numbered m o L) (answers_in w L))
unfolding answers_in
answers_in_within m k w o L = throughout_within m (itself w) (itself_within m k w) L none o

pub inside_numbers : (m : Numbering) (o : ℕ) (s : Status) (a : Reference) (A C : Elements) (all : List Position) → map (numbered m o (ambient_then s a A C)) (map inside all) ≡ map (numbered m (o + m.header) A) all
unfolding numbered
inside_numbers m o s a A C all = map-map (numbered m o (ambient_then s a A C)) inside all

contained_within : (m : Numbering) → Lawful m → (w : Want) (n : Option Reference) → OneWithin m (contained w n)
unfolding contained Within ◌before◌
contained_within m k w n skip o (process_element P) C = omega arith
contained_within m k w n skip o (blocked_element β Q) C = omega arith
contained_within m k w n skip o (ambient_element s a A) C =
    let E = ambient_element s a A in
    let c = k.encloses s a A in
    let lo = o + m.header in
    let hi = (o + m.header) + total m A in
    when_within o (o + m.width E) (numbered m o (ambient_then s a A C)) (admits skip n a) (map inside (answers_in w A)) (omega arith)
    (subst (Within o (o + m.width E)) (sym (inside_numbers m o s a A C (answers_in w A)))
    (within_wider (o + m.header) o ((o + m.header) + total m A) (o + m.width E) (map (numbered m (o + m.header) A) (answers_in w A)) (omega arith) (omega arith) (answers_in_within m k w (o + m.header) A)))

-- The answers

look_ascends : (m : Numbering) → Lawful m → (d : Standing) (w : Want) (n : Option Reference) (f : Frame) → AscendingFrom 0 (map (numbered m (start_of m f) (list_of f)) (look d w n f))
unfolding look answers_in answers_among
look_ascends m k sibling w n f = throughout_ascends m (contained w n) (contained_within m k w n) (some (index_of f)) (start_of m f) (list_of f)
look_ascends m k outside w n f = throughout_ascends m (itself w) (itself_within m k w) none (start_of m f) (list_of f)
look_ascends m k child w n f = throughout_ascends m (contained w n) (contained_within m k w n) none (start_of m f) (list_of f)

-- a frame that is around or the same, with what stands there, or none
pub data FramedIf (L : Elements) : Option Frame → Type 0 where
  unframed : FramedIf L none
  framed_by : {f : Frame} {D : Element} → Framed L f → Stands D f → FramedIf L (some f)

outer_framed : {L : Elements} {f : Frame} → Framed L f → FramedIf L (outer f)
unfolding outer
outer_framed (at_root i) = unframed
outer_framed (in_ambient F h i) = framed_by F h

arena_framed : {L : Elements} {f : Frame} {D : Element} (d : Standing) → Framed L f → Stands D f → FramedIf L (arena d f)
unfolding arena
arena_framed sibling F h = outer_framed F
arena_framed outside F h = outer_framed F
arena_framed child F h = framed_by F h

allowed_framed : {L : Elements} (e : Bool) {o : Option Frame} → FramedIf L o → FramedIf L (allowed e o)
unfolding allowed
allowed_framed e unframed = unframed
allowed_framed false (framed_by F h) = framed_by F h
allowed_framed true (framed_by (at_root i) h) = unframed
allowed_framed true (framed_by (in_ambient F g i) h) = framed_by (in_ambient F g i) h

pub meeting_framed : {L : Elements} {f : Frame} {D : Element} (α : Action) → Framed L f → Stands D f → FramedIf L (allowed (inside_only (kind_of α)) (arena (standing_of (kind_of α)) f))
meeting_framed α F h = allowed_framed (inside_only (kind_of α)) (arena_framed (standing_of (kind_of α)) F h)

pub look_numbers : (m : Numbering) {L : Elements} {f : Frame} (all : List Position) → Framed L f → map (numbered m 0 L) (map (put f) all) ≡ map (numbered m (start_of m f) (list_of f)) all
look_numbers m {L} {f} all F = map-map (numbered m 0 L) (put f) all ∙ map_same (λ j. numbered m 0 L (put f j)) (numbered m (start_of m f) (list_of f)) all (λ j. numbered_put m j F)

look_from_ascends : (m : Numbering) → Lawful m → {L : Elements} (d : Standing) (w : Want) (n : Option Reference) {o : Option Frame} → FramedIf L o → AscendingFrom 0 (map (numbered m 0 L) (look_from d w n o))
unfolding look_from AscendingFrom
look_from_ascends m k d w n unframed = tt
look_from_ascends m k d w n (framed_by {f = f} F h) = subst (AscendingFrom 0) (sym (look_numbers m (look d w n f) F)) (look_ascends m k d w n f)

pub answers_ascend : AnswersAscend
unfolding answers seek
answers_ascend m k s L π α P e =
    let x = frame_of_framed L π (standing s α P) e in
    look_from_ascends m k (standing_of (kind_of α)) (want_of (frame_of L π) α) (target α) (meeting_framed α x.framed x.stands)

-- No two elements have one number

pub numbered_from : (m : Numbering) (o : ℕ) (L : Elements) (π : Position) → o ≤ numbered m o L π
unfolding numbered
numbered_from m o empty π = omega arith
numbered_from m o (ambient_then s a A C) here = omega arith
numbered_from m o (ambient_then s a A C) (later π) = let l = numbered_from m (o + m.width (ambient_element s a A)) C π in omega arith
numbered_from m o (ambient_then s a A C) (inside π) = let l = numbered_from m (o + m.header) A π in omega arith
numbered_from m o (process_then P C) here = omega arith
numbered_from m o (process_then P C) (later π) = let l = numbered_from m (o + m.width (process_element P)) C π in omega arith
numbered_from m o (process_then P C) (inside π) = omega arith
numbered_from m o (blocked_then β Q C) here = omega arith
numbered_from m o (blocked_then β Q C) (later π) = let l = numbered_from m (o + m.width (blocked_element β Q)) C π in omega arith
numbered_from m o (blocked_then β Q C) (inside π) = omega arith

numbered_below : (m : Numbering) → Lawful m → {E : Element} (o : ℕ) {π : Position} {L : Elements} → At E π L → numbered m o L π < o + total m L
unfolding numbered ◌before◌
numbered_below m k {E} o (at_start C) = let p = k.positive E in let h = numbered_here m o E C in let t = total_before m E C in omega arith
numbered_below m k o (at_later D {C = C} {π = π} x) =
    let b = numbered_below m k (o + m.width D) x in
    let h = numbered_later m o D C π in
    let t = total_before m D C in
    omega arith
numbered_below m k o (at_inside s a {A = A} C x) =
    let b = numbered_below m k (o + m.header) x in
    let c = k.encloses s a A in
    let t = total_before m (ambient_element s a A) C in
    omega arith

-- what is behind the first element has a higher number
behind_higher : (m : Numbering) → Lawful m → (o : ℕ) (E : Element) (C : Elements) (π : Position) → ¬ (o ≡ numbered m (o + m.width E) C π)
behind_higher m k o E C π s = let p = k.positive E in let l = numbered_from m (o + m.width E) C π in omega arith

-- and so has what is in it
inside_higher : (m : Numbering) → Lawful m → (o : ℕ) (A : Elements) (π : Position) → ¬ (o ≡ numbered m (o + m.header) A π)
inside_higher m k o A π s = let p = k.deepens in let l = numbered_from m (o + m.header) A π in omega arith

-- but lower than what is behind it
inside_lower : (m : Numbering) → Lawful m → (o : ℕ) (s : Status) (a : Reference) {A : Elements} (C : Elements) {π : Position} (κ : Position) {E : Element} → At E π A →
    ¬ (numbered m (o + m.header) A π ≡ numbered m (o + m.width (ambient_element s a A)) C κ)
inside_lower m k o s a {A} C κ x f =
    let b = numbered_below m k (o + m.header) x in
    let c = k.encloses s a A in
    let l = numbered_from m (o + m.width (ambient_element s a A)) C κ in
    omega arith

numbers_differ_law : (m : Numbering) → Lawful m → {E : Element} (o : ℕ) {L : Elements} {π : Position} → At E π L → (κ : Position) (D : Element) → element_at L κ ≡ some D →
    numbered m o L π ≡ numbered m o L κ → π ≡ κ
unfolding numbered element_at ◌before◌
numbers_differ_law m k o (at_start C) here D d r = refl
numbers_differ_law m k {E = E} o (at_start C) (later κ) D d r = absurd (behind_higher m k o E C κ (sym (numbered_here m o E C) ∙ r ∙ numbered_later m o E C κ))
numbers_differ_law m k {E = ambient_element s a A} o (at_start C) (inside κ) D d r = absurd (inside_higher m k o A κ r)
numbers_differ_law m k {E = process_element P} o (at_start C) (inside κ) D d r = absurd (none-ne-some D d)
numbers_differ_law m k {E = blocked_element β Q} o (at_start C) (inside κ) D d r = absurd (none-ne-some D d)
numbers_differ_law m k o (at_later F {C = C} {π = π} x) here D d r = absurd (behind_higher m k o F C π (sym (numbered_here m o F C) ∙ sym r ∙ numbered_later m o F C π))
numbers_differ_law m k o (at_later F {C = C} {π = π} x) (later κ) D d r =
    ap later (numbers_differ_law m k (o + m.width F) x κ D (sym (element_at_later F C κ) ∙ d) (sym (numbered_later m o F C π) ∙ r ∙ numbered_later m o F C κ))
numbers_differ_law m k o (at_later (ambient_element s a A) {C = C} {π = π} x) (inside κ) D d r = absurd (inside_lower m k o s a C π (element_at_at A κ D d) (sym r))
numbers_differ_law m k o (at_later (process_element P) x) (inside κ) D d r = absurd (none-ne-some D d)
numbers_differ_law m k o (at_later (blocked_element β Q) x) (inside κ) D d r = absurd (none-ne-some D d)
numbers_differ_law m k o (at_inside s a {A = A} C {π = π} x) here D d r = absurd (inside_higher m k o A π (sym r))
numbers_differ_law m k o (at_inside s a C x) (later κ) D d r = absurd (inside_lower m k o s a C κ x r)
numbers_differ_law m k o (at_inside s a C x) (inside κ) D d r = ap inside (numbers_differ_law m k (o + m.header) x κ D d r)

pub numbers_differ : NumbersDiffer
numbers_differ m k L π κ E D e d r = numbers_differ_law m k 0 (element_at_at L π E e) κ D d r

-- Places

numbered_place : (o : ℕ) (L : Elements) (π : Position) → numbered by_place o L π ≡ o + place L π
unfolding numbered by_place place size ◌before◌
numbered_place o empty π = omega arith
numbered_place o (ambient_then s a A C) here = omega arith
numbered_place o (ambient_then s a A C) (later π) = let e = numbered_place (o + suc (size A + 0)) C π in omega arith
numbered_place o (ambient_then s a A C) (inside π) = let e = numbered_place (o + 1) A π in omega arith
numbered_place o (process_then P C) here = omega arith
numbered_place o (process_then P C) (later π) = let e = numbered_place (o + 1) C π in omega arith
numbered_place o (process_then P C) (inside π) = omega arith
numbered_place o (blocked_then β Q C) here = omega arith
numbered_place o (blocked_then β Q C) (later π) = let e = numbered_place (o + 1) C π in omega arith
numbered_place o (blocked_then β Q C) (inside π) = omega arith

total_size : (L : Elements) → total by_place L ≡ size L
unfolding total by_place size ◌before◌
total_size empty = refl
total_size (ambient_then s a A C) = let e = total_size C in omega arith
total_size (process_then P C) = let e = total_size C in omega arith
total_size (blocked_then β Q C) = let e = total_size C in omega arith

place_positive : (E : Element) → 0 < by_place.width E
unfolding by_place size ◌before◌
place_positive (ambient_element s a A) = omega arith
place_positive (process_element P) = omega arith
place_positive (blocked_element β Q) = omega arith

place_encloses : (s : Status) (a : Reference) (A : Elements) → by_place.header + total by_place A ≤ by_place.width (ambient_element s a A)
unfolding by_place size ◌before◌
place_encloses s a A = let e = total_size A in omega arith

pub places_number : PlacesNumber
places_number = (record { positive = place_positive; deepens = unfold by_place in omega arith; encloses = place_encloses }, λ L π. let e = numbered_place 0 L π in omega arith)
