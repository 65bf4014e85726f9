-- Laws of `edit`, by where the offsets of a plan lie.
use mathlib.Core.Path.{◌≡◌, refl, sym, ap, ◌∙◌}
use mathlib.Core.Bool.{Bool, true, false}
use mathlib.Core.Logic.{◌⊎◌, inl, inr}
use mathlib.Core.List.{List}
use Rattle.std.specs.Prelude.{Option, Some, None, IfSome}
use Rattle.std.proofs.lemmas.Option.{IfSome_then}
use Prim.Native.Nat.{ℕ, ◌+◌, ◌≤◌, ◌<◌}
use native.Mathlib.Omega.{arith}
use borrow.Author.Tests.{lt-ltb, le-ltb, eq-eqb, ne_eqb}
use lib.Dec.{ltb, eqb}
use Rattle.calculus.specs.Processes.{Reference, Action, Process, action}
use Rattle.machine.specs.Elements.{Status, unblocked, Elements, empty, ambient_then, process_then, blocked_then, Element, ambient_element, process_element, blocked_element, ◌before◌, ◌then◌, only, Position, unblock}
use Rattle.machine.specs.Rules.{Replace, replaced, kept, ReplaceBoth, replaced_left, replaced_right, kept_both}
use Rattle.machine.specs.Tests.{◌or◌, pick}
use Rattle.machine.proofs.Tests.{true_or, and_false}
use Rattle.machine.proofs.Lists.{only_then, then_associative, replace_has, replace_both_both}
use Rattle.rewriting.specs.declared.Plan.{Plan}
use Rattle.places.specs.Offsets.{width, offset}
use Rattle.turning.specs.Turning.{turned}
use Rattle.rewriting.specs.Editing.{stands_at, marked, between, lies_between, holds, ambient_at, blocked_at, behind_at, edit}
use Rattle.places.proofs.Widths.{bytes, length_before, width_least}
use Rattle.places.proofs.Offsets.{offset_here, offset_later, has_within, both_within}

-- The offsets

-- a fact of each of them
pub record Each (F : ℕ → Type 0) (k : Plan) : Type 0 where
  pub first : F k.first
  pub second : IfSome k.second F
  pub cut : IfSome k.cut F
  pub after : IfSome k.after F

pub each_map : {F G : ℕ → Type 0} {k : Plan} → ((m : ℕ) → F m → G m) → Each F k → Each G k
each_map {k = k} f e = record { first = f k.first e.first; second = IfSome_then k.second e.second f; cut = IfSome_then k.cut e.cut f; after = IfSome_then k.after e.after f }

abbrev pub Outside : ℕ → ℕ → ℕ → Type 0
Outside low high m = (m < low) ⊎ (high ≤ m)

pub outside_narrow : (low high low' high' : ℕ) → low ≤ low' → high' ≤ high → (m : ℕ) → Outside low high m → Outside low' high' m
outside_narrow low high low' high' l r m (inl h) = inl (omega arith)
outside_narrow low high low' high' l r m (inr h) = inr (omega arith)

-- in the element of v bytes at c, or outside a range
abbrev pub Among : ℕ → ℕ → ℕ → ℕ → ℕ → Type 0
Among low high c v m = ((c ≤ m) × (m < c + v)) ⊎ Outside low high m

pub among_here : {low high : ℕ} (c : ℕ) (E : Element) → Among low high c (width E) c
among_here c E = inl (omega (arith, width_least E))

pub among_narrow : (low high low' high' c v : ℕ) → low ≤ low' → high' ≤ high → (m : ℕ) → Among low high c v m → Among low' high' c v m
among_narrow low high low' high' c v l r m (inl h) = inl h
among_narrow low high low' high' c v l r m (inr h) = inr (outside_narrow low high low' high' l r m h)

pub among_wider : (low high c v c' v' : ℕ) → c' ≤ c → c + v ≤ c' + v' → (m : ℕ) → Among low high c v m → Among low high c' v' m
among_wider low high c v c' v' l r m (inl h) = inl (omega arith)
among_wider low high c v c' v' l r m (inr h) = inr h

-- a range beside the element, and an offset before it
among_outside : (low high c v low' high' : ℕ) → low ≤ low' → high' ≤ high → (c + v ≤ low') ⊎ (high' ≤ c) → (m : ℕ) → Among low high c v m → Outside low' high' m
among_outside low high c v low' high' l r (inl e) m (inl h) = inl (omega arith)
among_outside low high c v low' high' l r (inr e) m (inl h) = inr (omega arith)
among_outside low high c v low' high' l r e m (inr h) = outside_narrow low high low' high' l r m h

pub among_other : (low high c v o : ℕ) → low ≤ o → o < high → o < c → (m : ℕ) → Among low high c v m → ¬ (o ≡ m)
among_other low high c v o l r b m (inl h) = λ e. omega arith
among_other low high c v o l r b m (inr (inl h)) = λ e. omega arith
among_other low high c v o l r b m (inr (inr h)) = λ e. omega arith

-- none of them lies in a range
abbrev Quiet : Plan → ℕ → ℕ → Type 0
Quiet k low high = Each (Outside low high) k

narrow : (k : Plan) (low high low' high' : ℕ) → low ≤ low' → high' ≤ high → Quiet k low high → Quiet k low' high'
narrow k low high low' high' l r e = each_map (outside_narrow low high low' high' l r) e

-- Tests of an offset

outside_other : (o high m : ℕ) → o < high → Outside o high m → ¬ (o ≡ m)
outside_other o high m l (inl h) = λ e. omega arith
outside_other o high m l (inr h) = λ e. omega arith

-- one that may be none is o
here_at : {p : Option ℕ} {o : ℕ} → p ≡ Some o → stands_at p o ≡ true
here_at {o = o} e = rw e (eq-eqb o o refl)

-- one that may be none is not o
abbrev pub Away : ℕ → Option ℕ → Type 0
Away o p = IfSome p (λ (m : ℕ). ¬ (o ≡ m))

away_at : (p : Option ℕ) (o : ℕ) → Away o p → stands_at p o ≡ false
away_at None o h = refl
away_at (Some m) o h = ne_eqb m o (λ e. h (sym e))

outside_between : (low high m : ℕ) → Outside low high m → between low m high ≡ false
unfolding between
outside_between low high m (inl h) = rw (le-ltb low m (omega arith))
outside_between low high m (inr h) = rw (le-ltb m high h) (and_false (ltb low m))

outside_lies : (low high : ℕ) (p : Option ℕ) → IfSome p (Outside low high) → lies_between low p high ≡ false
unfolding lies_between
outside_lies low high None h = refl
outside_lies low high (Some m) h = outside_between low high m h

is_between : (low m high : ℕ) → low < m → m < high → between low m high ≡ true
unfolding between
is_between low m high l r = rw (lt-ltb low m l, lt-ltb m high r)

lies_in : {p : Option ℕ} (low m high : ℕ) → p ≡ Some m → low < m → m < high → lies_between low p high ≡ true
unfolding lies_between
lies_in low m high e l r = rw e (is_between low m high l r)

or_false : {a b : Bool} → a ≡ false → b ≡ false → a or b ≡ false
or_false e f = rw (e, f)

-- an element that is turned stands at m
abbrev pub Marks : Plan → ℕ → Type 0
Marks k m = (k.first ≡ m) ⊎ (k.second ≡ Some m)

pub marks : (k : Plan) (o : ℕ) → Marks k o → marked k o ≡ true
unfolding marked
marks k o (inl e) = true_or (eqb o k.first) (stands_at k.second o) (inl (eq-eqb o k.first (sym e)))
marks k o (inr e) = true_or (eqb o k.first) (stands_at k.second o) (inr (here_at e))

pub held_mark : (k : Plan) (low m high : ℕ) → low < m → m < high → Marks k m → holds k low high ≡ true
unfolding holds
held_mark k low m high l r (inl e) = true_or (between low k.first high) (lies_between low k.second high) (inl (rw e (is_between low m high l r)))
held_mark k low m high l r (inr e) = true_or (between low k.first high) (lies_between low k.second high) (inr (lies_in low m high e l r))

-- none of the offsets is o
abbrev Elsewhere : ℕ → Plan → Type 0
Elsewhere o k = Each (λ m. ¬ (o ≡ m)) k

quiet_elsewhere : (k : Plan) (o high : ℕ) → o < high → Quiet k o high → Elsewhere o k
quiet_elsewhere k o high l q = each_map (λ m. outside_other o high m l) q

pub unmarked : (k : Plan) (o : ℕ) → ¬ (o ≡ k.first) → Away o k.second → marked k o ≡ false
unfolding marked
unmarked k o e f = or_false (ne_eqb o k.first e) (away_at k.second o f)

quiet_holds : (k : Plan) (low high : ℕ) → Quiet k low high → holds k low high ≡ false
unfolding holds
quiet_holds k low high q = or_false (outside_between low high k.first q.first) (outside_lies low high k.second q.second)

-- An element that may be unblocked

unfoldable pub unblock_if : Bool → Elements → Elements
unblock_if true L = unblock L
unblock_if false L = L

unblock_then : (A C : Elements) → unblock (A then C) ≡ unblock A then unblock C
unfolding unblock ◌then◌
unblock_then empty C = refl
unblock_then (ambient_then s a A D) C = ap (ambient_then s a A) (unblock_then D C)
unblock_then (process_then P D) C = ap (process_then P) (unblock_then D C)
unblock_then (blocked_then α P D) C = ap (process_then (action α P)) (unblock_then D C)

unblock_if_then : (w : Bool) (A C : Elements) → unblock_if w (A then C) ≡ unblock_if w A then unblock_if w C
unfolding unblock_if
unblock_if_then true A C = unblock_then A C
unblock_if_then false A C = refl

-- One element by itself

-- what becomes of the element at the offset o
unfoldable pub edited : Plan → List Reference → Elements → Bool → ℕ → Element → Elements
edited k ns Z w o (ambient_element s a A) =
    pick (marked k o) (turned k.block ns (ambient_element s a A))
    (ambient_at k o (ambient_element s a A) (ambient_element unblocked a (edit k ns Z false (o + 5) A)))
edited k ns Z w o (process_element P) = pick (marked k o) (turned k.block ns (process_element P)) (only (process_element P))
edited k ns Z w o (blocked_element α P) = pick (marked k o) (turned k.block ns (blocked_element α P)) (blocked_at w α P)

-- with what is set down behind it
abbrev pub placed : Plan → List Reference → Elements → Bool → ℕ → Element → Elements
placed k ns Z w o E = edited k ns Z w o E then behind_at k Z o

edit_first : (k : Plan) (ns : List Reference) (Z : Elements) (w : Bool) (o : ℕ) (E : Element) (C : Elements) → edit k ns Z w o (E before C) ≡ edited k ns Z w o E then (behind_at k Z o then edit k ns Z w (o + width E) C)
unfolding edit edited ◌before◌
edit_first k ns Z w o (ambient_element s a A) C = refl
edit_first k ns Z w o (process_element P) C = refl
edit_first k ns Z w o (blocked_element α P) C = refl

edit_step : (k : Plan) (ns : List Reference) (Z : Elements) (w : Bool) (o : ℕ) (E : Element) (X C C' : Elements) → placed k ns Z w o E ≡ unblock_if w X → edit k ns Z w (o + width E) C ≡ unblock_if w C' →
    edit k ns Z w o (E before C) ≡ unblock_if w (X then C')
edit_step k ns Z w o E X C C' e f =
    edit_first k ns Z w o E C ∙ sym (then_associative (edited k ns Z w o E) (behind_at k Z o) (edit k ns Z w (o + width E) C))
    ∙ ap (λ (Y : Elements). Y then edit k ns Z w (o + width E) C) e ∙ ap (λ (Y : Elements). unblock_if w X then Y) f ∙ sym (unblock_if_then w X C')

-- behind an element

then_empty : (A : Elements) → A then empty ≡ A
unfolding ◌then◌
then_empty empty = refl
then_empty (ambient_then s a A C) = ap (ambient_then s a A) (then_empty C)
then_empty (process_then P C) = ap (process_then P) (then_empty C)
then_empty (blocked_then α P C) = ap (blocked_then α P) (then_empty C)

pub nothing_behind : (k : Plan) (Z : Elements) (o : ℕ) (X : Elements) → Away o k.after → X then behind_at k Z o ≡ X
unfolding behind_at
nothing_behind k Z o X e = rw (away_at k.after o e) (then_empty X)

pub moved_behind : (k : Plan) (Z : Elements) (o : ℕ) → k.after ≡ Some o → behind_at k Z o ≡ Z
unfolding behind_at
moved_behind k Z o e = rw (here_at e)

-- an element that is turned, taken out, opened, or left
pub edited_turned : (k : Plan) (ns : List Reference) (Z : Elements) (w : Bool) (o : ℕ) (E : Element) → marked k o ≡ true → edited k ns Z w o E ≡ turned k.block ns E
unfolding edited
edited_turned k ns Z w o (ambient_element s a A) e = rw e
edited_turned k ns Z w o (process_element P) e = rw e
edited_turned k ns Z w o (blocked_element α P) e = rw e

pub edited_cut : (k : Plan) (ns : List Reference) (Z : Elements) (w : Bool) (o : ℕ) (s : Status) (a : Reference) (A : Elements) → marked k o ≡ false → k.cut ≡ Some o → edited k ns Z w o (ambient_element s a A) ≡ empty
unfolding edited ambient_at
edited_cut k ns Z w o s a A e f = rw (e, here_at f)

pub edited_held : (k : Plan) (ns : List Reference) (Z : Elements) (w : Bool) (o : ℕ) (s : Status) (a : Reference) (A : Elements) → marked k o ≡ false → Away o k.cut →
    holds k o (o + width (ambient_element s a A)) ≡ true → edited k ns Z w o (ambient_element s a A) ≡ only (ambient_element unblocked a (edit k ns Z false (o + 5) A))
unfolding edited ambient_at
edited_held k ns Z w o s a A e f h = rw (e, away_at k.cut o f, h)

blocked_unblock_if : (w : Bool) (α : Action) (P : Process) → blocked_at w α P ≡ unblock_if w (only (blocked_element α P))
unfolding blocked_at unblock_if unblock ◌before◌
blocked_unblock_if true α P = refl
blocked_unblock_if false α P = refl

edited_quiet : (k : Plan) (ns : List Reference) (Z : Elements) (w : Bool) (o : ℕ) (E : Element) → marked k o ≡ false → Away o k.cut → holds k o (o + width E) ≡ false → edited k ns Z w o E ≡ unblock_if w (only E)
unfolding edited ambient_at unblock_if unblock ◌before◌
edited_quiet k ns Z true o (ambient_element s a A) e f h = rw (e, away_at k.cut o f, h)
edited_quiet k ns Z false o (ambient_element s a A) e f h = rw (e, away_at k.cut o f, h)
edited_quiet k ns Z true o (process_element P) e f h = rw e
edited_quiet k ns Z false o (process_element P) e f h = rw e
edited_quiet k ns Z w o (blocked_element α P) e f h = rw e (blocked_unblock_if w α P)

quiet_placed : (k : Plan) (ns : List Reference) (Z : Elements) (w : Bool) (o : ℕ) (E : Element) → Quiet k o (o + width E) → placed k ns Z w o E ≡ unblock_if w (only E)
quiet_placed k ns Z w o E q =
    let p = width_least E in
    let e = quiet_elsewhere k o (o + width E) (omega arith) q in
    nothing_behind k Z o (edited k ns Z w o E) e.after ∙ edited_quiet k ns Z w o E (unmarked k o e.first e.second) e.cut (quiet_holds k o (o + width E) q)

-- A list

-- the first element is left, and what is behind it is done
quiet_step : (k : Plan) (ns : List Reference) (Z : Elements) (w : Bool) (o : ℕ) (E : Element) (C C' : Elements) → Quiet k o (o + width E) → edit k ns Z w (o + width E) C ≡ unblock_if w C' →
    edit k ns Z w o (E before C) ≡ unblock_if w (E before C')
quiet_step k ns Z w o E C C' q e = edit_step k ns Z w o E (only E) C C' (quiet_placed k ns Z w o E q) e ∙ ap (unblock_if w) (only_then E C')

quiet_first : (k : Plan) (ns : List Reference) (Z : Elements) (w : Bool) (o : ℕ) (E : Element) (C : Elements) →
    (Quiet k (o + width E) (o + width E + bytes C) → edit k ns Z w (o + width E) C ≡ unblock_if w C) → Quiet k o (o + bytes (E before C)) → edit k ns Z w o (E before C) ≡ unblock_if w (E before C)
quiet_first k ns Z w o E C f q =
    let b = length_before E C in
    quiet_step k ns Z w o E C C (narrow k o (o + bytes (E before C)) o (o + width E) (omega arith) (omega arith) q)
    (f (narrow k o (o + bytes (E before C)) (o + width E) (o + width E + bytes C) (omega arith) (omega arith) q))

-- none of the offsets lies in the list
quiet_edit : (k : Plan) (ns : List Reference) (Z : Elements) (w : Bool) (o : ℕ) (L : Elements) → Quiet k o (o + bytes L) → edit k ns Z w o L ≡ unblock_if w L
unfolding edit unblock_if unblock ◌before◌
quiet_edit k ns Z true o empty q = refl
quiet_edit k ns Z false o empty q = refl
quiet_edit k ns Z w o (ambient_then s a A C) q = quiet_first k ns Z w o (ambient_element s a A) C (λ c. quiet_edit k ns Z w (o + width (ambient_element s a A)) C c) q
quiet_edit k ns Z w o (process_then P C) q = quiet_first k ns Z w o (process_element P) C (λ c. quiet_edit k ns Z w (o + width (process_element P)) C c) q
quiet_edit k ns Z w o (blocked_then α P C) q = quiet_first k ns Z w o (blocked_element α P) C (λ c. quiet_edit k ns Z w (o + width (blocked_element α P)) C c) q

-- they lie in one element of the list, or outside the list
pub replace_edit : {E : Element} {X A A' : Elements} {i : Position} (k : Plan) (ns : List Reference) (Z : Elements) (w : Bool) (o : ℕ) → Replace E X i A A' →
    Each (Among o (o + bytes A) (offset o A i) (width E)) k → placed k ns Z w (offset o A i) E ≡ unblock_if w X → edit k ns Z w o A ≡ unblock_if w A'
replace_edit {E} {X} k ns Z w o (replaced C) s e =
    let h = offset_here o E C in
    let b = length_before E C in
    let high = o + bytes (E before C) in
    edit_step k ns Z w o E X C C (rw h at e)
    (quiet_edit k ns Z w (o + width E) C (each_map (among_outside o high o (width E) (o + width E) (o + width E + bytes C) (omega arith) (omega arith) (inl (omega arith))) (rw h at s)))
replace_edit {E} {X} k ns Z w o (kept D {C = C} {C' = C'} {p = i} t) s e =
    let h = offset_later o D C i in
    let b = length_before D C in
    let m = has_within (o + width D) (replace_has t) in
    let c = offset (o + width D) C i in
    let high = o + bytes (D before C) in
    let s' : Each (Among o high c (width E)) k = rw h at s in
    quiet_step k ns Z w o D C C' (each_map (among_outside o high c (width E) o (o + width D) (omega arith) (omega arith) (inr (omega arith))) s')
    (replace_edit k ns Z w (o + width D) t (each_map (among_narrow o high (o + width D) (o + width D + bytes C) c (width E) (omega arith) (omega arith)) s') (rw h at e))

-- in one of two elements of the list, at c and at d, or outside the list
pub data Spread (low high c v d w m : ℕ) : Type 0 where
  outside : Outside low high m → Spread low high c v d w m
  in_first : c ≤ m → m < c + v → Spread low high c v d w m
  in_second : d ≤ m → m < d + w → Spread low high c v d w m

spread_swap : (low high c v d w m : ℕ) → Spread low high c v d w m → Spread low high d w c v m
spread_swap low high c v d w m (outside h) = outside h
spread_swap low high c v d w m (in_first l r) = in_second l r
spread_swap low high c v d w m (in_second l r) = in_first l r

spread_narrow : (low high c v d w low' high' : ℕ) → low ≤ low' → high' ≤ high → (m : ℕ) → Spread low high c v d w m → Spread low' high' c v d w m
spread_narrow low high c v d w low' high' l r m (outside h) = outside (outside_narrow low high low' high' l r m h)
spread_narrow low high c v d w low' high' l r m (in_first x y) = in_first x y
spread_narrow low high c v d w low' high' l r m (in_second x y) = in_second x y

-- a range beside both
spread_outside : (low high c v d w low' high' : ℕ) → low ≤ low' → high' ≤ high → (c + v ≤ low') ⊎ (high' ≤ c) → (d + w ≤ low') ⊎ (high' ≤ d) →
    (m : ℕ) → Spread low high c v d w m → Outside low' high' m
spread_outside low high c v d w low' high' l r e f m (outside h) = outside_narrow low high low' high' l r m h
spread_outside low high c v d w low' high' l r (inl e) f m (in_first x y) = inl (omega arith)
spread_outside low high c v d w low' high' l r (inr e) f m (in_first x y) = inr (omega arith)
spread_outside low high c v d w low' high' l r e (inl f) m (in_second x y) = inl (omega arith)
spread_outside low high c v d w low' high' l r e (inr f) m (in_second x y) = inr (omega arith)

-- behind the first
spread_second : (low high c v d w low' high' : ℕ) → low ≤ low' → high' ≤ high → c + v ≤ low' → (m : ℕ) → Spread low high c v d w m → Among low' high' d w m
spread_second low high c v d w low' high' l r e m (outside h) = inr (outside_narrow low high low' high' l r m h)
spread_second low high c v d w low' high' l r e m (in_first x y) = inr (inl (omega arith))
spread_second low high c v d w low' high' l r e m (in_second x y) = inl (x, y)

first_both : {D : Element} {Y C C' : Elements} {q : Position} (k : Plan) (ns : List Reference) (Z : Elements) (w : Bool) (o : ℕ) (E : Element) (X : Elements) → Replace D Y q C C' →
    Each (Spread o (o + bytes (E before C)) o (width E) (offset (o + width E) C q) (width D)) k →
    placed k ns Z w o E ≡ unblock_if w X → placed k ns Z w (offset (o + width E) C q) D ≡ unblock_if w Y → edit k ns Z w o (E before C) ≡ unblock_if w (X then C')
first_both {D} {Y} {C} {C'} {q} k ns Z w o E X t s e f =
    let b = length_before E C in
    edit_step k ns Z w o E X C C' e
    (replace_edit k ns Z w (o + width E) t
    (each_map (spread_second o (o + bytes (E before C)) o (width E) (offset (o + width E) C q) (width D) (o + width E) (o + width E + bytes C) (omega arith) (omega arith) (omega arith)) s) f)

pub both_edit : {E D : Element} {X Y L L' : Elements} {p q : Position} (k : Plan) (ns : List Reference) (Z : Elements) (w : Bool) (o : ℕ) → ReplaceBoth E X D Y p q L L' →
    Each (Spread o (o + bytes L) (offset o L p) (width E) (offset o L q) (width D)) k →
    placed k ns Z w (offset o L p) E ≡ unblock_if w X → placed k ns Z w (offset o L q) D ≡ unblock_if w Y → edit k ns Z w o L ≡ unblock_if w L'
both_edit {E} {D} {X} {Y} k ns Z w o (replaced_left {C = C} {q = q} t) s e f =
    let h = offset_here o E C in
    let l = offset_later o E C q in
    first_both k ns Z w o E X t (rw (h, l) at s) (rw h at e) (rw l at f)
both_edit {E} {D} {X} {Y} k ns Z w o (replaced_right {C = C} {p = p} t) s e f =
    let h = offset_here o D C in
    let l = offset_later o D C p in
    let swap = spread_swap o (o + bytes (D before C)) (offset (o + width D) C p) (width E) o (width D) in
    first_both k ns Z w o D Y t (each_map swap (rw (h, l) at s)) (rw h at f) (rw l at e)
both_edit {E} {D} k ns Z w o (kept_both H {C = C} {C' = C'} {p = p} {q = q} t) s e f =
    let l = offset_later o H C p in
    let l' = offset_later o H C q in
    let b = length_before H C in
    let c = offset (o + width H) C p in
    let d = offset (o + width H) C q in
    let high = o + bytes (H before C) in
    let m = both_within (o + width H) (replace_both_both t) in
    let s' : Each (Spread o high c (width E) d (width D)) k = rw (l, l') at s in
    quiet_step k ns Z w o H C C'
    (each_map (spread_outside o high c (width E) d (width D) o (o + width H) (omega arith) (omega arith) (inr (omega arith)) (inr (omega arith))) s')
    (both_edit k ns Z w (o + width H) t
    (each_map (spread_narrow o high c (width E) d (width D) (o + width H) (o + width H + bytes C) (omega arith) (omega arith)) s') (rw l at e) (rw l' at f))
