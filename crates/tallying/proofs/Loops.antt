-- The loops over the elements of a list: how its tally goes on from one element to the next.
use mathlib.Core.Path.{◌≡◌, refl, sym, ap, ◌∙◌}
use mathlib.Core.Bool.{Bool, true, false}
use mathlib.Core.List.{List}
use mathlib.Core.Option.{Option}
use Prim.Native.Nat.{ℕ, ◌+◌, ◌<◌}
use native.Mathlib.Omega.{arith}
use lib.ListN.{length, get_or}
use Rattle.calculus.specs.Processes.{Reference}
use Rattle.machine.specs.Elements.{Status, Elements, empty, Element, ambient_element, process_element, blocked_element, only, ◌before◌}
use Rattle.machine.specs.Answers.{Want as Wish}
use Rattle.machine.specs.Questions.{settled, note, tally_in, tally_among, Question as Query, Tally as Count}
use Rattle.machine.specs.Search.{told_by, told_within}
use Rattle.machine.proofs.search.Loops.{loops_step, settled_stays}
use Rattle.elements.specs.Spelling.{SpellableElements}
use Rattle.elements.specs.Spelled.{Spells}
use Rattle.elements.specs.Each.{First}
use Rattle.elements.proofs.Each.{Remains, begin, go_on, over, element_spelled, ambient_in, inside_spelled}
use Rattle.buffers.proofs.Parts.{from}
use Rattle.places.specs.Offsets.{width, by_bytes}
use Rattle.std.specs.Prelude.{Option as CodeOption}
use Rattle.layouts.specs.Layouts.{name_number}
use Rattle.tallying.specs.declared.Want.{Want}
use Rattle.tallying.specs.Numbers.{Named, Sought, wanted_here, looked_into}
use Rattle.tallying.proofs.Wants.{told_wanted, told_other}

-- the width of an element is the length of its bytes
wide : (E : Element) {x : List ℕ} → Spells x (only E) → width E ≡ length x
unfolding width
wide E p = sym (ap length p.spelled)

-- A tally F of the elements from an offset on, for each i.
module _ {I : Type 0} (F : I → ℕ → Count → Elements → Count) where
  -- At a turn's start, with `rest` left of the bytes s: the tally of all is the tally of what is left, with what is told so far.
  pub record Reached (s rest : List ℕ) (start at : ℕ) (told now : Count) : Type 0 where
    pub offset : at + length rest ≡ start + length s
    pub remains : Remains s rest (λ A B. SpellableElements A → (i : I) → F i start told A ≡ F i at now B)

  pub set_out : {s rest : List ℕ} (start : ℕ) {t u : Count} → rest ≡ s → t ≡ u → Reached s rest start start t u
  set_out start e z = record { offset = omega (arith, ap length e); remains = begin e (λ A h i. ap (λ (v : Count). F i start v A) z) }

  module _ {s rest : List ℕ} {start at : ℕ} {t₀ t : Count} (g : Reached s rest start at t₀ t) where
    pub all_told : ((i : I) (o : ℕ) (u : Count) → F i o u empty ≡ u) → length rest ≡ 0 → (A : Elements) → Spells s A → (i : I) → F i start t₀ A ≡ t
    all_told e h A p i = over g.remains h A p.spelled p.spellable i ∙ e i at t

    module _ {x y : List ℕ} (n : First rest x y) (u : Count) where
      -- with what the next of them adds
      pub told_on : ((E : Element) (C : Elements) → Spells x (only E) → (i : I) → F i at t (E before C) ≡ F i (at + width E) u C) → Reached s y start (at + length x) t₀ u
      told_on f = record {
        offset = omega (arith, g.offset, n.parts);
        remains = go_on g.remains n
            (λ A b w h i.
            let p = element_spelled w (b.spellable h) in
            b.holds h i ∙ ap (F i at t) w.is ∙ f w.element w.others p i ∙ ap (λ (m : ℕ). F i (at + m) u w.others) (wide w.element p));
      }

      -- where the next of them tells all
      pub told_all : ((E : Element) (C : Elements) → Spells x (only E) → (i : I) → F i at t (E before C) ≡ u) → (A : Elements) → Spells s A → (i : I) → F i start t₀ A ≡ u
      told_all f A p i =
          let b = g.remains.of A p.spelled in
          let w = n.begins b.others b.spelled in
          b.holds p.spellable i ∙ ap (F i at t) w.is ∙ f w.element w.others (element_spelled w (b.spellable p.spellable)) i

-- What an element adds, by the test of whether it is wanted
module _ (want : Want) (q : Query) (o : ℕ) (t : Count) {s : List ℕ} {u : Count} {b : Bool}
    (e : (w : Wish) (E : Element) (C : Elements) → Sought want w → Spells s (E before C) → b ≡ wanted_here w E) where
  pub adds_wanted : b ≡ true → u ≡ note q t o → (w : Wish) (E : Element) (C : Elements) → Sought want w → Spells s (E before C) → u ≡ told_by q w o t E
  adds_wanted z d w E C k p = d ∙ told_wanted q w o t E (sym (e w E C k p) ∙ z)

  pub adds_none : b ≡ false → u ≡ t → (w : Wish) (E : Element) (C : Elements) → Sought want w → Spells s (E before C) → u ≡ told_by q w o t E
  adds_none z d w E C k p = d ∙ told_other q w o t E (sym (e w E C k p) ∙ z)

-- Directly in a list

abbrev pub Wishes : Want → Type 0
Wishes want = (w : Wish) × Sought want w

abbrev pub count_in_list : (want : Want) → Query → Wishes want → ℕ → Count → Elements → Count
count_in_list want q i o t A = tally_in by_bytes q i.0 o t A

pub in_none : (want : Want) (q : Query) (i : Wishes want) (o : ℕ) (t : Count) → count_in_list want q i o t empty ≡ t
unfolding tally_in
in_none want q i o t = refl

module _ (want : Want) (q : Query) {s rest : List ℕ} {start at : ℕ} {t₀ t u : Count} (g : Reached (count_in_list want q) s rest start at t₀ t) {x y : List ℕ} (n : First rest x y)
    (e : (w : Wish) (E : Element) (C : Elements) → Sought want w → Spells x (E before C) → u ≡ told_by q w at t E) where
  step_in : (E : Element) (C : Elements) → Spells x (only E) → (i : Wishes want) → count_in_list want q i at t (E before C) ≡ count_in_list want q i (at + width E) u C
  step_in E C p i =
      (loops_step by_bytes q i.0 at t E C).directly
      ∙ ap (λ (v : Count). tally_in by_bytes q i.0 (at + width E) v C) (sym (e i.0 E empty i.1 p))

  pub in_on : Reached (count_in_list want q) s y start (at + length x) t₀ u
  in_on = told_on _ g n u step_in

  -- a settled question is answered
  pub in_settled : settled q u ≡ true → (A : Elements) → Spells s A → (i : Wishes want) → count_in_list want q i start t₀ A ≡ u
  in_settled z = told_all _ g n u (λ E C p i. step_in E C p i ∙ (settled_stays by_bytes q i.0 u z).directly (at + width E) C)

-- In the ambients of a list

abbrev pub Openings : Want → CodeOption ℕ → Type 0
Openings want name = (w : Wish) × (n : Option Reference) × Sought want w × (name ≡ name_number n) × Named n

abbrev pub in_ambients : (want : Want) (name : CodeOption ℕ) → Query → Option ℕ → Openings want name → ℕ → Count → Elements → Count
in_ambients want name q skip i o t A = tally_among by_bytes q i.0 i.1 skip o t A

pub among_none : (want : Want) (name : CodeOption ℕ) (q : Query) (skip : Option ℕ) (i : Openings want name) (o : ℕ) (t : Count) → in_ambients want name q skip i o t empty ≡ t
unfolding tally_among
among_none want name q skip i o t = refl

shut : (q : Query) (w : Wish) (n : Option Reference) (skip : Option ℕ) (o : ℕ) (t : Count) (E : Element) → looked_into skip n o E ≡ false → told_within by_bytes q w n skip o t E ≡ t
unfolding looked_into told_within
shut q w n skip o t (ambient_element s a A) e = rw e
shut q w n skip o t (process_element P) e = refl
shut q w n skip o t (blocked_element β Q) e = refl

open_ambient : (q : Query) (w : Wish) (n : Option Reference) (skip : Option ℕ) (o : ℕ) (t : Count) (s : Status) (a : Reference) (A : Elements) → looked_into skip n o (ambient_element s a A) ≡ true →
    told_within by_bytes q w n skip o t (ambient_element s a A) ≡ tally_in by_bytes q w (o + 5) t A
unfolding looked_into told_within
open_ambient q w n skip o t s a A e = rw e

module _ (want : Want) (name : CodeOption ℕ) (q : Query) (skip : Option ℕ) {s rest : List ℕ} {start at : ℕ} {t₀ t : Count}
    (g : Reached (in_ambients want name q skip) s rest start at t₀ t) {x y : List ℕ} (n : First rest x y) {b : Bool}
    (e : (r : Option Reference) (E : Element) (C : Elements) → name ≡ name_number r → Named r → Spells x (E before C) → b ≡ looked_into skip r at E) where
  -- not looked into
  pub among_past : b ≡ false → {u : Count} → t ≡ u → Reached (in_ambients want name q skip) s y start (at + length x) t₀ u
  among_past z {u} d = told_on _ g n u (λ E C p i.
      (loops_step by_bytes q i.0 at t E C).in_ambients i.1 skip
      ∙ ap (λ (v : Count). tally_among by_bytes q i.0 i.1 skip (at + width E) v C) (shut q i.0 i.1 skip at t E (sym (e i.1 E empty i.3 i.4 p) ∙ z) ∙ d))

  -- looked into, with the tally u of what it holds
  module _ (z : b ≡ true) (c : get_or x 0 0 < 0x42) (u : Count) (f : (B : Elements) → Spells (from x 5) B → (j : Wishes want) → count_in_list want q j (at + 5) t B ≡ u) where
    step_among : (E : Element) (C : Elements) → Spells x (only E) → (i : Openings want name) → in_ambients want name q skip i at t (E before C) ≡ in_ambients want name q skip i (at + width E) u C
    step_among E C p i =
        let v = ambient_in E x p.spelled c in
        let l : looked_into skip i.1 at (ambient_element v.status v.called v.inside) ≡ true = ap (looked_into skip i.1 at) (sym v.is) ∙ sym (e i.1 E empty i.3 i.4 p) ∙ z in
        (loops_step by_bytes q i.0 at t E C).in_ambients i.1 skip
        ∙ ap (λ (k : Count). tally_among by_bytes q i.0 i.1 skip (at + width E) k C)
        (ap (told_within by_bytes q i.0 i.1 skip at t) v.is ∙ open_ambient q i.0 i.1 skip at t v.status v.called v.inside l ∙ f v.inside (inside_spelled E p c) (i.0, i.2))

    pub among_on : Reached (in_ambients want name q skip) s y start (at + length x) t₀ u
    among_on = told_on _ g n u step_among

    -- a settled question is answered
    pub among_settled : settled q u ≡ true → (A : Elements) → Spells s A → (i : Openings want name) → in_ambients want name q skip i start t₀ A ≡ u
    among_settled d = told_all _ g n u (λ E C p i. step_among E C p i ∙ (settled_stays by_bytes q i.0 u d).in_ambients i.1 skip (at + width E) C)
