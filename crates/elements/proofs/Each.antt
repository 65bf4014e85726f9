-- The elements of a list one by one: the first of them, what is left behind it, and how a loop along them goes on.
use mathlib.Core.Path.{◌≡◌, refl, sym, ap, ◌∙◌, subst}
use mathlib.Core.List.{List, [], ◌∷◌, ◌++◌, append-nil}
use Prim.Native.Nat.{ℕ, ◌+◌, ◌≤◌, ◌<◌}
use native.Mathlib.Omega.{arith}
use lib.ListN.{length, get_or, take, drop, length-take, length-drop}
use denote.Ref.{Bor}
use Rattle.std.specs.Prelude.{Option}
use Rattle.std.proofs.lemmas.Iterator.{YieldsList}
use Rattle.std.specs.Iterator.{AlwaysYields}
use Rattle.calculus.specs.Processes.{Reference, Action, Process}
use Rattle.machine.specs.Elements.{Status, unblocked, blocked, Element, ambient_element, process_element, blocked_element, Elements, empty, ambient_then, process_then, blocked_then, only, ◌before◌}
use Rattle.buffers.specs.Words.{word, field}
use Rattle.buffers.proofs.Parts.{part_all, length_part, from}
use Rattle.format.specs.Spelling.{word_limit, reference_number, encode_reference, encode_action, encode}
use Rattle.format.specs.Reading.{word_at}
use Rattle.elements.specs.Spelling.{ambient_tag, encode_elements, SpellableElements}
use Rattle.elements.specs.Spelled.{Spells, SpelledList}
use Rattle.elements.specs.Each.{BeginsWith, First, GivesFirst}
use Rattle.elements.specs.declared.ElementsOf.{ElementsOf}
use Rattle.format.proofs.Readback.{length_reference}
use Rattle.layouts.specs.Layouts.{SpelledProcess}
use Rattle.elements.proofs.Views.{ambient_number, head, tail, first, spellable_head, spellable_tail, spells_none}

-- The parts of a list that is not empty
record Parted (A : Elements) : Type 0 where
  pub element : Element
  pub is : A ≡ element before (tail A)
  pub alone : head A ≡ only element

parted : (A : Elements) → 0 < length (encode_elements A) → Parted A
unfolding encode_elements head tail ◌before◌
parted empty h = absurd (omega arith)
parted (ambient_then s a A C) h = record { element = ambient_element s a A; is = refl; alone = refl }
parted (process_then P C) h = record { element = process_element P; is = refl; alone = refl }
parted (blocked_then α P C) h = record { element = blocked_element α P; is = refl; alone = refl }

module _ (A : Elements) {s t : List ℕ} (e : s ≡ encode_elements A) (h : 0 < length s) (n : ℕ) (k : n ≡ word_at s 1) (back : t ≡ drop (3 + n) s) where
  others_left : t ≡ encode_elements (tail A)
  others_left = back ∙ sym (part_all (3 + n) s) ∙ (first A s n e k h).behind

  begins : {x : List ℕ} → x ≡ take (3 + n) s → BeginsWith A x t
  begins front =
      let p = parted A (rw e at h) in
      record { element = p.element; others = tail A; is = p.is; first = front ∙ (first A s n e k h).front ∙ rw p.alone refl; left = others_left }

  -- what is left is the spelling of a list
  pub left_listed : SpellableElements A → length s < word_limit → SpelledList t
  left_listed q w = record { tree = tail A; spelled = others_left; spellable = spellable_tail A q; short = omega (arith, ap length back, length-drop (3 + n) s, w) }

pub first_given : (s x t : List ℕ) (n : ℕ) → n ≡ word_at s 1 → 3 + n ≤ length s → x ≡ take (3 + n) s → t ≡ drop (3 + n) s → First s x t
first_given s x t n k w front back = record {
  long = omega (arith, ap length front, length-take (3 + n) s);
  parts = omega (arith, ap length front, length-take (3 + n) s, ap length back, length-drop (3 + n) s);
  begins = λ A e. begins A e (omega (arith, w)) n k back front;
}

-- The first element by itself, and the others

before_head : (E : Element) (C : Elements) → (head (E before C) ≡ only E) × (tail (E before C) ≡ C)
unfolding head tail ◌before◌
before_head (ambient_element s a A) C = (refl, refl)
before_head (process_element P) C = (refl, refl)
before_head (blocked_element α P) C = (refl, refl)

module _ {A : Elements} {x t : List ℕ} (w : BeginsWith A x t) where
  its_head : x ≡ encode_elements (head A)
  its_head = w.first ∙ ap encode_elements (sym (before_head w.element w.others).0 ∙ ap head (sym w.is))

  its_tail : t ≡ encode_elements (tail A)
  its_tail = w.left ∙ ap encode_elements (sym (before_head w.element w.others).1 ∙ ap tail (sym w.is))

  pub spellable_others : SpellableElements A → SpellableElements w.others
  spellable_others h = subst SpellableElements (ap tail w.is ∙ (before_head w.element w.others).1) (spellable_tail A h)

  pub element_spelled : SpellableElements A → Spells x (only w.element)
  element_spelled h = record { spelled = w.first; spellable = subst SpellableElements (ap head w.is ∙ (before_head w.element w.others).0) (spellable_head A h) }

-- A loop along the elements of s: where s spells A, the bytes that are left spell others, of which P holds.

pub record Others (rest : List ℕ) (A : Elements) (P : Elements → Type 0) : Type 0 where
  pub others : Elements
  pub spelled : rest ≡ encode_elements others
  pub spellable : SpellableElements A → SpellableElements others
  pub holds : P others

pub record Remains (s rest : List ℕ) (P : Elements → Elements → Type 0) : Type 0 where
  pub within : length rest ≤ length s
  pub of : (A : Elements) → s ≡ encode_elements A → Others rest A (P A)

module _ {s rest : List ℕ} {P : Elements → Elements → Type 0} where
  pub begin : rest ≡ s → ((A : Elements) → P A A) → Remains s rest P
  begin e p = record { within = omega (arith, ap length e); of = λ A f. record { others = A; spelled = e ∙ f; spellable = λ h. h; holds = p A } }

  module _ (l : Remains s rest P) where
    pub go_on : {x t : List ℕ} {Q : Elements → Elements → Type 0} → First rest x t → ((A : Elements) (b : Others rest A (P A)) (w : BeginsWith b.others x t) → Q A w.others) → Remains s t Q
    go_on g f = record {
      within = omega (arith, l.within, g.parts);
      of = λ A e.
          let b = l.of A e in
          let w = g.begins b.others b.spelled in
          record { others = w.others; spelled = w.left; spellable = λ h. spellable_others w (b.spellable h); holds = f A b w };
    }

    pub over : length rest ≡ 0 → (A : Elements) → s ≡ encode_elements A → P A empty
    over h A e = let b = l.of A e in subst (P A) (spells_none b.others rest b.spelled h) b.holds

-- The spellings of the elements, one by one: what a chain of iterators takes
unfoldable pub spellings : Elements → List (List ℕ)
spellings empty = []
spellings (ambient_then s a A C) = encode_elements (ambient_then s a A empty) ∷ spellings C
spellings (process_then P C) = encode_elements (process_then P empty) ∷ spellings C
spellings (blocked_then α P C) = encode_elements (blocked_then α P empty) ∷ spellings C

abbrev steps : ElementsOf → Option (Bor (List ℕ)) → ElementsOf → Type 0
steps s r t = GivesFirst s.rest.now r t.rest.now

given_all : (A : Elements) (s : ElementsOf) → s.rest.now ≡ encode_elements A → AlwaysYields steps (λ (x : Bor (List ℕ)). x.now) s (spellings A)
unfolding spellings encode_elements head tail field
given_all empty s e = λ x t g. absurd (omega (arith, g.long, g.parts, ap length e))
given_all (ambient_then u a A C) s e = (λ t g. absurd (omega (arith, g, ap length e)), λ x t g. let w = g.begins (ambient_then u a A C) e in (its_head w, given_all C t (its_tail w)))
given_all (process_then P C) s e = (λ t g. absurd (omega (arith, g, ap length e)), λ x t g. let w = g.begins (process_then P C) e in (its_head w, given_all C t (its_tail w)))
given_all (blocked_then α P C) s e = (λ t g. absurd (omega (arith, g, ap length e)), λ x t g. let w = g.begins (blocked_then α P C) e in (its_head w, given_all C t (its_tail w)))

pub given_spellings : (A : Elements) (s : ElementsOf) → s.rest.now ≡ encode_elements A → YieldsList steps (λ (x : Bor (List ℕ)). x.now) s (spellings A)
given_spellings A s e = record { runs = given_all A s e }

-- One element in bytes, by its tag

pub record AmbientIn (x : List ℕ) (E : Element) : Type 0 where
  pub status : Status
  pub called : Reference
  pub inside : Elements
  pub is : E ≡ ambient_element status called inside
  pub tag : get_or x 0 0 ≡ ambient_tag status
  pub number : word_at x 3 ≡ reference_number called
  pub long : 5 ≤ length x
  pub body : from x 5 ≡ encode_elements inside

pub record ProcessIn (x : List ℕ) (E : Element) : Type 0 where
  pub process : Process
  pub is : E ≡ process_element process
  pub body : from x 3 ≡ encode process

pub record BlockedIn (x : List ℕ) (E : Element) : Type 0 where
  pub doing : Action
  pub process : Process
  pub is : E ≡ blocked_element doing process
  pub body : from x 3 ≡ encode_action doing ++ encode process

pub tag_small : (s : Status) → ambient_tag s < 0x42
unfolding ambient_tag
tag_small unblocked = omega arith
tag_small blocked = omega arith

pub ambient_in : (E : Element) (x : List ℕ) → x ≡ encode_elements (only E) → get_or x 0 0 < 0x42 → AmbientIn x E
unfolding encode_elements ◌before◌ field word encode_reference
ambient_in (ambient_element s a A) x e t = record {
  status = s;
  called = a;
  inside = A;
  is = refl;
  tag = ap (λ (l : List ℕ). get_or l 0 0) e;
  number = ap (λ (l : List ℕ). word_at l 3) e ∙ ambient_number (ambient_tag s) a (encode_elements A) [];
  long = omega (arith, ap length e, length_reference a);
  body = part_all 5 x ∙ ap (drop 5) e ∙ append-nil (encode_elements A);
}
ambient_in (process_element P) x e t = absurd (omega (arith, ap (λ (l : List ℕ). get_or l 0 0) e))
ambient_in (blocked_element α P) x e t = absurd (omega (arith, ap (λ (l : List ℕ). get_or l 0 0) e))

pub process_in : (E : Element) (x : List ℕ) → x ≡ encode_elements (only E) → get_or x 0 0 ≡ 0x42 → ProcessIn x E
unfolding encode_elements ◌before◌ field word
process_in (ambient_element s a A) x e t = absurd (omega (arith, tag_small s, ap (λ (l : List ℕ). get_or l 0 0) e))
process_in (process_element P) x e t = record { process = P; is = refl; body = part_all 3 x ∙ ap (drop 3) e ∙ append-nil (encode P) }
process_in (blocked_element α P) x e t = absurd (omega (arith, ap (λ (l : List ℕ). get_or l 0 0) e))

pub blocked_in : (E : Element) (x : List ℕ) → x ≡ encode_elements (only E) → 0x43 ≤ get_or x 0 0 → BlockedIn x E
unfolding encode_elements ◌before◌ field word
blocked_in (ambient_element s a A) x e t = absurd (omega (arith, tag_small s, ap (λ (l : List ℕ). get_or l 0 0) e))
blocked_in (process_element P) x e t = absurd (omega (arith, ap (λ (l : List ℕ). get_or l 0 0) e))
blocked_in (blocked_element α P) x e t = record { doing = α; process = P; is = refl; body = part_all 3 x ∙ ap (drop 3) e ∙ append-nil (encode_action α ++ encode P) }

-- The parts of an element of a spelled list are spelled themselves

inside_spellable : (s : Status) (a : Reference) (A C : Elements) → SpellableElements (ambient_element s a A before C) → SpellableElements A
unfolding SpellableElements ◌before◌
inside_spellable s a A C h = h.1

pub inside_spelled : (E : Element) {x : List ℕ} (p : Spells x (only E)) (h : get_or x 0 0 < 0x42) → Spells (from x 5) (ambient_in E x p.spelled h).inside
inside_spelled E {x} p h =
    let v = ambient_in E x p.spelled h in
    record { spelled = v.body; spellable = inside_spellable v.status v.called v.inside empty (subst (λ E. SpellableElements (only E)) v.is p.spellable) }

module _ {s x t : List ℕ} (l : SpelledList s) (g : First s x t) where
  abbrev foremost : BeginsWith l.tree x t
  foremost = g.begins l.tree l.spelled

  pub element_listed : SpelledList x
  element_listed =
      let p = element_spelled foremost l.spellable in
      record { tree = only foremost.element; spelled = p.spelled; spellable = p.spellable; short = omega (arith, l.short, g.parts) }

  pub contents_listed : get_or x 0 0 < 0x42 → (5 ≤ length x) × SpelledList (from x 5)
  contents_listed h =
      let p = inside_spelled foremost.element (element_spelled foremost l.spellable) h in (
        (ambient_in foremost.element x foremost.first h).long,
        record { tree = _; spelled = p.spelled; spellable = p.spellable; short = omega (arith, l.short, g.parts, length_part 5 x) },
      )

  pub process_spelled : get_or x 0 0 ≡ 0x42 → SpelledProcess (from x 3)
  process_spelled h =
      let v = process_in foremost.element x foremost.first h in
      record { process = v.process; spelled = v.body; short = omega (arith, l.short, g.parts, length_part 3 x) }
