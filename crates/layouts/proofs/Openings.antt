-- Where the references of an opening stand, from its spelling.
use mathlib.Core.Path.{◌≡◌, refl, sym, ap, ◌∙◌}
use mathlib.Core.List.{List, [], ◌∷◌, ◌++◌, append_assoc, append-nil}
use Prim.Native.Nat.{ℕ, ◌+◌, ◌-◌, ◌<◌, ◌≤◌}
use native.Mathlib.Omega.{arith}
use borrow.Author.Tests.{lt-ltb, le-ltb, eq-eqb, ne_eqb}
use lib.ListN.{length, take, drop, get_or, length-append}
use lib.Seq.{take_all}
use Rattle.calculus.specs.Processes.{Action}
use Rattle.buffers.specs.Words.{word, field}
use Rattle.buffers.proofs.Middle.{Part, inside, lent, rest_behind}
use Rattle.buffers.proofs.Parts.{length_field, length_part, part_part, part_all, from}
use Rattle.format.specs.Kinds.{action_tag, spelled_count, address_of, handed}
use Rattle.format.specs.Spelling.{encode_references, encode_action}
use Rattle.format.proofs.ActionKinds.{tag_range}
use Rattle.format.proofs.Readback.{length_references}
use Rattle.layouts.specs.declared.Opened.{Opened}
use Rattle.layouts.specs.declared.Form.{Form as Answer}
use Rattle.layouts.specs.declared.Form.TheVariants.{Bare, Naming, Acting}
use Rattle.layouts.specs.Layouts.{extent_of, SpelledAction}
use Rattle.layouts.specs.Openings.{Form, bare, naming, acting, form_of, form_answer, Opening, alone, named, whole, first_of, between_of, second_of, encode_opening, encode_openings, SpelledOpening, opened_of}
use Rattle.layouts.proofs.Layouts.{address_length}

-- By the tag

module _ (tag : ℕ) where
  pub form_ambient : tag < 0x30 → tag ≡ 0x23 → form_of tag ≡ naming
  unfolding form_of
  form_ambient h e = simp (lt-ltb tag 0x30 h, eq-eqb tag 0x23 e)

  pub form_process : tag < 0x30 → (tag ≡ 0x23 → ⊥) → form_of tag ≡ bare
  unfolding form_of
  form_process h e = simp (lt-ltb tag 0x30 h, ne_eqb tag 0x23 e)

  pub form_action : 0x30 ≤ tag → tag < 0x40 → form_of tag ≡ acting
  unfolding form_of
  form_action h k = simp (le-ltb tag 0x30 h, lt-ltb tag 0x40 k)

  pub form_box : 0x40 ≤ tag → tag < 0x42 → form_of tag ≡ naming
  unfolding form_of
  form_box h k = let l : 0x30 ≤ tag = omega arith in simp (le-ltb tag 0x30 l, le-ltb tag 0x40 h, lt-ltb tag 0x42 k)

  pub form_element : 0x42 ≤ tag → form_of tag ≡ bare
  unfolding form_of
  form_element h =
      let l : 0x30 ≤ tag = omega arith in
      let m : 0x40 ≤ tag = omega arith in
      simp (le-ltb tag 0x30 l, le-ltb tag 0x40 m, le-ltb tag 0x42 h)

-- By the code's form

pub is_bare : (f : Form) → Bare ≡ form_answer f → bare ≡ f
unfolding form_answer
is_bare bare e = refl
is_bare naming e = absurd (let z : ◌≡◌ {A = ℕ} 0 1 = cc in omega arith)
is_bare acting e = absurd (let z : ◌≡◌ {A = ℕ} 0 1 = cc in omega arith)

pub is_naming : (f : Form) → Naming ≡ form_answer f → naming ≡ f
unfolding form_answer
is_naming bare e = absurd (let z : ◌≡◌ {A = ℕ} 0 1 = cc in omega arith)
is_naming naming e = refl
is_naming acting e = absurd (let z : ◌≡◌ {A = ℕ} 0 1 = cc in omega arith)

pub is_acting : (f : Form) → Acting ≡ form_answer f → acting ≡ f
unfolding form_answer
is_acting bare e = absurd (let z : ◌≡◌ {A = ℕ} 0 1 = cc in omega arith)
is_acting naming e = absurd (let z : ◌≡◌ {A = ℕ} 0 1 = cc in omega arith)
is_acting acting e = refl

-- The form of an opening is that of its tag

unfoldable pub form_is : Opening → Form
form_is (alone tag len f) = bare
form_is (named tag len f a) = naming
form_is (whole α) = acting

pub form_is_law : (o : Opening) (s rest : List ℕ) → s ≡ encode_opening o ++ rest → form_of (get_or s 0 0) ≡ form_is o
unfolding form_is encode_opening encode_action field
form_is_law (alone tag len f) s rest e = rw e f
form_is_law (named tag len f a) s rest e = rw e f
form_is_law (whole α) s rest e = rw e (form_action (action_tag α) (tag_range α).0 (omega (arith, (tag_range α).1)))

pub answered : (o : Opening) (s rest : List ℕ) → s ≡ encode_opening o ++ rest → (x : Answer) → x ≡ form_answer (form_of (get_or s 0 0)) → x ≡ form_answer (form_is o)
answered o s rest e x k = k ∙ ap form_answer (form_is_law o s rest e)

pub opening_long : (o : Opening) (s rest : List ℕ) → s ≡ encode_opening o ++ rest → 3 ≤ length s
unfolding encode_opening encode_action field word
opening_long (alone tag len f) s rest e = omega (arith, ap length e)
opening_long (named tag len f a) s rest e = omega (arith, ap length e)
opening_long (whole α) s rest e = omega (arith, ap length e)

-- What is opened, by the form

opened_as : (r : Opened) (o : Opening) → r.middle ≡ (opened_of o).middle → r.next ≡ (opened_of o).next → r.end ≡ (opened_of o).end → r ≡ opened_of o
opened_as r o m n e = λ i. record { middle = m i; next = n i; end = e i }

pub opened_bare : (o : Opening) → bare ≡ form_is o → (r : Opened) → (r.middle ≡ 3) × (r.next ≡ 3) × (r.end ≡ 3) → r ≡ opened_of o
unfolding form_is first_of between_of second_of encode_references
opened_bare (alone tag len f) e r h = opened_as r (alone tag len f) h.0 h.1 h.2
opened_bare (named tag len f a) e r h = absurd (let z : ◌≡◌ {A = ℕ} 0 1 = cc in omega arith)
opened_bare (whole α) e r h = absurd (let z : ◌≡◌ {A = ℕ} 0 1 = cc in omega arith)

pub opened_naming : (o : Opening) → naming ≡ form_is o → (r : Opened) → (r.middle ≡ 5) × (r.next ≡ 5) × (r.end ≡ 5) → r ≡ opened_of o
unfolding form_is first_of between_of second_of
opened_naming (alone tag len f) e r h = absurd (let z : ◌≡◌ {A = ℕ} 0 1 = cc in omega arith)
opened_naming (named tag len f a) e r h =
    let l = length_references (a ∷ []) in
    let k = length_references [] in
    opened_as r (named tag len f a) (omega (arith, h, l)) (omega (arith, h, l)) (omega (arith, h, l, k))
opened_naming (whole α) e r h = absurd (let z : ◌≡◌ {A = ℕ} 0 1 = cc in omega arith)

-- the whole of an action
pub opened_whole : (α : Action) (sent width end : ℕ) → sent ≡ (extent_of α).sent → width ≡ length (spelled_count α) → end ≡ (extent_of α).end
    → ◌≡◌ {A = Opened} record { middle = sent - width; next = sent; end = end } (opened_of (whole α))
unfolding first_of between_of second_of encode_action
opened_whole α sent width end s w e =
    let R = encode_references (address_of α) ++ (spelled_count α ++ encode_references (handed α)) in
    let a = address_length α in
    let l = length-append (encode_references (address_of α)) (spelled_count α ++ encode_references (handed α)) in
    let k = length-append (spelled_count α) (encode_references (handed α)) in
    opened_as _ (whole α) (omega (arith, s, w, a)) (omega (arith, s, a)) (omega (arith, e, length_field (action_tag α) R, a, l, k))

pub whole_action : (o : Opening) (s : List ℕ) (rest : List ℕ) → s ≡ encode_opening o ++ rest → acting ≡ form_is o → SpelledAction s
unfolding form_is encode_opening
whole_action (alone tag len f) s rest e q = absurd (let z : ◌≡◌ {A = ℕ} 0 1 = cc in omega arith)
whole_action (named tag len f a) s rest e q = absurd (let z : ◌≡◌ {A = ℕ} 0 1 = cc in omega arith)
whole_action (whole α) s rest e q = record { doing = α; rest = rest; spelled = e }

pub opened_acting : (o : Opening) (s rest : List ℕ) → s ≡ encode_opening o ++ rest → acting ≡ form_is o → (r : Opened)
    → ((α : Action) (rest : List ℕ) → s ≡ encode_action α ++ rest → r ≡ opened_of (whole α)) → r ≡ opened_of o
unfolding form_is encode_opening
opened_acting (alone tag len f) s rest e q r h = absurd (let z : ◌≡◌ {A = ℕ} 0 1 = cc in omega arith)
opened_acting (named tag len f a) s rest e q r h = absurd (let z : ◌≡◌ {A = ℕ} 0 1 = cc in omega arith)
opened_acting (whole α) s rest e q r h = h α rest e

-- The parts of an opening in bytes

record Parts (o : Opening) : Type 0 where
  pub front : List ℕ
  pub three : length front ≡ 3
  pub bytes : encode_opening o ≡ front ++ (encode_references (first_of o) ++ (between_of o ++ encode_references (second_of o)))

parts : (o : Opening) → Parts o
unfolding encode_opening first_of between_of second_of encode_action encode_references field word
parts (alone tag len f) = record { front = tag ∷ word len; three = refl; bytes = refl }
parts (named tag len f a) = record { front = tag ∷ word len; three = refl; bytes = ap (λ (l : List ℕ). (tag ∷ word len) ++ l) (sym (append-nil (encode_references (a ∷ [])))) }
parts (whole α) =
    record { front = action_tag α ∷ word (length (encode_references (address_of α) ++ (spelled_count α ++ encode_references (handed α)))); three = refl; bytes = refl }

module _ (o : Opening) (s rest : List ℕ) (e : s ≡ encode_opening o ++ rest) where
  laid : s ≡ (parts o).front ++ (encode_references (first_of o) ++ (between_of o ++ (encode_references (second_of o) ++ rest)))
  laid =
      e ∙ ap (λ (l : List ℕ). l ++ rest) (parts o).bytes
      ∙ append_assoc (parts o).front _ rest
      ∙ ap (λ (l : List ℕ). (parts o).front ++ l) (append_assoc (encode_references (first_of o)) _ rest
      ∙ ap (λ (l : List ℕ). encode_references (first_of o) ++ l) (append_assoc (between_of o) _ rest))

  pub first_references : Part s (encode_references (first_of o)) (between_of o ++ (encode_references (second_of o) ++ rest)) 3 (opened_of o).middle
  first_references = record { front = (parts o).front; bytes = laid; starts = sym (parts o).three; ends = refl }

  pub second_references : Part s (encode_references (second_of o)) rest (opened_of o).next (opened_of o).end
  second_references =
      let F = (parts o).front in
      let A = encode_references (first_of o) in
      let C = between_of o in
      record {
        front = (F ++ A) ++ C;
        bytes = laid ∙ sym (append_assoc F A _) ∙ sym (append_assoc (F ++ A) C _);
        starts = omega (arith, (parts o).three, length-append F A, length-append (F ++ A) C);
        ends = refl;
      }

  -- in what `opening_of` answers
  module _ (r : Opened) (k : r ≡ opened_of o) where
    pub opened_within : (3 ≤ r.middle) × (r.middle ≤ length s) × (r.next ≤ r.end) × (r.end ≤ length s)
    opened_within =
        let m = ap (λ (x : Opened). x.middle) k in
        let n = ap (λ (x : Opened). x.next) k in
        let e = ap (λ (x : Opened). x.end) k in
        (omega (arith, m), omega (arith, m, inside first_references), omega (arith, n, e), omega (arith, e, inside second_references))

    pub first_lent : take (r.middle - 3) (drop 3 s) ≡ encode_references (first_of o)
    first_lent = ap (λ (x : Opened). take (x.middle - 3) (drop 3 s)) k ∙ lent first_references

    pub second_lent : take (r.end - r.next) (drop r.next s) ≡ encode_references (second_of o)
    second_lent = ap (λ (x : Opened). take (x.end - x.next) (drop x.next s)) k ∙ lent second_references

-- Openings one behind the other

pub record FirstOpening (s : List ℕ) (os : List Opening) : Type 0 where
  pub first : Opening
  pub others : List Opening
  pub are : os ≡ first ∷ others
  pub bytes : s ≡ encode_opening first ++ encode_openings others

first_opened : (os : List Opening) (s : List ℕ) → s ≡ encode_openings os → 0 < length s → FirstOpening s os
unfolding encode_openings
first_opened [] s e h = absurd (omega (arith, ap length e))
first_opened (o ∷ os) s e h = record { first = o; others = os; are = refl; bytes = e }

no_opening : (os : List Opening) (s : List ℕ) → s ≡ encode_openings os → length s ≡ 0 → os ≡ []
unfolding encode_openings
no_opening [] s e h = refl
no_opening (o ∷ os) s e h = absurd (omega (arith, opening_long o s (encode_openings os) e))

-- those that are left at a position of s
pub record OpeningsLeft (s : List ℕ) (os : List Opening) (at : ℕ) : Type 0 where
  pub bytes : from s at ≡ encode_openings os

module _ {s : List ℕ} {os : List Opening} {at : ℕ} (l : OpeningsLeft s os at) where
  pub opened : at < length s → FirstOpening (from s at) os
  opened h = first_opened os (from s at) l.bytes (omega (arith, length_part at s))

  abbrev pub opening_here : at < length s → SpelledOpening (from s at)
  opening_here h = let v = opened h in record { opening = v.first; rest = encode_openings v.others; spelled = v.bytes }

  pub end_within : (h : at < length s) → (3 ≤ (opened_of (opened h).first).end) × (at + (opened_of (opened h).first).end ≤ length s)
  end_within h = let v = opened h in (omega arith, omega (arith, inside (second_references v.first (from s at) (encode_openings v.others) v.bytes), length_part at s))

  pub left_on : (h : at < length s) (end : ℕ) → end ≡ (opened_of (opened h).first).end → OpeningsLeft s (opened h).others (at + end)
  left_on h end k =
      let v = opened h in
      record { bytes = part_part at end s ∙ part_all end (from s at) ∙ ap (λ (n : ℕ). drop n (from s at)) k ∙ rest_behind (second_references v.first (from s at) (encode_openings v.others) v.bytes) }

  pub none_opened : length s ≤ at → os ≡ []
  none_opened h = no_opening os (from s at) l.bytes (omega (arith, length_part at s))

pub left_first : (s : List ℕ) (os : List Opening) → s ≡ encode_openings os → OpeningsLeft s os 0
left_first s os e = record { bytes = take_all (length s - 0) s (omega arith) ∙ e }
