-- What bytes that spell a list of elements look like at their front: the first element's tag and length, its parts, what stands behind it.
use mathlib.Core.Path.{◌≡◌, refl, sym, ap, ◌∙◌, subst}
use mathlib.Core.List.{List, [], ◌++◌, append-nil, append_assoc}
use Prim.Native.Nat.{ℕ, ◌+◌, ◌-◌, ◌≤◌, ◌<◌}
use native.Mathlib.Omega.{arith}
use lib.ListN.{length, take, drop, get_or, length-append}
use lib.Seq.{take_at, drop_at}
use Rattle.calculus.specs.Processes.{Reference, Action, Process, action}
use Rattle.machine.specs.Elements.{Status, unblocked, blocked, Elements, empty, ambient_then, process_then, blocked_then, process_element, blocked_element, ◌before◌}
use Rattle.buffers.specs.Words.{word, field}
use Rattle.format.specs.Spelling.{reference_number, encode_reference, encode_action, encode}
use Rattle.format.specs.Reading.{word_at}
use Rattle.format.proofs.Readback.{length_reference, word_back}
use Rattle.layouts.proofs.Laying.{process_long}
use Rattle.elements.specs.Spelling.{ambient_tag, encode_elements, SpellableElements}
use Rattle.elements.specs.Spelled.{SpelledList}
use Rattle.buffers.proofs.Parts.{part_all, part_length, from}

-- The first element by itself, and the elements behind it

unfoldable pub head : Elements → Elements
head empty = empty
head (ambient_then s a A C) = ambient_then s a A empty
head (process_then P C) = process_then P empty
head (blocked_then α P C) = blocked_then α P empty

unfoldable pub tail : Elements → Elements
tail empty = empty
tail (ambient_then s a A C) = C
tail (process_then P C) = C
tail (blocked_then α P C) = C

pub spellable_head : (A : Elements) → SpellableElements A → SpellableElements (head A)
unfolding SpellableElements head
spellable_head empty h = h
spellable_head (ambient_then s a A C) h = (h.0, h.1, tt)
spellable_head (process_then P C) h = (h.0, tt)
spellable_head (blocked_then α P C) h = (h.0, h.1, tt)

pub spellable_tail : (A : Elements) → SpellableElements A → SpellableElements (tail A)
unfolding SpellableElements tail
spellable_tail empty h = h
spellable_tail (ambient_then s a A C) h = h.2
spellable_tail (process_then P C) h = h.1
spellable_tail (blocked_then α P C) h = h.2

-- An action as first element of s, which `layouts::action_at` takes from its own bytes on

pub executed_bytes : (α : Action) (P : Process) (C : Elements) (s : List ℕ) → s ≡ encode_elements (process_element (action α P) before C)
    → from s 6 ≡ encode_action α ++ (encode P ++ encode_elements C)
unfolding encode_elements encode field word ◌before◌
executed_bytes α P C s e = part_all 6 s ∙ ap (drop 6) e ∙ append_assoc (encode_action α) (encode P) (encode_elements C)

pub blocked_bytes : (α : Action) (P : Process) (C : Elements) (s : List ℕ) → s ≡ encode_elements (blocked_element α P before C)
    → from s 3 ≡ encode_action α ++ (encode P ++ encode_elements C)
unfolding encode_elements field word ◌before◌
blocked_bytes α P C s e = part_all 3 s ∙ ap (drop 3) e ∙ append_assoc (encode_action α) (encode P) (encode_elements C)

-- The first element of s, which spells A; n is its length

pub record First (s : List ℕ) (A : Elements) (n : ℕ) : Type 0 where
  pub within : 3 + n ≤ length s
  pub front : take (3 + n) s ≡ encode_elements (head A)
  pub behind : take (length s - (3 + n)) (drop (3 + n) s) ≡ encode_elements (tail A)

pub record Ambient (s : List ℕ) (A : Elements) (n : ℕ) : Type 0 where
  pub status : Status
  pub called : Reference
  pub inside : Elements
  pub is : A ≡ ambient_then status called inside (tail A)
  pub tag : get_or s 0 0 ≡ ambient_tag status
  pub number : word_at s 3 ≡ reference_number called
  pub long : 2 ≤ n
  pub body : take (3 + n - 5) (drop 5 s) ≡ encode_elements inside

pub record Processing (s : List ℕ) (A : Elements) (n : ℕ) : Type 0 where
  pub process : Process
  pub is : A ≡ process_then process (tail A)
  pub tag : get_or s 0 0 ≡ 0x42
  pub long : 3 ≤ n
  pub body : take (3 + n - 3) (drop 3 s) ≡ encode process

pub record Blocked (s : List ℕ) (A : Elements) (n : ℕ) : Type 0 where
  pub doing : Action
  pub process : Process
  pub is : A ≡ blocked_then doing process (tail A)
  pub tag : get_or s 0 0 ≡ 0x43
  pub long : 3 ≤ n
  pub acting : from s 3 ≡ encode_action doing ++ (encode process ++ encode_elements (tail A))

length_is : (tag : ℕ) (body s : List ℕ) (n : ℕ) → n ≡ word_at (field tag body ++ s) 1 → n ≡ length body
unfolding field word
length_is tag body s n e = omega arith

first_field : (tag : ℕ) (body : List ℕ) (A : Elements) (n : ℕ) → n ≡ length body → encode_elements (head A) ≡ field tag body ++ []
    → First (field tag body ++ encode_elements (tail A)) A n
unfolding field word
first_field tag body A n e h =
    let l = length-append body (encode_elements (tail A)) in
    record {
      within = omega arith;
      front = take_at (field tag body) (encode_elements (tail A)) (3 + n) (omega arith) ∙ sym (h ∙ append-nil (field tag body));
      behind = part_all (3 + n) (field tag body ++ encode_elements (tail A)) ∙ drop_at (field tag body) (encode_elements (tail A)) (3 + n) (omega arith);
    }

first_of_law : (A : Elements) (n : ℕ) → n ≡ word_at (encode_elements A) 1 → 0 < length (encode_elements A) → First (encode_elements A) A n
unfolding encode_elements head tail
first_of_law empty n e h = absurd (omega arith)
first_of_law (ambient_then s a A C) n e h = first_field (ambient_tag s) (encode_reference a ++ encode_elements A) (ambient_then s a A C) n (length_is _ _ _ n e) refl
first_of_law (process_then P C) n e h = first_field 0x42 (encode P) (process_then P C) n (length_is _ _ _ n e) refl
first_of_law (blocked_then α P C) n e h = first_field 0x43 (encode_action α ++ encode P) (blocked_then α P C) n (length_is _ _ _ n e) refl

-- an ambient's name, and its contents behind it
pub ambient_number : (tag : ℕ) (a : Reference) (B D : List ℕ) → word_at (field tag (encode_reference a ++ B) ++ D) 3 ≡ reference_number a
unfolding field word encode_reference
ambient_number tag a B D = word_back (reference_number a)

ambient_body : (tag : ℕ) (a : Reference) (B D : List ℕ) (m : ℕ) → length B ≡ m → take m (drop 5 (field tag (encode_reference a ++ B) ++ D)) ≡ B
unfolding field word encode_reference
ambient_body tag a B D m e = take_at B D m e

ambient_of : (A : Elements) (n : ℕ) → n ≡ word_at (encode_elements A) 1 → 0 < length (encode_elements A) → get_or (encode_elements A) 0 0 < 0x42
    → Ambient (encode_elements A) A n
unfolding encode_elements tail field
ambient_of empty n e h t = absurd (omega arith)
ambient_of (ambient_then s a A C) n e h t =
    let b = encode_reference a ++ encode_elements A in
    let l = length_is (ambient_tag s) b (encode_elements C) n e in
    let m = length-append (encode_reference a) (encode_elements A) in
    let k = length_reference a in
    record { status = s; called = a; inside = A; is = refl; tag = refl; number = ambient_number (ambient_tag s) a (encode_elements A) (encode_elements C); long = omega arith; body = ambient_body (ambient_tag s) a (encode_elements A) (encode_elements C) (3 + n - 5) (omega arith) }
ambient_of (process_then P C) n e h t = absurd (omega arith)
ambient_of (blocked_then α P C) n e h t = absurd (omega arith)

process_of : (A : Elements) (n : ℕ) → n ≡ word_at (encode_elements A) 1 → 0 < length (encode_elements A) → get_or (encode_elements A) 0 0 ≡ 0x42
    → Processing (encode_elements A) A n
unfolding encode_elements tail field ambient_tag word
process_of empty n e h t = absurd (omega arith)
process_of (ambient_then unblocked a A C) n e h t = absurd (omega arith)
process_of (ambient_then blocked a A C) n e h t = absurd (omega arith)
process_of (process_then P C) n e h t =
    let l = length_is 0x42 (encode P) (encode_elements C) n e in
    record { process = P; is = refl; tag = refl; long = omega (arith, process_long P); body = take_at (encode P) (encode_elements C) (3 + n - 3) (omega arith) }
process_of (blocked_then α P C) n e h t = absurd (omega arith)

blocked_of : (A : Elements) (n : ℕ) → n ≡ word_at (encode_elements A) 1 → 0 < length (encode_elements A) → 0x43 ≤ get_or (encode_elements A) 0 0
    → Blocked (encode_elements A) A n
unfolding encode_elements tail field ambient_tag word ◌before◌
blocked_of empty n e h t = absurd (omega arith)
blocked_of (ambient_then unblocked a A C) n e h t = absurd (omega arith)
blocked_of (ambient_then blocked a A C) n e h t = absurd (omega arith)
blocked_of (process_then P C) n e h t = absurd (omega arith)
blocked_of (blocked_then α P C) n e h t =
    let l = length_is 0x43 (encode_action α ++ encode P) (encode_elements C) n e in
    let m = length-append (encode_action α) (encode P) in
    record { doing = α; process = P; is = refl; tag = refl; long = omega (arith, process_long P); acting = blocked_bytes α P C (encode_elements (blocked_then α P C)) refl }

module _ (A : Elements) (s : List ℕ) (n : ℕ) (e : s ≡ encode_elements A) (k : n ≡ word_at s 1) (h : 0 < length s) where
  pub first : First s A n
  first = subst (λ (l : List ℕ). n ≡ word_at l 1 → 0 < length l → First l A n) (sym e) (first_of_law A n) k h

  pub as_ambient : get_or s 0 0 < 0x42 → Ambient s A n
  as_ambient = subst (λ (l : List ℕ). n ≡ word_at l 1 → 0 < length l → get_or l 0 0 < 0x42 → Ambient l A n) (sym e) (ambient_of A n) k h

  pub as_process : get_or s 0 0 ≡ 0x42 → Processing s A n
  as_process = subst (λ (l : List ℕ). n ≡ word_at l 1 → 0 < length l → get_or l 0 0 ≡ 0x42 → Processing l A n) (sym e) (process_of A n) k h

  pub as_blocked : 0x43 ≤ get_or s 0 0 → Blocked s A n
  as_blocked = subst (λ (l : List ℕ). n ≡ word_at l 1 → 0 < length l → 0x43 ≤ get_or l 0 0 → Blocked l A n) (sym e) (blocked_of A n) k h

-- the header of the first element is there
pub first_whole : (A : Elements) (s : List ℕ) → s ≡ encode_elements A → 0 < length s → 3 ≤ length s
first_whole A s e h = omega (arith, (first A s _ e refl h).within)

pub unblocked_tag : (s : Status) → ambient_tag s ≡ 0x40 → s ≡ unblocked
unfolding ambient_tag
unblocked_tag unblocked e = refl
unblocked_tag blocked e = absurd (omega arith)

-- bytes of no length spell no element
pub spells_none : (A : Elements) (s : List ℕ) → s ≡ encode_elements A → length s ≡ 0 → A ≡ empty
unfolding encode_elements field
spells_none empty s e h = refl
spells_none (ambient_then u a A C) s e h = absurd (omega (arith, ap length e))
spells_none (process_then P C) s e h = absurd (omega (arith, ap length e))
spells_none (blocked_then α P C) s e h = absurd (omega (arith, ap length e))

-- The parts of a spelled list are spelled lists

pub spellable_inside : {s : List ℕ} {A : Elements} {n : ℕ} (v : Ambient s A n) → SpellableElements A → SpellableElements v.inside
unfolding SpellableElements
spellable_inside v h = (subst SpellableElements v.is h).1

module _ (s : List ℕ) (l : SpelledList s) (n : ℕ) (k : n ≡ word_at s 1) (h : 0 < length s) where
  abbrev pub list_inside : get_or s 0 0 < 0x42 → SpelledList (take (3 + n - 5) (drop 5 s))
  list_inside t =
      let v = as_ambient l.tree s n l.spelled k h t in
      record {
        tree = v.inside;
        spelled = v.body;
        spellable = spellable_inside v l.spellable;
        short = omega (arith, l.short, part_length (3 + n - 5) 5 s);
      }
