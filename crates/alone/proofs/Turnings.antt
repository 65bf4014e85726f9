-- The moves of one element by itself: rules 29 to 34 and 43, and what is refused at such an element.
use mathlib.Core.Path.{◌≡◌, refl, sym, ap, ◌∙◌, subst}
use mathlib.Core.Bool.{Bool, true, false}
use mathlib.Core.List.{List, [], ◌∷◌, ◌++◌}
use mathlib.Core.Option.{Option, none, some}
use Prim.Native.Nat.{ℕ, zero, suc, ◌+◌, ◌-◌, ◌≤◌, ◌<◌}
use native.Mathlib.Omega.{arith}
use borrow.Author.Tests.{le-leb, lt-leb, ne_eqb}
use lib.Dec.{leb, ltb}
use lib.ListN.{length, get_or, take, drop}
use lib.Seq.{take_at}
use Rattle.calculus.specs.Processes.{Reference, name, variable, Action, Process, null, parallel, restriction, ambient, action, replication, binders, identity, raise, raise_by, rename}
use Rattle.calculus.proofs.Renaming.{rename_identity_law}
use Rattle.machine.specs.Limits.{name_limit, state_depth_limit}
use Rattle.machine.specs.Elements.{unblocked, blocked, Elements, empty, Element, ambient_element, process_element, blocked_element, ◌before◌, only, state, Position, place, element_at, depth}
use Rattle.machine.specs.Rules.{Turns, rule30, rule31, rule32, rule33, rule34, Ready}
use Rattle.machine.specs.Tests.{fits}
use Rattle.machine.specs.Positions.{replace_at}
use Rattle.machine.specs.Stepping.{refused, step_within}
use Rattle.machine.specs.Validity.{ReferenceScoped, AllScoped, ProcessScoped}
use Rattle.machine.proofs.Scoping.{Agree, agree_rename}
use Rattle.machine.proofs.Stepping.{limited_state}
use Rattle.machine.proofs.Places.{element_at_at}
use Rattle.machine.proofs.Graded.{ElementBlocked, turns_active}
use Rattle.buffers.specs.Words.{word, field}
use Rattle.format.specs.Spelling.{reference_number, encode_reference, encode_references, encode}
use Rattle.format.specs.Reading.{Shape, is_null, is_parallel, is_restriction, is_ambient, is_action, is_replication, shape_of, word_at}
use Rattle.elements.specs.Spelling.{ambient_tag, encode_elements, encode_state, SpellableElements}
use Rattle.format.specs.Spellable.{Counted, Spellable}
use Rattle.elements.specs.Spelled.{SpelledList}
use Rattle.measuring.specs.Measuring.{CountedProcess}
use Rattle.buffers.proofs.Parts.{from, part_length}
use Rattle.elements.proofs.Searching.{listed}
use Rattle.elements.proofs.Views.{tail, first, as_process}
use Rattle.planning.specs.declared.Move.{Move}
use Rattle.places.specs.declared.Spot.{Spot}
use Rattle.std.specs.Prelude.{Ok, Err}
use Rattle.refusals.specs.declared.Refusal.{Refusal}
use Rattle.refusals.specs.declared.Refusal.TheVariants.{NoNameLeft, ResultTooDeep}
use Rattle.refusals.specs.Refusals.{number}
use Rattle.places.specs.Offsets.{width, offset, spot_of, Standing}
use Rattle.substituting.specs.Substituting.{SpellsNames}
use Rattle.turning.specs.Turning.{turned, Suited}
use Rattle.planning.specs.Choices.{byte_at, Admitting, nothing, Taken, ChoiceOf, ChoosesAt}
use Rattle.alone.specs.Alone.{alone_move}
use Rattle.places.proofs.Offsets.{behind, flattened_spellable, spelled_from, standing_below, standing_list, standing_some, process_long}
use Rattle.places.proofs.Widths.{first_width}
use Rattle.planning.proofs.Lengths.{bytes, bytes_empty, bytes_process, length_one, turned_null, bytes_null, turned_parallel, turned_restriction, turned_process_ambient, turned_replication}
use Rattle.planning.proofs.Fitting.{fits_turned, fits_replication, fits_process_ambient}
use Rattle.planning.proofs.Edits.{offset_front, edit_one, suits_one, bytes_spelled}
use Rattle.planning.proofs.Answers.{fitting, unfitting, eleven, turning}

-- What the bytes at an element tell of it

unfoldable pub element_tag : Element → ℕ
element_tag (ambient_element s a A) = ambient_tag s
element_tag (process_element P) = 0x42
element_tag (blocked_element α P) = 0x43

unfoldable pub process_tag : Process → ℕ
process_tag null = 0x20
process_tag (parallel P Q) = 0x21
process_tag (restriction P) = 0x22
process_tag (ambient a P) = 0x23
process_tag (action α P) = 0x24
process_tag (replication α P) = 0x25

element_byte : (E : Element) (C : Elements) → get_or (encode_elements (E before C)) 0 0 ≡ element_tag E
unfolding encode_elements ◌before◌ element_tag field
element_byte (ambient_element s a A) C = refl
element_byte (process_element P) C = refl
element_byte (blocked_element α P) C = refl

pub process_byte : (P : Process) (C : Elements) → get_or (encode_elements (process_element P before C)) 3 0 ≡ process_tag P
unfolding encode_elements ◌before◌ process_tag field word encode
process_byte null C = refl
process_byte (parallel P Q) C = refl
process_byte (restriction P) C = refl
process_byte (ambient a P) C = refl
process_byte (action α P) C = refl
process_byte (replication α P) C = refl

raise_name : (n : ℕ) → raise (name n) ≡ name n
unfolding raise
raise_name n = refl

-- a process that no binder is around stays as it is
raised : (N k : ℕ) → Agree N 0 (raise_by k) identity
unfolding raise_by ReferenceScoped
raised N zero r h = refl
raised N (suc k) (name n) h = ap raise (raised N k (name n) h) ∙ raise_name n
raised N (suc k) (variable i) h = absurd (omega arith)

closed : (N k : ℕ) (P : Process) → ProcessScoped N 0 P → rename (raise_by k) P ≡ P
closed N k P h = agree_rename N 0 (raise_by k) identity (raised N k) P h ∙ rename_identity_law P

-- elements of different kinds are not equal
pub unlike : {B : Type 0} → ◌≡◌ {A = ℕ} 0 1 → B
unlike e = absurd (omega (arith, e))

-- What stands there, by the tags of the element and of its process

unfoldable pub Stood : Option Element → Shape → Type 0
Stood o is_null = o ≡ some (process_element null)
Stood o is_parallel = (P : Process) × (Q : Process) × (o ≡ some (process_element (parallel P Q)))
Stood o is_restriction = (P : Process) × (o ≡ some (process_element (restriction P)))
Stood o is_ambient = (a : Reference) × (P : Process) × (o ≡ some (process_element (ambient a P)))
Stood o is_action = (α : Action) × (P : Process) × (o ≡ some (process_element (action α P)))
Stood o is_replication = (α : Action) × (P : Process) × (o ≡ some (process_element (replication α P)))

stood : {o : Option Element} (P : Process) → o ≡ some (process_element P) → Stood o (shape_of (process_tag P))
unfolding Stood shape_of process_tag
stood null e = e
stood (parallel P Q) e = (P, Q, e)
stood (restriction P) e = (P, e)
stood (ambient a P) e = (a, P, e)
stood (action α P) e = (α, P, e)
stood (replication α P) e = (α, P, e)

pub last_shape : (k : ℕ) → ¬ (k ≡ 0x20) → ¬ (k ≡ 0x21) → ¬ (k ≡ 0x22) → ¬ (k ≡ 0x23) → ¬ (k ≡ 0x24) → shape_of k ≡ is_replication
unfolding shape_of
last_shape k a b c d e = rw (ne_eqb k 0x20 a, ne_eqb k 0x21 b, ne_eqb k 0x22 c, ne_eqb k 0x23 d, ne_eqb k 0x24 e)

pub process_tagged : (E : Element) → element_tag E ≡ 0x42 → (P : Process) × (E ≡ process_element P)
unfolding element_tag ambient_tag
process_tagged (ambient_element unblocked a A) h = absurd (omega arith)
process_tagged (ambient_element blocked a A) h = absurd (omega arith)
process_tagged (process_element P) h = (P, refl)
process_tagged (blocked_element α P) h = absurd (omega arith)

pub process_ready : (P : Process) → Ready (process_element P)
unfolding Ready
process_ready P = tt

spellable_process : (P : Process) (C : Elements) → SpellableElements (process_element P before C) → Spellable 0 P
unfolding SpellableElements ◌before◌
spellable_process P C h = h.0

-- behind the header of a process
drop_tag : (P : Process) (C : Elements) → drop 3 (encode_elements (process_element P before C)) ≡ encode P ++ encode_elements C
unfolding encode_elements ◌before◌ field word
drop_tag P C = refl

-- What the bytes spell

abbrev pub admitted_list : {nest : ℕ} {s : List ℕ} {F N : ℕ} {L : Elements} → Admitting nest s F N L → SpelledList s
admitted_list adm = listed adm.spells (omega (arith, adm.short))

abbrev pub admitted_standing : {nest : ℕ} {s : List ℕ} {F N : ℕ} {L : Elements} → Admitting nest s F N L → (π : Position) {E : Element} {at : ℕ} → element_at L π ≡ some E → offset 0 L π ≡ at → Standing s at
admitted_standing adm π {E} e o = record { list = admitted_list adm; position = π; element = E; stands = e; there = o }

-- Refusals

pub refuses : (nest F N : ℕ) (L : Elements) (p : ℕ) (q : Option ℕ) (x : Refusal) → step_within nest (state F N L) p q ≡ refused (number x) → ChoiceOf nest F N L p q (Err x)
unfolding ChoiceOf
refuses nest F N L p q x h = h

-- Moves

-- The names for the variables of an element that turns by itself stand in front of the root list.
pub record Fronted (F N : ℕ) (L : Elements) (E : Element) (sent : ℕ) (ns : List Reference) : Type 0 where
  starts : sent ≤ 7
  named : SpellsNames (take (7 - sent) (drop sent (encode_state (state F N L)))) ns
  suited : Suited true ns E

pub no_names : (F N : ℕ) (L : Elements) (E : Element) → Suited true [] E → Fronted F N L E 7 []
unfolding encode_references AllScoped
no_names F N L E h = record { starts = omega arith; named = record { spelled = refl; scoped = tt }; suited = h }

next_name : (F N : ℕ) (L : Elements) (P : Process) → N < name_limit → Fronted F N L (process_element (restriction P)) 5 (name N ∷ [])
unfolding encode_state field word encode_references encode_reference reference_number AllScoped ReferenceScoped Suited
next_name F N L P h = record { starts = omega arith; named = record { spelled = refl; scoped = (h, tt) }; suited = refl }

module _ {nest : ℕ} {s : List ℕ} {F N : ℕ} {L : Elements} (adm : Admitting nest s F N L) (π : Position) (P : Process) (el : element_at L π ≡ some (process_element P)) (at : ℕ) (there : offset 0 L π ≡ at) where
  pub process_tag_law : byte_at s at 3 ≡ process_tag P
  process_tag_law = ap (λ (l : List ℕ). get_or l 3 0) (spelled_from L π (process_element P) el there adm.spells.spelled) ∙ process_byte P (behind L π)

module _ {nest : ℕ} {s : List ℕ} {F N : ℕ} {L : Elements} (adm : Admitting nest s F N L) (π : Position) (E : Element) (el : element_at L π ≡ some E) (at : ℕ) (there : offset 0 L π ≡ at) where
  spelled : from s at ≡ encode_elements (E before behind L π)
  spelled = spelled_from L π E el there adm.spells.spelled

  pub tag_is : byte_at s at 0 ≡ element_tag E
  tag_is = ap (λ (l : List ℕ). get_or l 0 0) spelled ∙ element_byte E (behind L π)

  -- the move of an element by itself
  pub take_alone : (rule M n sent : ℕ) (ns : List Reference) → step_within nest (state F N L) (place L π) none ≡ limited_state nest rule (state F M (replace_at L π (turned true ns E))) → ¬ ElementBlocked E
      → fits nest (replace_at L π (turned true ns E)) ≡ true → Fronted F N L E sent ns → n + bytes (only E) ≡ 7 + length s + bytes (turned true ns E)
      → {m : Move} → m ≡ alone_move rule M n (7 + at) sent → ChoiceOf nest F N L (place L π) none (Ok m)
  unfolding ChoiceOf alone_move
  take_alone rule M n sent ns steps active f l e k =
      let X = turned true ns E in
      let plan = (alone_move rule M n (7 + at) sent).plan in
      let from_front : 7 + at ≡ offset 7 L π = ap (λ (k : ℕ). 7 + k) (sym there) ∙ offset_front L π E el in
      let t : Taken nest F N L (place L π) none (alone_move rule M n (7 + at) sent) = record {
        result = replace_at L π X;
        steps = steps ∙ fitting nest rule F M (replace_at L π X) f;
        drawn = record {
          handed = ns;
          naming = record { starts = l.starts; ends = omega arith; named = l.named; suits = suits_one L π E plan ns el l.suited from_front refl };
          moved = empty;
          sets = nothing refl;
          edited = edit_one L π E plan ns el adm.valid.graded active from_front refl refl refl;
          measured = omega (arith, length_one L π E X el, bytes_spelled adm, e);
          within = omega (arith, bytes_empty);
        };
      } in
      rw k t

  -- by rules 29 to 34, where what it leaves is within the limits and where it is not
  pub turn_alone : (rule M n sent : ℕ) (ns : List Reference) → Turns N M rule E (turned true ns E) → ((P : Process) → E ≡ process_element (restriction P) → N < name_limit)
      → fits nest (replace_at L π (turned true ns E)) ≡ true → Fronted F N L E sent ns → n + bytes (only E) ≡ 7 + length s + bytes (turned true ns E)
      → {m : Move} → m ≡ alone_move rule M n (7 + at) sent → ChoiceOf nest F N L (place L π) none (Ok m)
  turn_alone rule M n sent ns t r = take_alone rule M n sent ns (turning nest F N L π E el t r) (turns_active E (turned true ns E) t)

  too_deep : (rule M : ℕ) (ns : List Reference) → Turns N M rule E (turned true ns E) → ((P : Process) → E ≡ process_element (restriction P) → N < name_limit)
      → fits nest (replace_at L π (turned true ns E)) ≡ false → ChoiceOf nest F N L (place L π) none (Err ResultTooDeep)
  too_deep rule M ns t r f = refuses nest F N L (place L π) none ResultTooDeep (turning nest F N L π E el t r ∙ unfitting nest rule F M (replace_at L π (turned true ns E)) f)

  -- how long the element is, in the bytes
  pub wide : (n : ℕ) → n ≡ word_at (from s at) 1 → 3 + n ≡ bytes (only E)
  unfolding width
  wide n k = first_width E (behind L π) (from s at) n spelled k

  pub process_there : byte_at s at 0 ≡ 0x42 → (k : Shape) → shape_of (byte_at s at 3) ≡ k → Stood (element_at L π) k
  process_there t k h =
      let p = process_tagged E (sym tag_is ∙ t) in
      let e : element_at L π ≡ some (process_element p.0) = el ∙ ap some p.1 in
      subst (Stood (element_at L π)) (ap shape_of (sym (process_tag_law adm π p.0 e at there)) ∙ h) (stood p.0 e)

-- the copy behind the action of a replication is the replication itself
copies : {nest : ℕ} {s : List ℕ} {F N : ℕ} {L : Elements} → Admitting nest s F N L → (π : Position) (α : Action) (P : Process) → element_at L π ≡ some (process_element (replication α P))
    → Turns N N 30 (process_element (replication α P)) (turned true [] (process_element (replication α P)))
unfolding turned
copies {N = N} {L = L} adm π α P e =
    let E = process_element (replication α P) in
    let c = closed name_limit (binders α) (replication α P) (spellable_process (replication α P) (behind L π) (flattened_spellable (element_at_at L π E e) adm.spells.spellable)).0 in
    subst (λ (Q : Process). Turns N N 30 E (only (process_element (action α (parallel P Q))))) c rule30

-- What is chosen, by the bytes at an element

module _ {nest : ℕ} {s : List ℕ} {F N : ℕ} {L : Elements} (adm : Admitting nest s F N L) (π : Position) (E : Element) (el : element_at L π ≡ some E) (at : ℕ) (there : offset 0 L π ≡ at) where
  -- Processes

  module _ (t : byte_at s at 0 ≡ 0x42) where
    pub chooses_null : byte_at s at 3 ≡ 0x20 → {m : Move} → m ≡ alone_move 31 N (length s + 7 - 6) (7 + at) 7 → ChoiceOf nest F N L (place L π) none (Ok m)
    unfolding turned Suited Stood shape_of
    chooses_null k =
        let v = process_there adm π E el at there t is_null (ap shape_of k) in
        turn_alone adm π (process_element null) v at there 31 N (length s + 7 - 6) 7 [] rule31 (λ P z. unlike cc)
        (fits_turned L π adm.valid.fits true [] (process_element null) v tt) (no_names F N L (process_element null) tt) (omega (arith, turned_null true [], bytes_null))

    pub chooses_parallel : byte_at s at 3 ≡ 0x21 → {m : Move} → m ≡ alone_move 32 N (length s + 7) (7 + at) 7 → ChoiceOf nest F N L (place L π) none (Ok m)
    unfolding turned Suited Stood shape_of
    chooses_parallel k =
        let v = process_there adm π E el at there t is_parallel (ap shape_of k) in
        let D = process_element (parallel v.0 v.1) in
        turn_alone adm π D v.2 at there 32 N (length s + 7) 7 [] rule32 (λ P z. unlike cc)
        (fits_turned L π adm.valid.fits true [] D v.2 tt) (no_names F N L D tt) (omega (arith, turned_parallel true [] v.0 v.1))

    pub chooses_restriction : byte_at s at 3 ≡ 0x22 → N < name_limit → {m : Move} → m ≡ alone_move 33 (N + 1) (length s + 7 - 3) (7 + at) 5 → ChoiceOf nest F N L (place L π) none (Ok m)
    unfolding turned Stood shape_of
    chooses_restriction k h e =
        let v = process_there adm π E el at there t is_restriction (ap shape_of k) in
        let D = process_element (restriction v.0) in
        let ns = name N ∷ [] in
        let z : N + 1 ≡ suc N = omega arith in
        turn_alone adm π D v.1 at there 33 (suc N) (length s + 7 - 3) 5 ns rule33 (λ P z. h)
        (fits_turned L π adm.valid.fits true ns D v.1 tt) (next_name F N L v.0 h) (omega (arith, turned_restriction true ns v.0)) (e ∙ ap (λ (M : ℕ). alone_move 33 M (length s + 7 - 3) (7 + at) 5) z)

    pub restriction_unnamed : byte_at s at 3 ≡ 0x22 → name_limit ≤ N → ChoiceOf nest F N L (place L π) none (Err NoNameLeft)
    unfolding Stood shape_of
    restriction_unnamed k h =
        let v = process_there adm π E el at there t is_restriction (ap shape_of k) in
        refuses nest F N L (place L π) none NoNameLeft
        (eleven nest F N L π (process_element (restriction v.0)) v.1 v.0 refl (λ α Q z. unlike cc) (process_ready (restriction v.0)) h)

    module _ (k : byte_at s at 3 ≡ 0x23) (spot : Spot) (z : spot ≡ spot_of L π) where
      opens : (a : Reference) × (P : Process) × (element_at L π ≡ some (process_element (ambient a P)))
      unfolding Stood shape_of
      opens = process_there adm π E el at there t is_ambient (ap shape_of k)

      opening_fits : (b : Bool) → leb (suc spot.level) nest ≡ b → fits nest (replace_at L π (turned true [] (process_element (ambient opens.0 opens.1)))) ≡ b
      opening_fits b h = fits_process_ambient L π adm.valid.fits true [] opens.0 opens.1 opens.2 ∙ ap (λ (t : Spot). leb (suc t.level) nest) (sym z) ∙ h

      pub chooses_opening : spot.level < nest → {m : Move} → m ≡ alone_move 34 N (length s + 7) (7 + at) 7 → ChoiceOf nest F N L (place L π) none (Ok m)
      unfolding turned Suited
      chooses_opening h =
          let v = opens in
          let D = process_element (ambient v.0 v.1) in
          turn_alone adm π D v.2 at there 34 N (length s + 7) 7 [] rule34 (λ P z. unlike cc)
          (opening_fits true (le-leb (suc spot.level) nest (omega arith))) (no_names F N L D tt) (omega (arith, turned_process_ambient true [] v.0 v.1))

      pub opening_nested : nest ≤ spot.level → ChoiceOf nest F N L (place L π) none (Err ResultTooDeep)
      unfolding turned
      opening_nested h =
          too_deep adm π (process_element (ambient opens.0 opens.1)) opens.2 at there 34 N [] rule34 (λ P z. unlike cc)
          (opening_fits false (lt-leb (suc spot.level) nest (omega arith)))

    -- the test of its depth, in bytes
    abbrev pub Shallow : ℕ → Bool → Type 0
    Shallow n b = (P : Process) → take (3 + n - 3) (drop 3 (from s at)) ≡ encode P → Counted P → b ≡ ltb (depth P + 1) state_depth_limit

    module _ (k : shape_of (byte_at s at 3) ≡ is_replication) (n : ℕ) (w : n ≡ word_at (from s at) 1) (b : Bool) (test : Shallow n b) where
      replicates : (α : Action) × (P : Process) × (element_at L π ≡ some (process_element (replication α P)))
      unfolding Stood
      replicates = process_there adm π E el at there t is_replication k

      tested : (α : Action) (P : Process) → element_at L π ≡ some (process_element (replication α P)) → b ≡ ltb (depth (replication α P) + 1) state_depth_limit
      tested α P e =
          let Q = replication α P in
          let size : 3 + n - 3 ≡ length (encode Q) = omega (arith, wide adm π (process_element Q) e at there n w, bytes_process Q) in
          test Q
          (ap (λ (l : List ℕ). take (3 + n - 3) (drop 3 l)) (spelled_from L π (process_element Q) e there adm.spells.spelled)
          ∙ ap (take (3 + n - 3)) (drop_tag Q (behind L π))
          ∙ take_at (encode Q) (encode_elements (behind L π)) (3 + n - 3) (sym size))
          (spellable_process Q (behind L π) (flattened_spellable (element_at_at L π (process_element Q) e) adm.spells.spellable)).1

      copy_fits : leb (3 + depth replicates.1) state_depth_limit ≡ b
      unfolding depth
      copy_fits = let z : 3 + depth replicates.1 ≡ suc (depth (replication replicates.0 replicates.1) + 1) = omega arith in ap (λ (k : ℕ). leb k state_depth_limit) z ∙ sym (tested replicates.0 replicates.1 replicates.2)

      pub chooses_replication : b ≡ true → {m : Move} → m ≡ alone_move 30 N (length s + 7 + (3 + n)) (7 + at) 7 → ChoiceOf nest F N L (place L π) none (Ok m)
      unfolding Suited
      chooses_replication h =
          let v = replicates in
          let D = process_element (replication v.0 v.1) in
          turn_alone adm π D v.2 at there 30 N (length s + 7 + (3 + n)) 7 [] (copies adm π v.0 v.1 v.2) (λ P z. unlike cc)
          (fits_replication L π adm.valid.fits true [] v.0 v.1 v.2 ∙ copy_fits ∙ h)
          (no_names F N L D tt) (omega (arith, turned_replication true [] v.0 v.1, wide adm π D v.2 at there n w))

      pub replication_deep : b ≡ false → ChoiceOf nest F N L (place L π) none (Err ResultTooDeep)
      replication_deep h =
          let v = replicates in
          too_deep adm π (process_element (replication v.0 v.1)) v.2 at there 30 N [] (copies adm π v.0 v.1 v.2) (λ P z. unlike cc)
          (fits_replication L π adm.valid.fits true [] v.0 v.1 v.2 ∙ copy_fits ∙ h)

-- The bytes at an offset where an element stands

module _ {nest : ℕ} {s : List ℕ} {N at : ℕ} (c : ChoosesAt nest s N at) where
  abbrev pub chosen_standing : Standing s at
  chosen_standing = admitted_standing c.admitting c.position c.stands c.there

  pub chosen_below : at < length s
  chosen_below = standing_below chosen_standing

  pub some_there : 0 < length (from s at)
  some_there = standing_some chosen_standing

  abbrev pub there_spelled : SpelledList (from s at)
  there_spelled = standing_list chosen_standing

  module _ (n : ℕ) (k : n ≡ word_at (from s at) 1) where
    pub element_within : 3 + n ≤ length (from s at)
    element_within = (first there_spelled.tree (from s at) n there_spelled.spelled k some_there).within

    pub process_spelled : byte_at s at 0 ≡ 0x42 → CountedProcess (take (3 + n - 3) (drop 3 (from s at)))
    unfolding ◌before◌
    process_spelled t =
        let v = as_process there_spelled.tree (from s at) n there_spelled.spelled k some_there t in
        record {
          process = v.process;
          spelled = v.body;
          counted = (spellable_process v.process (tail there_spelled.tree) (subst SpellableElements v.is there_spelled.spellable)).1;
          short = omega (arith, there_spelled.short, part_length (3 + n - 3) 3 (from s at));
        }

  pub process_within : byte_at s at 0 ≡ 0x42 → 3 < length (from s at)
  process_within = process_long chosen_standing
