-- What is chosen at an ambient, by its contents, and what is refused at an element that cannot act or with a partner named where none can be.
use mathlib.Core.Path.{◌≡◌, refl, sym, ap, ◌∙◌}
use mathlib.Core.Bool.{Bool, true, false, false≢true}
use mathlib.Core.List.{List, []}
use mathlib.Core.Option.{Option, none, some}
use Prim.Native.Nat.{ℕ, ◌+◌, ◌-◌, ◌≤◌}
use native.Mathlib.Omega.{arith}
use lib.ListN.{length, take, drop}
use Rattle.calculus.specs.Processes.{Reference, Action, Process, action}
use Rattle.machine.specs.Elements.{Status, unblocked, blocked, Elements, Element, ambient_element, process_element, blocked_element, Position, place, element_at, AllBlocked}
use Rattle.machine.specs.Rules.{rule29, Ready}
use Rattle.machine.specs.Tests.{all_blocked}
use Rattle.machine.specs.Validity.{Graded}
use Rattle.machine.proofs.Tests.{all_blocked_true, true_all_blocked}
use Rattle.machine.proofs.Graded.{graded_elementwise, contents_graded}
use Rattle.machine.proofs.Places.{At, element_at_at, element_at_law}
use Rattle.format.specs.Reading.{word_at}
use Rattle.elements.specs.Spelling.{ambient_tag, encode_elements}
use Rattle.elements.specs.Spelled.{SpelledList}
use Rattle.buffers.proofs.Parts.{from}
use Rattle.planning.specs.declared.Move.{Move}
use Rattle.std.specs.Prelude.{Ok, Err}
use Rattle.refusals.specs.declared.Refusal.TheVariants.{CannotAct, NotPartner}
use Rattle.places.specs.Offsets.{offset}
use Rattle.turning.specs.Turning.{turned, Suited}
use Rattle.planning.specs.Choices.{byte_at, Admitting, ChoiceOf, ChoosesAt}
use Rattle.measuring.specs.Measuring.{Holding}
use Rattle.measuring.proofs.Contents.{held_inside, held_list}
use Rattle.alone.specs.Alone.{alone_move}
use Rattle.planning.proofs.Lengths.{turned_ambient}
use Rattle.planning.proofs.Fitting.{fits_turned}
use Rattle.planning.proofs.Answers.{eight, nine_alone}
use Rattle.alone.proofs.Turnings.{element_tag, process_tag, unlike, process_tagged, process_ready, refuses, no_names, process_tag_law, tag_is, turn_alone}

-- What stands there, by its tag

ambient_tagged : (E : Element) → element_tag E ≡ 0x40 → (a : Reference) × (A : Elements) × (E ≡ ambient_element unblocked a A)
unfolding element_tag ambient_tag
ambient_tagged (ambient_element unblocked a A) h = (a, A, refl)
ambient_tagged (ambient_element blocked a A) h = absurd (omega arith)
ambient_tagged (process_element P) h = absurd (omega arith)
ambient_tagged (blocked_element α P) h = absurd (omega arith)

unready_tagged : (E : Element) → ¬ (element_tag E ≡ 0x42) → ¬ (element_tag E ≡ 0x40) → ¬ Ready E
unfolding element_tag ambient_tag Ready
unready_tagged (ambient_element unblocked a A) h k r = k refl
unready_tagged (ambient_element blocked a A) h k r = r
unready_tagged (process_element P) h k r = h refl
unready_tagged (blocked_element α P) h k r = r

ambient_ready : (a : Reference) (A : Elements) → AllBlocked A → Ready (ambient_element unblocked a A)
unfolding Ready
ambient_ready a A h = h

ready_ambient : (a : Reference) (A : Elements) → Ready (ambient_element unblocked a A) → AllBlocked A
unfolding Ready
ready_ambient a A h = h

graded_at : {u : Status} {a : Reference} {A : Elements} {π : Position} {L : Elements} → At (ambient_element u a A) π L → Graded L → Graded A
graded_at {u = u} {a = a} {A = A} h g = contents_graded u a A (element_at_law graded_elementwise contents_graded h g)

-- What is chosen, by the bytes at an element

abbrev holding : {nest : ℕ} {s : List ℕ} {F N : ℕ} {L : Elements} → Admitting nest s F N L → (π : Position) (at : ℕ) → offset 0 L π ≡ at
    → (a : Reference) (A : Elements) → element_at L π ≡ some (ambient_element unblocked a A) → Holding s at
holding {L = L} adm π at there a A e = record { tree = L; spells = adm.spells; short = omega (arith, adm.short); position = π; status = unblocked; called = a; inside = A; stands = e; there = there }

module _ {nest : ℕ} {s : List ℕ} {F N : ℕ} {L : Elements} (adm : Admitting nest s F N L) (π : Position) (E : Element) (el : element_at L π ≡ some E) (at : ℕ) (there : offset 0 L π ≡ at) where
  ambient_there : byte_at s at 0 ≡ 0x40 → (a : Reference) × (A : Elements) × (element_at L π ≡ some (ambient_element unblocked a A))
  ambient_there t = let p = ambient_tagged E (sym (tag_is adm π E el at there) ∙ t) in (p.0, p.1, el ∙ ap some p.2)

  pub chooses_none : ¬ (byte_at s at 0 ≡ 0x42) → ¬ (byte_at s at 0 ≡ 0x40) → (q : Option ℕ) → ChoiceOf nest F N L (place L π) q (Err CannotAct)
  chooses_none h k q =
      let e = tag_is adm π E el at there in
      refuses nest F N L (place L π) q CannotAct (eight nest F N L π E el (unready_tagged E (λ z. h (e ∙ z)) (λ z. k (e ∙ z))) q)

  -- Ambients

  -- the test of an ambient's contents, in bytes
  abbrev pub Tested : ℕ → Bool → Type 0
  Tested n b = (A : Elements) → take (3 + n - 5) (drop 5 (from s at)) ≡ encode_elements A → Graded A → b ≡ all_blocked A

  module _ (t : byte_at s at 0 ≡ 0x40) (n : ℕ) (k : n ≡ word_at (from s at) 1) (b : Bool) (test : Tested n b) where
    tested : (a : Reference) (A : Elements) → element_at L π ≡ some (ambient_element unblocked a A) → b ≡ all_blocked A
    tested a A e = test A (held_inside (holding adm π at there a A e) n k).body (graded_at (element_at_at L π (ambient_element unblocked a A) e) adm.valid.graded)

    pub chooses_ambient : b ≡ true → {m : Move} → m ≡ alone_move 29 N (length s + 7) (7 + at) 7 → ChoiceOf nest F N L (place L π) none (Ok m)
    unfolding turned Suited
    chooses_ambient y =
        let v = ambient_there t in
        let D = ambient_element unblocked v.0 v.1 in
        turn_alone adm π D v.2 at there 29 N (length s + 7) 7 [] (rule29 (all_blocked_true v.1 (sym (tested v.0 v.1 v.2) ∙ y))) (λ P z. unlike cc)
        (fits_turned L π adm.valid.fits true [] D v.2 tt) (no_names F N L D tt) (omega (arith, turned_ambient true [] unblocked v.0 v.1))

    pub ambient_named : b ≡ true → (q : ℕ) → ChoiceOf nest F N L (place L π) (some q) (Err NotPartner)
    ambient_named y q =
        let v = ambient_there t in
        let r = ambient_ready v.0 v.1 (all_blocked_true v.1 (sym (tested v.0 v.1 v.2) ∙ y)) in
        refuses nest F N L (place L π) (some q) NotPartner (nine_alone nest F N L π (ambient_element unblocked v.0 v.1) v.2 r (λ α P e. unlike cc) q)

    pub ambient_busy : b ≡ false → (q : Option ℕ) → ChoiceOf nest F N L (place L π) q (Err CannotAct)
    ambient_busy y q =
        let v = ambient_there t in
        let r = tested v.0 v.1 v.2 in
        refuses nest F N L (place L π) q CannotAct (eight nest F N L π (ambient_element unblocked v.0 v.1) v.2 (λ h. false≢true (sym y ∙ r ∙ true_all_blocked v.1 (ready_ambient v.0 v.1 h))) q)

  -- Processes

  pub process_named : byte_at s at 0 ≡ 0x42 → ¬ (byte_at s at 3 ≡ 0x24) → (q : ℕ) → ChoiceOf nest F N L (place L π) (some q) (Err NotPartner)
  unfolding process_tag
  process_named t k q =
      let p = process_tagged E (sym (tag_is adm π E el at there) ∙ t) in
      let e : element_at L π ≡ some (process_element p.0) = el ∙ ap some p.1 in
      let no : (α : Action) (P : Process) → ¬ (process_element p.0 ≡ process_element (action α P)) = λ α P g. k (process_tag_law adm π (action α P) (e ∙ ap some g) at there) in
      refuses nest F N L (place L π) (some q) NotPartner (nine_alone nest F N L π (process_element p.0) e (process_ready p.0) no q)

-- The contents of the ambient at an offset

module _ {nest : ℕ} {s : List ℕ} {N at : ℕ} (c : ChoosesAt nest s N at) (n : ℕ) (k : n ≡ word_at (from s at) 1) (t : byte_at s at 0 ≡ 0x40) where
  abbrev held : Holding s at
  held = let v = ambient_there c.admitting c.position c.element c.stands at c.there t in holding c.admitting c.position at c.there v.0 v.1 v.2

  pub contents_long : 2 ≤ n
  contents_long = (held_inside held n k).long

  pub contents_listed : SpelledList (take (3 + n - 5) (drop 5 (from s at)))
  contents_listed = held_list held n k
