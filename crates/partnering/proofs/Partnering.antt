-- What is told of the partners of an action, of an element and of a place.
use mathlib.Core.Path.{◌≡◌, refl, sym, ap, ◌∙◌}
use mathlib.Core.Bool.{Bool, true, false, false≢true}
use mathlib.Core.List.{List}
use mathlib.Core.Option.{none, some}
use Prim.Native.Nat.{ℕ}
use native.Mathlib.Omega.{arith}
use lib.ListN.{length, get_or}
use Rattle.calculus.specs.Processes.{Action, Process, action}
use Rattle.machine.specs.Elements.{Status, unblocked, Elements, Element, process_element, ◌before◌, standing, Position, place, element_at}
use Rattle.machine.specs.Kinds.{side_of}
use Rattle.machine.specs.Lowest.{able, first_able, partners_of, partners_at}
use Rattle.machine.specs.Meetings.{partners}
use Rattle.machine.specs.Ordered.{lowest, member}
use Rattle.machine.specs.Questions.{told_of}
use Rattle.machine.specs.Validity.{Graded}
use Rattle.machine.proofs.Places.{position_found}
use Rattle.machine.proofs.Lowest.{partners_standing}
use Rattle.machine.proofs.Stepping.{meeting_acting}
use Rattle.elements.specs.Spelling.{encode_elements}
use Rattle.elements.specs.Spelled.{Spells}
use Rattle.elements.proofs.Searching.{listed}
use Rattle.buffers.proofs.Parts.{from}
use Rattle.places.specs.declared.Spot.{Spot}
use Rattle.places.specs.Offsets.{offset, place_offset, spot_of, Standing, coded}
use Rattle.places.proofs.Offsets.{behind, spelled_from, place_found, place_missing}
use Rattle.tallying.specs.declared.Tally.{Tally}
use Rattle.searching.specs.Lists.{Acting}
use Rattle.searching.specs.Found.{Tallied, FirstFound}
use Rattle.searching.proofs.Found.{number_found, none_is_found, first_told, lowest_told}
use Rattle.searching.proofs.Partners.{lone, acting_bytes}
use Rattle.states.specs.Reading.{read_state}
use Rattle.states.specs.Answers.{state_answer}
use Rattle.states.proofs.Root.{ReadRoot, unnamed, root_spells, root_short}
use Rattle.states.proofs.Theorems.{read_graded}
use Rattle.std.specs.Prelude.{Option as CodeOption, Some, None, Result, Ok, Err}
use Rattle.refusals.specs.declared.Refusal.{Refusal}
use Rattle.refusals.specs.declared.Refusal.TheVariants.{CannotAct}
use Rattle.refusals.specs.Refusals.{refusal}
use Rattle.partnering.specs.declared.PartnerCount.{PartnerCount}
use Rattle.partnering.specs.Partnering.{told, partners_read, partners_bytes}
use Rattle.partnering.specs.Answers.{partners_answer, ElementAt, ActionAt}
use Rattle.partnering.proofs.Acting.{listed_first, unlisted}

-- Answers

abbrev has : CodeOption ℕ → ℕ → Result PartnerCount Refusal
has q k = Ok (record { lowest = q; count = k })

told_has : (ps : List ℕ) (q : CodeOption ℕ) (k n : ℕ) → q ≡ coded (lowest ps) → k ≡ length ps → has q k ≡ partners_answer (told true ps n)
unfolding told partners_answer
told_has ps q k n e f = λ i. has (e i) (f i)

told_nobody : (ps : List ℕ) (n : ℕ) → lowest ps ≡ none → length ps ≡ 0 → has None 0 ≡ partners_answer (told true ps n)
told_nobody ps n e f = told_has ps None 0 n (sym (ap coded e)) (sym f)

pub told_refused : (ps : List ℕ) (n : ℕ) (b : Bool) → b ≡ false → Err CannotAct ≡ partners_answer (told b ps n)
unfolding told partners_answer refusal
told_refused ps n true e = absurd (false≢true (sym e))
told_refused ps n false e = refl

-- An action to be executed

module _ {s : List ℕ} {at : ℕ} (x : ActionAt s at) where
  pub action_standing : Standing s at
  action_standing = record {
    list = listed x.spells (omega (arith, x.short));
    position = x.position;
    element = process_element (action x.doing x.process);
    stands = x.stands;
    there = x.there;
  }

-- what the search finds for the action at an offset
module _ {s : List ℕ} {at : ℕ} {spot : Spot} (spots : (A : Elements) (π : Position) (E : Element) → s ≡ encode_elements A → element_at A π ≡ some E → offset 0 A π ≡ at → spot ≡ spot_of A π) where
  pub action_acting : ActionAt s at → Acting s spot
  unfolding standing
  action_acting x = record {
    tree = x.tree;
    spells = x.spells;
    short = x.short;
    position = x.position;
    status = unblocked;
    doing = x.doing;
    process = x.process;
    stands = x.stands;
    spotted = spots x.tree x.position (process_element (action x.doing x.process)) x.spells.spelled x.stands x.there;
  }

  module _ {r : Tally} (asked : (L : Elements) (π : Position) (u : Status) (α : Action) (P : Process) → Spells s L → element_at L π ≡ some (standing u α P) → spot ≡ spot_of L π → Tallied false L π α r) where
    module _ (L : Elements) (π : Position) (α : Action) (P : Process) (p : Spells s L) (e : element_at L π ≡ some (process_element (action α P))) (o : offset 0 L π ≡ at) where
      tallied : Tallied false L π α r
      unfolding standing
      tallied = asked L π unblocked α P p e (spots L π (process_element (action α P)) p.spelled e o)

      number : r.number ≡ length (partners (side_of α) L π)
      unfolding told_of
      number = number_found false L π α P r e tallied

      pub nobody_answers : (n : ℕ) → r.lowest ≡ None → has None 0 ≡ partners_answer (told true (partners (side_of α) L π) n)
      nobody_answers n y = let z = (lowest_told false L π α P r e tallied).1 y in told_nobody (partners (side_of α) L π) n (none_is_found false L π α P r e tallied z).first (sym number ∙ z)

      first_found : {o : ℕ} → r.lowest ≡ Some o → FirstFound L π α o
      first_found {o} = first_told false L π α P r o e tallied

      pub some_answer : (n q : ℕ) {o : ℕ} → r.lowest ≡ Some o → ((A : Elements) (κ : Position) (E : Element) → s ≡ encode_elements A → element_at A κ ≡ some E → offset 0 A κ ≡ o → q ≡ place A κ) →
          has (Some q) r.number ≡ partners_answer (told true (partners (side_of α) L π) n)
      some_answer n q z places =
          let t = first_found z in
          told_has (partners (side_of α) L π) (Some q) r.number n (ap Some (places L t.partner _ p.spelled (meeting_acting t.meets).4 t.found) ∙ sym (ap coded t.first)) number

    pub answer_standing : ActionAt s at → {o : ℕ} → r.lowest ≡ Some o → Standing s o
    answer_standing x z =
        let t = first_found x.tree x.position x.doing x.process x.spells x.stands x.there z in
        record { list = listed x.spells (omega (arith, x.short)); position = t.partner; element = _; stands = (meeting_acting t.meets).4; there = t.found }

-- An element

module _ {s : List ℕ} {at : ℕ} (x : ElementAt s at) where
  pub element_standing : Standing s at
  element_standing = record { list = listed x.spells (omega (arith, x.short)); position = x.position; element = x.element; stands = x.stands; there = x.there }

  pub element_action : get_or (from s at) 0 0 ≡ 0x42 → get_or (from s at) 3 0 ≡ 0x24 → ActionAt s at
  element_action a b =
      let q = spelled_from x.tree x.position x.element x.stands x.there x.spells.spelled in
      let t = acting_bytes x.element (behind x.tree x.position) (rw q at a) (rw q at b) in
      record {
        tree = x.tree;
        spells = x.spells;
        short = x.short;
        position = x.position;
        doing = t.0;
        process = t.1;
        stands = x.stands ∙ ap some t.2;
        there = x.there;
      }

module _ {s : List ℕ} {at : ℕ} (L : Elements) (π : Position) (E : Element) (p : Spells s L) (g : Graded L) (e : element_at L π ≡ some E) (o : offset 0 L π ≡ at) (n : ℕ)
    {b : Bool} (can : b ≡ first_able (E before behind L π)) where
  listed_there : member (place L π) (able 0 L) ≡ b
  listed_there = listed_first L g π E (behind L π) e ∙ sym can

  bytes_there : from s at ≡ encode_elements (E before behind L π)
  bytes_there = spelled_from L π E e o p.spelled

  abbrev answer : Result PartnerCount Refusal
  answer = partners_answer (told (member (place L π) (able 0 L)) (partners_at L (place L π)) n)

  pub element_refused : b ≡ false → Err CannotAct ≡ answer
  element_refused z = told_refused (partners_at L (place L π)) n _ (listed_there ∙ z)

  acts : b ≡ true → partners_answer (told true (partners_of L π (some E)) n) ≡ answer
  acts z = sym (ap (λ c. partners_answer (told c (partners_at L (place L π)) n)) (listed_there ∙ z) ∙ ap (λ ps. partners_answer (told true ps n)) (partners_standing L π E e))

  pub element_lone : b ≡ true → (get_or (from s at) 0 0 ≡ 0x42 → get_or (from s at) 3 0 ≡ 0x24 → ⊥) → has None 0 ≡ answer
  unfolding lowest
  element_lone z h = let w = lone L π E (behind L π) (rw bytes_there at h) in told_nobody (partners_of L π (some E)) n (ap lowest w) (ap length w) ∙ acts z

  pub element_acts : b ≡ true → get_or (from s at) 0 0 ≡ 0x42 → get_or (from s at) 3 0 ≡ 0x24 → (r : Result PartnerCount Refusal) →
      ((α : Action) (P : Process) → element_at L π ≡ some (process_element (action α P)) → r ≡ partners_answer (told true (partners (side_of α) L π) n)) → r ≡ answer
  unfolding partners_of
  element_acts z u v r f =
      let t = acting_bytes E (behind L π) (rw bytes_there at u) (rw bytes_there at v) in
      f t.0 t.1 (e ∙ ap some t.2) ∙ ap (λ D. partners_answer (told true (partners_of L π (some D)) n)) (sym t.2) ∙ acts z

-- A place

pub read_refused : (s : List ℕ) (p : ℕ) (x : Refusal) → Err x ≡ state_answer (read_state s) → Err x ≡ partners_answer (partners_bytes s p)
unfolding partners_bytes partners_read partners_answer
read_refused s p x e = let t = unnamed (read_state s) x e in ap (λ (y : Refusal). Err y) t.2 ∙ sym (ap (λ o. partners_answer (partners_read p o)) t.1)

module _ {s : List ℕ} {F N : ℕ} (r : ReadRoot s F N) (p : ℕ) where
  abbrev tree : Elements
  tree = r.root.tree

  graded : Graded tree
  graded = read_graded s F N tree r.root.count r.read

  there : partners_bytes s p ≡ told (member p (able 0 tree)) (partners_at tree p) r.root.count
  unfolding partners_bytes partners_read
  there = ap (partners_read p) r.read

  pub place_refused : place_offset tree p ≡ None → Err CannotAct ≡ partners_answer (partners_bytes s p)
  place_refused e = told_refused (partners_at tree p) r.root.count _ (unlisted tree graded p (place_missing tree p e)) ∙ sym (ap partners_answer there)

  module _ {at : ℕ} (e : place_offset tree p ≡ Some at) where
    pub place_element : ElementAt (from s 7) at
    place_element =
        let t = place_found tree p at e in
        record { tree = tree; spells = root_spells r.root; short = root_short r.root; graded = graded; position = t.0; element = t.1; stands = t.3; there = t.4 }

    pub place_told : (x : Result PartnerCount Refusal) → ((L : Elements) (π : Position) (E : Element) (n : ℕ) → Spells (from s 7) L → Graded L → element_at L π ≡ some E → offset 0 L π ≡ at
        → x ≡ partners_answer (told (member (place L π) (able 0 L)) (partners_at L (place L π)) n)) → x ≡ partners_answer (partners_bytes s p)
    place_told x f =
        let t = place_found tree p at e in
        let q = (position_found tree p t.0 t.2).0 in
        f tree t.0 t.1 r.root.count (root_spells r.root) graded t.3 t.4
        ∙ ap (λ (k : ℕ). partners_answer (told (member k (able 0 tree)) (partners_at tree k) r.root.count)) q
        ∙ sym (ap partners_answer there)
