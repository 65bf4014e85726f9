-- The choice at an action, by what is found for it, and the choice at a place.
use mathlib.Core.Path.{◌≡◌, sym, ap, ◌∙◌, subst}
use mathlib.Core.Bool.{Bool, true, false}
use mathlib.Core.List.{List, []}
use mathlib.Core.Option.{Option, none, some, none-ne-some, some-injective}
use Prim.Native.Nat.{ℕ, ◌+◌}
use native.Mathlib.Omega.{arith}
use lib.ListN.{length}
use lib.Dec.{ltb}
use Rattle.calculus.specs.Processes.{Action, Process, action}
use Rattle.machine.specs.Elements.{Status, unblocked, Elements, Element, process_element, standing, state, Position, place, element_at}
use Rattle.machine.specs.Rules.{Meeting, Partner, partner}
use Rattle.machine.specs.Causes.{Cause8}
use Rattle.machine.specs.Kinds.{side_of}
use Rattle.machine.specs.Meetings.{partners}
use Rattle.machine.specs.Positions.{position}
use Rattle.machine.proofs.Places.{position_found, position_place}
use Rattle.machine.proofs.Stepping.{partner_of_law, meeting_acting, refused_by8}
use Rattle.machine.proofs.Graded.{ElementBlocked}
use Rattle.format.specs.Reading.{is_action, shape_of}
use Rattle.elements.specs.Spelling.{encode_elements}
use Rattle.elements.specs.Spelled.{Spells}
use Rattle.places.specs.declared.Spot.{Spot}
use Rattle.planning.specs.declared.Move.{Move}
use Rattle.std.specs.Prelude.{Option as CodeOption, Some, None, Result, Ok, Err}
use Rattle.refusals.specs.declared.Refusal.{Refusal}
use Rattle.refusals.specs.declared.Refusal.TheVariants.{CannotAct, NotPartner, HasPartner}
use Rattle.tallying.specs.declared.Tally.{Tally}
use Rattle.tallying.specs.Numbers.{tally_numbers}
use Rattle.searching.specs.Lists.{Acting}
use Rattle.searching.specs.Found.{Tallied, FirstFound, NothingFound}
use Rattle.machine.specs.Frames.{Frame, frame_of}
use Rattle.machine.specs.Questions.{every, told_of, is_one, ask}
use Rattle.places.specs.Offsets.{by_bytes, offset, place_offset, spot_of, Standing, meant}
use Rattle.turning.specs.Turning.{turned, Suited}
use Rattle.planning.specs.Choices.{byte_at, Admitting, ChoiceOf, ChoosesAt, ChosenAt}
use Rattle.alone.specs.Alone.{alone_move}
use Rattle.meeting.specs.Meeting.{MeetingAt, MetAt}
use Rattle.places.proofs.Offsets.{place_found, place_missing}
use Rattle.planning.proofs.Lengths.{turned_blocking}
use Rattle.planning.proofs.Fitting.{fits_turned}
use Rattle.searching.proofs.Found.{number_found, none_is_found, first_told, lowest_told, lowest_found, one_found, other_found}
use Rattle.planning.proofs.Answers.{nine, ten, blocking}
use Rattle.alone.proofs.Turnings.{Stood, admitted_standing, process_ready, no_names, process_there, take_alone}

-- What is learnt at an offset, or by a question about the action at a spot, of every list that the bytes spell.
abbrev pub Known : {B : Type 0} → List ℕ → ℕ → B → (Elements → Position → B) → Type 0
Known s at r g = (A : Elements) (π : Position) (E : Element) → s ≡ encode_elements A → element_at A π ≡ some E → offset 0 A π ≡ at → r ≡ g A π

abbrev pub Asked : {B : Type 0} → List ℕ → Spot → B → (Frame → Action → B) → Type 0
Asked s spot r g = (L : Elements) (π : Position) (u : Status) (α : Action) (P : Process) → Spells s L → element_at L π ≡ some (standing u α P) → spot ≡ spot_of L π → r ≡ g (frame_of L π) α

abbrev pub chosen : {nest : ℕ} {s : List ℕ} {F N : ℕ} {L : Elements} → Admitting nest s F N L → (π : Position) (E : Element) {at : ℕ} → element_at L π ≡ some E → offset 0 L π ≡ at → ChoosesAt nest s N at
chosen {F = F} {L = L} adm π E e o = record { free = F; tree = L; admitting = adm; position = π; element = E; stands = e; there = o }

-- An action to be executed

module _ {nest : ℕ} {s : List ℕ} {N at : ℕ} (x : ChoosesAt nest s N at) (tags : (byte_at s at 0 ≡ 0x42) × (byte_at s at 3 ≡ 0x24)) where
  pub doing : (α : Action) × (P : Process) × (element_at x.tree x.position ≡ some (process_element (action α P)))
  unfolding Stood shape_of
  doing = process_there x.admitting x.position x.element x.stands at x.there tags.0 is_action (ap shape_of tags.1)

  stood : element_at x.tree x.position ≡ some (standing unblocked doing.0 doing.1)
  unfolding standing
  stood = doing.2

  module _ (spot : Spot) (spots : Known s at spot spot_of) where
    spotted : spot ≡ spot_of x.tree x.position
    spotted = spots x.tree x.position x.element x.admitting.spells.spelled x.stands x.there

    pub acting : Acting s spot
    acting = record {
      tree = x.tree;
      spells = x.admitting.spells;
      short = omega (arith, x.admitting.short);
      position = x.position;
      status = unblocked;
      doing = doing.0;
      process = doing.1;
      stands = stood;
      spotted = spotted;
    }

    -- its partner at an offset
    module _ {n o : ℕ} {κ : Position} {L' : Elements} (m : Meeting n x.position κ x.tree L') (e : offset 0 x.tree κ ≡ o) (other : Spot) (others : Known s o other spot_of) where
      found : other ≡ spot_of x.tree κ
      found = others x.tree κ _ x.admitting.spells.spelled (meeting_acting m).4 e

      pub meeting_at : MeetingAt nest s N spot other
      meeting_at = record {
        free = x.free;
        tree = x.tree;
        admitting = x.admitting;
        position = x.position;
        doing = doing.0;
        process = doing.1;
        stands = doing.2;
        spotted = spotted;
        partner = κ;
        rule = n;
        result = L';
        meets = m;
        found = found;
      }

      pub met_at : (r : Result Move Refusal) → MetAt nest s N spot other r → ChoiceOf nest x.free N x.tree (place x.tree x.position) (some (place x.tree κ)) r
      met_at r h = h x.free x.tree x.position doing.0 doing.1 κ n L' x.admitting doing.2 spotted m found

    -- No partner is named

    module _ (once : Bool) (r : Tally) (asked : Asked s spot r (λ f α. tally_numbers (ask by_bytes (every once) f α))) where
      tallied : Tallied once x.tree x.position doing.0 r
      tallied = asked x.tree x.position unblocked doing.0 doing.1 x.admitting.spells stood spotted

      pub first_answer : {o : ℕ} → r.lowest ≡ Some o → FirstFound x.tree x.position doing.0 o
      first_answer {o} = first_told once x.tree x.position doing.0 doing.1 r o doing.2 tallied

      pub none_told : r.lowest ≡ None → r.number ≡ 0
      none_told = (lowest_told once x.tree x.position doing.0 doing.1 r doing.2 tallied).1

      pub no_answer : r.number ≡ 0 → NothingFound x.tree x.position doing.0
      no_answer = none_is_found once x.tree x.position doing.0 doing.1 r doing.2 tallied

      pub answer_number : r.number ≡ told_of once (length (partners (side_of doing.0) x.tree x.position))
      answer_number = number_found once x.tree x.position doing.0 doing.1 r doing.2 tallied

      -- one is found: 10
      pub found_unnamed : ¬ (r.number ≡ 0) → ChoiceOf nest x.free N x.tree (place x.tree x.position) none (Err HasPartner)
      unfolding ChoiceOf
      found_unnamed z =
          let t = (lowest_found once x.tree x.position doing.0 doing.1 r doing.2 tallied z).2 in
          ten nest x.free N x.tree x.position _ doing.2 (process_ready (action doing.0 doing.1)) (place x.tree t.partner) (partner t.meets)

      unpartnered : r.number ≡ 0 → (q : ℕ) → ¬ Partner x.tree (place x.tree x.position) q
      unpartnered z q w = let t = partner_of_law w x.position (position_place x.tree x.position _ doing.2) in (no_answer z).alone t.0 t.1 t.2 t.4

      -- none exists: it blocks
      pub nobody_unnamed : (m : Move) → m ≡ alone_move 43 N (length s + 4) (7 + at) 7 → r.number ≡ 0
          → ChoiceOf nest x.free N x.tree (place x.tree x.position) none (Ok m)
      unfolding turned Suited ElementBlocked
      nobody_unnamed m k z =
          let E = process_element (action doing.0 doing.1) in
          take_alone x.admitting x.position E doing.2 at x.there 43 N (length s + 4) 7 [] (blocking nest x.free N x.tree x.position doing.0 doing.1 doing.2 (unpartnered z)) (λ z. z)
          (fits_turned x.tree x.position x.admitting.valid.fits true [] E doing.2 tt) (no_names x.free N x.tree E tt) (omega (arith, turned_blocking [] doing.0 doing.1)) k

  -- A partner is named

  module _ (q : ℕ) (result : CodeOption ℕ) (finds : (A : Elements) → s ≡ encode_elements A → result ≡ place_offset A q) where
    unmet : ¬ Partner x.tree (place x.tree x.position) q → ChoiceOf nest x.free N x.tree (place x.tree x.position) (some q) (Err NotPartner)
    unfolding ChoiceOf
    unmet h = nine nest x.free N x.tree x.position _ doing.2 (process_ready (action doing.0 doing.1)) q h

    -- a partner at the place q has that place's position
    partner_position : (w : Partner x.tree (place x.tree x.position) q) →
        (κ : Position) × (n : ℕ) × (L' : Elements) × Meeting n x.position κ x.tree L' × (position x.tree q ≡ some κ)
    partner_position w =
        let t = partner_of_law w x.position (position_place x.tree x.position _ doing.2) in
        let a = meeting_acting t.4 in
        (t.1, t.0, t.2, t.4, ap (position x.tree) (sym t.3) ∙ position_place x.tree t.1 a.2 a.4)

    found_place : place_offset x.tree q ≡ result
    found_place = sym (finds x.tree x.admitting.spells.spelled)

    -- the place named has no element: 9
    pub named_missing : result ≡ None → ChoiceOf nest x.free N x.tree (place x.tree x.position) (some q) (Err NotPartner)
    named_missing e = unmet (λ w. let t = partner_position w in none-ne-some t.0 (sym (place_missing x.tree q (found_place ∙ e)) ∙ t.4))

    module _ (wanted : ℕ) (told : result ≡ Some wanted) where
      named : (κ : Position) × (E : Element) × (position x.tree q ≡ some κ) × (element_at x.tree κ ≡ some E) × (offset 0 x.tree κ ≡ wanted)
      named = place_found x.tree q wanted (found_place ∙ told)

      pub named_standing : Standing s wanted
      named_standing = admitted_standing x.admitting named.0 named.3 named.4

      module _ (spot : Spot) (spots : Known s at spot spot_of) (b : Bool) (is : Asked s spot b (λ f α. ltb 0 (ask by_bytes (is_one wanted) f α).number)) where
        asked_there : b ≡ ltb 0 (ask by_bytes (is_one (offset 0 x.tree named.0)) (frame_of x.tree x.position) doing.0).number
        asked_there = rw named.4 (is x.tree x.position unblocked doing.0 doing.1 x.admitting.spells stood (spotted spot spots))

        -- what stands there is no partner: 9
        pub named_other : b ≡ false → ChoiceOf nest x.free N x.tree (place x.tree x.position) (some q) (Err NotPartner)
        named_other f = unmet (λ w.
            let t = partner_position w in
            let same : t.0 ≡ named.0 = some-injective t.0 named.0 (sym t.4 ∙ named.2) in
            other_found x.tree x.position doing.0 doing.1 named.0 named.1 b doing.2 named.3 asked_there f t.1 t.2
            (subst (λ κ. Meeting t.1 x.position κ x.tree t.2) same t.3))

        module _ (f : b ≡ true) (there : Spot) (others : Known s wanted there spot_of) where
          met_there : (n : ℕ) × (L' : Elements) × Meeting n x.position named.0 x.tree L'
          met_there = one_found x.tree x.position doing.0 doing.1 named.0 named.1 b doing.2 named.3 asked_there f

          pub named_meeting : MeetingAt nest s N spot there
          named_meeting = meeting_at spot spots met_there.2 named.4 there others

          pub named_met : (r : Result Move Refusal) → MetAt nest s N spot there r → ChoiceOf nest x.free N x.tree (place x.tree x.position) (some q) r
          named_met r m =
              subst (λ k. ChoiceOf nest x.free N x.tree (place x.tree x.position) (some k) r) (position_found x.tree q named.0 named.2).0
              (met_at spot spots met_there.2 named.4 there others r m)

-- Answers at a place

module _ {nest : ℕ} {s : List ℕ} {F N : ℕ} {L : Elements} (adm : Admitting nest s F N L) (p : ℕ) where
  -- no element: 8
  pub place_eight : (q : Option ℕ) → place_offset L p ≡ None → ChoiceOf nest F N L p q (Err CannotAct)
  unfolding ChoiceOf Cause8
  place_eight q e =
      refused_by8 nest (state F N L) p q
      (λ c. none-ne-some c.position (sym (place_missing L p e) ∙ ap (position L) (sym c.numbered) ∙ position_place L c.position c.element c.stands))

  module _ (at : ℕ) (e : place_offset L p ≡ Some at) where
    pub place_choosing : ChoosesAt nest s N at
    place_choosing = let t = place_found L p at e in chosen adm t.0 t.1 t.3 t.4

    pub place_chosen : (q : CodeOption ℕ) (r : Result Move Refusal) → ChosenAt nest s N at q r → ChoiceOf nest F N L p (meant q) r
    place_chosen q r h =
        let t = place_found L p at e in
        subst (λ k. ChoiceOf nest F N L k (meant q) r) (position_found L p t.0 t.2).0 (h F L t.0 t.1 adm t.3 t.4)
