-- What is chosen at the lowest place that can act, by its bytes and by what is found for it.
use mathlib.Core.Path.{◌≡◌, sym, ap, ◌∙◌}
use mathlib.Core.Bool.{Bool}
use mathlib.Core.List.{List, []}
use mathlib.Core.Option.{none, some}
use Prim.Native.Nat.{ℕ, ◌+◌}
use lib.ListN.{length}
use Rattle.machine.specs.Elements.{Elements, Element, ◌before◌, state, Position, place, element_at}
use Rattle.machine.specs.Ordered.{lowest}
use Rattle.machine.proofs.Lowest.{partners_standing}
use Rattle.machine.proofs.Stepping.{meeting_acting}
use Rattle.elements.specs.Spelling.{encode_elements}
use Rattle.buffers.proofs.Parts.{from}
use Rattle.tallying.specs.declared.Tally.{Tally}
use Rattle.tallying.specs.Numbers.{tally_numbers}
use Rattle.machine.specs.Questions.{every, told_of, ask}
use Rattle.machine.proofs.search.Questions.{told_none}
use Rattle.places.specs.declared.Spot.{Spot}
use Rattle.planning.specs.declared.Move.{Move}
use Rattle.std.specs.Prelude.{Option as CodeOption, Some, None, Result, Ok}
use Rattle.refusals.specs.declared.Refusal.{Refusal}
use Rattle.selecting.specs.declared.Next.{Next}
use Rattle.places.specs.Offsets.{by_bytes, offset, spot_of, Standing, coded}
use Rattle.searching.proofs.Partners.{lone}
use Rattle.machine.specs.Lowest.{partners_of, partners_at, place_in, partner_in, number_in}
use Rattle.planning.specs.Choices.{byte_at, Admitting, ChoiceOf, ChoosesAt}
use Rattle.meeting.specs.Meeting.{MeetingAt, MetAt}
use Rattle.alone.specs.Alone.{alone_move}
use Rattle.selecting.specs.Selecting.{LowestOf}
use Rattle.places.proofs.Offsets.{behind, spelled_from}
use Rattle.alone.proofs.Turnings.{admitted_standing}
use Rattle.choosing.proofs.Choices.{Known, Asked, doing, first_answer, none_told, no_answer, answer_number, nobody_unnamed, meeting_at, met_at}

-- the choice of a run, with these parts
abbrev pub next : ℕ → CodeOption ℕ → ℕ → Result Move Refusal → CodeOption Next
next p q n c = Some (record { place = p; other = q; partners = n; choice = c })

pub none_lowest : (nest F N : ℕ) (L : Elements) (once : Bool) → place_in (state F N L) ≡ none → LowestOf nest F N L once None
unfolding LowestOf
none_lowest nest F N L once e = e

module _ {nest : ℕ} {s : List ℕ} {F N : ℕ} {L : Elements} (adm : Admitting nest s F N L) (π : Position) where
  pub none_sought : (E : Element) {at : ℕ} → element_at L π ≡ some E → offset 0 L π ≡ at → (byte_at s at 0 ≡ 0x42 → byte_at s at 3 ≡ 0x24 → ⊥) → partners_of L π (some E) ≡ []
  none_sought E {at} e o h =
      let b : from s at ≡ encode_elements (E before behind L π) = spelled_from L π E e o adm.spells.spelled in
      lone L π E (behind L π) (rw b at h)

  -- What the choice comes to

  module _ {E : Element} {p : ℕ} (e : element_at L π ≡ some E) (q : place L π ≡ p) where
    partners_at_law : partners_at L p ≡ partners_of L π (some E)
    partners_at_law = ap (λ (k : ℕ). partners_at L k) (sym q) ∙ partners_standing L π E e

    partner_at : partner_in (state F N L) p ≡ lowest (partners_of L π (some E))
    unfolding partner_in
    partner_at = ap lowest partners_at_law

    number_at : number_in (state F N L) p ≡ length (partners_of L π (some E))
    unfolding number_in
    number_at = ap length partners_at_law

    module _ (h : place_in (state F N L) ≡ some p) (once : Bool) (c : Result Move Refusal) where
      pub chosen_alone : (n : ℕ) → lowest (partners_of L π (some E)) ≡ none → n ≡ told_of once (length (partners_of L π (some E))) → ChoiceOf nest F N L (place L π) none c
          → LowestOf nest F N L once (next p None n c)
      unfolding LowestOf
      chosen_alone n z m k = let t = partner_at ∙ z in (h, sym (ap coded t), m ∙ sym (ap (told_of once) number_at), rw t (rw q at k))

      pub chosen_lone : partners_of L π (some E) ≡ [] → ChoiceOf nest F N L (place L π) none c → LowestOf nest F N L once (next p None 0 c)
      unfolding lowest
      chosen_lone z = chosen_alone 0 (ap lowest z) (sym ((told_none once (length (partners_of L π (some E)))).1 (ap length z)))

      pub chosen_with : (r o n : ℕ) → lowest (partners_of L π (some E)) ≡ some o → r ≡ o → n ≡ told_of once (length (partners_of L π (some E))) → ChoiceOf nest F N L (place L π) (some o) c
          → LowestOf nest F N L once (next p (Some r) n c)
      unfolding LowestOf
      chosen_with r o n z w m k = let t = partner_at ∙ z in (h, ap Some w ∙ sym (ap coded t), m ∙ sym (ap (told_of once) number_at), rw t (rw q at k))

-- What is found for an action

module _ {nest : ℕ} {s : List ℕ} {N at : ℕ} (x : ChoosesAt nest s N at) (tags : (byte_at s at 0 ≡ 0x42) × (byte_at s at 3 ≡ 0x24)) (spot : Spot) (spots : Known s at spot spot_of)
    (once : Bool) (r : Tally) (asked : Asked s spot r (λ f α. tally_numbers (ask by_bytes (every once) f α))) where
  pub partner_standing : {o : ℕ} → r.lowest ≡ Some o → Standing s o
  partner_standing z = let t = first_answer x tags spot spots once r asked z in admitted_standing x.admitting t.partner (meeting_acting t.meets).4 t.found

  pub partner_meeting : {o : ℕ} → r.lowest ≡ Some o → (there : Spot) → Known s o there spot_of → MeetingAt nest s N spot there
  partner_meeting z = let t = first_answer x tags spot spots once r asked z in meeting_at x tags spot spots t.meets t.found

  module _ {p : ℕ} (q : place x.tree x.position ≡ p) (h : place_in (state x.free N x.tree) ≡ some p) where
    pub nobody_lowest : (m : Move) → m ≡ alone_move 43 N (length s + 4) (7 + at) 7 → r.lowest ≡ None → LowestOf nest x.free N x.tree once (next p None 0 (Ok m))
    unfolding partners_of
    nobody_lowest m k y =
        let z = none_told x tags spot spots once r asked y in
        chosen_alone x.admitting x.position (doing x tags).2 q h once (Ok m) 0 (no_answer x tags spot spots once r asked z).first (sym z ∙ answer_number x tags spot spots once r asked)
        (nobody_unnamed x tags spot spots once r asked m k z)

    pub partner_lowest : {l : ℕ} → r.lowest ≡ Some l → (o : ℕ) → Known s l o place → (there : Spot) → Known s l there spot_of → (c : Result Move Refusal) → MetAt nest s N spot there c
        → LowestOf nest x.free N x.tree once (next p (Some o) r.number c)
    unfolding partners_of
    partner_lowest z o places there others c m =
        let t = first_answer x tags spot spots once r asked z in
        chosen_with x.admitting x.position (doing x tags).2 q h once c o (place x.tree t.partner) r.number t.first
        (places x.tree t.partner _ x.admitting.spells.spelled (meeting_acting t.meets).4 t.found) (answer_number x tags spot spots once r asked)
        (met_at x tags spot spots t.meets t.found there others c m)
