-- What a sender or mover and its partner come to: the move that the plan of their rule makes, or 12.
use mathlib.Core.Path.{◌≡◌, refl, sym, ap, ap₂, ◌∙◌, subst}
use mathlib.Core.Bool.{Bool, true, false}
use mathlib.Core.List.{List, ◌++◌}
use mathlib.Core.Option.{some}
use Prim.Native.Nat.{ℕ, suc, ◌+◌, ◌-◌, ◌*◌, ◌%◌, ◌≤◌, ◌<◌}
use native.Mathlib.Omega.{arith}
use borrow.Author.Tests.{lt-ltb, le-ltb, eq-eqb, ne_eqb, le-leb, lt-leb}
use lib.Dec.{leb}
use lib.ListN.{length, take, drop}
use Rattle.machine.specs.Limits.{name_limit, byte_limit}
use Rattle.calculus.specs.Processes.{Action, Process, action}
use Rattle.machine.specs.Elements.{Status, unblocked, blocked, Elements, process_element, standing, state, Position, place, element_at, nesting, blocked_actions}
use Rattle.machine.specs.Rules.{Meeting}
use Rattle.machine.specs.Tests.{fits}
use Rattle.machine.specs.Kinds.{rule_of}
use Rattle.machine.specs.Stepping.{refused, accepted}
use Rattle.machine.proofs.Places.{element_at_at}
use Rattle.machine.proofs.Graded.{OneActs, sender_one, receiver_one}
use Rattle.machine.proofs.Meeting.{meet_rule_bounds}
use Rattle.format.specs.Spelling.{encode_action}
use Rattle.elements.specs.Spelling.{encode_state}
use Rattle.format.specs.Kinds.{handed}
use Rattle.format.proofs.Actions.{scoped_is}
use Rattle.layouts.specs.Layouts.{SpelledAction, extent_of}
use Rattle.layouts.specs.declared.Extent.{Extent}
use Rattle.substituting.specs.Substituting.{SpellsNames}
use Rattle.buffers.proofs.Parts.{from}
use Rattle.places.specs.declared.Spot.{Spot}
use Rattle.places.specs.Offsets.{spot_of}
use Rattle.places.proofs.Offsets.{offset_below, spot_within, spot_offset}
use Rattle.planning.specs.declared.Move.{Move}
use Rattle.std.specs.Prelude.{Option, Some, None, Result, Ok, Err}
use Rattle.refusals.specs.declared.Refusal.{Refusal}
use Rattle.refusals.specs.declared.Refusal.TheVariants.{ResultTooDeep}
use Rattle.refusals.specs.Refusals.{number}
use Rattle.planning.specs.Plans.{cut_by, after_by, PlanOf}
use Rattle.measuring.specs.Measuring.{Holding, GrowsBy, NestsBy}
use Rattle.planning.specs.Choices.{Admitting, ChoiceOf, names_in}
use Rattle.planning.proofs.Answers.{fitting, unfitting, meeting}
use Rattle.planning.proofs.Holders.{Holder, holder, holder_offset}
use Rattle.planning.proofs.Lengths.{bytes, spared, unblocked_growth}
use Rattle.planning.proofs.Fitting.{fits_meets, within_nesting}
use Rattle.planning.proofs.Edits.{spelled_at, bytes_spelled}
use Rattle.meeting.specs.Meeting.{MeetingAt, Acts, sender_acts, other_acts, Joining, Joinable, JoinedBy}
use Rattle.meeting.proofs.Joints.{meets_odd, answering, rule_number, sending, taking, room, root_bytes, drawn, joint_length}
use Rattle.meeting.proofs.Actions.{ahead, ActionBytes, action_bytes, action_spelled, sent_within, sent_bytes}

-- Plans and lengths by the rule

module _ (n : ℕ) (t : Spot) where
  low_cut : n < 39 → None ≡ cut_by n t
  unfolding cut_by
  low_cut h = rw (lt-ltb n 39 h)

  low_after : n < 39 → None ≡ after_by n t
  unfolding after_by
  low_after h = rw (lt-ltb n 39 h)

  high_cut : 39 ≤ n → Some (7 + t.within) ≡ cut_by n t
  unfolding cut_by
  high_cut h = rw (le-ltb n 39 h)

  enter_after : n ≡ 39 → Some (7 + t.at) ≡ after_by n t
  unfolding after_by
  enter_after e = rw e

  leave_after : n ≡ 41 → Some (7 + t.within) ≡ after_by n t
  unfolding after_by
  leave_after e = rw e

module _ (n : ℕ) (s : Status) (A : Elements) where
  low_growth : n < 39 → unblocked_growth n s A ≡ spared s
  unfolding unblocked_growth
  low_growth h = rw (lt-ltb n 39 h)

  high_growth : 39 ≤ n → unblocked_growth n s A ≡ 3 * blocked_actions A
  unfolding unblocked_growth
  high_growth h = rw (le-ltb n 39 h)

-- What the rule says of the number of its pair, and of the sender's status

record Acted (s t : Status) (n r : ℕ) : Type 0 where
  one : OneActs s t
  both : spared s + spared t ≡ 3
  least : n ≤ r
  most : r ≤ suc n
  own : n % 2 ≡ 1 → 3 * (1 - r % 2) ≡ spared s

acted : {s t : Status} {n r : ℕ} → Acts s t n r → Acted s t n r
unfolding spared
acted sender_acts = record { one = sender_one; both = refl; least = omega arith; most = omega arith; own = λ o. omega arith }
acted other_acts = record { one = receiver_one; both = refl; least = omega arith; most = omega arith; own = λ o. omega arith }

-- One meeting

module _ {nest : ℕ} {s : List ℕ} {F : ℕ} {L L' : Elements} {m : Move} {sender other : Spot} (j : Joining nest s F L L' m sender other) where
  about : Acted j.sending j.taking j.number m.rule
  about = acted j.acts

  odd : j.number % 2 ≡ 1
  odd = meets_odd j.meets

  long : length s ≡ bytes L
  long = bytes_spelled j.admitting

  pub short : length s < byte_limit
  short = let h = j.admitting.short in omega arith

  -- the ambient that holds the sender or mover
  abbrev pub held : Holder L j.source
  held = holder j.meets

  grown : m.length + spared j.taking + unblocked_growth j.number j.sending held.inside ≡ 10 + bytes L'
  grown = omega (arith, long, j.measured, joint_length j.output j.input j.left j.right j.meets j.sends j.takes)

  -- the names in the bytes of the state
  named : SpellsNames (names_in m.plan (encode_state (state F m.names L))) (handed j.output)
  named = record {
    spelled = ap (take (m.plan.past - m.plan.sent)) (root_bytes F m.names L m.plan.sent j.behind ∙ ap (drop (m.plan.sent - 7)) (sym j.admitting.spells.spelled)) ∙ j.hands;
    scoped = ((scoped_is name_limit 0 j.output).0 (spelled_at L j.source j.sending j.output j.left j.sends j.admitting.spells.spellable).0).1;
  }

  -- the move with a cut and a place to set it down
  abbrev joint : (len : ℕ) (cut after : Option ℕ) → Move
  joint len cut after = record m { length = len; plan = record m.plan { cut = cut; after = after } }

  joined : (len : ℕ) (cut after : Option ℕ) → cut ≡ cut_by j.number sender → after ≡ after_by j.number other → len ≡ 7 + bytes L' → fits nest L' ≡ true →
      JoinedBy nest F m.names m.rule L L' (Ok (joint len cut after))
  unfolding JoinedBy
  joined len cut after c a l f =
      let p : PlanOf j.number sender other (joint len cut after).plan = record { turns = j.first; answers = j.second; cuts = c; sets = a; meets = j.block } in
      let ends : m.plan.past ≤ 7 + bytes L = omega (arith, j.ends, long) in
      (refl, refl, f, drawn F m.names j.output j.left (joint len cut after) j.meets about.one j.admitting.valid.graded j.sends j.spotted j.found p l j.starts ends named)

  low_fits : ¬ (j.number ≡ 39) → fits nest L' ≡ true
  low_fits h = fits_meets j.meets j.admitting.valid.fits ∙ rw (ne_eqb j.number 39 h)

  -- 35 to 38
  pub hands_over : m.rule < 39 → JoinedBy nest F m.names m.rule L L' (Ok m)
  hands_over l =
      let n : j.number < 39 = omega (arith, about.least, l) in
      joined m.length m.plan.cut m.plan.after (j.cut ∙ low_cut j.number sender n) (j.after ∙ low_after j.number other n)
      (omega (arith, grown, about.both, low_growth j.number j.sending held.inside n)) (low_fits (λ z. omega (arith, z, n)))

  -- 39 to 42
  module _ (high : 39 ≤ m.rule) where
    high_number : 39 ≤ j.number
    high_number = omega (arith, high, about.most, odd)

    abbrev pub holding : Holding s sender.within
    holding = record {
      tree = L;
      spells = j.admitting.spells;
      short = short;
      position = held.position;
      status = held.status;
      called = held.called;
      inside = held.inside;
      stands = held.stands;
      there = sym (ap (λ (t : Spot). t.within) j.spotted ∙ holder_offset held);
    }

    module _ (g : ℕ) (b : GrowsBy s sender.within g) where
      measured : m.length + g ≡ 7 + bytes L' + 3 * (1 - m.rule % 2)
      measured = omega (arith, grown, about.both, high_growth j.number j.sending held.inside high_number, b holding, about.own odd)

      pub counted : 3 * (1 - m.rule % 2) ≤ m.length + g
      counted = omega (arith, measured)

      abbrev move : ℕ → Move
      move after = joint (m.length + g - 3 * (1 - m.rule % 2)) (Some (7 + sender.within)) (Some (7 + after))

      moved : (after : ℕ) → Some (7 + after) ≡ after_by j.number other → fits nest L' ≡ true → JoinedBy nest F m.names m.rule L L' (Ok (move after))
      moved after a f =
          joined (m.length + g - 3 * (1 - m.rule % 2)) (Some (7 + sender.within)) (Some (7 + after)) (high_cut j.number sender high_number) a (omega (arith, measured)) f

      -- 41 and 42
      pub leaves : 40 < m.rule → (after : ℕ) → after ≡ other.within → JoinedBy nest F m.names m.rule L L' (Ok (move after))
      leaves l after e =
          let n : j.number ≡ 41 = omega (arith, l, about.most, odd, meet_rule_bounds j.meets) in
          moved after (ap (λ (k : ℕ). Some (7 + k)) e ∙ leave_after j.number other n) (low_fits (λ z. omega (arith, z, n)))

      -- 39 and 40
      module _ (l : m.rule ≤ 40) (d : ℕ) (e : NestsBy s sender.within d) where
        pair : j.number ≡ 39
        pair = omega (arith, l, about.least, odd, high_number)

        reached : (spot_of L j.source).level + suc (nesting held.inside) ≡ sender.level + 1 + d
        reached = omega (arith, ap (λ (t : Spot). t.level) j.spotted, e holding)

        enter_fits : (b : Bool) → leb (sender.level + 1 + d) nest ≡ b → fits nest L' ≡ b
        enter_fits b h = fits_meets j.meets j.admitting.valid.fits ∙ rw (eq-eqb j.number 39 pair, reached, h)

        pub enters : sender.level + 1 + d ≤ nest → (after : ℕ) → after ≡ other.at → JoinedBy nest F m.names m.rule L L' (Ok (move after))
        enters h after e = moved after (ap (λ (k : ℕ). Some (7 + k)) e ∙ enter_after j.number other pair) (enter_fits true (le-leb (sender.level + 1 + d) nest h))

        pub breaks : nest < sender.level + 1 + d → JoinedBy nest F m.names m.rule L L' (Err ResultTooDeep)
        unfolding JoinedBy
        breaks h = (refl, enter_fits false (lt-leb (sender.level + 1 + d) nest h))

  -- both stand in the list, and so does the ambient that holds the other
  pub sender_below : sender.at < length s
  sender_below =
      let b = offset_below L j.source (standing j.sending j.output j.left) j.sends refl j.admitting.spells.spelled in
      omega (arith, b, spot_offset L j.source (standing j.sending j.output j.left) j.sends j.spotted)

  pub other_below : (other.at < length s) × (other.within < length s)
  unfolding spot_of
  other_below =
      let E = standing j.taking j.input j.right in
      let b = offset_below L j.target E j.takes refl j.admitting.spells.spelled in
      let none : 0 ≤ 0 = omega arith in
      let w = spot_within 0 0 0 0 none (element_at_at L j.target E j.takes) in
      (omega (arith, b, spot_offset L j.target E j.takes j.found), omega (arith, b, w, ap (λ (t : Spot). t.within) j.found))

  -- the level of the sender is within the limit
  pub level_below : sender.level ≤ nest
  level_below =
      omega (
        arith,
        ap (λ (t : Spot). t.level) j.spotted,
        within_nesting L j.source j.admitting.valid.fits (standing j.sending j.output j.left) j.sends,
      )

-- What the bytes say of the two actions

-- what is learnt of an action
abbrev LaidOut : List ℕ → Extent → Type 0
LaidOut l r = (α : Action) (rest : List ℕ) → l ≡ encode_action α ++ rest → r ≡ extent_of α

abbrev pub meeting_of : {nest : ℕ} {s : List ℕ} {F N : ℕ} {L : Elements} {π : Position} {α : Action} {P : Process} {κ : Position} {n : ℕ} {L' : Elements} {spot other : Spot} →
    Admitting nest s F N L → element_at L π ≡ some (process_element (action α P)) → spot ≡ spot_of L π → Meeting n π κ L L' → other ≡ spot_of L κ → MeetingAt nest s N spot other
meeting_of {F = F} {L = L} {π = π} {α = α} {P = P} {κ = κ} {n = n} {L' = L'} ad el sp me fo = record {
  free = F;
  tree = L;
  admitting = ad;
  position = π;
  doing = α;
  process = P;
  stands = el;
  spotted = sp;
  partner = κ;
  rule = n;
  result = L';
  meets = me;
  found = fo;
}

abbrev pub joinable : {nest : ℕ} {s : List ℕ} {F : ℕ} {L L' : Elements} {m : Move} {sender other : Spot} → Joining nest s F L L' m sender other → Joinable nest s m sender other
joinable {F = F} {L = L} {L' = L'} j = record { free = F; tree = L; result = L'; joining = j }

module _ {nest : ℕ} {s : List ℕ} {N : ℕ} {spot other : Spot} (p : MeetingAt nest s N spot other) where
  doing : element_at p.tree p.position ≡ some (standing unblocked p.doing p.process)
  unfolding standing
  doing = p.stands

  abbrev answer : (β : Action) × (Q : Process) × (element_at p.tree p.partner ≡ some (standing blocked β Q))
  answer = answering p.meets

  -- what the bytes at each of them are
  acting : ActionBytes s (spot.at + 6) p.doing
  unfolding ahead
  acting = action_bytes p.position unblocked p.doing p.process doing (sym (spot_offset p.tree p.position _ doing p.spotted)) p.admitting.spells

  answers : ActionBytes s (other.at + 3) answer.0
  unfolding ahead
  answers = action_bytes p.partner blocked answer.0 answer.1 answer.2 (sym (spot_offset p.tree p.partner _ answer.2 p.found)) p.admitting.spells

  pub acting_long : spot.at + 6 + length (encode_action p.doing) + 3 ≤ length s
  acting_long = acting.within

  pub answering_long : other.at + 3 + 3 ≤ length s
  answering_long = omega (arith, answers.within)

  pub acting_spelled : SpelledAction (from s (spot.at + 6))
  acting_spelled = action_spelled acting

  pub answering_spelled : SpelledAction (from s (other.at + 3))
  answering_spelled = action_spelled answers

  module _ (first second : Extent) (f : LaidOut (from s (spot.at + 6)) first) (g : LaidOut (from s (other.at + 3)) second) where
    first_is : first ≡ extent_of p.doing
    first_is = f p.doing _ acting.bytes

    second_is : second ≡ extent_of answer.0
    second_is = g answer.0 _ answers.bytes

    rule_is : first.rule ≡ rule_of p.doing
    rule_is = ap (λ (x : Extent). x.rule) first_is

    ends : (first.end ≡ length (encode_action p.doing)) × (second.end ≡ length (encode_action answer.0))
    ends = (ap (λ (x : Extent). x.end) first_is, ap (λ (x : Extent). x.end) second_is)

    -- there is room for both
    pub both_fit : (first.end ≤ 4 + length s) × (second.end ≤ 4 + length s - first.end)
    both_fit = omega (arith, ends, bytes_spelled p.admitting, room p.doing p.process doing answer.0 answer.1 p.meets answer.2)

    -- and the names of both stand in the state
    pub both_sent : (first.sent ≤ first.end) × (7 + (spot.at + 6) + first.end ≤ byte_limit) × (second.sent ≤ second.end) × (7 + (other.at + 3) + second.end ≤ byte_limit)
    both_sent = omega (arith, sent_within acting first first_is, sent_within answers second second_is, p.admitting.short)

    size_is : (4 + length s - first.end - second.end) + 3 + length (encode_action p.doing) + length (encode_action answer.0) ≡ 7 + length s
    size_is = omega (arith, ends, both_fit)

    -- the move in which nothing is set down
    abbrev handing : (sender taker : Spot) (at : ℕ) (handed : Extent) → Move
    handing sender taker at handed = record {
      rule = first.rule;
      names = N;
      length = 4 + length s - first.end - second.end;
      plan = record { first = 7 + sender.at; second = Some (7 + taker.at); cut = None; after = None; block = false; sent = 7 + at + handed.sent; past = 7 + at + handed.end };
    }

    -- the sender or mover acts
    pub sends_joining : first.rule % 2 ≡ 1 → Joining nest s p.free p.tree p.result (handing spot other (spot.at + 6) first) spot other
    sends_joining o =
        record {
          admitting = p.admitting;
          sending = unblocked;
          taking = blocked;
          number = p.rule;
          acts = subst (Acts unblocked blocked p.rule) (sym (rule_is ∙ rule_number p.doing p.process doing p.meets)) sender_acts;
          source = p.position;
          target = p.partner;
          meets = sending p.doing p.process doing p.meets (omega (arith, o, rule_is));
          output = p.doing;
          input = answer.0;
          left = p.process;
          right = answer.1;
          sends = doing;
          takes = answer.2;
          spotted = p.spotted;
          found = p.found;
          measured = size_is;
          first = refl;
          second = refl;
          cut = refl;
          after = refl;
          block = refl;
          behind = omega arith;
          starts = (sent_within acting first first_is).0;
          ends = (sent_within acting first first_is).1;
          hands = sent_bytes acting first first_is;
        }

    -- the other acts
    pub takes_joining : ¬ (first.rule % 2 ≡ 1) →
        Joining nest s p.free p.tree p.result (handing other spot (other.at + 3) second) other spot
    takes_joining o =
        let w = taking p.doing p.process doing p.meets (omega (arith, o, rule_is)) in
        record {
          admitting = p.admitting;
          sending = blocked;
          taking = unblocked;
          number = w.0;
          acts = subst (Acts blocked unblocked w.0) (sym (rule_is ∙ w.1)) other_acts;
          source = p.partner;
          target = p.position;
          meets = w.2;
          output = answer.0;
          input = p.doing;
          left = answer.1;
          right = p.process;
          sends = answer.2;
          takes = doing;
          spotted = p.found;
          found = p.spotted;
          measured = omega (arith, size_is);
          first = refl;
          second = refl;
          cut = refl;
          after = refl;
          block = refl;
          behind = omega arith;
          starts = (sent_within answers second second_is).0;
          ends = (sent_within answers second second_is).1;
          hands = sent_bytes answers second second_is;
        }

    -- what they come to is what is chosen
    pub chosen_by : (r : Result Move Refusal) → JoinedBy nest p.free N first.rule p.tree p.result r → ChoiceOf nest p.free N p.tree (place p.tree p.position) (some (place p.tree p.partner)) r
    unfolding JoinedBy ChoiceOf
    chosen_by (Ok m) h =
        let e = h.0 ∙ rule_is ∙ rule_number p.doing p.process doing p.meets in
        record {
          result = p.result;
          steps =
              meeting nest p.free N p.tree p.position p.doing p.process p.stands p.meets
              ∙ fitting nest p.rule p.free N p.result h.2
              ∙ ap₂ (λ (k M : ℕ). accepted k (state p.free M p.result)) (sym e) (sym h.1);
          drawn = h.3;
        }
    chosen_by (Err x) h =
        meeting nest p.free N p.tree p.position p.doing p.process p.stands p.meets ∙ unfitting nest p.rule p.free N p.result h.1 ∙ ap (λ (x : Refusal). refused (number x)) (sym h.0)
