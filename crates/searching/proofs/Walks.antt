-- The walk for blocked pairs in bytes: one element, and a list from one of its elements on.
use mathlib.Core.Path.{◌≡◌, refl, sym, ap, ap₂, ◌∙◌, subst}
use mathlib.Core.Bool.{Bool, true, false}
use mathlib.Core.List.{List}
use mathlib.Core.Option.{some}
use Prim.Native.Nat.{ℕ, suc, ◌+◌, ◌-◌, ◌%◌, ◌≤◌, ◌<◌}
use native.Mathlib.Omega.{arith}
use lib.Dec.{ltb}
use lib.ListN.{length, take, drop, get_or}
use Rattle.calculus.specs.Processes.{Reference, Action, sibling_output, parent_output, internal_input, external_input, enter, leave, accept, release, Process}
use Rattle.machine.specs.Elements.{Status, unblocked, blocked, Elements, empty, ambient_then, process_then, blocked_then, Element, ambient_element, process_element, blocked_element, standing, only, ◌before◌, Position, here, later, into, Has, first, further, element_at}
use Rattle.machine.specs.Tests.{◌or◌}
use Rattle.machine.specs.Kinds.{rule_of, sender, receiver, side_of}
use Rattle.machine.specs.Frames.{Frame, outermost, within, frame_by, frame_of}
use Rattle.machine.specs.Frames as frames
use Rattle.machine.specs.Questions.{numbered, if_any, ask, pairs_from}
use Rattle.machine.specs.Pairs.{sending, walk}
use Rattle.machine.specs.Search.{pair_at}
use Rattle.machine.proofs.Pairs.{walk_steps}
use Rattle.machine.proofs.Places.{At, at_start, at_later, at_inside, element_at_at, into_at, has_element_at, has_element_of}
use Rattle.machine.proofs.Lists.{whole, ahead}
use Rattle.machine.proofs.search.Frames.{frame_by_later, frame_by_has}
use Rattle.machine.proofs.search.Numbers.{numbers_go_on}
use Rattle.buffers.specs.Words.{field}
use Rattle.elements.specs.Spelling.{ambient_tag, encode_elements}
use Rattle.elements.specs.Spelled.{Spells, SpelledList}
use Rattle.elements.specs.Each.{BeginsWith, First}
use Rattle.elements.proofs.Each.{Others, Remains, begin, go_on, over, ambient_in}
use Rattle.format.specs.Kinds.{action_tag}
use Rattle.buffers.proofs.Parts.{from, part_all, length_part}
use Rattle.places.specs.declared.Spot.{Spot}
use Rattle.places.specs.Offsets.{width, by_bytes, offset, spot_of}
use Rattle.places.proofs.Widths.{width_ambient}
use Rattle.places.proofs.Offsets.{behind, spells_from, offset_below, into_spot, has_spot, inward}
use Rattle.tallying.specs.declared.Tally.{Tally}
use Rattle.tallying.specs.Numbers.{tally_numbers}
use Rattle.searching.specs.Lists.{ListAt, root_list, contents, start_at, span_of, Acting, OtherAt, ListIn, root_in, contents_in, Walked, Walking}
use Rattle.searching.specs.declared.Span.{Span}
use Rattle.searching.proofs.Lists.{span_within, span_spells, part_listed}
use Rattle.tallying.proofs.Wants.{number_is, BlockedFirst, blocked_first, begins_long}
use Rattle.searching.proofs.Arenas.{spot_offset}

-- One element

pub sender_rule : (α : Action) → rule_of α % 2 ≡ 1 → side_of α ≡ sender
unfolding rule_of side_of
sender_rule (sibling_output a x ns) h = refl
sender_rule (parent_output x ns) h = refl
sender_rule (internal_input x k) h = absurd (omega arith)
sender_rule (external_input x k) h = absurd (omega arith)
sender_rule (enter a x) h = refl
sender_rule (leave x) h = refl
sender_rule (accept x) h = absurd (omega arith)
sender_rule (release x) h = absurd (omega arith)

pub receiver_rule : (α : Action) → (rule_of α % 2 ≡ 1 → ⊥) → side_of α ≡ receiver
unfolding rule_of side_of
receiver_rule (sibling_output a x ns) h = absurd (h refl)
receiver_rule (parent_output x ns) h = absurd (h refl)
receiver_rule (internal_input x k) h = refl
receiver_rule (external_input x k) h = refl
receiver_rule (enter a x) h = absurd (h refl)
receiver_rule (leave x) h = absurd (h refl)
receiver_rule (accept x) h = refl
receiver_rule (release x) h = refl

-- an element at a spot, by its bytes
module _ {s : List ℕ} {spot : Spot} (L : Elements) (π : Position) (E : Element) (p : Spells s L) (e : element_at L π ≡ some E) (z : spot ≡ spot_of L π) where
  pub spot_spells : Spells (from s spot.at) (E before behind L π)
  spot_spells = spells_from L π E e (spot_offset L π E e z) p

  pub spot_below : spot.at < length s
  spot_below = offset_below L π E e (spot_offset L π E e z) p.spelled

  pub spot_blocked : get_or (from s spot.at) 0 0 ≡ 0x43 → BlockedFirst (from s spot.at) E
  spot_blocked h = blocked_first E (behind L π) spot_spells (omega (arith, h))

  module _ (f : Frame) (h : get_or (from s spot.at) 0 0 ≡ 0x43) where
    pub blocked_pair : {d : ℕ} → ((α : Action) → get_or (from s spot.at) 3 0 ≡ action_tag α → d ≡ rule_of α) → d % 2 ≡ 1 → (r : Tally) → r ≡ tally_numbers (ask by_bytes if_any f (spot_blocked h).doing) → ltb 0 r.number ≡ pair_at by_bytes f E
    unfolding pair_at sending
    blocked_pair y g r k =
        let v = spot_blocked h in
        ap (ltb 0) (number_is _ r k) ∙ sym (ap (pair_at by_bytes f) v.is ∙ rw (sender_rule v.doing (omega (arith, g, y v.doing v.kind))) refl)

    pub blocked_receiver : {d : ℕ} → ((α : Action) → get_or (from s spot.at) 3 0 ≡ action_tag α → d ≡ rule_of α) → (d % 2 ≡ 1 → ⊥) → false ≡ pair_at by_bytes f E
    unfolding pair_at sending
    blocked_receiver y g =
        let v = spot_blocked h in
        sym (ap (pair_at by_bytes f) v.is ∙ rw (receiver_rule v.doing (λ z. g (omega (arith, z, y v.doing v.kind)))) refl)

not_blocked : (f : Frame) (E : Element) (C : Elements) {s : List ℕ} → s ≡ encode_elements (E before C) → 0x42 ≤ get_or s 0 0 → (get_or s 0 0 ≡ 0x43 → ⊥) → false ≡ pair_at by_bytes f E
unfolding pair_at encode_elements field ambient_tag ◌before◌
not_blocked f (ambient_element unblocked a A) C e h n = let z = ap (λ (l : List ℕ). get_or l 0 0) e in absurd (omega arith)
not_blocked f (ambient_element blocked a A) C e h n = let z = ap (λ (l : List ℕ). get_or l 0 0) e in absurd (omega arith)
not_blocked f (process_element P) C e h n = refl
not_blocked f (blocked_element α P) C e h n = absurd (n (ap (λ (l : List ℕ). get_or l 0 0) e))

module _ {s : List ℕ} {spot : Spot} (t : OtherAt s spot) where
  pub other_below : spot.at < length s
  other_below = spot_below t.tree t.position t.element t.spells t.stands t.spotted

  pub other_long : get_or (from s spot.at) 0 0 ≡ 0x43 → 3 < length (from s spot.at)
  other_long h = omega (arith, begins_long (spot_blocked t.tree t.position t.element t.spells t.stands t.spotted h).begins, length_part 3 (from s spot.at))

  pub other_pair : (L : Elements) (π : Position) (E : Element) → Spells s L → element_at L π ≡ some E → spot ≡ spot_of L π → (f : Frame) → (get_or (from s spot.at) 0 0 ≡ 0x43 → ⊥) → false ≡ pair_at by_bytes f E
  other_pair L π E p e z f n =
      not_blocked f E (behind L π) (spot_spells L π E p e z).spelled (subst (λ (l : List ℕ). 0x42 ≤ get_or l 0 0) (sym (part_all spot.at s)) t.other) n

  pub other_acting : get_or (from s spot.at) 0 0 ≡ 0x43 → Acting s spot
  unfolding standing
  other_acting h =
      let v = spot_blocked t.tree t.position t.element t.spells t.stands t.spotted h in
      record { tree = t.tree; spells = t.spells; short = t.short; position = t.position; status = blocked; doing = v.doing; process = v.process; stands = t.stands ∙ ap some v.is; spotted = t.spotted }

pub blocked_stands : (L : Elements) (π : Position) {E : Element} {α : Action} {P : Process} → element_at L π ≡ some E → E ≡ blocked_element α P → element_at L π ≡ some (standing blocked α P)
unfolding standing
blocked_stands L π e k = e ∙ ap some k

-- Where an element of a list stands in the root list

frame_directly : {A : Elements} {E : Element} {i : Position} (around : Position → Frame) → Has E i A → frame_by around here A i ≡ around i
unfolding ahead
frame_directly around h = frame_by_has around whole h

frame_within : {u : Status} {a : Reference} {A L : Elements} {κ : Position} {E : Element} {i : Position} (around : Position → Frame) (p : Position) → At (ambient_element u a A) κ L → Has E i A →
    frame_by around p L (into κ i) ≡ within (frame_by around p L κ) u a A i
unfolding into frame_by ◌before◌
frame_within {u} {a} {A} around p (at_start C) h = frame_directly (within (around p) u a A) h
frame_within {u} {a} {A} {i = i} around p (at_later D {C = C} {π = κ} g) h =
    frame_by_later around p D C (into κ i) ∙ frame_within around (later p) g h ∙ ap (λ (f : Frame). within f u a A i) (sym (frame_by_later around p D C κ))
frame_within around p (at_inside s b {A = B} C g) h = frame_within (within (around p) s b B) here g h

into_frame : {u : Status} {a : Reference} {A L : Elements} {κ : Position} {E : Element} {i : Position} → At (ambient_element u a A) κ L → Has E i A → frame_of L (into κ i) ≡ within (frame_of L κ) u a A i
unfolding frame_of
into_frame {L = L} g h = frame_within (outermost L) here g h

record Met (L : Elements) (f : Frame) (E : Element) (t : Spot) : Type 0 where
  pub position : Position
  pub stands : element_at L position ≡ some E
  pub framed : f ≡ frame_of L position
  pub spotted : t ≡ spot_of L position

listed_at : {L : Elements} {f : Position → Frame} {A : Elements} {l w r : ℕ} {E : Element} {i : Position} {at : ℕ} → ListIn L f A l w r → Has E i A → offset (start_at l w) A i ≡ at →
    Met L (f i) E (record { at = at; within = w; around = r; level = l })
unfolding spot_of start_at
listed_at {L = L} {i = i} root_in h o = record {
  position = i;
  stands = has_element_at h;
  framed = unfold frame_of in sym (frame_directly (outermost L) h);
  spotted = sym (has_spot 0 0 0 0 h ∙ ap (λ (k : ℕ). record { at = k; within = 0; around = 0; level = 0 }) o);
}
listed_at {L = L} {A = A} {i = i} {at = at} (contents_in κ {u = u} {a = a} {f = f} {t = t} {level = l} e k z y) h o =
    let g = element_at_at L κ (ambient_element u a A) e in
    let q : offset (t.at + 5) A i ≡ at = sym (ap (λ (m : ℕ). offset (start_at m t.at) A i) y) ∙ o in
    record {
      position = into κ i;
      stands = into_at i g ∙ has_element_at h;
      framed = ap (λ (f : Frame). within f u a A i) k ∙ sym (into_frame g h);
      spotted =
          sym
          (into_spot 0 0 0 0 i g
          ∙ ap (λ (t : Spot). inward t A i) (sym z)
          ∙ has_spot t.at t.within (suc t.level) (t.at + 5) h
          ∙ ap₂ (λ (k l : ℕ). record { at = k; within = t.at; around = t.within; level = l }) q (sym y));
    }

process_tag_law : {s : List ℕ} (P : Process) (C : Elements) → s ≡ encode_elements (process_element P before C) → get_or s 0 0 < 0x42 → ⊥
unfolding encode_elements field ◌before◌
process_tag_law P C e h = let z = ap (λ (l : List ℕ). get_or l 0 0) e in omega arith

blocked_tag : {s : List ℕ} (α : Action) (P : Process) (C : Elements) → s ≡ encode_elements (blocked_element α P before C) → get_or s 0 0 < 0x42 → ⊥
unfolding encode_elements field ◌before◌
blocked_tag α P C e h = let z = ap (λ (l : List ℕ). get_or l 0 0) e in omega arith

-- A list from one of its elements on

pub data Left : Elements → Position → Elements → Type 0 where
  all : {A : Elements} → Left A here A
  past : (D : Element) {C R : Elements} {p : Position} → Left C p R → Left (D before C) (later p) R

left_has_as : (E : Element) (C : Elements) {A B : Elements} {p : Position} → Left A p B → B ≡ E before C → Has E p A
left_has_as E C all e = rw e (first C)
left_has_as E C (past D l) e = further D (left_has_as E C l e)

left_has : (E : Element) (C : Elements) {A : Elements} {p : Position} → Left A p (E before C) → Has E p A
left_has E C l = left_has_as E C l refl

left_next_as : (E : Element) (C : Elements) {A B : Elements} {p : Position} → Left A p B → B ≡ E before C → Left A (later p) C
left_next_as E C all e = rw e (past E all)
left_next_as E C (past D l) e = past D (left_next_as E C l e)

left_next : (E : Element) (C : Elements) {A : Elements} {p : Position} → Left A p (E before C) → Left A (later p) C
left_next E C l = left_next_as E C l refl

offset_first : (o : ℕ) (A : Elements) → offset o A here ≡ o
unfolding numbered
offset_first o empty = refl
offset_first o (ambient_then s a A C) = refl
offset_first o (process_then P C) = refl
offset_first o (blocked_then α P C) = refl

-- a list that is walked through, as one by its level and offset
list_in : {L : Elements} {f : Position → Frame} {A : Elements} {level within around : ℕ} → ListIn L f A level within around → ListAt L level within A
list_in root_in = root_list
list_in {L} {A = A} (contents_in κ {u = u} {a = a} {t = t} e k z y) = subst (λ (l : ℕ). ListAt L l t.at A) (sym y) (contents κ e (spot_offset L κ (ambient_element u a A) e z))

spanned : {L : Elements} {f : Position → Frame} {A : Elements} {start end level within around : ℕ} → Walked L f A start end level within around
    → ◌≡◌ {A = Span} (record { start = start; end = end }) (span_of level within A)
unfolding span_of
spanned {A = A} w = ap₂ (λ (k m : ℕ). record { start = k; end = m }) w.starts (w.ends ∙ ap (λ (k : ℕ). k + length (encode_elements A)) w.starts)

module _ {s : List ℕ} {L : Elements} {f : Position → Frame} {A : Elements} {start end level within around : ℕ} (p : Spells s L) (w : Walked L f A start end level within around) where
  pub walked_within : (start ≤ end) × (end ≤ length s)
  walked_within = span_within (list_in w.stands) (spanned w) p.spelled

  pub walked_spells : Spells (take (end - start) (drop start s)) A
  walked_spells = span_spells (list_in w.stands) (spanned w) p

pub walked_listed : {s : List ℕ} {start end level within around : ℕ} → Walking s start end level within around → SpelledList (take (end - start) (drop start s))
walked_listed {s} {start} {end} r = part_listed s (end - start) start (omega (arith, r.short)) (walked_spells r.spells r.walked)

-- No pair in the elements of A before B, the first of which stands at the offset `at`
pub record Passed (f : Position → Frame) (A B : Elements) (start at : ℕ) : Type 0 where
  pub index : Position
  pub left : Left A index B
  pub there : offset start A index ≡ at
  pub same : pairs_from by_bytes f here A ≡ pairs_from by_bytes f index B

abbrev pub NoneYet : List ℕ → (start end level inner outer at : ℕ) → Elements → Elements → Type 0
NoneYet s start end level inner outer at A B = (L : Elements) (f : Position → Frame) → Spells s L → Walked L f A start end level inner outer → Passed f A B start at

-- At a turn's start, with `rest` left of the list
pub record Going (s rest : List ℕ) (start end level within around at : ℕ) : Type 0 where
  pub behind : start ≤ at
  pub ahead : at + length rest ≡ end
  pub remains : Remains (take (end - start) (drop start s)) rest (NoneYet s start end level within around at)

pub set_out : {s rest : List ℕ} {start end level within around : ℕ} → Walking s start end level within around → rest ≡ take (end - start) (drop start s) → Going s rest start end level within around start
set_out {s} {rest} {start} {end} r e = record {
  behind = omega arith;
  ahead = omega (arith, ap length e, ap length (walked_spells r.spells r.walked).spelled, r.walked.ends);
  remains = begin e (λ A L f p w. record { index = here; left = all; there = offset_first start A; same = refl });
}

pub arrive : {s rest : List ℕ} {start end level within around at : ℕ} → Going s rest start end level within around at → length rest ≡ 0
    → (L : Elements) (f : Position → Frame) (A : Elements) → Spells s L → Walked L f A start end level within around → pairs_from by_bytes f here A ≡ false
unfolding walk
arrive i h L f A p w = (over i.remains h A (walked_spells p w).spelled L f p w).same

-- the first byte of an element, in a list that begins with it
same_tag : (E : Element) (C : Elements) {x s : List ℕ} → x ≡ encode_elements (only E) → s ≡ encode_elements (E before C) → get_or s 0 0 ≡ get_or x 0 0
unfolding encode_elements field ◌before◌
same_tag (ambient_element u a A) C d e = ap (λ (l : List ℕ). get_or l 0 0) e ∙ sym (ap (λ (l : List ℕ). get_or l 0 0) d)
same_tag (process_element P) C d e = ap (λ (l : List ℕ). get_or l 0 0) e ∙ sym (ap (λ (l : List ℕ). get_or l 0 0) d)
same_tag (blocked_element α P) C d e = ap (λ (l : List ℕ). get_or l 0 0) e ∙ sym (ap (λ (l : List ℕ). get_or l 0 0) d)

module _ {s : List ℕ} {L : Elements} {f : Position → Frame} {A B : Elements} {start end level within around at : ℕ} (p : Spells s L) (w : Walked L f A start end level within around)
    (g : Passed f A B start at) {x t : List ℕ} (v : BeginsWith B x t) where
  left_here : Left A g.index (v.element before v.others)
  left_here = subst (Left A g.index) v.is g.left

  turn : Met L (f g.index) v.element (record { at = at; within = within; around = around; level = level })
  turn = listed_at w.stands (left_has v.element v.others left_here) (ap (λ (o : ℕ). offset o A g.index) (sym w.starts) ∙ g.there)

  turn_framed : {b : Bool} → b ≡ pair_at by_bytes (frame_of L turn.position) v.element → b ≡ pair_at by_bytes (f g.index) v.element
  turn_framed e = e ∙ ap (λ (o : Frame). pair_at by_bytes o v.element) (sym turn.framed)

  turn_spells : Spells (from s at) (v.element before behind L turn.position)
  turn_spells = spells_from L turn.position v.element turn.stands (spot_offset L turn.position v.element turn.stands turn.spotted) p

  turn_tag : get_or (from s at) 0 0 ≡ get_or x 0 0
  turn_tag = same_tag v.element (behind L turn.position) v.first turn_spells.spelled

  turn_width : width v.element ≡ length x
  unfolding width
  turn_width = sym (ap length v.first)

  same_here : pairs_from by_bytes f here A ≡ pair_at by_bytes (f g.index) v.element or pairs_from by_bytes f (later g.index) v.others
  same_here = g.same ∙ ap (pairs_from by_bytes f g.index) v.is ∙ walk_steps by_bytes f g.index v.element v.others

  -- nothing in the first of them
  go_past : false ≡ pair_at by_bytes (f g.index) v.element → Passed f A v.others start (at + length x)
  go_past e = record {
    index = later g.index;
    left = left_next v.element v.others left_here;
    there =
        numbers_go_on by_bytes start A g.index v.element (has_element_of (left_has v.element v.others left_here))
        ∙ (let z : offset start A g.index + width v.element ≡ at + length x = omega (arith, g.there, turn_width) in z);
    same = same_here ∙ ap (λ b. b or pairs_from by_bytes f (later g.index) v.others) (sym e);
  }

  -- a pair in the first of them
  pair_found : true ≡ pair_at by_bytes (f g.index) v.element → true ≡ pairs_from by_bytes f here A
  pair_found e = sym (same_here ∙ ap (λ b. b or pairs_from by_bytes f (later g.index) v.others) (sym e))

  -- what an ambient holds is walked through
  inside_walked : get_or x 0 0 < 0x42 → (l : ℕ) → l ≡ level + 1 → (φ : Position → Frame) × (C : Elements) × Walked L φ C (at + 5) (at + length x) l at within × (pair_at by_bytes (f g.index) v.element ≡ pairs_from by_bytes φ here C)
  unfolding start_at pair_at
  inside_walked c l y =
      let m = ambient_in v.element x v.first c in
      let deeper : l ≡ suc level = omega (arith, y) in
      go m.status m.called m.inside m.is deeper
    where
      go : (u : Status) (a : Reference) (C : Elements) → v.element ≡ ambient_element u a C → l ≡ suc level
          → (φ : Position → Frame) × (C : Elements) × Walked L φ C (at + 5) (at + length x) l at within × (pair_at by_bytes (f g.index) v.element ≡ pairs_from by_bytes φ here C)
      go u a C e deeper =
          let m = subst (λ E. Met L (f g.index) E (record { at = at; within = within; around = around; level = level })) e turn in (
            frames.within (f g.index) u a C,
            C,
            record {
              stands = contents_in m.position m.stands m.framed m.spotted deeper;
              starts = sym (ap (λ (k : ℕ). start_at k at) deeper);
              ends = omega (arith, turn_width, ap width e, width_ambient u a C);
            },
            ap (pair_at by_bytes (f g.index)) e,
          )

-- a turn of the loop, with the element x first
module _ {s rest : List ℕ} {start end level within around at : ℕ} (i : Going s rest start end level within around at) {x t : List ℕ} (n : First rest x t) where
  abbrev here_at : Spot
  here_at = record { at = at; within = within; around = around; level = level }

  module _ {L : Elements} {f : Position → Frame} {A : Elements} (p : Spells s L) (w : Walked L f A start end level within around) where
    abbrev others_here : Others rest A (NoneYet s start end level within around at A)
    others_here = i.remains.of A (walked_spells p w).spelled

    abbrev passed_here : Passed f A others_here.others start at
    passed_here = others_here.holds L f p w

    abbrev first_here : BeginsWith others_here.others x t
    first_here = n.begins others_here.others others_here.spelled

  module _ (r : Walking s start end level within around) where
    pub inside_required : get_or x 0 0 < 0x42 → Walking s (at + 5) (at + length x) (level + 1) at within
    inside_required c =
        let v = inside_walked r.spells r.walked (passed_here r.spells r.walked) (first_here r.spells r.walked) c (level + 1) refl in
        record { tree = r.tree; spells = r.spells; short = r.short; frames = v.0; inner = v.1; shallow = omega (arith, r.shallow, i.behind); walked = v.2 }

    pub other_required : 0x42 ≤ get_or x 0 0 → OtherAt s here_at
    other_required c =
        let v = first_here r.spells r.walked in
        let m = turn r.spells r.walked (passed_here r.spells r.walked) v in
        record {
          tree = r.tree;
          spells = r.spells;
          short = r.short;
          position = m.position;
          element = v.element;
          stands = m.stands;
          spotted = m.spotted;
          other = subst (λ (l : List ℕ). 0x42 ≤ get_or l 0 0) (part_all at s) (omega (arith, turn_tag r.spells r.walked (passed_here r.spells r.walked) v, c));
        }

  -- an ambient
  module _ (c : get_or x 0 0 < 0x42) {b : Bool}
      (e : (L : Elements) (f : Position → Frame) (A : Elements) → Spells s L → Walked L f A (at + 5) (at + length x) (level + 1) at within → b ≡ pairs_from by_bytes f here A) where
    pub found_inside : b ≡ true → (L : Elements) (f : Position → Frame) (A : Elements) → Spells s L → Walked L f A start end level within around → true ≡ pairs_from by_bytes f here A
    found_inside z L f A p w =
        let v = inside_walked p w (passed_here p w) (first_here p w) c (level + 1) refl in
        pair_found p w (passed_here p w) (first_here p w) (sym z ∙ e L v.0 v.1 p v.2 ∙ sym v.3)

    pub past_inside : b ≡ false → Going s t start end level within around (at + length x)
    past_inside z = record {
      behind = omega (arith, i.behind);
      ahead = omega (arith, i.ahead, n.parts);
      remains = go_on i.remains n
          (λ A o v L f p w.
          let g = o.holds L f p w in
          let k = inside_walked p w g v c (level + 1) refl in
          go_past p w g v (sym z ∙ e L k.0 k.1 p k.2 ∙ sym k.3));
    }

  -- any other element
  module _ {b : Bool} (e : (L : Elements) (π : Position) (E : Element) → Spells s L → element_at L π ≡ some E → here_at ≡ spot_of L π → b ≡ pair_at by_bytes (frame_of L π) E) where
    pub found_other : b ≡ true → (L : Elements) (f : Position → Frame) (A : Elements) → Spells s L → Walked L f A start end level within around → true ≡ pairs_from by_bytes f here A
    found_other z L f A p w =
        let m = turn p w (passed_here p w) (first_here p w) in
        pair_found p w (passed_here p w) (first_here p w) (sym z ∙ turn_framed p w (passed_here p w) (first_here p w) (e L m.position (first_here p w).element p m.stands m.spotted))

    pub past_other : b ≡ false → Going s t start end level within around (at + length x)
    past_other z = record {
      behind = omega (arith, i.behind);
      ahead = omega (arith, i.ahead, n.parts);
      remains = go_on i.remains n
          (λ A o v L f p w.
          let g = o.holds L f p w in
          let m = turn p w g v in
          go_past p w g v (sym z ∙ turn_framed p w g v (e L m.position v.element p m.stands m.spotted)));
    }

pub root_walked : {s : List ℕ} {L : Elements} → s ≡ encode_elements L → Walked L (outermost L) L 0 (length s) 0 0 0
unfolding start_at
root_walked e = record { stands = root_in; starts = refl; ends = let z = ap length e in omega arith }
