-- The bytes of a state, the ambient that a plan takes out of it, and the state after a move.
use mathlib.Core.Path.{◌≡◌, refl, sym, ap, ◌∙◌, subst}
use mathlib.Core.List.{List}
use mathlib.Core.Option.{some}
use Rattle.std.specs.Prelude.{Some, None}
use Prim.Native.Nat.{ℕ, ◌+◌, ◌-◌, ◌≤◌, ◌<◌}
use native.Mathlib.Omega.{arith}
use borrow.Rule.Slice.PartMut.{put_mid}
use lib.ListN.{length, take, length-take}
use lib.Seq.{take_at}
use Rattle.calculus.specs.Processes.{Reference}
use Rattle.machine.specs.Limits.{byte_limit}
use Rattle.machine.specs.Elements.{Status, Elements, empty, Element, ambient_element, ◌before◌, only, state, Position, into, element_at}
use Rattle.buffers.proofs.Appending.{left_is}
use Rattle.buffers.specs.Words.{word, field}
use Rattle.format.specs.Reading.{word_at}
use Rattle.elements.specs.Spelling.{encode_elements, encode_state, state_front, SpellableElements}
use Rattle.elements.proofs.States.{state_length, state_free, state_around}
use Rattle.elements.specs.Spelled.{Spells}
use Rattle.elements.proofs.Views.{spellable_head, First, first}
use Rattle.buffers.proofs.Parts.{part_all, part_part, length_part, from}
use Rattle.rewriting.specs.declared.Plan.{Plan}
use Rattle.places.specs.Offsets.{offset}
use Rattle.substituting.specs.Substituting.{SpellsNames}
use Rattle.rewriting.specs.Editing.{marked, carried, Suits}
use Rattle.applying.specs.Applying.{Carrying}
use Rattle.buffers.specs.Buffers.{Left}
use Rattle.planning.specs.Choices.{SetDown, nothing, ambient as set_down_ambient}
use Rattle.renewing.specs.Renewing.{SpellsState, Renewing, Replanting}
use Rattle.places.proofs.Widths.{head_before}
use Rattle.machine.proofs.Places.{element_at_at, into_at}
use Rattle.places.proofs.Offsets.{behind, offset_below, spells_from, offset_inward}
use Rattle.planning.proofs.Lengths.{bytes}
use Rattle.planning.proofs.Edits.{offset_front}

-- The bytes of a state

pub record StateParts (s : List ℕ) (L : Elements) : Type 0 where
  pub long : length s ≡ 7 + length (encode_elements L)
  pub root : from s 7 ≡ encode_elements L

parts_of : (F N : ℕ) (L : Elements) → StateParts (encode_state (state F N L)) L
unfolding encode_state field word
parts_of F N L = record { long = state_length F N L; root = part_all 7 (encode_state (state F N L)) }

module _ {s : List ℕ} {F N : ℕ} {L : Elements} (p : SpellsState s F N L) where
  pub state_parts : StateParts s L
  state_parts = subst (λ (l : List ℕ). StateParts l L) (sym p.spelled) (parts_of F N L)

  pub root_spelled : Spells (from s 7) L
  root_spelled = record { spelled = state_parts.root; spellable = p.spellable }

-- the state after the move: the front is that of the state before it, with another N
pub state_left : {s : List ℕ} {F N : ℕ} {L : Elements} → SpellsState s F N L → (names : ℕ) (L' : Elements) (out last final : List ℕ) (n free : ℕ) → 7 ≤ length out → free ≡ word_at s 3
    → Left (encode_elements L') (from out 7) last n → Left (state_front free names n) (put_mid 7 (length out - 7) out last) final 7
    → Left (encode_state (state F names L')) out final (7 + n)
state_left {s} {F} {N} {L} p names L' out last final n free h e l f =
    let same : free ≡ F = e ∙ ap (λ (bytes : List ℕ). word_at bytes 3) p.spelled ∙ state_free F N L in
    state_around F names L' out last final n h l (left_is (ap (λ (x : ℕ). state_front x names n) same) f)

-- What is set down, spelled
pub renewing : {s z n : List ℕ} {k : Plan} {room : ℕ} (p : Replanting s n k room) → z ≡ encode_elements p.moved → Renewing s z n k room
renewing p e =
    record {
      handed = p.handed;
      named = p.named;
      free = p.free;
      names = p.names;
      tree = p.tree;
      spells = p.spells;
      short = p.short;
      suits = p.suits;
      moved = p.moved;
      carries = e;
      fits = p.fits;
      small = p.small;
    }

pub sets_nothing : {L : Elements} {k : Plan} {ns : List Reference} {Z : Elements} → SetDown L k ns Z → k.cut ≡ None → Z ≡ empty
sets_nothing (nothing c) e = refl
sets_nothing (set_down_ambient κ f o) e = absurd (let z : ◌≡◌ {A = ℕ} 0 1 = cc in omega arith)

-- the ambient at the offset c that is taken out
pub record TakenOut (L : Elements) (k : Plan) (ns : List Reference) (Z : Elements) (c : ℕ) : Type 0 where
  pub position : Position
  pub status : Status
  pub called : Reference
  pub contents : Elements
  pub stands : element_at L position ≡ some (ambient_element status called contents)
  pub there : offset 7 L position ≡ c
  pub is : Z ≡ only (carried k ns empty c (ambient_element status called contents))

pub taken_out : {L : Elements} {k : Plan} {ns : List Reference} {Z : Elements} {c : ℕ} → SetDown L k ns Z → k.cut ≡ Some c → TakenOut L k ns Z c
taken_out (nothing e) h = absurd (let z : ◌≡◌ {A = ℕ} 0 1 = cc in omega arith)
taken_out {L} {k} {ns} {c = c} (set_down_ambient κ {u} {a} {A} f o) h =
    let there : offset 7 L κ ≡ c = cc in
    record { position = κ; status = u; called = a; contents = A; stands = f; there = there; is = ap (λ (j : ℕ). only (carried k ns empty j (ambient_element u a A))) there }

-- The ambient that is taken out, from the bytes of a state to what is set down

module _ {s : List ℕ} {F N : ℕ} {L Z : Elements} {k : Plan} {ns : List Reference} {c : ℕ} (p : SpellsState s F N L) (d : SetDown L k ns Z) (h : k.cut ≡ Some c) where
  abbrev leaving : TakenOut L k ns Z c
  leaving = taken_out d h

  abbrev pub leaver : Element
  leaver = ambient_element leaving.status leaving.called leaving.contents

  -- where it stands in the root list
  abbrev ahead : ℕ
  ahead = offset 0 L leaving.position

  cut_is : 7 + ahead ≡ c
  cut_is = offset_front L leaving.position leaver leaving.stands ∙ leaving.there

  from_cut : from (from s 7) ahead ≡ from s c
  from_cut = sym (part_part 7 ahead s) ∙ ap (from s) cut_is

  pub leaver_below : c < length s
  leaver_below =
      let b = offset_below L leaving.position leaver leaving.stands refl (root_spelled p).spelled in
      omega (arith, b, cut_is, length_part 7 s)

  pub leaver_suits : Suits k ns 7 L → Suits k ns (c + 5) leaving.contents
  leaver_suits t i E e m =
      let o = offset_inward 7 L leaving.position i leaving.stands ∙ ap (λ (j : ℕ). offset (j + 5) leaving.contents i) leaving.there in
      t (into leaving.position i) E (into_at i (element_at_at L leaving.position leaver leaving.stands) ∙ e) (ap (marked k) o ∙ m)

  module _ (n : ℕ) (w : n ≡ word_at (from s c) 1) where
    -- the list from the ambient on, and what its first element says
    abbrev onward : Elements
    onward = leaver before behind L leaving.position

    onward_spelled : Spells (from s c) onward
    onward_spelled = subst (λ (l : List ℕ). Spells l onward) from_cut (spells_from L leaving.position leaver leaving.stands refl (root_spelled p))

    leaver_first : First (from s c) onward n
    leaver_first =
        first onward (from s c) n onward_spelled.spelled w (omega (arith, leaver_below, length_part c s))

    pub leaver_within : 3 + n ≤ length (from s c)
    leaver_within = leaver_first.within

    pub leaver_spelled : Spells (take (3 + n) (from s c)) (only leaver)
    leaver_spelled =
        let h = head_before leaver (behind L leaving.position) in
        record {
          spelled = leaver_first.front ∙ ap encode_elements h;
          spellable = subst SpellableElements h (spellable_head onward onward_spelled.spellable);
        }

    pub leaver_carrying : {names : List ℕ} → SpellsNames names ns → Suits k ns 7 L → length s ≤ byte_limit → bytes Z ≤ byte_limit → Carrying (take (3 + n) (from s c)) names k c byte_limit
    leaver_carrying named suits short most =
        let long = ap bytes leaving.is in
        let end = leaver_within in
        let own = length-take (3 + n) (from s c) in
        record {
          handed = ns;
          named = named;
          status = leaving.status;
          called = leaving.called;
          contents = leaving.contents;
          spells = leaver_spelled;
          suits = leaver_suits suits;
          fits = omega arith;
          small = omega arith;
          near = omega (arith, length_part c s, leaver_below, cut_is);
        }

  pub leaver_carried : {old buffer : List ℕ} {m : ℕ} → Left (encode_elements (only (carried k ns empty c leaver))) old buffer m → take m buffer ≡ encode_elements Z
  leaver_carried {old} {buffer} {m} l =
      ap (take m) l.written ∙ take_at (encode_elements (only (carried k ns empty c leaver))) _ m (sym l.count) ∙ ap encode_elements (sym leaving.is)
