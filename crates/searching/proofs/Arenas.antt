-- The lists in which an action meets its answers: frames by offsets, and the question put to a frame as one of the two loops.
use mathlib.Core.Path.{◌≡◌, refl, sym, ap, ap₂, ◌∙◌, subst}
use mathlib.Core.Bool.{Bool, true, false, false≢true}
use mathlib.Core.List.{List}
use mathlib.Core.Logic.{◌⊎◌, inl, inr, ⊎_elim}
use mathlib.Core.Option.{none, some}
use Prim.Native.Nat.{ℕ, suc, ◌+◌, ◌≤◌, ◌<◌}
use native.Mathlib.Omega.{arith}
use lib.Dec.{ltb}
use lib.ListN.{length, get_or}
use borrow.Author.Tests.{ltb-true, ltb-false}
use Rattle.calculus.specs.Processes.{Reference, Action, sibling_output, parent_output, internal_input, external_input, enter, leave, accept, release, Process}
use Rattle.machine.specs.Limits.{name_limit}
use Rattle.machine.specs.Validity.{ReferenceScoped, ActionScoped}
use Rattle.machine.specs.Elements.{Status, unblocked, blocked, Elements, Element, ambient_element, standing, ◌before◌, Position, into, element_at}
use Rattle.machine.specs.Kinds.{rule_of, kind_of, Standing, sibling, outside, child, standing_of, inside_only, names_holder, target}
use Rattle.machine.specs.Frames.{Frame, outermost, within, list_of, index_of, outer, holder, position_of, put, frame_of}
use Rattle.machine.specs.Answers.{holder_if, want_of, arena, allowed}
use Rattle.machine.specs.Questions.{numbered, start_of, untold, tally_in, tally_among, tally_from, ask, Question as Query}
use Rattle.machine.specs.Questions as questions
use Rattle.machine.proofs.Places.{element_at_at, has_element_at, into_element_at}
use Rattle.machine.proofs.search.Frames.{put_index, put_into, Framed, at_root, in_ambient, Stands, frame_of_framed}
use Rattle.machine.proofs.search.Numbers.{numbered_put}
use Rattle.layouts.specs.Layouts.{standing_answer, name_number, layout_of}
use Rattle.layouts.specs.declared.Standing.TheVariants.{Sibling, Outside, Child}
use Rattle.std.specs.Prelude.{Option as CodeOption, None, Some}
use Rattle.layouts.specs.declared.Layout.{Layout}
use Rattle.format.specs.Spelling.{reference_number}
use Rattle.format.specs.Reading.{word_at}
use Rattle.format.proofs.Spellable.{spellable_action}
use Rattle.elements.specs.Spelling.{ambient_tag, encode_elements, SpellableElements}
use Rattle.elements.specs.Spelled.{Spells}
use Rattle.elements.proofs.Views.{ambient_number}
use Rattle.elements.proofs.Actions.{channel_scoped}
use Rattle.buffers.specs.Words.{field}
use Rattle.buffers.proofs.Parts.{from, length_part}
use Rattle.places.specs.declared.Spot.{Spot}
use Rattle.places.specs.Offsets.{by_bytes, offset, spot_of}
use Rattle.places.proofs.Offsets.{into_spot, has_spot, inward, behind, spells_from, offset_below, spot_at}
use Rattle.tallying.specs.declared.Want.{Want}
use Rattle.tallying.specs.Numbers.{want_numbers, wanted_by, Begins, Named, Sought}
use Rattle.searching.specs.Lists.{ListAt, root_list, contents, start_at}
use Rattle.tallying.proofs.Wants.{begins_blocked, begins_action, begins_long}

-- Frames by offsets

abbrev number_of : Frame → ℕ
number_of f = numbered by_bytes (start_of by_bytes f) (list_of f) (index_of f)

unfoldable pub level_of : Frame → ℕ
level_of (outermost L i) = 0
level_of (within f s a A i) = suc (level_of f)

unfoldable pub within_of : Frame → ℕ
within_of (outermost L i) = 0
within_of (within f s a A i) = number_of f

unfoldable pub around_of : Frame → ℕ
around_of (outermost L i) = 0
around_of (within f s a A i) = within_of f

unfoldable spot_by : Frame → Spot
spot_by f = record { at = number_of f; within = within_of f; around = around_of f; level = level_of f }

framed_element : {L : Elements} {f : Frame} (j : Position) → Framed L f → element_at L (put f j) ≡ element_at (list_of f) j
unfolding put list_of
framed_element j (at_root i) = refl
framed_element {L} j (in_ambient {f = f} F h i) =
    ap (element_at L) (sym (put_into f (index_of f) j ∙ ap (λ p. into p j) (put_index f))) ∙ framed_element (into (index_of f) j) F ∙ into_element_at j h

stands_element : {L : Elements} {f : Frame} {E : Element} → Framed L f → Stands E f → element_at L (position_of f) ≡ some E
stands_element {L} {f} F h = ap (element_at L) (sym (put_index f)) ∙ framed_element (index_of f) F ∙ has_element_at h

stands_offset : {L : Elements} {f : Frame} → Framed L f → offset 0 L (position_of f) ≡ number_of f
stands_offset {L} {f} F = ap (offset 0 L) (sym (put_index f)) ∙ numbered_put by_bytes (index_of f) F

list_at : {L : Elements} {f : Frame} → Framed L f → ListAt L (level_of f) (within_of f) (list_of f)
unfolding level_of within_of list_of
list_at (at_root i) = root_list
list_at (in_ambient {f = f} F h i) = contents (position_of f) (stands_element F h) (stands_offset F)

start_at_law : (f : Frame) → start_of by_bytes f ≡ start_at (level_of f) (within_of f)
unfolding start_of start_at level_of within_of
start_at_law (outermost L i) = refl
start_at_law (within f s a A i) = refl

spot_framed : {L : Elements} {f : Frame} {E : Element} → Framed L f → Stands E f → spot_of L (position_of f) ≡ spot_by f
unfolding spot_of spot_by level_of within_of around_of position_of list_of index_of start_of
spot_framed (at_root i) h = has_spot 0 0 0 0 h
spot_framed {L} (in_ambient {f = f} {A = A} F g i) h =
    into_spot 0 0 0 0 i (element_at_at L (position_of f) _ (stands_element F g))
    ∙ ap (λ (t : Spot). inward t A i) (spot_framed F g)
    ∙ has_spot (number_of f) (within_of f) (suc (level_of f)) (number_of f + 5) h

pub spot_offset : (L : Elements) (π : Position) (E : Element) {t : Spot} → element_at L π ≡ some E → t ≡ spot_of L π → offset 0 L π ≡ t.at
unfolding spot_of
spot_offset L π E e z = sym (ap (λ (t : Spot). t.at) z ∙ spot_at 0 0 0 0 (element_at_at L π E e))

-- the frame of an element, by its spot
pub record Placed (L : Elements) (f : Frame) (t : Spot) : Type 0 where
  pub framed : Framed L f
  pub level : t.level ≡ level_of f
  pub within : t.within ≡ within_of f
  pub around : t.around ≡ around_of f

pub placed : (L : Elements) (π : Position) (E : Element) {t : Spot} → element_at L π ≡ some E → t ≡ spot_of L π → Placed L (frame_of L π) t
unfolding spot_by
placed L π E e z =
    let x = frame_of_framed L π E e in
    let k = z ∙ ap (spot_of L) (sym x.positioned) ∙ spot_framed x.framed x.stands in
    record { framed = x.framed; level = ap (λ (t : Spot). t.level) k; within = ap (λ (t : Spot). t.within) k; around = ap (λ (t : Spot). t.around) k }

pub own_list : {L : Elements} {f : Frame} {t : Spot} → Placed L f t → ListAt L t.level t.within (list_of f)
own_list {L} {f} {t} x = subst (λ (l : ℕ). ListAt L l t.within (list_of f)) (sym x.level) (subst (λ (o : ℕ). ListAt L (level_of f) o (list_of f)) (sym x.within) (list_at x.framed))

-- The frame of the ambient that holds an element

pub record Outer (L : Elements) (f : Frame) (l : ℕ) : Type 0 where
  pub frame : Frame
  pub is : outer f ≡ some frame
  pub framed : Framed L frame
  pub level : level_of frame ≡ l
  pub number : within_of f ≡ number_of frame
  pub around : around_of f ≡ within_of frame

pub outer_frame : {L : Elements} {f : Frame} {l : ℕ} → Framed L f → level_of f ≡ suc l → Outer L f l
unfolding level_of within_of around_of outer
outer_frame (at_root i) e = absurd (omega arith)
outer_frame (in_ambient {f = g} G h i) e = record { frame = g; is = refl; framed = G; level = omega arith; number = refl; around = refl }

module _ {L : Elements} {f : Frame} {l : ℕ} (o : Outer L f l) where
  pub outer_list_law : ListAt L l (around_of f) (list_of o.frame)
  outer_list_law = subst (λ (k : ℕ). ListAt L l k (list_of o.frame)) (sym o.around) (subst (λ (k : ℕ). ListAt L k (within_of o.frame) (list_of o.frame)) o.level (list_at o.framed))

  outer_start : start_of by_bytes o.frame ≡ start_at l (around_of f)
  outer_start = start_at_law o.frame ∙ ap₂ start_at o.level (sym o.around)

-- The question put to a frame

allowed_deep : (e : Bool) (f : Frame) → (e ≡ true → 0 < level_of f) → allowed e (some f) ≡ some f
unfolding allowed level_of
allowed_deep true (outermost L i) h = absurd (let z = h refl in omega arith)
allowed_deep true (within f s a A i) h = refl
allowed_deep false f h = refl

allowed_shut : (e : Bool) (f : Frame) → e ≡ true → level_of f ≡ 0 → allowed e (some f) ≡ none
unfolding allowed level_of
allowed_shut true (outermost L i) h z = refl
allowed_shut true (within f s a A i) h z = absurd (omega arith)
allowed_shut false f h z = absurd (false≢true h)

module _ (q : Query) (f : Frame) (α : Action) {d : Standing} (k : standing_of (kind_of α) ≡ d) where
  ask_open : (g : Frame) → arena d f ≡ some g → (inside_only (kind_of α) ≡ true → 0 < level_of g) → ask by_bytes q f α ≡ questions.tally_of by_bytes q d (want_of f α) (target α) g
  unfolding ask tally_from
  ask_open g e h = rw (k, e, allowed_deep (inside_only (kind_of α)) g h) refl

  ask_shut : (g : Frame) → arena d f ≡ some g → inside_only (kind_of α) ≡ true → level_of g ≡ 0 → ask by_bytes q f α ≡ untold
  unfolding ask tally_from
  ask_shut g e h l = rw (k, e, allowed_shut (inside_only (kind_of α)) g h l) refl

  ask_nowhere : arena d f ≡ none → ask by_bytes q f α ≡ untold
  unfolding ask tally_from allowed
  ask_nowhere e = rw (k, e) refl

-- Kinds

-- by the code's standing
pub standing_sibling : (d : Standing) → Sibling ≡ standing_answer d → d ≡ sibling
unfolding standing_answer
standing_sibling sibling e = refl
standing_sibling outside e = absurd (let z : ◌≡◌ {A = ℕ} 0 1 = cc in omega arith)
standing_sibling child e = absurd (let z : ◌≡◌ {A = ℕ} 0 1 = cc in omega arith)

pub standing_outside : (d : Standing) → Outside ≡ standing_answer d → d ≡ outside
unfolding standing_answer
standing_outside sibling e = absurd (let z : ◌≡◌ {A = ℕ} 0 1 = cc in omega arith)
standing_outside outside e = refl
standing_outside child e = absurd (let z : ◌≡◌ {A = ℕ} 0 1 = cc in omega arith)

pub standing_child : (d : Standing) → Child ≡ standing_answer d → d ≡ child
unfolding standing_answer
standing_child sibling e = absurd (let z : ◌≡◌ {A = ℕ} 0 1 = cc in omega arith)
standing_child outside e = absurd (let z : ◌≡◌ {A = ℕ} 0 1 = cc in omega arith)
standing_child child e = refl

abbrev pub standing_at : Action → Standing
standing_at α = standing_of (kind_of α)

-- An action whose answers name no ambient and are named by none.
pub record Outwards (α : Action) : Type 0 where
  pub untargeted : target α ≡ none
  pub unnamed : names_holder (kind_of α) ≡ false
  pub deep : 40 < rule_of α → inside_only (kind_of α) ≡ true
  pub shallow : rule_of α ≤ 40 → inside_only (kind_of α) ≡ false

pub outwards : (α : Action) → (standing_at α ≡ sibling → ⊥) → Outwards α
unfolding standing_of inside_only names_holder target kind_of rule_of
outwards (sibling_output a x ns) h = absurd (h refl)
outwards (parent_output x ns) h = record { untargeted = refl; unnamed = refl; deep = λ z. absurd (omega arith); shallow = λ z. refl }
outwards (internal_input x k) h = record { untargeted = refl; unnamed = refl; deep = λ z. absurd (omega arith); shallow = λ z. refl }
outwards (external_input x k) h = absurd (h refl)
outwards (enter a x) h = absurd (h refl)
outwards (leave x) h = record { untargeted = refl; unnamed = refl; deep = λ z. refl; shallow = λ z. absurd (omega arith) }
outwards (accept x) h = absurd (h refl)
outwards (release x) h = record { untargeted = refl; unnamed = refl; deep = λ z. refl; shallow = λ z. absurd (omega arith) }

-- only a leave and a release have to be deep
pub deep_enough : {α : Action} → Outwards α → (l : ℕ) → (40 < rule_of α → 0 < l) → inside_only (kind_of α) ≡ true → 0 < l
deep_enough {α} o l h e = go (ltb 40 (rule_of α)) refl
  where
    go : (b : Bool) → ltb 40 (rule_of α) ≡ b → 0 < l
    go true z = h (ltb-true 40 (rule_of α) z)
    go false z = absurd (false≢true (sym (o.shallow (ltb-false 40 (rule_of α) z)) ∙ e))

-- Of an action whose answers stand in a sibling of its ambient, one names the other's ambient.
pub data Sideways (α : Action) : Type 0 where
  to_one : inside_only (kind_of α) ≡ false → (b : Reference) → target α ≡ some b → names_holder (kind_of α) ≡ false → Sideways α
  to_any : inside_only (kind_of α) ≡ false → target α ≡ none → names_holder (kind_of α) ≡ true → Sideways α

pub sideways : (α : Action) → standing_at α ≡ sibling → Sideways α
unfolding standing_of inside_only names_holder target kind_of
sideways (sibling_output a x ns) h = to_one refl a refl refl
sideways (parent_output x ns) h = absurd (let z : ◌≡◌ {A = ℕ} 0 1 = cc in omega arith)
sideways (internal_input x k) h = absurd (let z : ◌≡◌ {A = ℕ} 0 1 = cc in omega arith)
sideways (external_input x k) h = to_any refl refl refl
sideways (enter a x) h = to_one refl a refl refl
sideways (leave x) h = absurd (let z : ◌≡◌ {A = ℕ} 0 1 = cc in omega arith)
sideways (accept x) h = to_any refl refl refl
sideways (release x) h = absurd (let z : ◌≡◌ {A = ℕ} 0 1 = cc in omega arith)

-- The question as one of the two loops

module _ (q : Query) (α : Action) where
  -- in the ambients beside the action
  pub ask_children : {L : Elements} {f : Frame} → Framed L f → standing_at α ≡ child → (inside_only (kind_of α) ≡ true → 0 < level_of f) →
      ask by_bytes q f α ≡ tally_among by_bytes q (want_of f α) (target α) none (start_at (level_of f) (within_of f)) untold (list_of f)
  unfolding arena questions.tally_of
  ask_children {f = f} F e h =
      ask_open q f α e f refl h ∙ ap (λ (o : ℕ). tally_among by_bytes q (want_of f α) (target α) none o untold (list_of f)) (start_at_law f)

  pub ask_closed : (f : Frame) → standing_at α ≡ child → inside_only (kind_of α) ≡ true → level_of f ≡ 0 → ask by_bytes q f α ≡ untold
  unfolding arena
  ask_closed f e i l = ask_shut q f α e f refl i l

  -- outside every ambient
  pub ask_root : {L : Elements} {f : Frame} → Framed L f → (standing_at α ≡ child → ⊥) → level_of f ≡ 0 → ask by_bytes q f α ≡ untold
  unfolding level_of arena outer
  ask_root {L} (at_root i) n l = go (standing_of (kind_of α)) refl
    where
      go : (d : Standing) → standing_of (kind_of α) ≡ d → ask by_bytes q (outermost L i) α ≡ untold
      go sibling e = ask_nowhere q (outermost L i) α e refl
      go outside e = ask_nowhere q (outermost L i) α e refl
      go child e = absurd (n e)
  ask_root (in_ambient F h i) n l = absurd (omega arith)

  -- in the list around the ambient that holds it
  module _ {L : Elements} {f : Frame} {l : ℕ} (o : Outer L f l) where
    pub ask_outside : standing_of (kind_of α) ≡ outside → (inside_only (kind_of α) ≡ true → 0 < l) → ask by_bytes q f α ≡ tally_in by_bytes q (want_of f α) (start_at l (around_of f)) untold (list_of o.frame)
    unfolding arena questions.tally_of
    ask_outside e h =
        ask_open q f α e o.frame o.is (λ u. omega (arith, h u, o.level)) ∙ ap (λ (k : ℕ). tally_in by_bytes q (want_of f α) k untold (list_of o.frame)) (outer_start o)

    pub ask_around : standing_of (kind_of α) ≡ outside → inside_only (kind_of α) ≡ true → l ≡ 0 → ask by_bytes q f α ≡ untold
    unfolding arena
    ask_around e h z = ask_shut q f α e o.frame o.is h (o.level ∙ z)

    -- in the ambients of that list
    pub ask_siblings : standing_of (kind_of α) ≡ sibling → inside_only (kind_of α) ≡ false →
        ask by_bytes q f α ≡ tally_among by_bytes q (want_of f α) (target α) (some (within_of f)) (start_at l (around_of f)) untold (list_of o.frame)
    unfolding arena questions.tally_of
    ask_siblings e n =
        ask_open q f α e o.frame o.is (λ u. absurd (false≢true (sym n ∙ u)))
        ∙ ap (λ (k : ℕ). tally_among by_bytes q (want_of f α) (target α) (some k) (start_of by_bytes o.frame) untold (list_of o.frame)) (sym o.number)
        ∙ ap (λ (k : ℕ). tally_among by_bytes q (want_of f α) (target α) (some (within_of f)) k untold (list_of o.frame)) (outer_start o)

-- The holder

-- the name of the ambient that holds an element
pub record Holder (s : List ℕ) (f : Frame) : Type 0 where
  pub called : Reference
  pub is : holder f ≡ some called
  pub number : word_at (from s (within_of f)) 3 ≡ reference_number called
  pub scoped : ReferenceScoped name_limit 0 called
  pub below : within_of f < length s

ambient_called : (u : Status) (a : Reference) (A C : Elements) {r : List ℕ} → Spells r (ambient_element u a A before C) → (word_at r 3 ≡ reference_number a) × ReferenceScoped name_limit 0 a
unfolding encode_elements SpellableElements ◌before◌
ambient_called u a A C v = (ap (λ (l : List ℕ). word_at l 3) v.spelled ∙ ambient_number (ambient_tag u) a (encode_elements A) (encode_elements C), v.spellable.0)

pub held_by : {s : List ℕ} {L : Elements} {f : Frame} → Framed L f → Spells s L → 0 < level_of f → Holder s f
unfolding level_of within_of holder
held_by (at_root i) p h = absurd (omega arith)
held_by {s} {L} (in_ambient {f = g} {s = u} {a = a} {A = A} G k i) p h =
    let e = stands_element G k in
    let o = stands_offset G in
    let v = ambient_called u a A (behind L (position_of g)) (spells_from L (position_of g) (ambient_element u a A) e o p) in
    record { called = a; is = refl; number = v.0; scoped = v.1; below = offset_below L (position_of g) (ambient_element u a A) e o p.spelled }

-- What is wanted

module _ (f : Frame) (α : Action) {a : Layout} (e : a ≡ layout_of α) (h : ActionScoped name_limit 0 α) {want : Want} {d : CodeOption ℕ} (r : want ≡ wanted_by a d) where
  sought : d ≡ name_number (holder_if (names_holder (kind_of α)) f) → Named (holder_if (names_holder (kind_of α)) f) → Sought want (want_of f α)
  unfolding want_numbers want_of
  sought z n = record { numbers = r ∙ rw (e, z) refl; named = channel_scoped α h; directed = n }

  pub sought_any : names_holder (kind_of α) ≡ false → d ≡ None → Sought want (want_of f α)
  sought_any z n = sought (n ∙ rw z (unfold holder_if name_number in refl)) (rw z (unfold holder_if Named in tt))

  pub sought_holder : {s : List ℕ} → Holder s f → names_holder (kind_of α) ≡ true → d ≡ Some (word_at (from s (within_of f)) 3) → Sought want (want_of f α)
  sought_holder c z n = sought (n ∙ ap Some c.number ∙ rw z (unfold holder_if in rw c.is (unfold name_number in refl))) (rw z (unfold holder_if in rw c.is (unfold Named in c.scoped)))

-- The action at a spot

pub record Acted (s : List ℕ) (α : Action) : Type 0 where
  pub scoped : ActionScoped name_limit 0 α
  pub begins : ((get_or s 0 0 ≡ 0x42) × Begins (from s 6) α) ⊎ ((get_or s 0 0 ≡ 0x43) × Begins (from s 3) α)

acted_first : (u : Status) (α : Action) (P : Process) (C : Elements) {s : List ℕ} → Spells s (standing u α P before C) → Acted s α
unfolding standing SpellableElements ◌before◌
acted_first unblocked α P C p =
    let v = (spellable_action 0 α P p.spellable.0).0 in
    record { scoped = v.0; begins = inl (ap (λ (l : List ℕ). get_or l 0 0) p.spelled ∙ unfold encode_elements field in refl, begins_action α P C p.spelled) }
acted_first blocked α P C p =
    let v = p.spellable.0 in
    record { scoped = v.0; begins = inr (ap (λ (l : List ℕ). get_or l 0 0) p.spelled ∙ unfold encode_elements field in refl, begins_blocked α P C p.spelled) }

pub acted : {s : List ℕ} {t : Spot} (L : Elements) (π : Position) (u : Status) (α : Action) (P : Process) → Spells s L → element_at L π ≡ some (standing u α P) → t ≡ spot_of L π → Acted (from s t.at) α
acted L π u α P p e z = acted_first u α P (behind L π) (spells_from L π (standing u α P) e (spot_offset L π (standing u α P) e z) p)

module _ {s : List ℕ} {α : Action} (v : Acted s α) where
  pub acted_unblocked : get_or s 0 0 ≡ 0x42 → Begins (from s 6) α
  acted_unblocked e = ⊎_elim (λ t. t.1) (λ t. absurd (omega (arith, e, t.0))) v.begins

  pub acted_blocked : (get_or s 0 0 ≡ 0x42 → ⊥) → Begins (from s 3) α
  acted_blocked n = ⊎_elim (λ t. absurd (n t.0)) (λ t. t.1) v.begins

  pub acted_long : 3 < length s
  acted_long = ⊎_elim (λ t. omega (arith, begins_long t.1, length_part 6 s)) (λ t. omega (arith, begins_long t.1, length_part 3 s)) v.begins
