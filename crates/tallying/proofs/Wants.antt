-- What the first element of a list is to a question: wants, questions and tallies by their numbers.
use mathlib.Core.Path.{◌≡◌, refl, sym, ap, ◌∙◌}
use mathlib.Core.Bool.{Bool, true, false, false≢true}
use mathlib.Core.List.{List, ◌++◌, append_assoc}
use mathlib.Core.Option.{Option, none, some}
use Rattle.std.specs.Prelude.{Option as CodeOption, None, Some}
use Rattle.std.specs.Option.{is_some, is_none, option_eq, option_or}
use Prim.Native.Nat.{ℕ, suc, ◌+◌, ◌*◌, ◌≤◌, ◌<◌}
use native.Mathlib.Omega.{arith}
use lib.ListN.{length, get_or}
use lib.Dec.{leb, eqb}
use borrow.Author.Tests.{lt-leb, le-leb, eq-eqb, ne_eqb, eqb-true, eqb-false}
use Rattle.calculus.specs.Processes.{Reference, name, variable, Action, sibling_output, parent_output, internal_input, external_input, enter, leave, accept, release, Process, action}
use Rattle.calculus.specs.Redexes.{Kind}
use Rattle.machine.specs.Elements.{unblocked, blocked, Elements, empty, ambient_then, process_then, blocked_then, Element, ambient_element, process_element, blocked_element, ◌before◌}
use Rattle.machine.specs.Limits.{name_limit}
use Rattle.machine.specs.Tests.{◌and◌, ◌or◌, same}
use Rattle.machine.specs.Validity.{ReferenceScoped, ActionScoped, Scoped}
use Rattle.machine.specs.Kinds.{channel, count, kind_of, kind_number, target}
use Rattle.machine.specs.Answers.{aimed, matches, called, Want as Wish}
use Rattle.machine.specs.Questions.{looks_into, untold, below, asks, first_of, settled, note, every, is_one, Question as Query, Tally as Count}
use Rattle.machine.specs.Search.{told_by}
use Rattle.buffers.specs.Words.{word, field}
use Rattle.format.specs.Spelling.{reference_number, encode_action, encode}
use Rattle.layouts.specs.Layouts.{SpelledAction, name_number, target_of, layout_of}
use Rattle.layouts.specs.declared.Layout.{Layout}
use Rattle.format.specs.Kinds.{tag_kind, tag_with, directed_of, action_tag}
use Rattle.format.proofs.ActionKinds.{number_kind, tag_kind_with, tag_kind_action}
use Rattle.format.proofs.Laws.{word_drop}
use Rattle.layouts.proofs.Layouts.{action_long, tag_first, channel_is}
use Rattle.format.specs.Reading.{word_at}
use Rattle.elements.specs.Spelling.{ambient_tag, encode_elements, SpellableElements}
use Rattle.elements.specs.Spelled.{Spells}
use Rattle.elements.proofs.Views.{tail, executed_bytes, blocked_bytes, ambient_number}
use Rattle.elements.proofs.Actions.{channel_scoped}
use Rattle.buffers.proofs.Parts.{from, part_all}
use Rattle.places.specs.Offsets.{coded, meant}
use Rattle.tallying.specs.declared.Want.{Want}
use Rattle.tallying.specs.declared.Question.{Question}
use Rattle.tallying.specs.declared.Tally.{Tally}
use Rattle.tallying.specs.Numbers.{question_of, tally_of, tally_numbers, want_numbers, Begins, Named, Sought, agrees, wanted_here, looked_into}

-- None, or an offset

coded_meant : (o : CodeOption ℕ) → coded (meant o) ≡ o
coded_meant None = refl
coded_meant (Some k) = refl

-- a tally is the numbers of the one that it stands for
pub tally_numbers_law : (r : Tally) (t : Count) → tally_of r ≡ t → r ≡ tally_numbers t
unfolding tally_of tally_numbers
tally_numbers_law r t e = ap (λ (o : CodeOption ℕ). record { lowest = o; number = r.number }) (sym (coded_meant r.lowest)) ∙ ap tally_numbers e

pub number_is : (t : Count) (r : Tally) → r ≡ tally_numbers t → r.number ≡ t.number
unfolding tally_numbers
number_is t r e = ap (λ (x : Tally). x.number) e

-- Questions

pub question_every : (once : Bool) → question_of (record { from = 0; to = None; once = once }) ≡ every once
unfolding question_of every
question_every once = refl

pub question_one : (k : ℕ) → question_of (record { from = k; to = Some k; once = true }) ≡ is_one k
unfolding question_of is_one
question_one k = refl

module _ (q : Question) (at : ℕ) where
  pub counts_early : at < q.from → false ≡ asks (question_of q) at
  unfolding asks question_of
  counts_early h = rw (lt-leb q.from at h)

  module _ (h : q.from ≤ at) where
    pub counts_all : q.to ≡ None → true ≡ asks (question_of q) at
    unfolding asks question_of below
    counts_all e = rw (le-leb q.from at h, e)

    pub counts_some : (k : ℕ) → q.to ≡ Some k → leb at k ≡ asks (question_of q) at
    unfolding asks question_of below
    counts_some k e = rw (le-leb q.from at h, e)

first_told : (l : CodeOption ℕ) (at : ℕ) → meant (option_or l (Some at)) ≡ first_of (meant l) at
unfolding first_of
first_told None at = refl
first_told (Some k) at = refl

module _ (q : Question) (t : Tally) where
  module _ (at : ℕ) where
    pub note_none : settled (question_of q) (tally_of t) ≡ true → tally_of t ≡ note (question_of q) (tally_of t) at
    unfolding note
    note_none e = rw e

    module _ (e : settled (question_of q) (tally_of t) ≡ false) where
      pub note_other : asks (question_of q) at ≡ false → tally_of t ≡ note (question_of q) (tally_of t) at
      unfolding note
      note_other f = rw (e, f)

      module _ (f : asks (question_of q) at ≡ true) where
        pub note_more : (o : CodeOption ℕ) → o ≡ option_or t.lowest (Some at) → (n : ℕ) → n ≡ t.number + 1 → tally_of (record { lowest = o; number = n }) ≡ note (question_of q) (tally_of t) at
        unfolding note tally_of
        note_more o l n k =
            let first = ap meant l ∙ first_told t.lowest at in
            let more : n ≡ suc t.number = omega (arith, k) in
            rw (e, f) (λ i. record { lowest = first i; number = more i })

-- Names by their numbers

same_names : (a b : Reference) → ReferenceScoped name_limit 0 a → ReferenceScoped name_limit 0 b → eqb (reference_number a) (reference_number b) ≡ same a b
unfolding same reference_number ReferenceScoped
same_names (name n) (name m) h g = refl
same_names (name n) (variable j) h g = absurd (omega arith)
same_names (variable i) b h g = absurd (omega arith)

aimed_names : (d t : Option Reference) → Named d → Named t → is_none (name_number d) or option_eq eqb (name_number d) (name_number t) ≡ aimed d t
unfolding Named name_number aimed
aimed_names none t h g = refl
aimed_names (some a) none h g = refl
aimed_names (some a) (some b) h g = same_names a b h g

pub target_named : (α : Action) → ActionScoped name_limit 0 α → Named (target α)
unfolding ActionScoped target Named
target_named (sibling_output a x ns) h = h.0
target_named (parent_output x ns) h = tt
target_named (internal_input x k) h = tt
target_named (external_input x k) h = tt
target_named (enter a x) h = h.0
target_named (leave x) h = tt
target_named (accept x) h = tt
target_named (release x) h = tt

-- with one count, tags tell kinds apart
same_kinds : (j k : Kind) (n : ℕ) → eqb (tag_with j n) (tag_with k n) ≡ eqb (kind_number j) (kind_number k)
same_kinds j k n = go (eqb (kind_number j) (kind_number k)) refl
  where
    go : (b : Bool) → eqb (kind_number j) (kind_number k) ≡ b → eqb (tag_with j n) (tag_with k n) ≡ eqb (kind_number j) (kind_number k)
    go true e = eq-eqb _ _ (ap (λ (i : Kind). tag_with i n) (sym (number_kind j) ∙ ap tag_kind (eqb-true _ _ e) ∙ number_kind k)) ∙ sym e
    go false e = ne_eqb _ _ (λ z. eqb-false _ _ e (ap kind_number (sym (tag_kind_with j n) ∙ ap tag_kind z ∙ tag_kind_with k n))) ∙ sym e

-- tags may be compared in place of kinds where the counts are compared too
by_tags : (j k : Kind) (m n : ℕ) (x y : Bool) → eqb (tag_with j m) (tag_with k n) and (x and (eqb n m and y)) ≡ eqb (kind_number j) (kind_number k) and (x and (eqb n m and y))
by_tags j k m n x y = go (eqb n m) refl
  where
    nothing : (a b x : Bool) → a and (x and false) ≡ b and (x and false)
    nothing true true x = refl
    nothing true false true = refl
    nothing true false false = refl
    nothing false true true = refl
    nothing false true false = refl
    nothing false false x = refl

    go : (b : Bool) → eqb n m ≡ b → eqb (tag_with j m) (tag_with k n) and (x and (b and y)) ≡ eqb (kind_number j) (kind_number k) and (x and (b and y))
    go true e = ap (λ (a : Bool). a and (x and y)) (ap (λ (i : ℕ). eqb (tag_with j m) (tag_with k i)) (eqb-true n m e) ∙ same_kinds j k m)
    go false e = nothing (eqb (tag_with j m) (tag_with k n)) (eqb (kind_number j) (kind_number k)) x

module _ (w : Want) (a : Layout) where
  pub agrees_not : (w.count ≡ a.count → ⊥) → false ≡ agrees w a
  unfolding agrees
  agrees_not h = rw (ne_eqb w.count a.count h)

  module _ (e : w.count ≡ a.count) where
    pub agrees_any : is_some w.target ≡ false → true ≡ agrees w a
    unfolding agrees
    agrees_any h = rw (eq-eqb w.count a.count e, h)

    pub agrees_target : is_some w.target ≡ true → option_eq eqb w.target a.target ≡ agrees w a
    unfolding agrees
    agrees_target h = rw (eq-eqb w.count a.count e, h)

-- An action by its numbers

pub target_number : (α : Action) → target_of α ≡ name_number (target α)
unfolding target_of
target_number α = refl

-- what is wanted, by its numbers
matches_numbers : (want : Want) (w : Wish) (β : Action) → Sought want w → ActionScoped name_limit 0 β
    → eqb (action_tag β) want.tag and (eqb want.channel (reference_number (channel β)) and agrees want (layout_of β)) ≡ matches w β
unfolding agrees want_numbers matches action_tag
matches_numbers want w β s h =
    ap (λ (v : Want). eqb (action_tag β) v.tag and (eqb v.channel (reference_number (channel β)) and agrees v (layout_of β))) s.numbers
    ∙ rw (by_tags (kind_of β) w.kind (count β) w.names, same_names w.on (channel β) s.named (channel_scoped β h), target_number β, aimed_names w.directed (target β) s.directed (target_named β h)) refl

abbrev pub begins_action_at : {s : List ℕ} {α : Action} → Begins s α → SpelledAction s
begins_action_at {α = α} b = record { doing = α; rest = b.rest; spelled = b.spelled }

-- One element

pub begins_blocked : {s : List ℕ} (α : Action) (P : Process) (C : Elements) → s ≡ encode_elements (blocked_element α P before C) → Begins (from s 3) α
begins_blocked {s} α P C e = record { rest = encode P ++ encode_elements C; spelled = blocked_bytes α P C s e }

pub begins_action : {s : List ℕ} (α : Action) (P : Process) (C : Elements) → s ≡ encode_elements (process_element (action α P) before C) → Begins (from s 6) α
begins_action {s} α P C e = record { rest = encode P ++ encode_elements C; spelled = executed_bytes α P C s e }

-- a blocked action that comes first
pub record BlockedFirst (s : List ℕ) (E : Element) : Type 0 where
  pub doing : Action
  pub process : Process
  pub is : E ≡ blocked_element doing process
  pub begins : Begins (from s 3) doing
  pub scoped : ActionScoped name_limit 0 doing
  pub kind : get_or s 3 0 ≡ action_tag doing

pub blocked_first : (E : Element) (C : Elements) {s : List ℕ} → Spells s (E before C) → 0x43 ≤ get_or s 0 0 → BlockedFirst s E
unfolding encode_elements field word ambient_tag ◌before◌ SpellableElements
blocked_first (ambient_element unblocked a A) C p h = let t = ap (λ (l : List ℕ). get_or l 0 0) p.spelled in absurd (omega arith)
blocked_first (ambient_element blocked a A) C p h = let t = ap (λ (l : List ℕ). get_or l 0 0) p.spelled in absurd (omega arith)
blocked_first (process_element P) C p h = let t = ap (λ (l : List ℕ). get_or l 0 0) p.spelled in absurd (omega arith)
blocked_first (blocked_element α P) C p h = record {
  doing = α;
  process = P;
  is = refl;
  begins = begins_blocked α P C p.spelled;
  scoped = p.spellable.0.0;
  kind = ap (λ (l : List ℕ). get_or l 3 0) p.spelled ∙ ap (λ (l : List ℕ). get_or l 0 0) (append_assoc (encode_action α) (encode P) (encode_elements C)) ∙ tag_first α (encode P ++ encode_elements C);
}

pub begins_long : {s : List ℕ} {α : Action} → Begins s α → 0 < length s
begins_long {s} {α} b = omega (arith, action_long α s b.rest b.spelled)

pub not_blocked : (w : Wish) (E : Element) (C : Elements) {s : List ℕ} → s ≡ encode_elements (E before C) → get_or s 0 0 < 0x43 → false ≡ wanted_here w E
unfolding wanted_here encode_elements field ◌before◌
not_blocked w (ambient_element u a A) C e h = refl
not_blocked w (process_element P) C e h = refl
not_blocked w (blocked_element β Q) C e h = let t = ap (λ (l : List ℕ). get_or l 0 0) e in absurd (omega arith)

module _ {s : List ℕ} {E : Element} (v : BlockedFirst s E) (want : Want) (w : Wish) (k : Sought want w) where
  -- the comparisons, one after another
  compared : eqb (action_tag v.doing) want.tag and (eqb want.channel (reference_number (channel v.doing)) and agrees want (layout_of v.doing)) ≡ wanted_here w E
  unfolding wanted_here
  compared = matches_numbers want w v.doing k v.scoped ∙ sym (ap (wanted_here w) v.is)

  pub other_tag : ¬ (want.tag ≡ get_or s 3 0) → false ≡ wanted_here w E
  other_tag n = rw (ne_eqb (action_tag v.doing) want.tag (λ z. n (sym (v.kind ∙ z)))) refl ∙ compared

  module _ (e : want.tag ≡ get_or s 3 0) (n : ℕ) (r : n ≡ word_at s want.at) where
    same_tag : action_tag v.doing ≡ want.tag
    same_tag = sym (e ∙ v.kind)

    -- the channel stands there
    channel_there : n ≡ reference_number (channel v.doing)
    unfolding want_numbers
    channel_there =
        let kinds : w.kind ≡ kind_of v.doing = sym (tag_kind_with w.kind w.names) ∙ ap tag_kind (sym (same_tag ∙ ap (λ (x : Want). x.tag) k.numbers)) ∙ tag_kind_action v.doing in
        let place = 3 + 2 * directed_of (kind_of v.doing) in
        r ∙ ap (word_at s) (ap (λ (x : Want). x.at) k.numbers ∙ ap (λ (j : Kind). 3 + (3 + 2 * directed_of j)) kinds)
        ∙ sym (word_drop s 3 place) ∙ ap (λ (l : List ℕ). word_at l place) (sym (part_all 3 s) ∙ v.begins.spelled) ∙ channel_is v.doing v.begins.rest

    pub other_channel : ¬ (want.channel ≡ n) → false ≡ wanted_here w E
    other_channel h =
        rw (eq-eqb (action_tag v.doing) want.tag same_tag, ne_eqb want.channel (reference_number (channel v.doing)) (λ z. h (z ∙ sym channel_there))) refl ∙ compared

    pub wanted_blocked : want.channel ≡ n → (a : Layout) → a ≡ layout_of v.doing → agrees want a ≡ wanted_here w E
    wanted_blocked h a l =
        ap (agrees want) l ∙ rw (eq-eqb (action_tag v.doing) want.tag same_tag, eq-eqb want.channel (reference_number (channel v.doing)) (h ∙ channel_there)) refl ∙ compared

-- what one element adds
pub told_wanted : (q : Query) (w : Wish) (o : ℕ) (t : Count) (E : Element) → wanted_here w E ≡ true → note q t o ≡ told_by q w o t E
unfolding wanted_here told_by
told_wanted q w o t (ambient_element s a A) e = absurd (false≢true e)
told_wanted q w o t (process_element P) e = absurd (false≢true e)
told_wanted q w o t (blocked_element β Q) e = rw e

pub told_other : (q : Query) (w : Wish) (o : ℕ) (t : Count) (E : Element) → wanted_here w E ≡ false → t ≡ told_by q w o t E
unfolding wanted_here told_by
told_other q w o t (ambient_element s a A) e = refl
told_other q w o t (process_element P) e = refl
told_other q w o t (blocked_element β Q) e = rw e

-- the first element of a list that is spelled in some bytes
pub first_of_law : (A : Elements) → 0 < length (encode_elements A) → (E : Element) × (A ≡ E before tail A)
unfolding encode_elements tail ◌before◌
first_of_law empty h = absurd (omega (arith, h))
first_of_law (ambient_then u a A C) h = (ambient_element u a A, refl)
first_of_law (process_then P C) h = (process_element P, refl)
first_of_law (blocked_then α P C) h = (blocked_element α P, refl)

pub first_spelled : {s : List ℕ} (A : Elements) → Spells s A → 0 < length s → (E : Element) × (A ≡ E before tail A)
first_spelled A p h = first_of_law A (omega (arith, h, ap length p.spelled))

-- An ambient to be looked into

module _ (n : Option Reference) (o : ℕ) where
  pub opens_none : (skip : Option ℕ) (E : Element) (C : Elements) {s : List ℕ} → s ≡ encode_elements (E before C) → 0x41 < get_or s 0 0 → false ≡ looked_into skip n o E
  unfolding looked_into encode_elements field ambient_tag ◌before◌
  opens_none skip (ambient_element unblocked a A) C e h = let t = ap (λ (l : List ℕ). get_or l 0 0) e in absurd (omega arith)
  opens_none skip (ambient_element blocked a A) C e h = let t = ap (λ (l : List ℕ). get_or l 0 0) e in absurd (omega arith)
  opens_none skip (process_element P) C e h = refl
  opens_none skip (blocked_element α P) C e h = refl

  pub opens_skipped : (skip : CodeOption ℕ) (E : Element) → option_eq eqb skip (Some o) ≡ true → false ≡ looked_into (meant skip) n o E
  unfolding looked_into looks_into
  opens_skipped None E e = absurd (false≢true e)
  opens_skipped (Some k) (ambient_element s a A) e = rw e
  opens_skipped (Some k) (process_element P) e = refl
  opens_skipped (Some k) (blocked_element α P) e = refl

  looks_past : (skip : CodeOption ℕ) (a : Reference) → option_eq eqb skip (Some o) ≡ false → looks_into (meant skip) n o a ≡ called n a
  unfolding looks_into
  looks_past None a e = refl
  looks_past (Some k) a e = rw e

  opened_by : (skip : CodeOption ℕ) (E : Element) (C : Elements) {s : List ℕ} → Spells s (E before C) → get_or s 0 0 ≤ 0x41 → option_eq eqb skip (Some o) ≡ false →
      (b : Bool) → ((a : Reference) → ReferenceScoped name_limit 0 a → reference_number a ≡ word_at s 3 → b ≡ called n a) → b ≡ looked_into (meant skip) n o E
  unfolding looked_into encode_elements field Scoped ◌before◌ SpellableElements
  opened_by skip (ambient_element u a A) C p t h b k =
      k a p.spellable.0 (sym (ap (λ (l : List ℕ). word_at l 3) p.spelled ∙ ambient_number (ambient_tag u) a (encode_elements A) (encode_elements C))) ∙ sym (looks_past skip a h)
  opened_by skip (process_element P) C p t h b k = let z = ap (λ (l : List ℕ). get_or l 0 0) p.spelled in absurd (omega arith)
  opened_by skip (blocked_element α P) C p t h b k = let z = ap (λ (l : List ℕ). get_or l 0 0) p.spelled in absurd (omega arith)

  module _ (skip : CodeOption ℕ) (E : Element) (C : Elements) {s : List ℕ} (p : Spells s (E before C)) (t : get_or s 0 0 ≤ 0x41) (h : option_eq eqb skip (Some o) ≡ false) where
    pub opens_any : None ≡ name_number n → true ≡ looked_into (meant skip) n o E
    unfolding name_number called
    opens_any e = opened_by skip E C p t h true (λ a r w. any n e a)
      where
        any : (n : Option Reference) → None ≡ name_number n → (a : Reference) → true ≡ called n a
        any none e a = refl
        any (some b) e a = absurd (let z : ◌≡◌ {A = ℕ} 0 1 = cc in omega arith)

    pub opens_named : (m : ℕ) → Some m ≡ name_number n → Named n → (k : ℕ) → k ≡ word_at s 3 → eqb m k ≡ looked_into (meant skip) n o E
    unfolding name_number Named called
    opens_named m e d k w = opened_by skip E C p t h (eqb m k) (λ a r v. ap (eqb m) (w ∙ sym v) ∙ one n e d a r)
      where
        one : (n : Option Reference) → Some m ≡ name_number n → Named n → (a : Reference) → ReferenceScoped name_limit 0 a → eqb m (reference_number a) ≡ called n a
        one none e d a r = absurd (let z : ◌≡◌ {A = ℕ} 0 1 = cc in omega arith)
        one (some b) e d a r = let q : m ≡ reference_number b = cc in ap (λ (i : ℕ). eqb i (reference_number a)) q ∙ same_names b a d r

-- Nothing told

pub none_yet : untold ≡ tally_of (record { lowest = None; number = 0 })
unfolding tally_of
none_yet = refl
