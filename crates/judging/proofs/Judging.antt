-- The uses of a process, opening by opening, with a set of names for each use.
use mathlib.Core.Path.{◌≡◌, refl, sym, ap, ◌∙◌, subst}
use mathlib.Core.Bool.{true, false, false≢true}
use mathlib.Core.Logic.{◌⊎◌, inl, inr, ⊎_elim}
use mathlib.Core.List.Memᴰ
use mathlib.Core.List.{List, [], ◌∷◌, ◌++◌, append_assoc, append-nil}
use Prim.Native.Nat.{ℕ, ◌+◌, ◌≤◌, ◌<◌}
use native.Mathlib.Omega.{arith}
use lib.ListN.{length}
use Rattle.std.specs.Prelude.{Option, Some}
use Rattle.calculus.specs.Processes.{Reference, name, variable, Action, sibling_output, parent_output, internal_input, external_input, enter, leave, accept, release, Process, null, parallel, restriction, ambient, action, replication}
use Rattle.calculus.specs.Names.{Among, names_of_reference, names_of_all}
use Rattle.machine.specs.Limits.{free_name_limit, cabinet_name}
use Rattle.machine.specs.Validity.{ProcessScoped}
use Rattle.format.specs.Spelling.{reference_number, encode}
use Rattle.layouts.specs.Openings.{Opening, alone, named, whole, encode_opening, encode_openings, opened_of}
use Rattle.layouts.proofs.Openings.{OpeningsLeft, left_first, opened, end_within, left_on, none_opened}
use Rattle.elements.proofs.Openings.{openings, openings_spelled}
use Rattle.uses.specs.Uses.{Use, as_box, as_channel, targets, of_ambient, of_action, written, used, mixed}
use Rattle.sets.specs.Sets.{with_name, holds_given, with_given}
use Rattle.using.specs.Using.{of_opening, number_of, written_in}
use Rattle.using.specs.declared.Written.{Written}
use Rattle.buffers.proofs.Parts.{from}
use Rattle.uses.proofs.Uses.{mixed_has_both, apart_unmixed, written_below}
use Rattle.sets.proofs.Sets.{Holding, blank, holding_none, holding_more, NoFreeName, none_held, none_put}

-- What is written for a use in openings

unfoldable pub written_among : Use → List Opening → List ℕ
written_among u [] = []
written_among u (o ∷ os) = names_of_all (of_opening u o) ++ written_among u os

behind : (front ns ms : List ℕ) {last : List ℕ} → last ≡ ns ++ ms → front ++ last ≡ (front ++ ns) ++ ms
behind front ns ms e = ap (λ (l : List ℕ). front ++ l) e ∙ sym (append_assoc front ns ms)

openings_written : (u : Use) (P : Process) (os : List Opening) → written_among u (openings P os) ≡ written u P ++ written_among u os
unfolding openings written_among written of_opening names_of_all
openings_written u null os = refl
openings_written u (parallel P Q) os = openings_written u P (openings Q os) ∙ behind (written u P) (written u Q) (written_among u os) (openings_written u Q os)
openings_written u (restriction P) os = openings_written u P os
openings_written u (ambient a P) os = behind (names_of_all (of_ambient u a)) (written u P) (written_among u os) (openings_written u P os)
openings_written u (action α P) os = behind (names_of_all (of_action u α)) (written u P) (written_among u os) (openings_written u P os)
openings_written u (replication α P) os = behind (names_of_all (of_action u α)) (written u P) (written_among u os) (openings_written u P os)

-- At most one reference is written for a use

unfoldable AtMostOne : List Reference → Type 0
AtMostOne [] = Unit {0}
AtMostOne (r ∷ []) = Unit {0}
AtMostOne (r ∷ s ∷ rs) = ⊥

action_one : (u : Use) (α : Action) → AtMostOne (of_action u α)
unfolding of_action targets AtMostOne
action_one as_box (sibling_output a x ns) = tt
action_one as_box (parent_output x ns) = tt
action_one as_box (internal_input x k) = tt
action_one as_box (external_input x k) = tt
action_one as_box (enter a x) = tt
action_one as_box (leave x) = tt
action_one as_box (accept x) = tt
action_one as_box (release x) = tt
action_one as_channel α = tt

one_written : (u : Use) (o : Opening) → AtMostOne (of_opening u o)
unfolding of_opening of_ambient AtMostOne
one_written u (alone tag len f) = tt
one_written as_box (named tag len f a) = tt
one_written as_channel (named tag len f a) = tt
one_written u (whole α) = action_one u α

-- a number is a free name's, which is all that is written, or no name is written
number_names : (rs : List Reference) → AtMostOne rs → (number : Option ℕ) → number ≡ number_of rs
    → (NoFreeName number × (names_of_all rs ≡ [])) ⊎ ((n : ℕ) × (number ≡ Some n) × (names_of_all rs ≡ n ∷ []))
unfolding number_of names_of_all names_of_reference reference_number AtMostOne NoFreeName
number_names [] h number e = inl (subst NoFreeName (sym e) tt, refl)
number_names (name n ∷ []) h number e = inr (n, e, refl)
number_names (variable i ∷ []) h number e = inl (subst NoFreeName (sym e) (omega arith), refl)
number_names (r ∷ s ∷ rs) h number e = absurd h

-- One use of a name: found in the other set, or put into its own

module _ (own other ns ms : List ℕ) (g : Holding own ns) (k : Holding other ms) (u : Use) (o : Opening) (number : Option ℕ) (e : number ≡ number_of (of_opening u o))
    (free : (n : ℕ) → Among n (names_of_all (of_opening u o)) → n < free_name_limit) where
  abbrev new : List ℕ
  new = names_of_all (of_opening u o)

  abbrev Cases : Type 0
  Cases = (NoFreeName number × (new ≡ [])) ⊎ ((n : ℕ) × (number ≡ Some n) × (new ≡ n ∷ []))

  cases : Cases
  cases = number_names (of_opening u o) (one_written u o) number e

  is_new : (n : ℕ) → new ≡ n ∷ [] → Among n new
  is_new n q = subst (Among n) (sym q) (Memᴰ.head refl)

  met : holds_given other number ≡ true → (n : ℕ) × Among n new × Among n ms
  unfolding holds_given
  met h = go cases
    where
      go : Cases → (n : ℕ) × Among n new × Among n ms
      go (inl q) = absurd (false≢true (none_held other number q.0 ∙ h))
      go (inr q) = (q.0, is_new q.0 q.2, (k.says q.0 (free q.0 (is_new q.0 q.2))).0 (sym (ap (holds_given other) q.1) ∙ h))

  passed : holds_given other number ≡ false → Holding (with_given own number) (ns ++ new) × ((n : ℕ) → Among n new → Among n ms → ⊥)
  unfolding holds_given with_given
  passed h = go cases
    where
      go : Cases → Holding (with_given own number) (ns ++ new) × ((n : ℕ) → Among n new → Among n ms → ⊥)
      go (inl q) = (
        subst (λ (l : List ℕ). Holding l (ns ++ new)) (none_put own number q.0) (subst (Holding own) (sym (ap (λ (l : List ℕ). ns ++ l) q.1 ∙ append-nil ns)) g),
        λ n a b. Memᴰ.not-nil (subst (Among n) q.1 a),
      )
      go (inr q) =
          let m = q.0 in
          let l = free m (is_new m q.2) in (
            subst (λ (x : List ℕ). Holding (with_given own number) (ns ++ x)) (sym q.2)
                (subst (λ (o : Option ℕ). Holding (with_given own o) (ns ++ m ∷ [])) (sym q.1) (holding_more own ns m g l)),
            λ n a b. false≢true (sym (sym (ap (holds_given other) q.1) ∙ h) ∙ (k.says m l).1 (Memᴰ.cast (sym (Memᴰ.eq_of_singleton (subst (Among n) q.2 a))) b)),
          )

-- The names that are met up to an opening

pub record Seen (P : Process) (left : List Opening) (boxes channels : List ℕ) : Type 0 where
  pub boxed : List ℕ
  pub heard : List ℕ
  pub boxes_are : used as_box P ≡ boxed ++ written_among as_box left
  pub channels_are : used as_channel P ≡ heard ++ written_among as_channel left
  pub holds_boxes : Holding boxes boxed
  pub holds_channels : Holding channels heard
  pub apart : (n : ℕ) → Among n boxed → Among n heard → ⊥

module _ (F : ℕ) (P : Process) (scoped : ProcessScoped F 0 P) (few : F ≤ free_name_limit) where
  used_free : (u : Use) (n : ℕ) → Among n (used u P) → n < free_name_limit
  unfolding used
  used_free as_box n a = ⊎_elim (λ q. omega (arith, q)) (λ b. omega (arith, written_below F 0 as_box P scoped n b, few)) (Memᴰ.cases_cons a)
  used_free as_channel n a = omega (arith, written_below F 0 as_channel P scoped n a, few)

  -- the names of the next opening among those of the process
  module _ (u : Use) (before : List ℕ) (o : Opening) (os : List Opening) (e : used u P ≡ before ++ written_among u (o ∷ os)) where
    next_used : (n : ℕ) → Among n (names_of_all (of_opening u o)) → Among n (used u P)
    unfolding written_among
    next_used n a = subst (Among n) (sym e) (Memᴰ.append_right before (Memᴰ.append_left (written_among u os) a))

    seen_used : (n : ℕ) → Among n before → Among n (used u P)
    seen_used n a = subst (Among n) (sym e) (Memᴰ.append_left (written_among u (o ∷ os)) a)

    next_free : (n : ℕ) → Among n (names_of_all (of_opening u o)) → n < free_name_limit
    next_free n a = used_free u n (next_used n a)

    moved : used u P ≡ (before ++ names_of_all (of_opening u o)) ++ written_among u os
    unfolding written_among
    moved = e ∙ sym (append_assoc before (names_of_all (of_opening u o)) (written_among u os))

  module _ {o : Opening} {os : List Opening} {boxes channels : List ℕ} (w : Seen P (o ∷ os) boxes channels) (b : Option ℕ) (eb : b ≡ number_of (of_opening as_box o)) where
    box_free : (n : ℕ) → Among n (names_of_all (of_opening as_box o)) → n < free_name_limit
    box_free = next_free as_box w.boxed o os w.boxes_are

    pub box_met : holds_given channels b ≡ true → true ≡ mixed P
    box_met h =
        let m = met boxes channels w.boxed w.heard w.holds_boxes w.holds_channels as_box o b eb box_free h in
        sym ((mixed_has_both P).1 (record { number = m.0; box = next_used as_box w.boxed o os w.boxes_are m.0 m.1; channel = seen_used as_channel w.heard o os w.channels_are m.0 m.2 }))

    module _ (h : holds_given channels b ≡ false) (c : Option ℕ) (ec : c ≡ number_of (of_opening as_channel o)) where
      abbrev boxed' : List ℕ
      boxed' = w.boxed ++ names_of_all (of_opening as_box o)

      first : Holding (with_given boxes b) boxed' × ((n : ℕ) → Among n (names_of_all (of_opening as_box o)) → Among n w.heard → ⊥)
      first = passed boxes channels w.boxed w.heard w.holds_boxes w.holds_channels as_box o b eb box_free h

      channel_free : (n : ℕ) → Among n (names_of_all (of_opening as_channel o)) → n < free_name_limit
      channel_free = next_free as_channel w.heard o os w.channels_are

      pub channel_met : holds_given (with_given boxes b) c ≡ true → true ≡ mixed P
      channel_met k =
          let m = met channels (with_given boxes b) w.heard boxed' w.holds_channels first.0 as_channel o c ec channel_free k in
          sym ((mixed_has_both P).1 (record {
            number = m.0;
            box = subst (Among m.0) (sym (moved as_box w.boxed o os w.boxes_are)) (Memᴰ.append_left (written_among as_box os) m.2);
            channel = next_used as_channel w.heard o os w.channels_are m.0 m.1;
          }))

      pub both_passed : holds_given (with_given boxes b) c ≡ false → Seen P os (with_given boxes b) (with_given channels c)
      both_passed k =
          let second = passed channels (with_given boxes b) w.heard boxed' w.holds_channels first.0 as_channel o c ec channel_free k in
          record {
            boxed = boxed';
            heard = w.heard ++ names_of_all (of_opening as_channel o);
            boxes_are = moved as_box w.boxed o os w.boxes_are;
            channels_are = moved as_channel w.heard o os w.channels_are;
            holds_boxes = first.0;
            holds_channels = second.0;
            apart = λ n x y.
                ⊎_elim
                (λ y'. ⊎_elim (λ x'. w.apart n x' y') (λ x'. first.1 n x' y') (Memᴰ.append_cases w.boxed x))
                (λ y'. second.1 n y' x)
                (Memᴰ.append_cases w.heard y);
          }

-- at the end
all_seen : (P : Process) (boxes channels : List ℕ) → Seen P [] boxes channels → false ≡ mixed P
unfolding written_among
all_seen P boxes channels w =
    sym (apart_unmixed P (λ b. w.apart b.number (subst (Among b.number) (w.boxes_are ∙ append-nil w.boxed) b.box) (subst (Among b.number) (w.channels_are ∙ append-nil w.heard) b.channel)))

-- The walk along the bytes: the openings left at a position, and what was seen before it

pub record Judged (s : List ℕ) (P : Process) (at : ℕ) (boxes channels : List ℕ) : Type 0 where
  pub openings_left : List Opening
  pub left : OpeningsLeft s openings_left at
  pub seen : (F : ℕ) → ProcessScoped F 0 P → F ≤ free_name_limit → Seen P openings_left boxes channels

module _ (s : List ℕ) (P : Process) where
  pub judge_first : s ≡ encode P → (boxes : List ℕ) → boxes ≡ with_name blank cabinet_name → Judged s P 0 boxes blank
  unfolding used written_among encode_openings
  judge_first e boxes q = record {
    openings_left = openings P [];
    left = left_first s (openings P []) (e ∙ sym (openings_spelled P [] ∙ append-nil (encode P)));
    seen = λ F i f. record {
      boxed = cabinet_name ∷ [];
      heard = [];
      boxes_are = ap (λ (l : List ℕ). cabinet_name ∷ l) (sym (openings_written as_box P [] ∙ append-nil (written as_box P)));
      channels_are = sym (openings_written as_channel P [] ∙ append-nil (written as_channel P));
      holds_boxes = subst (λ (l : List ℕ). Holding l (cabinet_name ∷ [])) (sym q) (holding_more blank [] cabinet_name holding_none (omega arith));
      holds_channels = holding_none;
      apart = λ n a b. Memᴰ.not-nil b;
    };
  }

  module _ {at : ℕ} {boxes channels : List ℕ} (g : Judged s P at boxes channels) where
    here : (h : at < length s) (F : ℕ) → ProcessScoped F 0 P → F ≤ free_name_limit → Seen P ((opened g.left h).first ∷ (opened g.left h).others) boxes channels
    here h F i f = subst (λ (os : List Opening). Seen P os boxes channels) (opened g.left h).are (g.seen F i f)

    -- what is written in the opening there
    module _ (h : at < length s) (w : Written) (r : (o : Opening) (rest : List ℕ) → from s at ≡ encode_opening o ++ rest → w ≡ written_in o) where
      is : w ≡ written_in (opened g.left h).first
      is = let v = opened g.left h in r v.first (encode_openings v.others) v.bytes

      box_is : w.boxed ≡ number_of (of_opening as_box (opened g.left h).first)
      box_is = ap (λ (x : Written). x.boxed) is

      channel_is : w.channel ≡ number_of (of_opening as_channel (opened g.left h).first)
      channel_is = ap (λ (x : Written). x.channel) is

      end_is : w.end ≡ (opened_of (opened g.left h).first).end
      end_is = ap (λ (x : Written). x.end) is

      -- the next opening starts behind this one, within the process
      pub judged_within : (3 ≤ w.end) × (at + w.end ≤ length s)
      judged_within = let v = end_within g.left h in (omega (arith, end_is, v), omega (arith, end_is, v))

      pub judged_box : (F : ℕ) → ProcessScoped F 0 P → F ≤ free_name_limit → true ≡ holds_given channels w.boxed → true ≡ mixed P
      judged_box F i f k = box_met F P i f (here h F i f) w.boxed box_is (sym k)

      module _ (j : false ≡ holds_given channels w.boxed) (boxes' : List ℕ) (q : boxes' ≡ with_given boxes w.boxed) where
        pub judged_channel : (F : ℕ) → ProcessScoped F 0 P → F ≤ free_name_limit → true ≡ holds_given boxes' w.channel → true ≡ mixed P
        judged_channel F i f k = channel_met F P i f (here h F i f) w.boxed box_is (sym j) w.channel channel_is (ap (λ (l : List ℕ). holds_given l w.channel) (sym q) ∙ sym k)

        pub judge_on : (channels' : List ℕ) → channels' ≡ with_given channels w.channel → false ≡ holds_given boxes' w.channel → Judged s P (at + w.end) boxes' channels'
        judge_on channels' t k = record {
          openings_left = (opened g.left h).others;
          left = left_on g.left h w.end end_is;
          seen = λ F i f.
              rw (q, t) (both_passed F P i f (here h F i f) w.boxed box_is (sym j) w.channel channel_is (ap (λ (l : List ℕ). holds_given l w.channel) (sym q) ∙ sym k));
        }

    pub judge_over : length s ≤ at → (F : ℕ) → ProcessScoped F 0 P → F ≤ free_name_limit → false ≡ mixed P
    judge_over h F i f = all_seen P boxes channels (subst (λ (os : List Opening). Seen P os boxes channels) (none_opened g.left h) (g.seen F i f))
