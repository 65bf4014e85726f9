-- The answers to the action at a spot, as the code finds them.
use mathlib.Core.Path.{◌≡◌, refl, sym, ap, ap₂, ◌∙◌, subst}
use mathlib.Core.Bool.{false}
use mathlib.Core.List.{List}
use mathlib.Core.Option.{Option, none, some}
use Prim.Native.Nat.{ℕ, ◌-◌, ◌<◌}
use native.Mathlib.Omega.{arith}
use lib.ListN.{length}
use Rattle.calculus.specs.Processes.{Reference, Action, Process}
use Rattle.machine.specs.Elements.{Status, Elements, standing, Position, element_at}
use Rattle.machine.specs.Kinds.{rule_of, kind_of, sibling, outside, child, inside_only, target}
use Rattle.machine.specs.Frames.{list_of, frame_of}
use Rattle.machine.specs.Answers.{want_of, Want as Wish}
use Rattle.machine.specs.Questions.{untold, tally_in, tally_among, ask, Question as Query}
use Rattle.std.specs.Prelude.{Option as CodeOption, None, Some}
use Rattle.layouts.specs.Layouts.{standing_answer, name_number, layout_of}
use Rattle.layouts.specs.declared.Standing.TheVariants.{Sibling, Outside, Child}
use Rattle.format.specs.Spelling.{reference_number}
use Rattle.layouts.specs.declared.Layout.{Layout}
use Rattle.format.specs.Reading.{word_at}
use Rattle.elements.specs.Spelled.{Spells}
use Rattle.buffers.proofs.Parts.{from}
use Rattle.places.specs.declared.Spot.{Spot}
use Rattle.places.specs.Offsets.{by_bytes, spot_of, meant}
use Rattle.tallying.specs.declared.Want.{Want}
use Rattle.tallying.specs.declared.Tally.{Tally}
use Rattle.tallying.specs.Numbers.{tally_of, tally_numbers, wanted_by, Named, Sought, Beside}
use Rattle.searching.specs.Lists.{ListAt, start_at, Enclosed, Acting}
use Rattle.tallying.proofs.Wants.{tally_numbers_law, none_yet, target_named, target_number}
use Rattle.searching.proofs.Arenas.{level_of, Placed, placed, own_list, Outer, outer_frame, outer_list_law, standing_at, standing_sibling, standing_outside, standing_child, outwards, deep_enough, Sideways, to_one, to_any, sideways, ask_children, ask_closed, ask_root, ask_outside, ask_around, ask_siblings, Holder, held_by, sought_any, sought_holder, Acted, acted}

-- An action at a spot of the root list that bytes spell.
pub record Asking (s : List ℕ) (L : Elements) (π : Position) (u : Status) (α : Action) (P : Process) (t : Spot) : Type 0 where
  pub spells : Spells s L
  pub stands : element_at L π ≡ some (standing u α P)
  pub spotted : t ≡ spot_of L π

abbrev pub required : {s : List ℕ} {t : Spot} (r : Acting s t) → Asking s r.tree r.position r.status r.doing r.process t
required r = record { spells = r.spells; stands = r.stands; spotted = r.spotted }

module _ {s : List ℕ} {L : Elements} {π : Position} {u : Status} {α : Action} {P : Process} {t : Spot} (g : Asking s L π u α P t) where
  spot_placed : Placed L (frame_of L π) t
  spot_placed = placed L π (standing u α P) g.stands g.spotted

  pub spot_acted : Acted (from s t.at) α
  spot_acted = acted L π u α P g.spells g.stands g.spotted

  pub spot_list : ListAt L t.level t.within (list_of (frame_of L π))
  spot_list = own_list spot_placed

  pub spot_outer : 0 < t.level → Outer L (frame_of L π) (t.level - 1)
  spot_outer h = outer_frame spot_placed.framed (omega (arith, h, spot_placed.level))

  abbrev pub outer_list : 0 < t.level → Elements
  outer_list h = list_of (spot_outer h).frame

  pub around_list : (h : 0 < t.level) → ListAt L (t.level - 1) t.around (outer_list h)
  around_list h = subst (λ (k : ℕ). ListAt L (t.level - 1) k (outer_list h)) (sym spot_placed.around) (outer_list_law (spot_outer h))

  spot_holder : 0 < t.level → Holder s (frame_of L π)
  spot_holder h = held_by spot_placed.framed g.spells (omega (arith, h, spot_placed.level))

  pub holder_below : 0 < t.level → t.within < length s
  holder_below h = omega (arith, spot_placed.within, (spot_holder h).below)

  -- In a sibling of the ambient that holds it

  module _ (q : Query) {a : Layout} (k : Beside α a) (h : 0 < t.level) (r : Tally) where
    beside : (n : Option Reference) → n ≡ target α → inside_only (kind_of α) ≡ false →
        tally_of r ≡ tally_among by_bytes q (want_of (frame_of L π) α) n (some t.within) (start_at (t.level - 1) t.around) untold (outer_list h) → r ≡ tally_numbers (ask by_bytes q (frame_of L π) α)
    beside n m i y =
        let w = want_of (frame_of L π) α in
        tally_numbers_law r _
        (y
        ∙ ap (λ (n : Option Reference). tally_among by_bytes q w n (some t.within) (start_at (t.level - 1) t.around) untold (outer_list h)) m
        ∙ ap₂ (λ (j o : ℕ). tally_among by_bytes q w (target α) (some j) (start_at (t.level - 1) o) untold (outer_list h)) spot_placed.within spot_placed.around
        ∙ sym (ask_siblings q α (spot_outer h) k.stands i))

    abbrev Told : Want → CodeOption ℕ → Type 0
    Told want name = (w : Wish) (n : Option Reference) (L B : Elements) → Sought want w → name ≡ name_number n → Named n → Spells s L → ListAt L (t.level - 1) t.around B →
        tally_of r ≡ tally_among by_bytes q w n (meant (Some t.within)) (start_at (t.level - 1) t.around) untold B

    numbers_target : a.target ≡ name_number (target α)
    numbers_target = ap (λ (v : Layout). v.target) k.laid ∙ target_number α

    pub beside_any : a.target ≡ None → (d : ℕ) → d ≡ word_at (from s t.within) 3 → (want : Want) → want ≡ wanted_by a (Some d) → Told want a.target → r ≡ tally_numbers (ask by_bytes q (frame_of L π) α)
    unfolding name_number Named
    beside_any y d n want u f = go (sideways α k.stands)
      where
        go : Sideways α → r ≡ tally_numbers (ask by_bytes q (frame_of L π) α)
        go (to_one i c e m) = let x : None ≡ Some (reference_number c) = sym y ∙ numbers_target ∙ ap name_number e in absurd (let z : ◌≡◌ {A = ℕ} 0 1 = cc in omega arith)
        go (to_any i e m) =
            let v = sought_holder (frame_of L π) α k.laid spot_acted.scoped u (spot_holder h) m (ap Some (n ∙ ap (λ (o : ℕ). word_at (from s o) 3) spot_placed.within)) in
            beside none (sym e) i (f _ none L _ v y tt g.spells (around_list h))

    pub beside_one : (b : ℕ) → a.target ≡ Some b → (want : Want) → want ≡ wanted_by a None → Told want a.target → r ≡ tally_numbers (ask by_bytes q (frame_of L π) α)
    unfolding name_number
    beside_one b y want u f = go (sideways α k.stands)
      where
        go : Sideways α → r ≡ tally_numbers (ask by_bytes q (frame_of L π) α)
        go (to_one i c e m) =
            let v = sought_any (frame_of L π) α k.laid spot_acted.scoped u m refl in
            beside (target α) refl i (f _ (target α) L _ v numbers_target (target_named α spot_acted.scoped) g.spells (around_list h))
        go (to_any i e m) = let x : Some b ≡ None = sym y ∙ numbers_target ∙ ap name_number e in absurd (let z : ◌≡◌ {A = ℕ} 0 1 = cc in omega arith)

  -- By the table

  module _ {a : Layout} (k : a ≡ layout_of α) where
    stands_so : a.standing ≡ standing_answer (standing_at α)
    stands_so = ap (λ (v : Layout). v.standing) k

    rules_so : a.rule ≡ rule_of α
    rules_so = ap (λ (v : Layout). v.rule) k

    is_sibling : a.standing ≡ Sibling → standing_at α ≡ sibling
    is_sibling y = standing_sibling (standing_at α) (sym y ∙ stands_so)

    is_outside : a.standing ≡ Outside → standing_at α ≡ outside
    is_outside y = standing_outside (standing_at α) (sym y ∙ stands_so)

    is_child : a.standing ≡ Child → standing_at α ≡ child
    is_child y = standing_child (standing_at α) (sym y ∙ stands_so)

    pub kind_beside : a.standing ≡ Sibling → Beside α a
    kind_beside y = record { laid = k; stands = is_sibling y }

    kind_sought : (standing_at α ≡ sibling → ⊥) → {want : Want} → want ≡ wanted_by a None → Sought want (want_of (frame_of L π) α)
    kind_sought n e = sought_any (frame_of L π) α k spot_acted.scoped e (outwards α n).unnamed refl

    module _ (q : Query) where
      none_told : ask by_bytes q (frame_of L π) α ≡ untold → record { lowest = None; number = 0 } ≡ tally_numbers (ask by_bytes q (frame_of L π) α)
      none_told y = tally_numbers_law (record { lowest = None; number = 0 }) _ (sym none_yet ∙ sym y)

      pub root_alone : (a.standing ≡ Child → ⊥) → t.level ≡ 0 → record { lowest = None; number = 0 } ≡ tally_numbers (ask by_bytes q (frame_of L π) α)
      unfolding standing_answer
      root_alone y l = none_told (ask_root q α spot_placed.framed (λ o. y (stands_so ∙ ap standing_answer o)) (sym spot_placed.level ∙ l))

      -- in the ambients beside it
      module _ (y : a.standing ≡ Child) where
        away : standing_at α ≡ sibling → ⊥
        away o = let x : child ≡ sibling = sym (is_child y) ∙ o in let z : ◌≡◌ {A = ℕ} 0 1 = cc in omega arith

        pub children_closed : 40 < a.rule → t.level ≡ 0 → record { lowest = None; number = 0 } ≡ tally_numbers (ask by_bytes q (frame_of L π) α)
        children_closed n l = none_told (ask_closed q α (frame_of L π) (is_child y) ((outwards α away).deep (omega (arith, rules_so, n))) (sym spot_placed.level ∙ l))

        pub children_told : (40 < a.rule → t.level ≡ 0 → ⊥) → {want : Want} → want ≡ wanted_by a None → (r : Tally) →
            ((w : Wish) (n : Option Reference) (L B : Elements) → Sought want w → None ≡ name_number n → Named n → Spells s L → ListAt L t.level t.within B →
            tally_of r ≡ tally_among by_bytes q w n (meant None) (start_at t.level t.within) untold B) → r ≡ tally_numbers (ask by_bytes q (frame_of L π) α)
        unfolding name_number Named
        children_told n e r f =
            let w = want_of (frame_of L π) α in
            let B = list_of (frame_of L π) in
            tally_numbers_law r _
            (f w none L B (kind_sought away e) refl tt g.spells spot_list
            ∙ ap (λ (n : Option Reference). tally_among by_bytes q w n none (start_at t.level t.within) untold B) (sym (outwards α away).untargeted)
            ∙ ap₂ (λ (l j : ℕ). tally_among by_bytes q w (target α) none (start_at l j) untold B) spot_placed.level spot_placed.within
            ∙ sym (ask_children q α spot_placed.framed (is_child y) (deep_enough (outwards α away) (level_of (frame_of L π)) (λ z. omega (arith, n (omega (arith, rules_so, z)), spot_placed.level)))))

      -- in the list around
      module _ (y : a.standing ≡ Outside) (h : 0 < t.level) where
        apart : standing_at α ≡ sibling → ⊥
        apart o = let x : outside ≡ sibling = sym (is_outside y) ∙ o in let z : ◌≡◌ {A = ℕ} 0 1 = cc in omega arith

        pub outside_closed : 40 < a.rule → t.level ≡ 1 → record { lowest = None; number = 0 } ≡ tally_numbers (ask by_bytes q (frame_of L π) α)
        outside_closed z l = none_told (ask_around q α (spot_outer h) (is_outside y) ((outwards α apart).deep (omega (arith, rules_so, z))) (omega (arith, l)))

        pub outside_told : (40 < a.rule → t.level ≡ 1 → ⊥) → {want : Want} → want ≡ wanted_by a None → (r : Tally) →
            ((w : Wish) (L B : Elements) → Sought want w → Spells s L → ListAt L (t.level - 1) t.around B → tally_of r ≡ tally_in by_bytes q w (start_at (t.level - 1) t.around) untold B) →
            r ≡ tally_numbers (ask by_bytes q (frame_of L π) α)
        outside_told z e r f =
            let w = want_of (frame_of L π) α in
            tally_numbers_law r _
            (f w L (outer_list h) (kind_sought apart e) g.spells (around_list h)
            ∙ ap (λ (o : ℕ). tally_in by_bytes q w (start_at (t.level - 1) o) untold (outer_list h)) spot_placed.around
            ∙ sym (ask_outside q α (spot_outer h) (is_outside y) (deep_enough (outwards α apart) (t.level - 1) (λ u. omega (arith, h, z (omega (arith, rules_so, u)))))))

-- What the callees require

pub own_enclosed : {s : List ℕ} {t : Spot} → Acting s t → Enclosed s t.level t.within
own_enclosed r = record { tree = r.tree; spells = r.spells; short = r.short; inner = _; stands = spot_list (required r) }

pub outer_enclosed : {s : List ℕ} {t : Spot} → Acting s t → 0 < t.level → Enclosed s (t.level - 1) t.around
outer_enclosed r h = record { tree = r.tree; spells = r.spells; short = r.short; inner = _; stands = around_list (required r) h }
