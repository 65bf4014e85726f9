-- The ambient that holds a sender or mover, and the element behind which a mover is set down.
use mathlib.Core.Path.{◌≡◌, refl, sym, ap, ◌∙◌}
use mathlib.Core.Option.{some}
use Rattle.std.specs.Prelude.{Some, None}
use Prim.Native.Nat.{ℕ, suc, ◌+◌}
use lib.Dec.{ltb}
use Rattle.calculus.specs.Processes.{Reference}
use Rattle.machine.specs.Elements.{Status, Elements, Element, ambient_element, Position, into, Has, element_at}
use Rattle.machine.specs.Rules.{Meets, rules35_36, rules37_38, rules39_40, rules41_42, rule27}
use Rattle.machine.specs.Tests.{pick}
use Rattle.machine.proofs.Lists.{replace_has, replace_both_both}
use Rattle.machine.proofs.Places.{element_at_at, has_element_at, into_element_at}
use Rattle.machine.proofs.Meeting.{both_left, both_right, replace_element_at}
use Rattle.machine.proofs.search.Frames.{into_associative}
use Rattle.places.specs.declared.Spot.{Spot}
use Rattle.places.specs.Offsets.{offset, spot_from, spot_of}
use Rattle.planning.specs.Plans.{after_by}
use Rattle.places.proofs.Offsets.{offset_inward, spot_at, into_spot, has_spot}

-- An element at σ stands directly in the contents of this ambient.
pub record Holder (L : Elements) (σ : Position) : Type 0 where
  pub position : Position
  pub status : Status
  pub called : Reference
  pub inside : Elements
  pub stands : element_at L position ≡ some (ambient_element status called inside)
  pub index : Position
  pub element : Element
  pub holds : Has element index inside
  pub is : into position index ≡ σ

module _ {L : Elements} {u : Status} {a : Reference} {A : Elements} {p : Position} (h : Has (ambient_element u a A) p L) where
  abbrev held : {E : Element} {i : Position} → Has E i A → Holder L (into p i)
  held {E} {i} g = record { position = p; status = u; called = a; inside = A; stands = has_element_at h; index = i; element = E; holds = g; is = refl }

  abbrev deeper : {σ : Position} → Holder A σ → Holder L (into p σ)
  deeper x = record {
    position = into p x.position;
    status = x.status;
    called = x.called;
    inside = x.inside;
    stands = into_element_at x.position h ∙ x.stands;
    index = x.index;
    element = x.element;
    holds = x.holds;
    is = into_associative p x.position x.index ∙ ap (into p) x.is;
  }

-- the ambient that holds the sender or mover
unfoldable pub holder : {s t : Status} {n : ℕ} {σ ρ : Position} {L L' : Elements} → Meets s t n σ ρ L L' → Holder L σ
holder (rules35_36 x ns P Q r r' w) = held (both_left (replace_both_both w)) (replace_has r)
holder (rules37_38 x ns P Q r w) = held (both_left (replace_both_both w)) (replace_has r)
holder (rules39_40 x P Q r r' w) = held (both_left (replace_both_both w)) (replace_has r)
holder (rules41_42 x P Q r w z) = deeper (replace_has z) (held (both_left (replace_both_both w)) (replace_has r))
holder (rule27 m r) = deeper (replace_has r) (holder m)

module _ {L : Elements} {σ : Position} (h : Holder L σ) where
  pub held_within : (w r l o : ℕ) → (spot_from w r l o L σ).within ≡ offset o L h.position
  held_within w r l o =
      let t = spot_from w r l o L h.position in
      let g = element_at_at L h.position _ h.stands in
      ap (λ (t : Spot). t.within)
      (ap (spot_from w r l o L) (sym h.is) ∙ into_spot w r l o h.index g ∙ has_spot t.at t.within (suc t.level) (t.at + 5) h.holds)
      ∙ spot_at w r l o g

  pub holder_offset : (spot_of L σ).within ≡ offset 0 L h.position
  unfolding spot_of
  holder_offset = held_within 0 0 0 0

-- The element behind which a mover is set down, where the other stands at ρ.
pub record Anchor (n : ℕ) (L : Elements) (ρ : Position) : Type 0 where
  pub position : Position
  pub element : Element
  pub stands : element_at L position ≡ some element
  pub after : (w r l o : ℕ) → after_by n (spot_from w r l o L ρ) ≡ pick (ltb n 39) None (Some (7 + offset o L position))

unfoldable pub anchor : {s t : Status} {n : ℕ} {σ ρ : Position} {L L' : Elements} → Meets s t n σ ρ L L' → Anchor n L ρ
unfolding after_by
anchor (rules35_36 x ns P Q {j = j} {q = q} r r' w) =
    record { position = into q j; element = _; stands = replace_element_at r' (both_right (replace_both_both w)); after = λ w r l o. refl }
anchor (rules37_38 x ns P Q {q = q} r w) = record { position = q; element = _; stands = has_element_at (both_right (replace_both_both w)); after = λ w r l o. refl }
anchor {L = L} (rules39_40 x P Q {j = j} {q = q} r r' w) =
    let e = replace_element_at r' (both_right (replace_both_both w)) in
    record { position = into q j; element = _; stands = e; after = λ w r l o. ap (λ (k : ℕ). Some (7 + k)) (spot_at w r l o (element_at_at L (into q j) _ e)) }
anchor (rules41_42 x P Q {q = q} r w z) =
    record { position = q; element = _; stands = has_element_at (replace_has z); after = λ w' r l o. ap (λ (k : ℕ). Some (7 + k)) (held_within (held (replace_has z) (both_right (replace_both_both w))) w' r l o) }
anchor {L = L} (rule27 {n = n} {A = A} {p = p} {ρ = ρ} m r) =
    let a = anchor m in
    let e = has_element_at (replace_has r) in
    let g = element_at_at L p _ e in
    record {
      position = into p a.position;
      element = a.element;
      stands = into_element_at a.position (replace_has r) ∙ a.stands;
      after = λ w v l o.
          let t = spot_from w v l o L p in
          ap (after_by n) (into_spot w v l o ρ g)
          ∙ a.after t.at t.within (suc t.level) (t.at + 5)
          ∙ ap (λ (k : ℕ). pick (ltb n 39) None (Some (7 + k))) (ap (λ (k : ℕ). offset (k + 5) A a.position) (spot_at w v l o g) ∙ sym (offset_inward o L p a.position e));
    }
