-- Lists decoded element by element: an element pulled to the front of the rest, and what replacing makes of the whole.
use Rattle.calculus.specs.Processes.{Process, null, parallel}
use Rattle.calculus.specs.Reduction.{◌≅◌, symmetric, rule2, rule3, rule14}
use Rattle.calculus.proofs.Congruence.{◌∘c◌, parallel_right, null_left, exchange}
use Rattle.machine.specs.Elements.{Elements, empty, Element, ◌before◌, ◌then◌, Position, Has, first, further, Both, first_left, first_right, further_both}
use Rattle.machine.proofs.Lists.{by_elements, before_then}
use Rattle.machine.specs.Rules.{Replace, replaced, kept, ReplaceBoth, replaced_left, replaced_right, kept_both}

pub record Decoding (decoded : Elements → Process) (one : Element → Process) : Type 0 where
  pub of_empty : decoded empty ≅ null
  pub of_before : (E : Element) (C : Elements) → decoded (E before C) ≅ parallel (one E) (decoded C)

abbrev pub rest : {E : Element} {p : Position} {L : Elements} → Has E p L → Elements
rest (first C) = C
rest (further D h) = D before rest h

abbrev pub rest_of_both : {E D : Element} {p q : Position} {L : Elements} → Both E D p q L → Elements
rest_of_both (first_left h) = rest h
rest_of_both (first_right h) = rest h
rest_of_both (further_both H w) = H before rest_of_both w

module _ {decoded : Elements → Process} {one : Element → Process} (d : Decoding decoded one) where
  pub of_then : (C D : Elements) → decoded (C then D) ≅ parallel (decoded C) (decoded D)
  unfolding ◌then◌
  of_then C D =
      by_elements (λ (C : Elements). decoded (C then D) ≅ parallel (decoded C) (decoded D)) (symmetric null_left ∘c rule14 (symmetric d.of_empty))
      (λ E C c. rw (before_then E C D) (d.of_before E (C then D) ∘c parallel_right c ∘c rule3 ∘c rule14 (symmetric (d.of_before E C)))) C

  -- a part of the tail is a part of the list
  of_further : (E : Element) (C D : Elements) {P : Process} → decoded C ≅ parallel P (decoded D) → decoded (E before C) ≅ parallel P (decoded (E before D))
  of_further E C D c = d.of_before E C ∘c parallel_right c ∘c exchange ∘c parallel_right (symmetric (d.of_before E D))

  pub of_has : {E : Element} {p : Position} {L : Elements} (h : Has E p L) → decoded L ≅ parallel (one E) (decoded (rest h))
  of_has {E} (first C) = d.of_before E C
  of_has (further D {C = C} h) = of_further D C (rest h) (of_has h)

  pub of_both : {E D : Element} {p q : Position} {L : Elements} (w : Both E D p q L) → decoded L ≅ parallel (parallel (one E) (one D)) (decoded (rest_of_both w))
  of_both {E} (first_left {C = C} h) = d.of_before E C ∘c parallel_right (of_has h) ∘c rule3
  of_both {D = D} (first_right {C = C} h) = d.of_before D C ∘c parallel_right (of_has h) ∘c rule3 ∘c rule14 rule2
  of_both (further_both H {C = C} w) = of_further H C (rest_of_both w) (of_both w)

  pub of_replace : {E : Element} {X L L' : Elements} {p : Position} → Replace E X p L L' → (h : Has E p L) × (decoded L' ≅ parallel (decoded X) (decoded (rest h)))
  of_replace {X = X} (replaced C) = (first C, of_then X C)
  of_replace (kept D {C' = C'} r) = let t = of_replace r in (further D t.0, of_further D C' (rest t.0) t.1)

  pub of_replace_both : {E D : Element} {X Y L L' : Elements} {p q : Position} → ReplaceBoth E X D Y p q L L' →
      (w : Both E D p q L) × (decoded L' ≅ parallel (parallel (decoded X) (decoded Y)) (decoded (rest_of_both w)))
  of_replace_both {X = X} (replaced_left {C' = C'} r) = let t = of_replace r in (first_left t.0, of_then X C' ∘c parallel_right t.1 ∘c rule3)
  of_replace_both {Y = Y} (replaced_right {C' = C'} r) = let t = of_replace r in (first_right t.0, of_then Y C' ∘c parallel_right t.1 ∘c rule3 ∘c rule14 rule2)
  of_replace_both (kept_both H {C' = C'} r) = let t = of_replace_both r in (further_both H t.0, of_further H C' (rest_of_both t.0) t.1)
