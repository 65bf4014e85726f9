-- The weight along the elements that a slice spells: what each element adds, and how the sum goes on to the next.
use mathlib.Core.Path.{◌≡◌, refl, sym, ap, ◌∙◌}
use mathlib.Core.List.{List, ◌++◌}
use Prim.Native.Nat.{ℕ, ◌+◌, ◌≤◌}
use native.Mathlib.Omega.{arith}
use lib.ListN.{length, get_or, length-append}
use Rattle.calculus.specs.Processes.{Reference}
use Rattle.machine.specs.Elements.{Status, unblocked, blocked, Element, ambient_element, process_element, blocked_element, only, ◌before◌, Elements, empty, ambient_then, process_then, blocked_then, weight, weight_process}
use Rattle.buffers.specs.Words.{word, field}
use Rattle.format.specs.Spelling.{encode_reference, encode_action, encode}
use Rattle.elements.specs.Spelling.{ambient_tag, encode_elements}
use Rattle.elements.specs.Each.{BeginsWith}
use Rattle.elements.proofs.Each.{AmbientIn, ProcessIn}
use Rattle.elements.proofs.Processes.{process_weight_small}

-- what one element adds
unfoldable pub element_weight : Element → ℕ
element_weight (ambient_element unblocked a A) = 1 + weight A
element_weight (ambient_element blocked a A) = 0
element_weight (process_element P) = weight_process P
element_weight (blocked_element α P) = 0

before_weight : (E : Element) (C : Elements) → weight (E before C) ≡ element_weight E + weight C
unfolding weight element_weight ◌before◌
before_weight (ambient_element unblocked a A) C = refl
before_weight (ambient_element blocked a A) C = omega arith
before_weight (process_element P) C = refl
before_weight (blocked_element α P) C = omega arith

pub weight_first : {A : Elements} {x t : List ℕ} (w : BeginsWith A x t) → weight A ≡ element_weight w.element + weight w.others
weight_first w = ap weight w.is ∙ before_weight w.element w.others

-- elements are spelled in at least as many bytes as they weigh
pub elements_weight_small : (A : Elements) → weight A ≤ length (encode_elements A)
unfolding weight encode_elements field word
elements_weight_small empty = omega arith
elements_weight_small (ambient_then unblocked a A C) =
    omega (arith, elements_weight_small A, elements_weight_small C, length-append (encode_reference a) (encode_elements A), length-append (encode_reference a ++ encode_elements A) (encode_elements C))
elements_weight_small (ambient_then blocked a A C) = omega (arith, elements_weight_small C, length-append (encode_reference a ++ encode_elements A) (encode_elements C))
elements_weight_small (process_then P C) = omega (arith, process_weight_small P, elements_weight_small C, length-append (encode P) (encode_elements C))
elements_weight_small (blocked_then α P C) = omega (arith, elements_weight_small C, length-append (encode_action α ++ encode P) (encode_elements C))

ambient_weight : (u : Status) (a : Reference) (A : Elements) → ambient_tag u ≡ 0x40 → element_weight (ambient_element u a A) ≡ 1 + weight A
unfolding element_weight ambient_tag
ambient_weight unblocked a A t = refl
ambient_weight blocked a A t = absurd (omega arith)

pub weight_of_ambient : {x : List ℕ} {E : Element} (v : AmbientIn x E) → get_or x 0 0 ≡ 0x40 → element_weight E ≡ 1 + weight v.inside
weight_of_ambient v t = ap element_weight v.is ∙ ambient_weight v.status v.called v.inside (sym v.tag ∙ t)

pub weight_of_process : {x : List ℕ} {E : Element} (v : ProcessIn x E) → element_weight E ≡ weight_process v.process
unfolding element_weight
weight_of_process v = ap element_weight v.is

-- the other elements weigh nothing
pub weight_of_other : (E : Element) (x : List ℕ) → x ≡ encode_elements (only E) → (get_or x 0 0 ≡ 0x40 → ⊥) → (get_or x 0 0 ≡ 0x42 → ⊥) → element_weight E ≡ 0
unfolding element_weight encode_elements ◌before◌ field ambient_tag
weight_of_other (ambient_element unblocked a A) x e h k = absurd (h (ap (λ (l : List ℕ). get_or l 0 0) e))
weight_of_other (ambient_element blocked a A) x e h k = refl
weight_of_other (process_element P) x e h k = absurd (k (ap (λ (l : List ℕ). get_or l 0 0) e))
weight_of_other (blocked_element α P) x e h k = refl
