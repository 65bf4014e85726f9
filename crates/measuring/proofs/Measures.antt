-- Two measures along the elements that a slice spells, blocked actions counted and how deep ambients nest: each turn of their loops.
use mathlib.Core.Path.{◌≡◌, refl, ap, ◌∙◌}
use mathlib.Core.List.{List, ◌++◌}
use Prim.Native.Nat.{ℕ, ◌+◌, ◌*◌, ◌≤◌, ◌<◌, max}
use native.Mathlib.Omega.{arith}
use lib.ListN.{length, get_or, length-append}
use Rattle.std.specs.Prelude.{◌==◌, filter}
use Rattle.elements.specs.Each.{BeginsWith}
use Rattle.elements.proofs.Each.{spellings, tag_small, ambient_in}
use Rattle.calculus.specs.Processes.{Reference}
use Rattle.machine.specs.Elements.{Status, unblocked, blocked, Element, ambient_element, process_element, blocked_element, only, ◌before◌, Elements, empty, ambient_then, process_then, blocked_then, nesting, blocked_actions}
use Rattle.buffers.specs.Words.{word, field}
use Rattle.format.specs.Spelling.{encode_reference, encode_action, encode}
use Rattle.elements.specs.Spelling.{ambient_tag, encode_elements}
use Rattle.buffers.proofs.Parts.{from}

-- Blocked actions

pub blocked_actions_small : (A : Elements) → 3 * blocked_actions A ≤ length (encode_elements A)
unfolding blocked_actions encode_elements field word
blocked_actions_small empty = omega arith
blocked_actions_small (ambient_then s a A C) = omega (arith, blocked_actions_small C, length-append (encode_reference a ++ encode_elements A) (encode_elements C))
blocked_actions_small (process_then P C) = omega (arith, blocked_actions_small C, length-append (encode P) (encode_elements C))
blocked_actions_small (blocked_then α P C) = omega (arith, blocked_actions_small C, length-append (encode_action α ++ encode P) (encode_elements C))

-- they are the elements with their tag
pub blocked_spellings : (A : Elements) → length (filter (λ x. get_or x 0 0 == 0x43) (spellings A)) ≡ blocked_actions A
unfolding blocked_actions spellings encode_elements field ambient_tag
blocked_spellings empty = refl
blocked_spellings (ambient_then unblocked a A C) = blocked_spellings C
blocked_spellings (ambient_then blocked a A C) = blocked_spellings C
blocked_spellings (process_then P C) = blocked_spellings C
blocked_spellings (blocked_then α P C) = omega (arith, blocked_spellings C)

-- Ambients

pub nesting_small : (A : Elements) → nesting A ≤ length (encode_elements A)
unfolding nesting encode_elements field word
nesting_small empty = omega arith
nesting_small (ambient_then s a A C) =
    omega (arith, nesting_small A, nesting_small C, length-append (encode_reference a) (encode_elements A), length-append (encode_reference a ++ encode_elements A) (encode_elements C))
nesting_small (process_then P C) = omega (arith, nesting_small C, length-append (encode P) (encode_elements C))
nesting_small (blocked_then α P C) = omega (arith, nesting_small C, length-append (encode_action α ++ encode P) (encode_elements C))

-- no ambient comes first
others_nest : (E : Element) (x : List ℕ) (C : Elements) → x ≡ encode_elements (only E) → 0x42 ≤ get_or x 0 0 → nesting (E before C) ≡ nesting C
unfolding nesting ◌before◌ encode_elements field
others_nest (ambient_element s a A) x C e h = absurd (omega (arith, tag_small s, ap (λ (l : List ℕ). get_or l 0 0) e))
others_nest (process_element P) x C e h = refl
others_nest (blocked_element α P) x C e h = refl

ambient_nests : (s : Status) (a : Reference) (A C : Elements) → nesting (ambient_element s a A before C) ≡ max (1 + nesting A) (nesting C)
unfolding nesting ◌before◌
ambient_nests s a A C = omega arith

-- how deep the first element nests, and the others
module _ {A : Elements} {x t : List ℕ} (w : BeginsWith A x t) where
  pub nest_over : 0x42 ≤ get_or x 0 0 → nesting A ≡ nesting w.others
  nest_over h = ap nesting w.is ∙ others_nest w.element x w.others w.first h

  -- d is how deep the ambient's contents nest
  pub nest_on : get_or x 0 0 < 0x42 → {d : ℕ} → ((B : Elements) → from x 5 ≡ encode_elements B → d ≡ nesting B) → nesting A ≡ max (1 + d) (nesting w.others)
  nest_on h f =
      let v = ambient_in w.element x w.first h in
      omega (arith, f v.inside v.body, ap nesting w.is, ap (λ (E : Element). nesting (E before w.others)) v.is, ambient_nests v.status v.called v.inside w.others)
