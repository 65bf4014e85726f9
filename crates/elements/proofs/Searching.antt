-- Lists in a row, and the parts of a spelled list.
use mathlib.Core.Path.{◌≡◌, refl, sym, ap, ◌∙◌}
use mathlib.Core.List.{List, ◌++◌, append_assoc}
use Prim.Native.Nat.{ℕ, ◌<◌}
use native.Mathlib.Omega.{arith}
use lib.ListN.{length, take, drop}
use Rattle.machine.specs.Elements.{Elements, empty, ambient_then, process_then, blocked_then, ◌then◌}
use Rattle.buffers.specs.Words.{field}
use Rattle.format.specs.Spelling.{word_limit, encode_reference, encode_action, encode}
use Rattle.elements.specs.Spelling.{ambient_tag, encode_elements}
use Rattle.elements.specs.Spelled.{Spells, SpelledList}
use Rattle.buffers.proofs.Parts.{part_length}

-- Lists in a row

joined : (F l r q : List ℕ) → l ≡ r ++ q → F ++ l ≡ F ++ r ++ q
joined F l r q e = ap (λ (k : List ℕ). F ++ k) e ∙ sym (append_assoc F r q)

pub spelled_then : (A C : Elements) → encode_elements (A then C) ≡ encode_elements A ++ encode_elements C
unfolding encode_elements ◌then◌
spelled_then empty C = refl
spelled_then (ambient_then s a A D) C = joined (field (ambient_tag s) (encode_reference a ++ encode_elements A)) _ _ _ (spelled_then D C)
spelled_then (process_then P D) C = joined (field 0x42 (encode P)) _ _ _ (spelled_then D C)
spelled_then (blocked_then α P D) C = joined (field 0x43 (encode_action α ++ encode P)) _ _ _ (spelled_then D C)

pub tree_spelled : {s : List ℕ} (l : SpelledList s) → Spells s l.tree
tree_spelled l = record { spelled = l.spelled; spellable = l.spellable }

abbrev pub listed : {s : List ℕ} {A : Elements} → Spells s A → length s < word_limit → SpelledList s
listed {A = A} p h = record { tree = A; spelled = p.spelled; spellable = p.spellable; short = h }

module _ {s : List ℕ} (l : SpelledList s) where
  pub part_short : (m k : ℕ) → length (take m (drop k s)) < word_limit
  part_short m k = omega (arith, l.short, part_length m k s)
