-- What the bytes are at an ambient of a list.
use mathlib.Core.Path.{◌≡◌, sym, ap, ◌∙◌, subst}
use mathlib.Core.List.{List}
use Prim.Native.Nat.{ℕ, ◌+◌, ◌-◌, ◌≤◌, ◌<◌}
use native.Mathlib.Omega.{arith}
use lib.ListN.{length, get_or, take, drop}
use lib.Seq.{drop-drop}
use Rattle.calculus.specs.Processes.{Reference}
use Rattle.machine.specs.Elements.{Status, unblocked, blocked, Elements, ambient_then, ambient_element, ◌before◌}
use Rattle.buffers.specs.Words.{field}
use Rattle.buffers.proofs.Parts.{part_all, part_length, length_part, from}
use Rattle.format.specs.Reading.{word_at}
use Rattle.elements.specs.Spelling.{ambient_tag, encode_elements}
use Rattle.elements.specs.Spelled.{Spells, SpelledList}
use Rattle.elements.proofs.Views.{first, as_ambient, list_inside}
use Rattle.elements.proofs.Searching.{listed}
use Rattle.places.proofs.Offsets.{offset_below, behind, spells_from}
use Rattle.measuring.specs.Measuring.{Holding, Contents}

-- its length, that it lies within the bytes, and its contents
pub record Inside (s : List ℕ) (A : Elements) (n : ℕ) : Type 0 where
  pub long : 2 ≤ n
  pub within : 3 + n ≤ length s
  pub body : take (3 + n - 5) (drop 5 s) ≡ encode_elements A

ambient_first : (u : Status) (a : Reference) (A C : Elements) (s : List ℕ) → s ≡ encode_elements (ambient_then u a A C) → (0 < length s) × (get_or s 0 0 < 0x42)
unfolding encode_elements field ambient_tag
ambient_first unblocked a A C s e = (omega (arith, ap length e), omega (arith, ap (λ (l : List ℕ). get_or l 0 0) e))
ambient_first blocked a A C s e = (omega (arith, ap length e), omega (arith, ap (λ (l : List ℕ). get_or l 0 0) e))

module _ {s : List ℕ} {at : ℕ} (h : Holding s at) where
  abbrev ambient_all : Elements
  ambient_all = ambient_then h.status h.called h.inside (behind h.tree h.position)

  held_spells : Spells (from s at) ambient_all
  unfolding ◌before◌
  held_spells = spells_from h.tree h.position (ambient_element h.status h.called h.inside) h.stands h.there h.spells

  held_first : (0 < length (from s at)) × (get_or (from s at) 0 0 < 0x42)
  held_first = ambient_first h.status h.called h.inside (behind h.tree h.position) (from s at) held_spells.spelled

  pub at_below : at < length s
  at_below = offset_below h.tree h.position (ambient_element h.status h.called h.inside) h.stands h.there h.spells.spelled

  module _ (n : ℕ) (k : n ≡ word_at (from s at) 1) where
    pub held_inside : Inside (from s at) h.inside n
    held_inside =
        let v = as_ambient ambient_all (from s at) n held_spells.spelled k held_first.0 held_first.1 in
        let i : v.inside ≡ h.inside = let z = v.is in cc in
        record { long = v.long; within = (first ambient_all (from s at) n held_spells.spelled k held_first.0).within; body = v.body ∙ ap encode_elements i }

    pub held_list : SpelledList (take (3 + n - 5) (drop 5 (from s at)))
    held_list = list_inside (from s at) (listed held_spells (omega (arith, h.short, length_part at s))) n k held_first.0 held_first.1

-- the same in the bytes from the start of all
from_all : (s : List ℕ) (at n : ℕ) → take (at + (3 + n) - (at + 5)) (drop (at + 5) s) ≡ take (3 + n - 5) (drop 5 (from s at))
from_all s at n =
    let z : at + (3 + n) - (at + 5) ≡ 3 + n - 5 = omega arith in
    ap (λ (m : ℕ). take m (drop (at + 5) s)) z ∙ ap (take (3 + n - 5)) (sym (drop-drop 5 at s) ∙ ap (drop 5) (sym (part_all at s)))

pub contents : {s : List ℕ} {at : ℕ} (h : Holding s at) (n : ℕ) → n ≡ word_at (from s at) 1 → Contents s at (at + (3 + n))
contents {s} {at} h n k =
    let v = held_inside h n k in
    record {
      starts = omega (arith, v.long);
      ends = omega (arith, v.within, length_part at s, at_below h);
      listed = subst SpelledList (sym (from_all s at n)) (held_list h n k);
      held = λ g. from_all s at n ∙ (held_inside g n k).body;
    }

-- what is no longer than the contents is no longer than all
pub contents_below : {s : List ℕ} {at end : ℕ} → Contents s at end → (m : ℕ) → m ≤ length (take (end - (at + 5)) (drop (at + 5) s)) → m ≤ length s
contents_below {s} {at} {end} c m l = omega (arith, l, part_length (end - (at + 5)) (at + 5) s)
