-- What bytes that spell one element look like by their tag, and what the element turns into.
use mathlib.Core.Path.{◌≡◌, refl, sym, ap, ◌∙◌, subst}
use mathlib.Core.Bool.{Bool}
use mathlib.Core.List.{List, ◌++◌, append-nil}
use Prim.Native.Nat.{ℕ, ◌-◌, ◌≤◌, ◌<◌}
use native.Mathlib.Omega.{arith}
use lib.ListN.{length, get_or, set, length-set}
use Rattle.calculus.specs.Processes.{Reference, Process}
use Rattle.machine.specs.Elements.{Element, process_element, ◌before◌, only}
use Rattle.machine.specs.Validity.{ProcessScoped}
use Rattle.buffers.specs.Words.{field}
use Rattle.format.specs.Spelling.{word_limit, encode_action, encode}
use Rattle.format.specs.Spellable.{Counted}
use Rattle.elements.specs.Spelling.{ambient_tag, encode_elements, SpellableElements}
use Rattle.elements.specs.Spelled.{Spells}
use Rattle.elements.proofs.Tags.{TaggedElement, tagged_unblocked_ambient, tagged_blocked_ambient, tagged_process, tagged_blocked_action, tagged_element, tagged_element_as, tag_small}
use Rattle.buffers.proofs.Parts.{part_length, from}
use Rattle.turning.specs.Turning.{turned, Suited, Turning}
use Rattle.buffers.specs.Buffers.{Left}
use Rattle.turning.specs.Parts.{SpellsProcess, TurningProcess}
use Rattle.places.specs.Offsets.{width}
use Rattle.places.proofs.Widths.{width_least}
use Rattle.buffers.proofs.Appending.{left_is}
use Rattle.turning.proofs.Turned.{body_behind, Meets}

-- A process in an element of its own

pub record OneProcess (s : List ℕ) (E : Element) : Type 0 where
  pub process : Process
  pub is : E ≡ process_element process
  pub spells : SpellsProcess (from s 3) process

process_of : {s : List ℕ} {E : Element} → TaggedElement 0x42 E → Spells s (only E) → OneProcess s E
unfolding encode_elements ◌before◌ SpellableElements
process_of (tagged_process P) v = record { process = P; is = refl; spells = record { spelled = body_behind 0x42 (encode P) (v.spelled ∙ append-nil (field 0x42 (encode P))); spellable = v.spellable.0 } }

action_of : {s : List ℕ} {E : Element} (b : Bool) (ns : List Reference) → TaggedElement 0x43 E → Spells s (only E) → Suited b ns E → Meets s ns (turned b ns E)
unfolding turned Suited encode_elements ◌before◌ SpellableElements ProcessScoped Counted
action_of b ns (tagged_blocked_action α P) v t =
    let h = v.spellable in
    record {
      doing = α;
      process = P;
      spells = record { spelled = body_behind 0x43 (encode_action α ++ encode P) (v.spelled ∙ append-nil (field 0x43 (encode_action α ++ encode P))); spellable = ((h.0.0, h.1.0), (h.0.1, h.1.1)) };
      takes = t;
      new = refl;
    }

-- 29
ambient_turned : {tag : ℕ} {E : Element} (b : Bool) (ns : List Reference) → TaggedElement tag E → tag < 0x42 → set (encode_elements (only E)) 0 0x41 ≡ encode_elements (turned b ns E)
unfolding turned encode_elements field ◌before◌ ambient_tag
ambient_turned b ns (tagged_unblocked_ambient a A) t = refl
ambient_turned b ns (tagged_blocked_ambient a A) t = refl
ambient_turned b ns (tagged_process P) t = absurd (omega arith)
ambient_turned b ns (tagged_blocked_action α P) t = absurd (omega arith)

-- The same by the tag in the bytes

module _ {s : List ℕ} (E : Element) (v : Spells s (only E)) where
  element_long : 3 ≤ length s
  unfolding width
  element_long = rw v.spelled (width_least E)

  pub as_ambient : (b : Bool) (ns : List Reference) → get_or s 0 0 < 0x42 → set s 0 0x41 ≡ encode_elements (turned b ns E)
  as_ambient b ns t = ap (λ (l : List ℕ). set l 0 0x41) v.spelled ∙ ambient_turned b ns (tagged_element v.spelled) t

  pub as_process : get_or s 0 0 ≡ 0x42 → OneProcess s E
  as_process t = process_of (tagged_element_as v.spelled t) v

  pub as_action : (b : Bool) (ns : List Reference) → 0x42 ≤ get_or s 0 0 → (get_or s 0 0 ≡ 0x42 → ⊥) → Suited b ns E → Meets s ns (turned b ns E)
  as_action b ns t u = action_of b ns (tagged_element_as v.spelled (omega (arith, t, u, tag_small (tagged_element v.spelled)))) v

-- There is room for what is written

module _ {s names : List ℕ} {b : Bool} {room : ℕ} (p : Turning s names b room) where
  pub turning_long : 3 ≤ length s
  turning_long = element_long p.element p.spells

  pub ambient_requires : get_or s 0 0 < 0x42 → (0 < length s) × (length s ≤ room)
  ambient_requires t =
      let k = turning_long in
      let l = length-set s 0 0x41 in
      let e = ap length (as_ambient p.element p.spells b p.handed t) in
      let f = p.fits in
      (omega arith, omega arith)

  pub process_requires : OneProcess s p.element → TurningProcess (from s 3) names b room
  process_requires v = record {
    handed = p.handed;
    named = p.named;
    process = v.process;
    spells = v.spells;
    suited = subst (Suited b p.handed) v.is p.suited;
    fits = subst (λ (E : Element). length (encode_elements (turned b p.handed E)) ≤ room) v.is p.fits;
    small = subst (λ (E : Element). length (encode_elements (turned b p.handed E)) < word_limit) v.is p.small;
    short = omega (arith, p.short, part_length (length s - 3) 3 s);
  }

-- what is written for a process stands for its element
pub process_left : {s : List ℕ} {E : Element} {old last : List ℕ} {r : ℕ} (b : Bool) (ns : List Reference) (v : OneProcess s E) → Suited b ns E
    → (Suited b ns (process_element v.process) → Left (encode_elements (turned b ns (process_element v.process))) old last r) → Left (encode_elements (turned b ns E)) old last r
process_left b ns v t l = left_is (ap (λ (F : Element). encode_elements (turned b ns F)) (sym v.is)) (l (subst (Suited b ns) v.is t))
