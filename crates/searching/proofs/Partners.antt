-- Which elements have partners, by their bytes: only an action to be executed.
use mathlib.Core.Path.{◌≡◌, refl}
use mathlib.Core.List.{[]}
use mathlib.Core.Option.{some}
use native.Mathlib.Omega.{arith}
use lib.ListN.{get_or}
use Rattle.calculus.specs.Processes.{Action, Process, null, parallel, restriction, ambient, action, replication}
use Rattle.machine.specs.Elements.{unblocked, blocked, Elements, Element, ambient_element, process_element, blocked_element, ◌before◌, Position}
use Rattle.machine.specs.Lowest.{partners_of}
use Rattle.buffers.specs.Words.{word, field}
use Rattle.format.specs.Spelling.{encode}
use Rattle.elements.specs.Spelling.{ambient_tag, encode_elements}

pub lone : (L : Elements) (π : Position) (E : Element) (C : Elements) → (get_or (encode_elements (E before C)) 0 0 ≡ 0x42 → get_or (encode_elements (E before C)) 3 0 ≡ 0x24 → ⊥)
    → partners_of L π (some E) ≡ []
unfolding partners_of encode_elements ◌before◌ field word encode
lone L π (ambient_element s a A) C h = refl
lone L π (blocked_element α P) C h = refl
lone L π (process_element null) C h = refl
lone L π (process_element (parallel P Q)) C h = refl
lone L π (process_element (restriction P)) C h = refl
lone L π (process_element (ambient a P)) C h = refl
lone L π (process_element (action α P)) C h = absurd (h refl refl)
lone L π (process_element (replication α P)) C h = refl

pub acting_bytes : (E : Element) (C : Elements) → get_or (encode_elements (E before C)) 0 0 ≡ 0x42 → get_or (encode_elements (E before C)) 3 0 ≡ 0x24 →
    (α : Action) × (P : Process) × (E ≡ process_element (action α P))
unfolding encode_elements ◌before◌ field word encode ambient_tag
acting_bytes (ambient_element unblocked a A) C e f = absurd (omega (arith, e))
acting_bytes (ambient_element blocked a A) C e f = absurd (omega (arith, e))
acting_bytes (blocked_element α P) C e f = absurd (omega (arith, e))
acting_bytes (process_element null) C e f = absurd (omega (arith, f))
acting_bytes (process_element (parallel P Q)) C e f = absurd (omega (arith, f))
acting_bytes (process_element (restriction P)) C e f = absurd (omega (arith, f))
acting_bytes (process_element (ambient a P)) C e f = absurd (omega (arith, f))
acting_bytes (process_element (action α P)) C e f = (α, P, refl)
acting_bytes (process_element (replication α P)) C e f = absurd (omega (arith, f))
