-- What the bytes are at an action, to be executed or blocked.
use mathlib.Core.Path.{◌≡◌, sym, ap, ◌∙◌}
use mathlib.Core.List.{List, [], ◌∷◌, ◌++◌}
use mathlib.Core.Option.{some}
use Prim.Native.Nat.{ℕ, ◌+◌, ◌-◌, ◌≤◌}
use native.Mathlib.Omega.{arith}
use lib.ListN.{length, take, drop, length-append, length-drop}
use lib.Seq.{drop-drop, take-append_seam}
use Rattle.calculus.specs.Processes.{Action, Process}
use Rattle.machine.specs.Elements.{Status, unblocked, blocked, Elements, standing, Position, element_at, ◌before◌}
use Rattle.buffers.proofs.Parts.{part_all, part_part, from}
use Rattle.format.specs.Spelling.{encode_references, encode_action, encode}
use Rattle.format.specs.Kinds.{handed}
use Rattle.layouts.specs.Layouts.{SpelledAction, extent_of}
use Rattle.layouts.specs.declared.Extent.{Extent}
use Rattle.layouts.proofs.Laying.{process_long}
use Rattle.layouts.proofs.Layouts.{sent_names}
use Rattle.elements.specs.Spelling.{encode_elements}
use Rattle.elements.specs.Spelled.{Spells}
use Rattle.elements.proofs.Views.{executed_bytes, blocked_bytes}
use Rattle.places.specs.Offsets.{width, offset}
use Rattle.machine.proofs.Places.{element_at_at}
use Rattle.places.proofs.Offsets.{offset_within, behind, spelled_from}
use Rattle.planning.proofs.Lengths.{bytes_action, bytes_blocked}

-- An action at an offset

-- where its own bytes begin in its element
unfoldable pub ahead : Status → ℕ
ahead unblocked = 6
ahead blocked = 3

standing_bytes : (t : Status) (α : Action) (P : Process) (C : Elements) (s : List ℕ) → s ≡ encode_elements (standing t α P before C) → from s (ahead t) ≡ encode_action α ++ (encode P ++ encode_elements C)
unfolding ahead standing
standing_bytes unblocked α P C s e = executed_bytes α P C s e
standing_bytes blocked α P C s e = blocked_bytes α P C s e

standing_width : (t : Status) (α : Action) (P : Process) → width (standing t α P) ≡ ahead t + length (encode_action α) + length (encode P)
unfolding width ahead standing
standing_width unblocked α P = omega (arith, bytes_action α P)
standing_width blocked α P = omega (arith, bytes_blocked α P)

-- The bytes of an action at an offset, and what is behind them.
pub record ActionBytes (s : List ℕ) (at : ℕ) (α : Action) : Type 0 where
  pub rest : List ℕ
  pub bytes : from s at ≡ encode_action α ++ rest
  pub within : at + length (encode_action α) + 3 ≤ length s

pub action_bytes : {s : List ℕ} {L : Elements} {at : ℕ} (π : Position) (t : Status) (α : Action) (P : Process) →
    element_at L π ≡ some (standing t α P) → offset 0 L π ≡ at → Spells s L → ActionBytes s (at + ahead t) α
action_bytes {s} {L} {at} π t α P e o q = record {
  rest = _;
  bytes = part_part at (ahead t) s ∙ standing_bytes t α P (behind L π) (from s at) (spelled_from L π (standing t α P) e o q.spelled);
  within = omega (arith, ap length q.spelled, o, offset_within 0 (element_at_at L π (standing t α P) e), standing_width t α P, process_long P);
}

pub action_spelled : {s : List ℕ} {at : ℕ} {α : Action} → ActionBytes s at α → SpelledAction (from s at)
action_spelled {α = α} v = record { doing = α; rest = v.rest; spelled = v.bytes }

-- The names that an action hands over

-- they are its last bytes
sent_last : (α : Action) → (extent_of α).sent + length (encode_references (handed α)) ≡ length (encode_action α)
sent_last α =
    let k = (extent_of α).sent in
    let E = encode_action α in
    let R = encode_references (handed α) in
    omega (arith, ap length (sent_names α (0 ∷ [])), length-drop k (E ++ 0 ∷ []), length-append E (0 ∷ []), length-append R (0 ∷ []))

-- where they stand in the bytes of a state with the root list s, which start 7 bytes before it
module _ {s : List ℕ} {at : ℕ} {α : Action} (v : ActionBytes s at α) (x : Extent) (e : x ≡ extent_of α) where
  sent_is : x.sent ≡ (extent_of α).sent
  sent_is = ap (λ (y : Extent). y.sent) e

  end_is : x.end ≡ length (encode_action α)
  end_is = ap (λ (y : Extent). y.end) e

  pub sent_within : (7 + at + x.sent ≤ 7 + at + x.end) × (7 + at + x.end ≤ 7 + length s)
  sent_within = omega (arith, sent_is, end_is, sent_last α, v.within)

  pub sent_bytes : take (7 + at + x.end - (7 + at + x.sent)) (drop (7 + at + x.sent - 7) s) ≡ encode_references (handed α)
  sent_bytes =
      let k = (extent_of α).sent in
      let R = encode_references (handed α) in
      let long : 7 + at + x.end - (7 + at + x.sent) ≡ length R = omega (arith, sent_is, end_is, sent_last α) in
      let there : 7 + at + x.sent - 7 ≡ at + k = omega (arith, sent_is) in
      rw (long, there) (ap (take (length R)) (sym (drop-drop k at s) ∙ ap (drop k) (sym (part_all at s) ∙ v.bytes) ∙ sent_names α v.rest) ∙ take-append_seam R v.rest)
