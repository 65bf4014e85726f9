-- Two actions that meet: the rules by which they do, the move that joins them, and how long its result is.
use mathlib.Core.Path.{◌≡◌, refl, sym, ap, ◌∙◌}
use mathlib.Core.Option.{some}
use Prim.Native.Nat.{ℕ, suc, ◌+◌, ◌-◌, ◌%◌, ◌≤◌}
use native.Mathlib.Omega.{arith}
use lib.ListN.{length, drop}
use lib.Seq.{drop-drop}
use Rattle.calculus.specs.Processes.{Action, Process}
use Rattle.machine.specs.Elements.{Status, unblocked, blocked, Elements, standing, state, Position, element_at}
use Rattle.machine.specs.Rules.{Meets, rules35_36, rules37_38, rules39_40, rules41_42, Meeting, sender_acts, receiver_acts}
use Rattle.machine.specs.Kinds.{rule_of}
use Rattle.machine.specs.Validity.{Graded}
use Rattle.machine.proofs.Graded.{OneActs}
use Rattle.machine.proofs.Meeting.{same_action}
use Rattle.format.specs.Spelling.{encode_action}
use Rattle.buffers.specs.Words.{word, field}
use Rattle.elements.specs.Spelling.{encode_elements, encode_state}
use Rattle.format.specs.Kinds.{handed}
use Rattle.substituting.specs.Substituting.{SpellsNames}
use Rattle.places.specs.declared.Spot.{Spot}
use Rattle.places.specs.Offsets.{spot_of}
use Rattle.planning.specs.declared.Move.{Move}
use Rattle.planning.specs.Plans.{PlanOf}
use Rattle.planning.specs.Choices.{names_in, Drawn}
use Rattle.planning.proofs.Holders.{holder}
use Rattle.planning.proofs.Lengths.{bytes, spared, unblocked_growth, joined}
use Rattle.planning.proofs.Edits.{edit_meets}

-- Rules and kinds

pub meets_odd : {s t : Status} {n : ℕ} {σ ρ : Position} {L L' : Elements} → Meets s t n σ ρ L L' → n % 2 ≡ 1
meets_odd (rules35_36 x ns P Q r r' w) = refl
meets_odd (rules37_38 x ns P Q r w) = refl
meets_odd (rules39_40 x P Q r r' w) = refl
meets_odd (rules41_42 x P Q r w z) = refl
meets_odd (Meets.rule27 m r) = meets_odd m

-- the sender or mover goes by the rule's number
sender_rule : {s t : Status} {n : ℕ} {σ ρ : Position} {L L' : Elements} (α : Action) (P : Process) → Meets s t n σ ρ L L' → element_at L σ ≡ some (standing s α P) → rule_of α ≡ n
sender_rule {s} α P m e = let t = joined m in ap rule_of (same_action s α t.0 P t.2 e t.4) ∙ t.6

-- equal actions are equally long
long : {α β : Action} → α ≡ β → length (encode_action α) ≡ length (encode_action β)
long e = ap (λ (γ : Action). length (encode_action γ)) e

-- An action at π meets a blocked one at κ

-- what stands at κ
pub answering : {n : ℕ} {π κ : Position} {L L' : Elements} → Meeting n π κ L L' → (β : Action) × (Q : Process) × (element_at L κ ≡ some (standing blocked β Q))
answering (sender_acts m) = let t = joined m in (t.1, t.3, t.5)
answering (receiver_acts m) = let t = joined m in (t.0, t.2, t.4)

module _ {π : Position} {L : Elements} (α : Action) (P : Process) (el : element_at L π ≡ some (standing unblocked α P)) where
  -- the acting one goes by its own rule
  pub rule_number : {n : ℕ} {κ : Position} {L' : Elements} → Meeting n π κ L L' → rule_of α ≡ n
  rule_number (sender_acts m) = sender_rule α P m el
  rule_number (receiver_acts m) = let t = joined m in ap rule_of (same_action unblocked α t.1 P t.3 el t.5) ∙ t.7

  -- as the sender or mover, or as the other
  pub sending : {n : ℕ} {κ : Position} {L' : Elements} → Meeting n π κ L L' → rule_of α % 2 ≡ 1 → Meets unblocked blocked n π κ L L'
  sending (sender_acts m) h = m
  sending (receiver_acts m) h = absurd (omega (arith, h, meets_odd m, rule_number (receiver_acts m)))

  pub taking : {n : ℕ} {κ : Position} {L' : Elements} → Meeting n π κ L L' → rule_of α % 2 ≡ 0 → (number : ℕ) × (rule_of α ≡ suc number) × Meets blocked unblocked number κ π L L'
  taking (sender_acts m) h = absurd (omega (arith, h, meets_odd m, rule_number (sender_acts m)))
  taking (receiver_acts {n = n} m) h = (n, rule_number (receiver_acts m), m)

  -- both have room in the list
  pub room : {n : ℕ} {κ : Position} {L' : Elements} (β : Action) (Q : Process) → Meeting n π κ L L' → element_at L κ ≡ some (standing blocked β Q) →
      length (encode_action α) + length (encode_action β) ≤ bytes L
  room β Q (sender_acts m) d = let t = joined m in omega (arith, t.9, long (same_action unblocked α t.0 P t.2 el t.4), long (same_action blocked β t.1 Q t.3 d t.5))
  room β Q (receiver_acts m) d = let t = joined m in omega (arith, t.9, long (same_action unblocked α t.1 P t.3 el t.5), long (same_action blocked β t.0 Q t.2 d t.4))

-- The bytes of a state behind its front
pub root_bytes : (F N : ℕ) (L : Elements) (at : ℕ) → 7 ≤ at → drop at (encode_state (state F N L)) ≡ drop (at - 7) (encode_elements L)
unfolding encode_state field word
root_bytes F N L at l =
    let e : at ≡ 7 + (at - 7) = omega arith in
    ap (λ (k : ℕ). drop k (encode_state (state F N L))) e ∙ sym (drop-drop (at - 7) 7 (encode_state (state F N L)))

-- The move

pub drawn : {s t : Status} {n : ℕ} {σ ρ : Position} {L L' : Elements} {sender other : Spot} (F N : ℕ) (α : Action) (P : Process) (m : Move) → Meets s t n σ ρ L L' → OneActs s t → Graded L →
    element_at L σ ≡ some (standing s α P) → sender ≡ spot_of L σ → other ≡ spot_of L ρ → PlanOf n sender other m.plan → m.length ≡ 7 + bytes L' →
    m.plan.sent ≤ m.plan.past → m.plan.past ≤ 7 + bytes L → SpellsNames (names_in m.plan (encode_state (state F N L))) (handed α) → Drawn F N L m L'
drawn F N α P m w one h e sp fo y l u v r =
    let t = edit_meets α P m.plan w one h e sp fo y in
    record {
      handed = handed α;
      naming = record { starts = u; ends = v; named = r; suits = t.0 };
      moved = t.1;
      sets = t.2;
      edited = t.3.0;
      measured = l;
      within = t.3.1;
    }

-- How long the result is

pub joint_length : {s t : Status} {n : ℕ} {σ ρ : Position} {L L' : Elements} (α β : Action) (P Q : Process) (m : Meets s t n σ ρ L L') →
    element_at L σ ≡ some (standing s α P) → element_at L ρ ≡ some (standing t β Q) →
    bytes L' + 6 + length (encode_action α) + length (encode_action β) ≡ bytes L + spared t + unblocked_growth n s (holder m).inside
joint_length {s} {t} α β P Q m e d =
    let j = joined m in
    omega (arith, j.8, long (same_action s α j.0 P j.2 e j.4), long (same_action t β j.1 Q j.3 d j.5))
