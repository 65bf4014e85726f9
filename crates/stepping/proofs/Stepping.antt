-- What the step answers, and what it leaves in the output buffer: for a refusal of the state or of the choice, and for a move that is performed.
use mathlib.Core.Path.{◌≡◌, refl, ap, ◌∙◌}
use mathlib.Core.List.{List}
use Prim.Native.Nat.{ℕ}
use native.Mathlib.Omega.{arith}
use lib.ListN.{length}
use Rattle.machine.specs.Limits.{byte_limit, nesting_limit}
use Rattle.machine.specs.Elements.{Elements, state}
use Rattle.machine.specs.Stepping.{step}
use Rattle.format.specs.Theorems.{Bytes}
use Rattle.elements.specs.Spelling.{encode_state}
use Rattle.states.specs.Reading.{read_state}
use Rattle.buffers.specs.Buffers.{Written, kept, fitting, Answered}
use Rattle.buffers.proofs.Answers.{answered_kept, answered_as}
use Rattle.buffers.proofs.Parts.{from}
use Rattle.states.specs.Answers.{state_answer}
use Rattle.states.proofs.Root.{ReadRoot, unnamed}
use Rattle.planning.specs.declared.Move.{Move}
use mathlib.Core.Option.{Option}
use Rattle.std.specs.Prelude.{Result, Ok, Err}
use Rattle.refusals.specs.declared.Refusal.{Refusal}
use Rattle.refusals.specs.Refusals.{number}
use Rattle.refusals.proofs.Theorems.{of_number}
use Rattle.refusing.proofs.Theorems.{step_refuses}
use Rattle.machine.specs.Lowest.{partner_of}
use Rattle.calls.specs.Steps.{stepped, step_read, step_bytes}
use Rattle.calls.specs.Calls.{Reply, reply_of, StepContract}
use Rattle.calls.proofs.Theorems.{StateBytes, read_spells}
use Rattle.planning.specs.Choices.{Admitting, Drawn, ChoiceOf}
use Rattle.renewing.specs.Renewing.{SpellsState}
use Rattle.performing.specs.Performing.{reply_in, Performing}
use Rattle.performing.proofs.Moves.{admitting, performing, performed}

-- A state that is refused

contract : {s : List ℕ} {p q : ℕ} {out last : List ℕ} {r : Reply} {w : Written ℕ ℕ} → step_bytes s p q (length out) ≡ w → Answered reply_of w out r last → StepContract s p q out r last
contract e h = let t = answered_as reply_of e h in record { answers = t.answers; leaves = t.leaves }

pub step_refused : (s : List ℕ) (p q : ℕ) (x : Refusal) (out : List ℕ) → Err x ≡ state_answer (read_state s) → StepContract s p q out (reply_in (Err x)) out
unfolding step_bytes step_read reply_in reply_of
step_refused s p q x out e =
    let t = unnamed (read_state s) x e in
    let k : ℕ = t.0 in
    let v : step_bytes s p q (length out) ≡ kept k = ap (step_read p q (length out)) t.1 in
    let u = step_refuses s p q (length out) k v in
    let n : number x ≡ k = ap number t.2 ∙ of_number k (u.0, omega (arith, u.1)) in
    rw n (contract v (answered_kept reply_of k out refl))

-- A state that is accepted

module _ {s : List ℕ} {F N : ℕ} (r : ReadRoot s F N) (b : Bytes s) where
  abbrev tree : Elements
  tree = r.root.tree

  pub root_bytes : StateBytes s (state F N tree)
  root_bytes = read_spells b r.read

  -- what was chosen, at the tree that was read
  pub chosen : {p k : ℕ} (q : ℕ) {o : Option ℕ} {x y : Result Move Refusal} → k ≡ p → o ≡ partner_of q → x ≡ y
      → ((F' : ℕ) (L : Elements) → Admitting nesting_limit (from s 7) F' N L → ChoiceOf nesting_limit F' N L k o x) → ChoiceOf nesting_limit F N tree p (partner_of q) y
  chosen q e f g h = rw (← e, ← f, ← g) (h F tree (admitting root_bytes))

  module _ (p q : ℕ) (out : List ℕ) where
    stepping : step_bytes s p q (length out) ≡ stepped (length out) (step (state F N tree) p (partner_of q))
    unfolding step_bytes step_read
    stepping = ap (step_read p q (length out)) r.read

    pub choice_refused : (x : Refusal) → ChoiceOf nesting_limit F N tree p (partner_of q) (Err x) → StepContract s p q out (reply_in (Err x)) out
    unfolding ChoiceOf stepped reply_in reply_of
    choice_refused x e = contract (stepping ∙ ap (stepped (length out)) e) (answered_kept reply_of (number x) out refl)

    pub choice_taken : {m : Move} {a : Reply} {last : List ℕ} → ChoiceOf nesting_limit F N tree p (partner_of q) (Ok m) → ((F' N' : ℕ) (L L' : Elements) → SpellsState s F' N' L → Drawn F' N' L m L'
        → Answered reply_of (fitting byte_limit (length out) m.rule (encode_state (state F' m.names L'))) out a last)
        → StepContract s p q out a last
    unfolding ChoiceOf
    choice_taken t f = contract stepping (performed root_bytes t f)

    pub choice_performs : {m : Move} → ChoiceOf nesting_limit F N tree p (partner_of q) (Ok m) → Performing s m
    unfolding ChoiceOf
    choice_performs t = performing root_bytes t
