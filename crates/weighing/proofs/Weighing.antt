-- What the weight of a state in bytes is, and that it is within the limit of bytes.
use mathlib.Core.Path.{◌≡◌, refl, sym, ap, ◌∙◌}
use mathlib.Core.List.{List}
use Prim.Native.Nat.{ℕ, ◌≤◌, ◌<◌}
use native.Mathlib.Omega.{arith}
use lib.ListN.{length, length-drop}
use Rattle.machine.specs.Elements.{State, state, weight, weight_state}
use Rattle.format.specs.Reading.{Outcome, refused, got, map_outcome}
use Rattle.format.specs.Theorems.{Bytes}
use Rattle.machine.specs.Limits.{nesting_limit, byte_limit}
use Rattle.states.specs.Reading.{read_state}
use Rattle.weighing.specs.Weighing.{weigh, weight_answer}
use Rattle.states.specs.Reading.{Accepted}
use Rattle.std.specs.Prelude.{Result, Ok, Err}
use Rattle.refusals.specs.declared.Refusal.{Refusal}
use Rattle.refusals.specs.Refusals.{refusal}
use Rattle.buffers.proofs.Parts.{from}
use Rattle.states.proofs.Whole.{accepted_parsed}
use Rattle.states.proofs.Accepted.{accepted_state}
use Rattle.weighing.proofs.Weights.{elements_weight_small}
use Rattle.states.specs.Answers.{state_answer}
use Rattle.states.specs.declared.Names.{Names}
use Rattle.states.proofs.Root.{unnamed, Root, ReadRoot, read_root, root_short}

pub weigh_small : (bytes : List ℕ) (w : ℕ) → Bytes bytes → Ok w ≡ weight_answer (weigh bytes) → w ≤ byte_limit
unfolding weigh map_outcome weight_answer weight_state
weigh_small bytes w h e = go (read_state bytes) refl e
  where
    go : (o : Outcome State) → read_state bytes ≡ o → Ok w ≡ weight_answer (map_outcome weight_state o) → w ≤ byte_limit
    go (refused k) q e = absurd (let z : ◌≡◌ {A = ℕ} 0 1 = cc in omega arith)
    go (got (state F N L) n) q e =
        let m : w ≡ weight L = cc in
        let a = accepted_state nesting_limit bytes F N L n ((accepted_parsed bytes F N L n).0 q).0 h in
        omega (arith, elements_weight_small L, ap length a.root, length-drop 7 bytes, a.within)

pub weigh_refused : (s : List ℕ) (x : Refusal) → Err x ≡ state_answer (read_state s) → Err x ≡ weight_answer (weigh s)
unfolding weigh map_outcome weight_answer
weigh_refused s x e = go (unnamed (read_state s) x e)
  where
    go : (k : ℕ) × (read_state s ≡ refused k) × (x ≡ refusal k) → Err x ≡ weight_answer (map_outcome weight_state (read_state s))
    go (k, q, h) = rw (q, h)

pub weigh_read : {s : List ℕ} {F N : ℕ} (r : ReadRoot s F N) (w : ℕ) → w ≡ weight r.root.tree → Ok w ≡ weight_answer (weigh s)
unfolding weigh map_outcome weight_answer weight_state
weigh_read r w e = rw r.read (rw e)

-- accepted bytes, with their root list
pub record Weighable (s : List ℕ) : Type 0 where
  pub free : ℕ
  pub names : ℕ
  pub whole : ReadRoot s free names

pub weighable : (s : List ℕ) → Accepted s → Bytes s → Weighable s
unfolding state_answer
weighable s (state F N L, n, e) h = record { free = F; names = N; whole = read_root s F N h (sym (ap state_answer e)) }

pub named_accepted : (s : List ℕ) (n : Names) {r : Result Names Refusal} → Bytes s → r ≡ Ok n → r ≡ state_answer (read_state s) → Accepted s
named_accepted s n h q e = let r = read_root s n.free n.next h (sym q ∙ e) in (state n.free n.next r.root.tree, r.root.count, r.read)

pub root_weight_small : {s : List ℕ} {F N : ℕ} (r : Root s F N) (w : ℕ) → w ≤ length (from s 7) → w < byte_limit
root_weight_small r w h = omega (arith, h, root_short r)
