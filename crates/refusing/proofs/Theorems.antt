-- The proofs of the statements in specs/Refusing.antt.
use mathlib.Core.Path.{◌≡◌, refl, sym, ap, ◌∙◌}
use mathlib.Core.Logic.{◌⊎◌, inl, inr, ◌≢◌}
use mathlib.Core.Bool.{Bool, true, false}
use mathlib.Core.List.{List, ◌++◌}
use Prim.Native.Nat.{ℕ}
use native.Mathlib.Omega.{arith}
use Rattle.calculus.specs.Processes.{Process}
use Rattle.machine.specs.Limits.{nesting_limit, listing_nesting_limit, byte_limit}
use Rattle.machine.specs.Elements.{State, state, weight_state}
use Rattle.machine.specs.Lowest.{able}
use Rattle.machine.specs.Tests.{pick}
use Rattle.machine.specs.Theorems.{CanActAt}
use Rattle.format.specs.Reading.{Outcome, refused, got, map_outcome}
use Rattle.elements.specs.Spelling.{Job, job, encode_state}
use Rattle.buffers.specs.Words.{word, field}
use Rattle.buffers.specs.Buffers.{Written, kept, wrote, fitting}
use Rattle.buffers.proofs.Answers.{fitting_kept}
use Rattle.states.specs.Reading.{read_job, read_within, read_state}
use Rattle.uses.specs.Uses.{mixed}
use Rattle.loaded.specs.Loading.{loaded, load_job, load}
use Rattle.writing.specs.Writing.{read_job_parts, write_parts, write_job}
use Rattle.listing.specs.Listing.{words, list_read, list_bytes}
use Rattle.removals.specs.Sweeping.{sweep_state}
use Rattle.sweeping.specs.Sweeping.{sweep_read, sweep_bytes}
use Rattle.weighing.specs.Weighing.{weigh}
use Rattle.partnering.proofs.Theorems.{partners_refused}
use Rattle.calls.specs.Steps.{step_read, step_bytes}
use Rattle.calls.proofs.Causes.{cause_number}
use Rattle.calls.proofs.Theorems.{refused_call_by_cause}
use Rattle.runs.specs.Runs.{Ran, ran, ended_in, run_from, run_first, run_read, run_bytes}
use Rattle.runs.proofs.Theorems.{limit_is_next_step}
use Rattle.refusals.specs.Refusals.{InTable}
use Rattle.refusing.specs.Refusing.{last_of_calls, last_of_loads, UpTo, JobRefuses, StateRefuses, LoadRefuses, WriteRefuses, ListRefuses, PartnersRefuse, SweepRefuses, StepRefuses, RunRefuses, WeightRefuses, RunMeets}
use Rattle.refusing.proofs.Reading.{job_refusal, parts_refusal, state_refusal, in_table}

-- the one refusal of a result is 13
pub fitting_refuses : {A : Type 0} (room k : ℕ) (a : A) (new : List ℕ) → fitting byte_limit room a new ≡ kept k → UpTo last_of_calls k
fitting_refuses room k a new e = let i = fitting_kept byte_limit room a new e in (omega arith, omega arith)

-- 15, or the refusal of a result
judged_refuses : (room k : ℕ) (new : List ℕ) (b : Bool) → pick b (kept 15) (fitting {A = Unit {0}} byte_limit room tt new) ≡ kept k → UpTo last_of_loads k
judged_refuses room k new true e = let i : 15 ≡ k = cc in (omega arith, omega arith)
judged_refuses room k new false e = let h = fitting_refuses room k tt new e in (omega arith, omega arith)

pub job_refuses : JobRefuses
job_refuses bytes k e = in_table 6 k (omega arith) (job_refusal bytes k e)

pub state_refuses : StateRefuses
state_refuses nest bytes k e = in_table 7 k (omega arith) (state_refusal nest bytes k e)

pub load_refuses : LoadRefuses
unfolding load load_job
load_refuses bytes room k = go (read_job bytes) refl
  where
    go : (o : Outcome Job) → read_job bytes ≡ o → load_job room o ≡ kept k → UpTo last_of_loads k
    go (refused j) q e = let i : j ≡ k = cc in let h = job_refuses bytes j q in (omega arith, omega arith)
    go (got (job F P) n) q e = judged_refuses room k (encode_state (loaded (job F P))) (mixed P) e

pub write_refuses : WriteRefuses
unfolding write_job write_parts
write_refuses F process room k = go (read_job_parts F process) refl
  where
    go : (o : Outcome Process) → read_job_parts F process ≡ o → write_parts F process room o ≡ kept k → UpTo last_of_calls k
    go (refused j) q e = let i : j ≡ k = cc in let h = in_table 6 j (omega arith) (parts_refusal F process j q) in (omega arith, omega arith)
    go (got P n) q e = fitting_refuses room k tt (field 0x10 (word F ++ process)) e

pub list_refuses : ListRefuses
unfolding list_bytes list_read
list_refuses bytes room k = go (read_within listing_nesting_limit bytes) refl
  where
    go : (o : Outcome State) → read_within listing_nesting_limit bytes ≡ o → list_read room o ≡ kept k → UpTo last_of_calls k
    go (refused j) q e = let i : j ≡ k = cc in let h = state_refuses listing_nesting_limit bytes j q in (omega arith, omega arith)
    go (got (state F N L) n) q e = fitting_refuses room k tt (words (able 0 L)) e

pub sweep_refuses : SweepRefuses
unfolding sweep_bytes sweep_read
sweep_refuses bytes room k = go (read_state bytes) refl
  where
    go : (o : Outcome State) → read_state bytes ≡ o → sweep_read room o ≡ kept k → UpTo last_of_calls k
    go (refused j) q e = let i : j ≡ k = cc in let h = state_refuses nesting_limit bytes j q in (omega arith, omega arith)
    go (got S n) q e = fitting_refuses room k tt (encode_state (sweep_state S)) e

pub step_refuses : StepRefuses
unfolding step_bytes step_read
step_refuses bytes place partner room k e = go (read_state bytes) refl
  where
    go : (o : Outcome State) → read_state bytes ≡ o → UpTo last_of_calls k
    go (refused j) q = let i : j ≡ k = cc (ap (step_read place partner room) (sym q) ∙ e) in let h = state_refuses nesting_limit bytes j q in (omega arith, omega arith)
    go (got S n) q = let h = cause_number ((refused_call_by_cause bytes S n place partner room k q).0 e).0 in (omega arith, omega arith)

pub run_refuses : RunRefuses
unfolding run_bytes run_read run_first ended_in
run_refuses bytes budget room k = go (read_state bytes) refl
  where
    ran_through : (r : Ran) → ended_in r ≢ kept k
    ran_through (ran e n S) f = let z : ◌≡◌ {A = ℕ} 0 1 = cc in omega arith

    first : (w : Written ℕ State) → run_first room budget w ≡ kept k → w ≡ kept k
    first (kept j) e = let i : j ≡ k = cc in ap kept i
    first (wrote S new) e = absurd (ran_through (run_from room budget S) e)

    go : (o : Outcome State) → read_state bytes ≡ o → run_read bytes room budget o ≡ kept k → UpTo last_of_calls k
    go (refused j) q e = let i : j ≡ k = cc in let h = state_refuses nesting_limit bytes j q in (omega arith, omega arith)
    go (got S n) q e = fitting_refuses room k S bytes (first (fitting byte_limit room S bytes) e)

pub weight_refuses : WeightRefuses
unfolding weigh map_outcome
weight_refuses bytes k = go (read_state bytes) refl
  where
    go : (o : Outcome State) → read_state bytes ≡ o → map_outcome weight_state o ≡ refused k → UpTo last_of_calls k
    go (refused j) q e = let i : j ≡ k = cc in let h = state_refuses nesting_limit bytes j q in (omega arith, omega arith)
    go (got S n) q e = absurd (let z : ◌≡◌ {A = ℕ} 0 1 = cc in omega arith)

pub partners_refuse : PartnersRefuse
partners_refuse bytes place k e = go ((partners_refused bytes place k).0 e)
  where
    go : (read_state bytes ≡ refused k) ⊎ ((k ≡ 8) × (S : State) × (m : ℕ) × (read_state bytes ≡ got S m) × ¬ CanActAt S place) → UpTo last_of_calls k
    go (inl q) = let h = state_refuses nesting_limit bytes k q in (omega arith, omega arith)
    go (inr h) = let i = h.0 in (omega arith, omega arith)

pub run_meets : RunMeets
run_meets bytes last budget room steps k b e =
    let l = (limit_is_next_step bytes last budget room steps k b e).6 in
    (l.0, omega (arith, cause_number l.1))

-- each is a number of document 01's table
pub of_calls : {k : ℕ} → UpTo last_of_calls k → InTable k
of_calls h = (h.0, omega (arith, h.1))
