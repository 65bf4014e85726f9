-- The proofs of the statements in specs/Theorems.antt.
use mathlib.Core.Path.{◌≡◌, refl, sym, ap, ◌∙◌}
use mathlib.Core.Bool.{Bool, true, false}
use mathlib.Core.List.{List}
use Prim.Native.Nat.{ℕ, ◌+◌, ◌-◌, ◌≤◌}
use native.Mathlib.Omega.{arith}
use lib.ListN.{length}
use Rattle.calculus.specs.Processes.{name, Process, null, parallel, ambient}
use Rattle.calculus.specs.Reduction.{transitive, rule1, rule13}
use Rattle.machine.specs.Limits.{cabinet_name, state_depth_limit, nesting_limit, byte_limit}
use Rattle.machine.specs.Elements.{unblocked, empty, process_then, state, decode, restrict, decode_state}
use Rattle.machine.specs.Validity.{ReferenceScoped}
use Rattle.machine.specs.Pairs.{walk, blocked_pair}
use Rattle.machine.specs.Tests.{pick}
use Rattle.format.specs.Reading.{Outcome, refused, got}
use Rattle.format.proofs.InScope.{Readable}
use Rattle.elements.specs.Spelling.{Job, job, encode_state}
use Rattle.buffers.specs.Buffers.{kept, wrote, fitting}
use Rattle.buffers.proofs.Answers.{fitting_is, fitting_wrote, fitting_full}
use Rattle.states.specs.Reading.{read_job, read_state}
use Rattle.states.specs.Theorems.{ValidJob, Admitted}
use Rattle.states.proofs.Shapes.{Due, ambient_shape}
use Rattle.states.proofs.InScope.{job_valid}
use Rattle.states.proofs.Readable.{ReadableAmbient, readable_empty, readable_process, readable_ambient}
use Rattle.states.proofs.Theorems.{admitted, admitted_reads}
use Rattle.uses.specs.Uses.{mixed}
use Rattle.uses.proofs.Uses.{mixed_has_both, apart_unmixed}
use Rattle.loaded.specs.Loading.{loaded, load_job, load}
use Rattle.loaded.specs.Theorems.{LoadedIsJob, LoadedIsAccepted, MixedIsRefused, LoadedUsesApart, AcceptedIsLoaded}
use Rattle.loaded.proofs.Loading.{Accepted, taken, cabinet, reading, long}

-- The loaded state

-- N is F, so that nothing is restricted
loaded_decodes : (F : ℕ) (P : Process) → decode_state (state F F (cabinet P)) ≡ parallel (ambient (name cabinet_name) (parallel P null)) null
unfolding decode_state restrict decode
loaded_decodes F P = let e : F - F ≡ 0 = omega arith in rw e

loaded_unpaired : (P : Process) → blocked_pair (cabinet P) ≡ false
unfolding blocked_pair walk
loaded_unpaired P = refl

pub loaded_is_job : LoadedIsJob
unfolding loaded Due ambient_shape ReadableAmbient ReferenceScoped
loaded_is_job F P v =
    let r : Readable state_depth_limit F 0 P = (omega (arith, v.shallow), v.scoped, v.counted) in (
      (admitted nesting_limit F F (cabinet P)).1 (
        record {
          few_free = v.few_free;
          free_below = omega arith;
          few_names = omega (arith, v.few_free);
          readable =
              (readable_ambient unblocked F nesting_limit unblocked (name cabinet_name) (process_then P empty) empty).1
              (tt, (v.some_free, (readable_process unblocked F _ P empty).1 (tt, r, readable_empty unblocked _ F)), readable_empty unblocked nesting_limit F);
        },
        loaded_unpaired P,
      ),
      rw (loaded_decodes F P) (transitive rule1 (rule13 rule1)),
    )

-- Bytes

-- what was loaded: the state of an accepted job, which is admitted
pub record LoadedJob (bytes new : List ℕ) : Type 0 where
  pub free : ℕ
  pub process : Process
  pub size : ℕ
  pub read : read_job bytes ≡ got (job free process) size
  pub written : new ≡ encode_state (loaded (job free process))
  pub admits : Admitted (loaded (job free process))
  pub within : length new ≤ byte_limit

pub loaded_job : (bytes : List ℕ) (room : ℕ) (new : List ℕ) (u : Unit {0}) → load bytes room ≡ wrote u new → LoadedJob bytes new
unfolding load load_job ValidJob
loaded_job bytes room new u e = go (read_job bytes) refl e
  where
    judged : (F : ℕ) (P : Process) (n : ℕ) → read_job bytes ≡ got (job F P) n → (b : Bool)
        → pick b (kept 15) (fitting byte_limit room tt (encode_state (loaded (job F P)))) ≡ wrote u new → LoadedJob bytes new
    judged F P n r true e = absurd (let z : ◌≡◌ {A = ℕ} 0 1 = cc in omega arith)
    judged F P n r false e =
        let f = fitting_wrote {A = Unit {0}} byte_limit room tt (encode_state (loaded (job F P))) e in
        record { free = F; process = P; size = n; read = r; written = f.0; admits = (loaded_is_job F P (job_valid bytes (job F P) n r)).0; within = omega (arith, f.1, ap length f.0) }

    go : (o : Outcome Job) → read_job bytes ≡ o → load_job room o ≡ wrote u new → LoadedJob bytes new
    go (refused k) r e = absurd (let z : ◌≡◌ {A = ℕ} 0 1 = cc in omega arith)
    go (got (job F P) n) r e = judged F P n r (mixed P) e

pub loaded_is_accepted : LoadedIsAccepted
loaded_is_accepted bytes room new h e =
    let l = loaded_job bytes room new tt e in
    let J = job l.free l.process in
    let a = taken bytes l.free l.process l.size h l.read in
    let size = ap length l.written in
    record {
      from = J;
      spelled = a.spelled;
      written = l.written;
      accepted = ap read_state l.written ∙ admitted_reads (loaded J) l.admits (omega (arith, l.within, size)) ∙ ap (got (loaded J)) (sym size);
      longer = size ∙ sym (long bytes l.free a);
    }

-- Both uses

pub mixed_is_refused : MixedIsRefused
unfolding load load_job
mixed_is_refused bytes F P n room e b = rw (e, (mixed_has_both P).1 b) refl

pub loaded_uses_apart : LoadedUsesApart
loaded_uses_apart bytes F P n room new e f m b c = let q = sym (mixed_is_refused bytes F P n room e (record { number = m; box = b; channel = c })) ∙ f in let z : ◌≡◌ {A = ℕ} 0 1 = cc in omega arith

pub accepted_is_loaded : AcceptedIsLoaded
accepted_is_loaded bytes F P n room h e apart =
    record {
      loads = λ s k. reads ∙ fitting_is byte_limit room tt new (omega (arith, s, size)) (omega (arith, k, size));
      over_length = λ s. reads ∙ fitting_full byte_limit room tt new (λ f. omega (arith, f, s, size));
      no_room = λ k. reads ∙ fitting_full byte_limit room tt new (λ f. omega (arith, f, k, size));
    }
  where
    a : Accepted bytes F
    a = taken bytes F P n h e

    new : List ℕ
    new = encode_state (loaded (job F P))

    reads : load bytes room ≡ fitting byte_limit room tt new
    reads = reading bytes F a room (apart_unmixed P apart)

    size : length bytes + 10 ≡ length new
    size = long bytes F a
