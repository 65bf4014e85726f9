-- What loading answers, in the terms of the code.
use mathlib.Core.Path.{◌≡◌, refl, sym, ◌∙◌}
use mathlib.Core.Bool.{Bool, true, false}
use mathlib.Core.List.{List}
use Prim.Native.Nat.{ℕ, ◌+◌, ◌-◌, ◌≤◌, ◌<◌}
use native.Mathlib.Omega.{arith}
use lib.ListN.{length, take, drop}
use Rattle.calculus.specs.Processes.{Process}
use Rattle.machine.specs.Limits.{byte_limit, free_name_limit}
use Rattle.machine.specs.Validity.{ProcessScoped}
use Rattle.buffers.specs.Words.{word, field}
use Rattle.format.specs.Spelling.{word_limit, encode}
use Rattle.format.specs.Reading.{Outcome, refused, got}
use Rattle.format.specs.Theorems.{Bytes}
use Rattle.elements.specs.Spelling.{Job, job, encode_job}
use Rattle.states.specs.Reading.{read_job}
use Rattle.buffers.specs.Buffers.{fits_in, Answered, written_answer, Left}
use Rattle.uses.specs.Uses.{mixed}
use Rattle.loaded.specs.Loading.{load}
use Rattle.enclosing.specs.Pieces.{loaded_bytes}
use Rattle.loaded.proofs.Loading.{Accepted, taken, pieces_of, size_of, unread, result, mixing, reading, long}
use Rattle.states.specs.Answers.{job_answer}
use Rattle.std.specs.Prelude.{Result, Ok, Err}
use Rattle.refusals.specs.declared.Refusal.{Refusal}
use Rattle.refusals.specs.declared.Refusal.TheVariants.{NoRoom, MixedUses}
use Rattle.refusals.specs.Refusals.{refusal}
use Rattle.states.specs.Theorems.{ValidJobOf, ValidJob}
use Rattle.states.proofs.Whole.{job_whole_law}
use Rattle.states.proofs.InScope.{job_valid}
use Rattle.buffers.proofs.Parts.{part_all, length_part}
use Rattle.layouts.specs.Layouts.{SpelledProcess}
use Rattle.layouts.proofs.Laying.{process_long}
use Rattle.buffers.proofs.Appending.{left_is}
use Rattle.buffers.proofs.Answers.{answered_kept, answered_as, answered_full, answered_fits}

-- what the job's reading tells
pub accepted : (bytes : List ℕ) (free : ℕ) {r : Result ℕ Refusal} → Bytes bytes → r ≡ Ok free → r ≡ job_answer (read_job bytes) → Accepted bytes free
unfolding job_answer
accepted bytes free h was e = go (read_job bytes) refl (sym was ∙ e)
  where
    go : (o : Outcome Job) → read_job bytes ≡ o → Ok free ≡ job_answer o → Accepted bytes free
    go (refused k) q e = absurd (let z : ◌≡◌ {A = ℕ} 0 1 = cc in omega arith)
    go (got (job F P) n) q e = let f : free ≡ F = cc in taken bytes free P n h (rw f q)

module _ (bytes : List ℕ) (free : ℕ) (a : Accepted bytes free) where
  pub job_long : 8 ≤ length bytes
  job_long = rw a.spelled (omega (arith, size_of free a.process, process_long a.process))

  -- The part that is judged

  process_part : take (length bytes - 5) (drop 5 bytes) ≡ encode a.process
  unfolding encode_job field word
  process_part = rw a.spelled (part_all 5 (encode_job (job free a.process)))

  pub process_spelled : SpelledProcess (take (length bytes - 5) (drop 5 bytes))
  process_spelled = record { process = a.process; spelled = process_part; short = omega (arith, length_part 5 bytes, (job_whole_law bytes (job free a.process) a.size a.read).within) }

  valid : ValidJobOf free a.process
  unfolding ValidJob
  valid = job_valid bytes (job free a.process) a.size a.read

  pub few : free < word_limit
  few = omega (arith, valid.few_free)

  -- by what the judging says of every process that these bytes spell
  pub judged : (b : Bool) → ((F : ℕ) (P : Process) → take (length bytes - 5) (drop 5 bytes) ≡ encode P → ProcessScoped F 0 P → F ≤ free_name_limit → b ≡ mixed P) → mixed a.process ≡ b
  judged b h = sym (h free a.process process_part valid.scoped valid.few_free)

  -- What is answered

  pub load_mixed : (out : List ℕ) → mixed a.process ≡ true → Answered written_answer (load bytes (length out)) out (Err MixedUses) out
  unfolding written_answer refusal
  load_mixed out m = answered_kept written_answer 15 out (mixing bytes free a (length out) m)

  pub load_full : (out : List ℕ) → mixed a.process ≡ false → fits_in byte_limit (length out) (length bytes + 10) ≡ false
      → Answered written_answer (load bytes (length out)) out (Err NoRoom) out
  unfolding written_answer refusal
  load_full out m f = answered_as written_answer (reading bytes free a (length out) m) (answered_full written_answer byte_limit tt (result bytes free a) out (long bytes free a) f)

  pub load_done : {out last : List ℕ} {n : ℕ} → mixed a.process ≡ false → fits_in byte_limit (length out) (length bytes + 10) ≡ true → Left (loaded_bytes free (take (length bytes - 5) (drop 5 bytes))) out last n
      → Answered written_answer (load bytes (length out)) out (Ok (length bytes + 10)) last
  unfolding written_answer
  load_done {out} m f l =
      let e : loaded_bytes free (take (length bytes - 5) (drop 5 bytes)) ≡ result bytes free a = rw process_part (pieces_of free a.process) in
      rw (long bytes free a) (answered_as written_answer (reading bytes free a (length out) m) (answered_fits written_answer byte_limit tt (result bytes free a) out (long bytes free a) f (left_is e l).written))

pub load_refused : (bytes out : List ℕ) (x : Refusal) → Err x ≡ job_answer (read_job bytes) → Answered written_answer (load bytes (length out)) out (Err x) out
unfolding job_answer written_answer
load_refused bytes out x e = go (read_job bytes) refl e
  where
    go : (o : Outcome Job) → read_job bytes ≡ o → Err x ≡ job_answer o → Answered written_answer (load bytes (length out)) out (Err x) out
    go (refused k) r e = let q : x ≡ refusal k = cc in rw q (answered_kept written_answer k out (unread bytes (length out) k r))
    go (got (job F P) n) r e = absurd (let z : ◌≡◌ {A = ℕ} 0 1 = cc in omega arith)
