-- The proofs of the statements in specs/Theorems.antt.
use mathlib.Core.Path.{◌≡◌, refl, sym, ap, ◌∙◌}
use mathlib.Core.Logic.{inl, inr}
use mathlib.Core.Bool.{Bool, true, false}
use mathlib.Core.List.{List, [], ◌++◌, append-nil}
use Prim.Native.Nat.{ℕ, suc, ◌+◌, ◌≤◌, ◌<◌}
use native.Mathlib.Omega.{arith}
use borrow.Author.Tests.{lt-ltb, ltb-true, ltb-false, le-ltb, eqb-true, eqb-false, eq-eqb, ne_eqb}
use lib.Dec.{ltb, eqb}
use lib.ListN.{length, drop, length-append, drop_of_length-le}
use lib.Seq.{take_all, drop_at}
use Rattle.calculus.specs.Processes.{Process}
use Rattle.machine.specs.Limits.{byte_limit, free_name_least, free_name_limit, job_depth_limit}
use Rattle.machine.specs.Tests.{pick}
use Rattle.buffers.specs.Words.{word, field}
use Rattle.buffers.specs.Buffers.{wrote}
use Rattle.buffers.proofs.Parts.{length_field}
use Rattle.buffers.proofs.Answers.{fitting_is, fitting_wrote}
use Rattle.format.specs.Spelling.{encode}
use Rattle.format.specs.Reading.{Outcome, refused, got, map_outcome, shift, and_then, opened, open_field, whole, read_field, read_process, read_count}
use Rattle.format.specs.Theorems.{Bytes}
use Rattle.format.proofs.Readback.{word_back, reads_count, open_field_law}
use Rattle.format.proofs.Theorems.{one_spelling}
use Rattle.elements.specs.Spelling.{Job, job, encode_job}
use Rattle.states.specs.Reading.{ends, job_body, read_job}
use Rattle.states.proofs.Whole.{job_whole_law}
use Rattle.states.proofs.Spelled.{job_spelled}
use Rattle.writing.specs.Writing.{read_job_parts, write_parts, write_job}
use Rattle.writing.specs.Theorems.{PartsAsRead, OutOfRange, FreeNamesFirst, WrittenIsAccepted, AcceptedIsWritten}
use Rattle.writing.proofs.Writing.{spelled, length_spelled, parts_out}

-- The parts and the job

length_word : (v : ℕ) → length (word v) ≡ 2
unfolding word
length_word v = refl

spelled_process : (F : ℕ) (process : List ℕ) → drop 5 (spelled F process) ≡ process
unfolding field word
spelled_process F process = refl

-- the field of a job has its body whole
job_field_law : (body : List ℕ) → length body < 65536
    → read_field (open_field 0x10 0x10 (field 0x10 body)) (field 0x10 body) (λ tag b. job_body b) ≡ whole (length body) (job_body body)
unfolding read_field field word
job_field_law body short =
    let o : open_field 0x10 0x10 (field 0x10 body) ≡ opened 0x10 (length body) = rw append-nil at (open_field_law 0x10 0x10 0x10 body [] (omega arith) (omega arith) short) in
    rw (o, take_all (length body) body (omega arith))

-- the body, by F
body_out : (F : ℕ) (process : List ℕ) → OutOfRange F → job_body (word F ++ process) ≡ refused 6
unfolding job_body and_then read_count word
body_out F process (inl h) = let n : 2 ≤ suc (suc (length process)) = omega arith in simp (le-ltb _ _ n, word_back F, lt-ltb _ _ h)
body_out F process (inr h) =
    let n : 2 ≤ suc (suc (length process)) = omega arith in
    let l : free_name_least ≤ F = omega (arith, h) in
    simp (le-ltb _ _ n, word_back F, le-ltb _ _ l, lt-ltb _ _ h)

body_few : (F : ℕ) (process : List ℕ) → free_name_least ≤ F → F ≤ free_name_limit → job_body (word F ++ process) ≡ shift 2 (map_outcome (job F) (read_process job_depth_limit F 0 process))
unfolding job_body and_then
body_few F process g h = rw (reads_count free_name_least free_name_limit F process g h, drop_at (word F) process 2 (length_word F))

-- what is read behind F, where the body has b bytes and the job s
process_read : (F m b s : ℕ) (o : Outcome Process) → b ≡ 2 + m → s ≡ 3 + b
    → ends s (whole b (shift 2 (map_outcome (job F) o))) ≡ shift 5 (map_outcome (job F) (ends m o))
unfolding ends whole shift map_outcome
process_read F m b s (refused k) e f = refl
process_read F m b s (got P n) e f = go (eqb n m) refl
  where
    go : (t : Bool) → eqb n m ≡ t
        → ends s (pick (eqb (2 + n) b) (got (job F P) (3 + b)) (refused 4)) ≡ shift 5 (map_outcome (job F) (pick t (got P n) (refused 4)))
    go true q =
        let i : 2 + n ≡ b = omega (arith, e, eqb-true n m q) in
        let j : 3 + b ≡ s = sym f in
        let k : 3 + b ≡ 5 + n = omega (arith, i) in
        rw (eq-eqb _ _ i, eq-eqb _ _ j, k)
    go false q = let i : 2 + n ≡ b → ⊥ = λ r. eqb-false n m q (omega (arith, e, r)) in rw (ne_eqb _ _ i)

module _ (F : ℕ) (process : List ℕ) (within : 5 + length process ≤ byte_limit) where
  short : length process ≤ byte_limit
  short = omega (arith, within)

  by_body : read_job (spelled F process) ≡ ends (length (spelled F process)) (whole (length (word F ++ process)) (job_body (word F ++ process)))
  unfolding read_job
  by_body =
      let s : length (spelled F process) ≤ byte_limit = omega (arith, within, length_spelled F process) in
      rw (le-ltb _ _ s, job_field_law (word F ++ process) (omega (arith, s, length_field 0x10 (word F ++ process))))

  by_out : OutOfRange F → read_job (spelled F process) ≡ shift 5 (map_outcome (job F) (read_job_parts F process))
  unfolding ends whole shift map_outcome
  by_out h = by_body ∙ rw (body_out F process h, parts_out F process short h)

  by_parts : (b₁ b₂ : Bool) → ltb F free_name_least ≡ b₁ → ltb free_name_limit F ≡ b₂ → read_job (spelled F process) ≡ shift 5 (map_outcome (job F) (read_job_parts F process))
  unfolding read_job_parts ends whole shift map_outcome
  by_parts true b₂ d e = by_out (inl (ltb-true _ _ d))
  by_parts false true d e = by_out (inr (ltb-true _ _ e))
  by_parts false false d e =
      by_body ∙ rw (body_few F process (ltb-false _ _ d) (ltb-false _ _ e), le-ltb _ _ short, d, e)
      (process_read F (length process) (length (word F ++ process)) (length (spelled F process)) (read_process job_depth_limit F 0 process) (length-append (word F) process ∙ rw (length_word F)) (length_field 0x10 (word F ++ process)))

pub parts_as_read : PartsAsRead
parts_as_read F process within = by_parts F process within (ltb F free_name_least) (ltb free_name_limit F) refl refl

pub free_names_first : FreeNamesFirst
unfolding shift map_outcome
free_names_first F process within h = parts_as_read F process within ∙ rw (parts_out F process (short F process within) h)

-- Accepted parts

-- one process was read, which is the whole of the bytes
abbrev OneProcess : ℕ → List ℕ → Process → ℕ → Type 0
OneProcess F process P n = (read_process job_depth_limit F 0 process ≡ got P n) × (n ≡ length process)

one_process : (F : ℕ) (process : List ℕ) (P : Process) (n : ℕ) → read_job_parts F process ≡ got P n → OneProcess F process P n
unfolding read_job_parts ends
one_process F process P n = go (ltb byte_limit (length process)) (ltb F free_name_least) (ltb free_name_limit F) (read_process job_depth_limit F 0 process) refl
  where
    last : (b : Bool) (Q : Process) (m : ℕ) → eqb m (length process) ≡ b → read_process job_depth_limit F 0 process ≡ got Q m
        → pick b (got Q m) (refused 4) ≡ got P n → OneProcess F process P n
    last true Q m e r q = let i : m ≡ n = cc in (r ∙ q, sym i ∙ eqb-true _ _ e)
    last false Q m e r q = absurd (let z : ◌≡◌ {A = ℕ} 0 1 = cc in omega arith)

    go : (b₁ b₂ b₃ : Bool) (o : Outcome Process) → read_process job_depth_limit F 0 process ≡ o
        → pick b₁ (refused 1) (pick b₂ (refused 6) (pick b₃ (refused 6) (ends (length process) o))) ≡ got P n → OneProcess F process P n
    go true b₂ b₃ o r q = absurd (let z : ◌≡◌ {A = ℕ} 0 1 = cc in omega arith)
    go false true b₃ o r q = absurd (let z : ◌≡◌ {A = ℕ} 0 1 = cc in omega arith)
    go false false true o r q = absurd (let z : ◌≡◌ {A = ℕ} 0 1 = cc in omega arith)
    go false false false (refused k) r q = absurd (let z : ◌≡◌ {A = ℕ} 0 1 = cc in omega arith)
    go false false false (got Q m) r q = last (eqb m (length process)) Q m refl r q

-- which they spell
one_spelled : (F : ℕ) (process : List ℕ) (P : Process) (n : ℕ) → Bytes process → OneProcess F process P n → process ≡ encode P
one_spelled F process P n h o =
    let s = one_spelling job_depth_limit F 0 process P n h o.0 in
    let l : length process ≤ n = omega (arith, o.1) in
    s.1 ∙ ap (λ (rest : List ℕ). encode P ++ rest) (drop_of_length-le process l) ∙ append-nil (encode P)

-- What is written

-- accepted parts, and the job of them within the limit
record Wrote (F : ℕ) (process new : List ℕ) : Type 0 where
  pub tree : Process
  pub size : ℕ
  pub judged : read_job_parts F process ≡ got tree size
  pub bytes : new ≡ spelled F process
  pub within : length (spelled F process) ≤ byte_limit

written_parts : (F : ℕ) (process : List ℕ) (room : ℕ) (new : List ℕ) → write_job F process room ≡ wrote tt new → Wrote F process new
unfolding write_job write_parts
written_parts F process room new = go (read_job_parts F process) refl
  where
    go : (o : Outcome Process) → read_job_parts F process ≡ o → write_parts F process room o ≡ wrote tt new → Wrote F process new
    go (refused k) r e = absurd (let z : ◌≡◌ {A = ℕ} 0 1 = cc in omega arith)
    go (got P n) r e = let f = fitting_wrote {A = Unit {0}} byte_limit room tt (spelled F process) e in record { tree = P; size = n; judged = r; bytes = f.0; within = f.1 }

pub written_is_accepted : WrittenIsAccepted
unfolding shift map_outcome encode_job
written_is_accepted F process room new h e =
    let w = written_parts F process room new e in
    let o = one_process F process w.tree w.size w.judged in
    let p = one_spelled F process w.tree w.size h o in
    let l = length_spelled F process in
    let n : 5 + w.size ≡ length (spelled F process) = omega (arith, o.1, l) in
    let r = parts_as_read F process (omega (arith, w.within, l)) ∙ ap (λ (u : Outcome Process). shift 5 (map_outcome (job F) u)) w.judged in
    (w.tree, p, w.bytes ∙ ap (spelled F) p, ap read_job w.bytes ∙ r ∙ ap (got (job F w.tree)) (n ∙ ap length (sym w.bytes)))

-- Accepted jobs

accepted_parts : (F : ℕ) (process : List ℕ) (J : Job) (n : ℕ) → length (spelled F process) ≤ byte_limit → read_job (spelled F process) ≡ got J n
    → (P : Process) × (m : ℕ) × (read_job_parts F process ≡ got P m)
unfolding shift map_outcome
accepted_parts F process J n within e = go (read_job_parts F process) refl
  where
    judged : read_job (spelled F process) ≡ shift 5 (map_outcome (job F) (read_job_parts F process))
    judged = parts_as_read F process (omega (arith, within, length_spelled F process))

    go : (o : Outcome Process) → read_job_parts F process ≡ o → (P : Process) × (m : ℕ) × (o ≡ got P m)
    go (refused k) r =
        let q : refused k ≡ got J n = sym (judged ∙ ap (λ (u : Outcome Process). shift 5 (map_outcome (job F) u)) r) ∙ e in
        absurd (let z : ◌≡◌ {A = ℕ} 0 1 = cc in omega arith)
    go (got P m) r = (P, m, refl)

pub accepted_is_written : AcceptedIsWritten
unfolding write_job write_parts encode_job
accepted_is_written bytes F P n room h e fits =
    let s : bytes ≡ spelled F (encode P) = job_spelled bytes (job F P) n h e in
    let within : length (spelled F (encode P)) ≤ byte_limit = rw s at (job_whole_law bytes (job F P) n e).within in
    let enough : length (spelled F (encode P)) ≤ room = rw s at fits in
    let a = accepted_parts F (encode P) (job F P) n within (rw s at e) in
    (ap (drop 5) s ∙ spelled_process F (encode P), rw a.2 (fitting_is byte_limit room tt _ within enough ∙ ap (wrote tt) (sym s)))
