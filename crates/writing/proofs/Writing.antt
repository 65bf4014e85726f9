-- What writing a job answers at each of its tests, and what it writes, in the pieces of the code.
use mathlib.Core.Path.{◌≡◌, refl, ap, ◌∙◌}
use mathlib.Core.Logic.{inl, inr}
use mathlib.Core.Bool.{true, false}
use mathlib.Core.List.{List, ◌++◌, append-nil}
use Prim.Native.Nat.{ℕ, ◌+◌, ◌-◌, ◌≤◌, ◌<◌}
use native.Mathlib.Omega.{arith}
use borrow.Author.Tests.{lt-ltb, le-ltb, eq-eqb, ne_eqb}
use borrow.Rule.Slice.PartMut.{put_mid}
use lib.ListN.{length, take, drop, length-drop, drop_of_length-le}
use lib.Seq.{length-take-le, drop-drop}
use Rattle.calculus.specs.Processes.{Process}
use Rattle.machine.specs.Limits.{byte_limit, free_name_least, free_name_limit, job_depth_limit}
use Rattle.buffers.specs.Words.{word, field}
use Rattle.buffers.specs.Buffers.{Written, kept, fits_in, fitting, Answered, written_answer, Left, headed}
use Rattle.std.specs.Prelude.{Ok, Err}
use Rattle.refusals.specs.declared.Refusal.{Refusal}
use Rattle.refusals.specs.declared.Refusal.TheVariants.{NoRoom}
use Rattle.refusals.specs.Refusals.{refusal}
use Rattle.buffers.proofs.Answers.{answered_kept, answered_as, answered_full, answered_fits, Within, fitting_within}
use Rattle.buffers.proofs.Writing.{header_is}
use Rattle.format.specs.Reading.{Outcome, refused, got, read_process}
use Rattle.format.specs.Answers.{answer}
use Rattle.format.specs.declared.Cursor.{Cursor}
use Rattle.states.specs.Reading.{ends}
use Rattle.format.proofs.Laws.{answer_done}
use Rattle.writing.specs.Writing.{read_job_parts, write_parts, write_job}
use Rattle.writing.specs.Theorems.{OutOfRange}

-- the bytes of a job
abbrev pub spelled : ℕ → List ℕ → List ℕ
spelled F process = field 0x10 (word F ++ process)

pub length_spelled : (F : ℕ) (process : List ℕ) → length process + 5 ≡ length (spelled F process)
unfolding field word
length_spelled F process = omega arith

-- The pieces

-- the part behind the header of a job of n bytes is as long as F and the process
pub length_body : (n m : ℕ) (s : List ℕ) → n ≡ m + 5 → n ≤ length s → length (take (n - 3) (drop 3 s)) ≡ 2 + m
length_body n m s e h = let l : n - 3 ≤ length (drop 3 s) = omega (arith, h, length-drop 3 s) in omega (arith, e, length-take-le (n - 3) (drop 3 s) l)

-- F and the process fill the part that is lent for the body
pub body_filled : (F : ℕ) (process body last : List ℕ) {n : ℕ} → length body ≡ 2 + length process → Left (word F ++ process) body last n → last ≡ word F ++ process
unfolding word
body_filled F process body last h l =
    let e : length body ≤ length (word F ++ process) = omega (arith, h) in
    l.written ∙ ap (λ (rest : List ℕ). (word F ++ process) ++ rest) (drop_of_length-le body e) ∙ append-nil (word F ++ process)

-- a header, and the body come back behind it
pub job_written : (F : ℕ) (process out middle last : List ℕ) (n : ℕ) → n ≡ length process + 5 → n ≤ length out → n ≤ byte_limit
    → middle ≡ headed 0x10 (n - 3) out → last ≡ word F ++ process
    → put_mid 3 (n - 3) middle last ≡ spelled F process ++ drop (length (spelled F process)) out
unfolding field word
job_written F process out middle last n e h k m b =
    let f : n - 3 ≡ length (word F ++ process) = omega (arith, e) in
    let g : 3 + length (word F ++ process) ≡ length (spelled F process) = omega arith in
    let w : 3 ≤ length out = omega (arith, e, h) in
    ap (λ (o : List ℕ). put_mid 3 (n - 3) o last) (m ∙ header_is 0x10 (n - 3) out w (omega (arith, k)))
    ∙ rw (b, f, drop-drop (length (word F ++ process)) 3 out, g)

-- What is answered

answer_refused : {A : Type 0} (o : Outcome A) (at : ℕ) (x : Refusal) → Err x ≡ answer at o → (k : ℕ) × (o ≡ refused k) × (x ≡ refusal k)
unfolding answer
answer_refused (refused k) at x e = (k, refl, cc)
answer_refused (got a n) at x e = absurd (let z : ◌≡◌ {A = ℕ} 0 1 = cc in omega arith)

pub refuses : {w : Written ℕ (Unit {0})} (k : ℕ) (out : List ℕ) → w ≡ kept k → Answered written_answer w out (Err (refusal k)) out
unfolding written_answer
refuses k out e = answered_kept written_answer k out e

pub refused_with : {w : Written ℕ (Unit {0})} {x : Refusal} (out : List ℕ) → (k : ℕ) × (w ≡ kept k) × (x ≡ refusal k) → Answered written_answer w out (Err x) out
refused_with out (k, e, h) = rw h (refuses k out e)

-- the parts with F out of its range
pub parts_out : (F : ℕ) (process : List ℕ) → length process ≤ byte_limit → OutOfRange F → read_job_parts F process ≡ refused 6
unfolding read_job_parts
parts_out F process short (inl h) = rw (le-ltb _ _ short, lt-ltb _ _ h)
parts_out F process short (inr h) = let some : free_name_least ≤ F = omega (arith, h) in rw (le-ltb _ _ short, le-ltb _ _ some, lt-ltb _ _ h)

module _ (F : ℕ) (process : List ℕ) (room : ℕ) where
  pub too_long : byte_limit < length process → write_job F process room ≡ kept 1
  unfolding write_job read_job_parts write_parts
  too_long h = rw (lt-ltb _ _ h)

  module _ (short : length process ≤ byte_limit) where
    pub out_of_range : OutOfRange F → write_job F process room ≡ kept 6
    unfolding write_job write_parts
    out_of_range h = rw (parts_out F process short h)

    module _ (some : free_name_least ≤ F) (few : F ≤ free_name_limit) where
      judged : write_job F process room ≡ write_parts F process room (ends (length process) (read_process job_depth_limit F 0 process))
      unfolding write_job read_job_parts
      judged = rw (le-ltb _ _ short, le-ltb _ _ some, le-ltb _ _ few)

      pub unread : (x : Refusal) → Err x ≡ answer 0 (read_process job_depth_limit F 0 process) → (k : ℕ) × (write_job F process room ≡ kept k) × (x ≡ refusal k)
      unfolding ends write_parts
      unread x e = go (answer_refused _ 0 x e)
        where
          go : (k : ℕ) × (read_process job_depth_limit F 0 process ≡ refused k) × (x ≡ refusal k) → (k : ℕ) × (write_job F process room ≡ kept k) × (x ≡ refusal k)
          go (k, q, h) = (k, judged ∙ rw q, h)

      module _ (c : Cursor) (e : Ok c ≡ answer 0 (read_process job_depth_limit F 0 process)) where
        pub left_over : (c.at ≡ length process → ⊥) → write_job F process room ≡ kept 4
        unfolding ends write_parts
        left_over h =
            let r = answer_done _ 0 c e in
            let n : r.1 ≡ length process → ⊥ = λ q. h (omega (arith, r.3, q)) in
            judged ∙ rw (r.2, ne_eqb _ _ n)

        pub read_whole : c.at ≡ length process → write_job F process room ≡ fitting byte_limit room tt (spelled F process)
        unfolding ends write_parts
        read_whole h =
            let r = answer_done _ 0 c e in
            let n : r.1 ≡ length process = omega (arith, r.3, h) in
            judged ∙ rw (r.2, eq-eqb _ _ n)

module _ (F : ℕ) (process out : List ℕ) (n : ℕ) (e : n ≡ length process + 5) (f : write_job F process (length out) ≡ fitting byte_limit (length out) tt (spelled F process)) where
  pub job_full : fits_in byte_limit (length out) n ≡ false → Answered written_answer (write_job F process (length out)) out (Err NoRoom) out
  unfolding written_answer refusal
  job_full h = answered_as written_answer f (answered_full written_answer byte_limit tt _ out (e ∙ length_spelled F process) h)

  pub job_done : {last : List ℕ} → fits_in byte_limit (length out) n ≡ true → last ≡ spelled F process ++ drop (length (spelled F process)) out
      → Answered written_answer (write_job F process (length out)) out (Ok n) last
  unfolding written_answer
  job_done h l = rw (e ∙ length_spelled F process) (answered_as written_answer f (answered_fits written_answer byte_limit tt _ out (e ∙ length_spelled F process) h l))

pub write_small : (F : ℕ) (process : List ℕ) (room : ℕ) → Within byte_limit (write_job F process room)
unfolding write_job write_parts Within
write_small F process room = go (read_job_parts F process)
  where
    go : (o : Outcome Process) → Within byte_limit (write_parts F process room o)
    go (refused k) = tt
    go (got P n) = fitting_within byte_limit room tt (spelled F process)
