-- A job and a state, as a reader was handed through them: what it reached is what the definitions over lists read.
use mathlib.Core.Path.{◌≡◌, refl, sym, ap, ◌∙◌}
use mathlib.Core.List.{List, [], ◌∷◌}
use mathlib.Core.Bool.{Bool, true, false}
use Prim.Native.Nat.{ℕ, zero, suc, ◌+◌, ◌≤◌}
use native.Mathlib.Nat.{zero-add, suc-add}
use native.Mathlib.Omega.{arith}
use borrow.Author.Tests.{le-ltb, eq-eqb, ne_eqb, eqb-true, eqb-false}
use lib.ListN.{length, take, drop}
use lib.Seq.{take-length, take-nil}
use lib.Dec.{eqb}
use Rattle.machine.specs.Limits.{byte_limit, free_name_least, free_name_limit, job_depth_limit, name_limit}
use Rattle.machine.specs.Elements.{unblocked, State, state}
use Rattle.machine.specs.Tests.{pick}
use Rattle.format.specs.Reading.{Outcome, refused, got, map_outcome, Opened, shut, opened, open_field, whole, read_field, read_process, read_count}
use Rattle.format.specs.Answers.{field_at, count_outcome}
use Rattle.reading.specs.Parts.{Reached, ahead, onward, entered, counted, count_from, process_from, parts_by, whole_of}
use Rattle.reading.specs.declared.Position.{Position}
use Rattle.reading.proofs.Onward.{behind, behind_map, passed_behind, past, counted_then}
use Rattle.elements.specs.Spelling.{Job, job}
use Rattle.states.specs.Reading.{read_elements, read_ambient, ends, job_body, read_job, state_rest, state_body, parse_state}
use Rattle.states.specs.Answers.{elements_from, rest_from, job_answer, state_answer}
use Rattle.std.specs.Prelude.{Result, Ok, Err}
use Rattle.refusals.specs.declared.Refusal.{Refusal}
use Rattle.refusals.specs.declared.Refusal.TheVariants.{LeftOver}
use Rattle.refusals.specs.Refusals.{refusal}
use Rattle.states.specs.declared.Names.{Names}

-- A field

-- the position behind the header of a field at the front, where the first count is at least this
abbrev inside : (least len : ℕ) → Position
inside least len = record { at = 3; end = 3 + len; names = least; before = 0 }

ahead_front : (bytes : List ℕ) (least : ℕ) → ahead bytes (record { at = 0; end = length bytes; names = least; before = 0 }) ≡ bytes
ahead_front bytes least = take-length bytes

drop_take : (m n : ℕ) (l : List ℕ) → drop m (take (m + n) l) ≡ take n (drop m l)
drop_take zero n l = ap (λ (k : ℕ). take k l) (zero-add n)
drop_take (suc m) n [] = ap (λ (k : ℕ). drop (suc m) (take {A = ℕ} k [])) (suc-add m n) ∙ sym (take-nil n)
drop_take (suc m) n (x ∷ xs) = ap (λ (k : ℕ). drop (suc m) (take k (x ∷ xs))) (suc-add m n) ∙ drop_take m n xs

-- the bytes ahead there are the body
ahead_inside : (bytes : List ℕ) (least len : ℕ) → ahead bytes (inside least len) ≡ take len (drop 3 bytes)
ahead_inside bytes least len = drop_take 3 len bytes

count_at : (bytes : List ℕ) (p : Position) (most : ℕ) → count_from bytes (Ok p) most ≡ counted p (count_outcome p.at (read_count p.names most (ahead bytes p)))
count_at bytes p most = refl

-- what the whole of the bytes tells, with the two counts
unfoldable settled : {A : Type 0} → (A → ℕ × ℕ) → Outcome A → Reached
settled counts (refused k) = Err (refusal k)
settled counts (got a n) = Ok (record { at = n; end = n; names = (counts a).0; before = (counts a).1 })

whole_refused : (size : ℕ) (k : Refusal) → whole_of size (Err k) ≡ Err k
whole_refused size k = refl

process_refused : (bytes : List ℕ) (most depth : ℕ) (k : Refusal) → process_from bytes (count_from bytes (Err k) most) depth ≡ Err k
process_refused bytes most depth k = refl

module _ {A : Type 0} (counts : A → ℕ × ℕ) (bytes : List ℕ) (least : ℕ) where
  whole_inside : (len : ℕ) (o : Outcome A) → whole_of (length bytes) (behind counts (inside least len) o) ≡ settled counts (ends (length bytes) (whole len o))
  unfolding behind settled ends whole refusal
  whole_inside len (refused k) = refl
  whole_inside len (got a n) = go (eqb n len) refl
    where
      last : (b : Bool) → pick b (Ok (record { at = 3 + len; end = 3 + len; names = (counts a).0; before = (counts a).1 })) (Err LeftOver) ≡ settled counts (pick b (got a (3 + len)) (refused 4))
      last true = refl
      last false = refl

      go : (b : Bool) → eqb n len ≡ b
          → pick (eqb (3 + n) (3 + len)) (pick (eqb (3 + len) (length bytes)) (Ok (record { at = 3 + n; end = 3 + len; names = (counts a).0; before = (counts a).1 })) (Err LeftOver)) (Err LeftOver)
          ≡ settled counts (ends (length bytes) (pick b (got a (3 + len)) (refused 4)))
      go true e = let q : n ≡ len = eqb-true n len e in rw (q, eq-eqb (3 + len) (3 + len) refl) (last (eqb (3 + len) (length bytes)))
      go false e = rw (ne_eqb (3 + n) (3 + len) (λ z. eqb-false n len e (omega (arith, z))))

  -- parts that read the body of a field read the field
  field_handed : (body : List ℕ → Outcome A) (last : List ℕ → Reached → ℕ → Reached) (tag most limit : ℕ) → ((k : Refusal) → last bytes (count_from bytes (Err k) most) limit ≡ Err k)
      → ((len : ℕ) → last bytes (count_from bytes (Ok (inside least len)) most) limit ≡ behind counts (inside least len) (body (take len (drop 3 bytes))))
      → whole_of (length bytes) (parts_by last bytes tag least most limit) ≡ settled counts (ends (length bytes) (read_field (open_field tag tag bytes) bytes (λ tag rest. body rest)))
  unfolding field_at read_field ends settled
  field_handed body last tag most limit stays reads = rw (ahead_front bytes least) (go (open_field tag tag bytes))
    where
      go : (o : Opened) → whole_of (length bytes) (last bytes (count_from bytes (entered (record { at = 0; end = length bytes; names = least; before = 0 }) (field_at 0 o)) most) limit)
          ≡ settled counts (ends (length bytes) (read_field o bytes (λ tag rest. body rest)))
      go (shut k) = ap (whole_of (length bytes)) (stays (refusal k)) ∙ whole_refused (length bytes) (refusal k)
      go (opened found len) = ap (whole_of (length bytes)) (reads len) ∙ whole_inside len (body (take len (drop 3 bytes)))

-- Jobs

unfoldable job_counts : Job → ℕ × ℕ
job_counts (job F P) = (F, free_name_least)

job_inside : (bytes : List ℕ) (len : ℕ) → process_from bytes (count_from bytes (Ok (inside free_name_least len)) free_name_limit) job_depth_limit ≡ behind job_counts (inside free_name_least len) (job_body (take len (drop 3 bytes)))
unfolding job_body job_counts
job_inside bytes len =
    ap (λ (r : Reached). process_from bytes r job_depth_limit) (count_at bytes (inside free_name_least len) free_name_limit)
    ∙ counted_then job_counts bytes (inside free_name_least len) (read_count free_name_least free_name_limit (ahead bytes (inside free_name_least len))) (λ F rest. map_outcome (job F) (read_process job_depth_limit F 0 rest)) _
    (λ v n. passed_behind (past (inside free_name_least len) v n) _ ∙ sym (behind_map job_counts (past (inside free_name_least len) v n) (job v) _))
    ∙ ap (λ (body : List ℕ). behind job_counts (inside free_name_least len) (job_body body)) (ahead_inside bytes free_name_least len)

unfoldable pub job_of : Reached → Result ℕ Refusal
job_of (Err e) = Err e
job_of (Ok p) = Ok p.names

job_settled : (o : Outcome Job) → job_of (settled job_counts o) ≡ job_answer o
unfolding job_of settled job_counts job_answer
job_settled (refused k) = refl
job_settled (got (job F P) n) = refl

pub job_handed : (bytes : List ℕ) → length bytes ≤ byte_limit → (r : Reached) → r ≡ whole_of (length bytes) (parts_by process_from bytes 0x10 free_name_least free_name_limit job_depth_limit) → job_of r ≡ job_answer (read_job bytes)
unfolding read_job
job_handed bytes short r e =
    rw (le-ltb _ _ short)
    (ap job_of (e ∙ field_handed job_counts bytes free_name_least job_body process_from 0x10 free_name_limit job_depth_limit (process_refused bytes free_name_limit job_depth_limit) (job_inside bytes)) ∙ job_settled (ends (length bytes) (read_field (open_field 0x10 0x10 bytes) bytes (λ tag body. job_body body))))

-- States

unfoldable state_counts : State → ℕ × ℕ
state_counts (state F N L) = (N, F)

module _ (nest : ℕ) (bytes : List ℕ) where
  rest_at : (p : Position) → rest_from bytes (Ok p) nest ≡ behind state_counts p (state_rest nest p.names (ahead bytes p))
  unfolding state_rest state_counts
  rest_at p =
      ap (λ (r : Reached). elements_from bytes r nest) (count_at bytes p name_limit)
      ∙ counted_then state_counts bytes p (read_count p.names name_limit (ahead bytes p)) (λ N more. map_outcome (state p.names N) (read_elements (read_ambient nest N) unblocked N more)) _
      (λ v n. passed_behind (past p v n) _ ∙ sym (behind_map state_counts (past p v n) (state p.names v) _))

  rest_onward : (r : Reached) → rest_from bytes r nest ≡ onward r (λ p. rest_from bytes (Ok p) nest)
  rest_onward (Err e) = refl
  rest_onward (Ok p) = refl

  state_inside : (len : ℕ) → rest_from bytes (count_from bytes (Ok (inside 0 len)) free_name_limit) nest ≡ behind state_counts (inside 0 len) (state_body nest (take len (drop 3 bytes)))
  unfolding state_body
  state_inside len =
      rest_onward (count_from bytes (Ok (inside 0 len)) free_name_limit)
      ∙ ap (λ (r : Reached). onward r (λ p. rest_from bytes (Ok p) nest)) (count_at bytes (inside 0 len) free_name_limit)
      ∙ counted_then state_counts bytes (inside 0 len) (read_count 0 free_name_limit (ahead bytes (inside 0 len))) (state_rest nest) _ (λ v n. rest_at (past (inside 0 len) v n))
      ∙ ap (λ (body : List ℕ). behind state_counts (inside 0 len) (state_body nest body)) (ahead_inside bytes 0 len)

  rest_refused : (most : ℕ) (k : Refusal) → rest_from bytes (count_from bytes (Err k) most) nest ≡ Err k
  rest_refused most k = refl

unfoldable pub state_of : Reached → Result Names Refusal
state_of (Err e) = Err e
state_of (Ok p) = Ok (record { free = p.before; next = p.names })

state_settled : (o : Outcome State) → state_of (settled state_counts o) ≡ state_answer o
unfolding state_of settled state_counts state_answer
state_settled (refused k) = refl
state_settled (got (state F N L) n) = refl

pub state_handed : (nest : ℕ) (bytes : List ℕ) → length bytes ≤ byte_limit → (r : Reached) → r ≡ whole_of (length bytes) (parts_by rest_from bytes 0x11 0 free_name_limit nest) → state_of r ≡ state_answer (parse_state nest bytes)
unfolding parse_state
state_handed nest bytes short r e =
    rw (le-ltb _ _ short)
    (ap state_of (e ∙ field_handed state_counts bytes 0 (state_body nest) rest_from 0x11 free_name_limit nest (rest_refused nest bytes free_name_limit) (state_inside nest bytes)) ∙ state_settled (ends (length bytes) (read_field (open_field 0x11 0x11 bytes) bytes (λ tag body. state_body nest body))))
