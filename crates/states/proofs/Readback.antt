-- The spelling of readable elements, of a valid job or of a valid state reads back.
use mathlib.Core.Path.{◌≡◌, refl}
use mathlib.Core.List.{List, [], ◌++◌, append_assoc, append-nil}
use Prim.Native.Nat.{ℕ, zero, suc, ◌≤◌, ◌<◌}
use native.Mathlib.Omega.{arith}
use lib.ListN.{length, length-append}
use Rattle.calculus.specs.Processes.{Reference, Action, Process}
use Rattle.machine.specs.Limits.{free_name_least, free_name_limit, name_limit, state_depth_limit, blocked_depth_limit, byte_limit, job_depth_limit}
use Rattle.machine.specs.Elements.{Status, unblocked, blocked, Elements, empty, ambient_then, process_then, blocked_then, state}
use Rattle.buffers.specs.Words.{word, field}
use Rattle.format.specs.Spelling.{encode_reference, encode_action, encode}
use Rattle.format.specs.Reading.{Outcome, got, map_outcome, and_then, open_field, read_field, read_process, read_acting, read_count}
use Rattle.format.proofs.InScope.{Readable, ReadableActing}
use Rattle.buffers.proofs.Parts.{length_field}
use Rattle.format.proofs.Readback.{enter_field, then_reads, reads_count, reads_reference, reads_process, reads_acting}
use Rattle.elements.specs.Spelling.{ambient_tag, encode_elements, job, encode_job, encode_state}
use Rattle.states.specs.Reading.{ElementShape, is_process, is_blocked_action, element_parts, read_element, read_up_to, read_elements, read_ambient, job_body, read_job, state_rest, state_body, parse_state}
use Rattle.states.specs.Theorems.{ValidJobOf}
use Rattle.states.proofs.Shapes.{element_tag, tag_shape, tag_range, ambient_shape, ambient_tag_law, Due, open_element_law}
use Rattle.states.proofs.Whole.{whole_job, whole_state}
use Rattle.states.proofs.Readable.{ReadableElements, ReadableAmbient, readable_ambient, readable_process, readable_blocked}
use Rattle.states.proofs.InScope.{ParsedState}

-- Processes to the end of the bytes

process_whole : (d names around : ℕ) (P : Process) → names ≤ name_limit → Readable d names around P → length (encode P) < 65536
    → read_process d names around (encode P) ≡ got P (length (encode P))
process_whole d names around P few h short = rw append-nil at (reads_process d names around P [] few h short)

acting_whole : (d names around : ℕ) (α : Action) (P : Process) → names ≤ name_limit → ReadableActing d names around α P → length (encode P) < 65536
    → read_acting (read_process d names) names around (encode_action α ++ encode P) ≡ got (α, P) (length (encode_action α ++ encode P))
acting_whole d names around α P few h short =
    rw append-nil at (reads_acting d names few (read_process d names) (λ b p r g l. reads_process d names b p r few g l) around α P [] h short)

-- Elements

module _ (A : Status → List ℕ → Outcome (Elements → Elements)) (nest names : ℕ) (few : names ≤ name_limit)
    (hA : (s : Status) (a : Reference) (B : Elements) → ReadableAmbient nest names s a B → length (encode_reference a ++ encode_elements B) < 65536
    → A s (encode_reference a ++ encode_elements B) ≡ got (ambient_then s a B) (length (encode_reference a ++ encode_elements B))) where
  -- an element that is due reads back where its parts do
  reads_element : (s : Status) (k : ElementShape) (tag : ℕ) (body rest : List ℕ) (E : Elements → Elements) → element_tag k ≡ tag → Due s k
      → length body < 65536 → element_parts k A names body ≡ got E (length body)
      → read_element A s names (field tag body ++ rest) ≡ got E (length (field tag body))
  unfolding read_element
  reads_element s k tag body rest E is due short e =
      rw (← is, open_element_law s k body rest due short)
      (enter_field 0x40 0x43 (element_tag k) body rest (tag_range k).0 (tag_range k).1 short _ E (rw (tag_shape k) e))

  up_to_field : (s : Status) (fuel tag : ℕ) (body rest : List ℕ)
      → read_up_to A s names (suc fuel) (field tag body ++ rest)
      ≡ and_then (read_element A s names (field tag body ++ rest)) (field tag body ++ rest) (λ E more. map_outcome E (read_up_to A s names fuel more))
  unfolding read_up_to field
  up_to_field s fuel tag body rest = refl

  ReadsUpTo : Status → Elements → List ℕ → Type 0
  ReadsUpTo s L bytes = (fuel : ℕ) → length bytes ≤ fuel → length bytes < 65536 → read_up_to A s names fuel bytes ≡ got L (length bytes)

  -- a list reads back where its first element and the others do
  reads_first : (s : Status) (k : ElementShape) (tag : ℕ) (body : List ℕ) (E : Elements → Elements) (C : Elements) → element_tag k ≡ tag → Due s k
      → (length body < 65536 → element_parts k A names body ≡ got E (length body))
      → ReadsUpTo s C (encode_elements C) → ReadsUpTo s (E C) (field tag body ++ encode_elements C)
  unfolding ReadsUpTo map_outcome
  reads_first s k tag body E C is due first others zero enough short =
      absurd (omega (arith, length-append (field tag body) (encode_elements C), length_field tag body))
  reads_first s k tag body E C is due first others (suc fuel) enough short =
      let m = length-append (field tag body) (encode_elements C) in
      let n = length_field tag body in
      let l : length body < 65536 = omega arith in
      rw (up_to_field s fuel tag body (encode_elements C), m)
      (then_reads _ E (field tag body) (encode_elements C) _ (E C) (length (encode_elements C))
      (reads_element s k tag body (encode_elements C) E is due l (first l))
      (rw (others fuel (omega arith) (omega arith))))

  reads_empty : (s : Status) → ReadsUpTo s empty []
  unfolding ReadsUpTo read_up_to
  reads_empty s zero enough short = refl
  reads_empty s (suc fuel) enough short = refl

  ambient_parts : (s : Status) (body : List ℕ) → element_parts (ambient_shape s) A names body ≡ A s body
  unfolding element_parts ambient_shape
  ambient_parts unblocked body = refl
  ambient_parts blocked body = refl

  reads_list : (s : Status) (L : Elements) → ReadableElements s nest names L → ReadsUpTo s L (encode_elements L)
  unfolding encode_elements element_tag element_parts map_outcome
  reads_list s empty r = reads_empty s
  reads_list s (ambient_then t a B C) r =
      let h = (readable_ambient s names nest t a B C).0 r in
      reads_first s (ambient_shape t) (ambient_tag t) _ (ambient_then t a B) C (ambient_tag_law t) h.0
      (λ l. rw (ambient_parts t (encode_reference a ++ encode_elements B)) (hA t a B h.1 l))
      (reads_list s C h.2)
  reads_list s (process_then P C) r =
      let h = (readable_process s names nest P C).0 r in
      reads_first s is_process 0x42 _ (process_then P) C refl h.0 (λ l. rw (process_whole state_depth_limit names 0 P few h.1 l)) (reads_list s C h.2)
  reads_list s (blocked_then α P C) r =
      let h = (readable_blocked s names nest α P C).0 r in
      reads_first s is_blocked_action 0x43 _ (blocked_then α P) C refl h.0
      (λ l. let m = length-append (encode_action α) (encode P) in rw (acting_whole blocked_depth_limit names 0 α P few h.1 (omega arith)))
      (reads_list s C h.2)

  pub reads_elements : (s : Status) (L : Elements) → ReadableElements s nest names L → length (encode_elements L) < 65536
      → read_elements A s names (encode_elements L) ≡ got L (length (encode_elements L))
  unfolding read_elements ReadsUpTo
  reads_elements s L r short = reads_list s L r (length (encode_elements L)) (omega arith) short

pub reads_ambient : (nest names : ℕ) (s : Status) (a : Reference) (B : Elements) → names ≤ name_limit → ReadableAmbient nest names s a B
    → length (encode_reference a ++ encode_elements B) < 65536
    → read_ambient nest names s (encode_reference a ++ encode_elements B) ≡ got (ambient_then s a B) (length (encode_reference a ++ encode_elements B))
unfolding ReadableAmbient read_ambient map_outcome
reads_ambient zero names s a B few r short = absurd r
reads_ambient (suc nest) names s a B few r short =
    let m = length-append (encode_reference a) (encode_elements B) in
    rw m
    (then_reads _ a (encode_reference a) (encode_elements B) _ (ambient_then s a B) (length (encode_elements B))
    (reads_reference names 0 few a (encode_elements B) r.0)
    (rw (reads_elements (read_ambient nest names) nest names few (λ t b D h l. reads_ambient nest names t b D few h l) s B r.1 (omega arith))))

-- Jobs and states

-- the one field of the bytes reads back where its body does
field_whole : {A : Type 0} (tag : ℕ) (body : List ℕ) (f : ℕ → List ℕ → Outcome A) (a : A) → length body < 65536 → f tag body ≡ got a (length body)
    → read_field (open_field tag tag (field tag body)) (field tag body) f ≡ got a (length (field tag body))
field_whole tag body f a short e = rw append-nil at (enter_field tag tag tag body [] (omega arith) (omega arith) short f a e)

-- a count and then the rest
count_then : {B : Type 0} (least most v : ℕ) (rest : List ℕ) (f : ℕ → List ℕ → Outcome B) (b : B) → least ≤ v → v ≤ most → f v rest ≡ got b (length rest)
    → and_then (read_count least most (word v ++ rest)) (word v ++ rest) f ≡ got b (length (word v ++ rest))
unfolding word
count_then least most v rest f b low high e =
    rw length-append (then_reads _ v (word v) rest f b (length rest) (reads_count least most v rest low high) e)

pub reads_job : (F : ℕ) (P : Process) → ValidJobOf F P → length (encode_job (job F P)) ≤ byte_limit
    → read_job (encode_job (job F P)) ≡ got (job F P) (length (encode_job (job F P)))
unfolding encode_job job_body map_outcome
reads_job F P v within =
    let body = word F ++ encode P in
    let n = length_field 0x10 body in
    let m = length-append (word F) (encode P) in
    whole_job (field 0x10 body) (job F P)
    (field_whole 0x10 body (λ tag body. job_body body) (job F P) (omega arith)
    (count_then free_name_least free_name_limit F (encode P) _ (job F P) v.some_free v.few_free
    (rw (process_whole job_depth_limit F 0 P (omega (arith, v.few_free)) (v.shallow, v.scoped, v.counted) (omega arith)))))
    within

pub reads_state : (nest F N : ℕ) (L : Elements) → ParsedState nest F N L → length (encode_state (state F N L)) ≤ byte_limit
    → parse_state nest (encode_state (state F N L)) ≡ got (state F N L) (length (encode_state (state F N L)))
unfolding encode_state state_body state_rest map_outcome
reads_state nest F N L v within =
    let rest = word N ++ encode_elements L in
    let n = length_field 0x11 (word F ++ rest) in
    let m = length-append (word F) rest in
    let l = length-append (word N) (encode_elements L) in
    let few : length (field 0x11 (word F ++ rest)) ≤ byte_limit = rw append_assoc at within in
    rw append_assoc
    (whole_state nest (field 0x11 (word F ++ rest)) (state F N L)
    (field_whole 0x11 (word F ++ rest) (λ tag body. state_body nest body) (state F N L) (omega arith)
    (count_then 0 free_name_limit F rest _ (state F N L) (omega arith) v.few_free
    (count_then F name_limit N (encode_elements L) _ (state F N L) v.free_below v.few_names
    (rw (reads_elements (read_ambient nest N) nest N v.few_names (λ s a B h k. reads_ambient nest N s a B v.few_names h k) unblocked L v.readable (omega arith))))))
    few)
