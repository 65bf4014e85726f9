-- A process within the limits reads back from its spelling.
use Rattle.buffers.proofs.Parts.{length_field}
use mathlib.Core.Path.{◌≡◌, refl, sym, ap, ◌∙◌, subst}
use mathlib.Core.List.{List, [], ◌∷◌, ◌++◌, append_assoc, append-nil}
use Prim.Native.Nat.{ℕ, zero, suc, ◌+◌, ◌-◌, ◌*◌, ◌/◌, ◌%◌, ◌≤◌, ◌<◌}
use native.Mathlib.Nat.{add_comm}
use native.Mathlib.Numerals.{add-one}
use native.Mathlib.Omega.{arith}
use borrow.Author.Tests.{lt-ltb, le-ltb, eq-eqb, ne_eqb}
use lib.ListN.{length, take, drop, length-append}
use lib.Seq.{take_at, drop_at}
use Rattle.calculus.specs.Processes.{Reference, name, variable, Action, Process, null, parallel, restriction, ambient, action, replication, binders}
use Rattle.machine.specs.Limits.{name_limit}
use Rattle.machine.specs.Elements.{depth}
use Rattle.machine.specs.Validity.{ReferenceScoped, AllScoped, ActionScoped, ProcessScoped}
use Rattle.format.specs.Spelling.{first_variable, word_limit, reference_number, encode_reference, encode_references, encode_action, encode}
use Rattle.buffers.specs.Words.{word, field}
use Rattle.format.specs.Spellable.{CountedAction, Counted}
use Rattle.machine.specs.Kinds.{count, kind_of}
use Rattle.format.specs.Kinds.{tag_with, action_tag, spelled_count, address_of, handed}
use Rattle.format.specs.Reading.{Outcome, got, map_outcome, shift, and_then, opened, open_field, whole, read_field, reference_of, read_reference, read_references, read_spelled_count, read_name_count, read_action_parts, read_action, read_acting, shape_of, read_parts, read_process, read_count}
use Rattle.format.proofs.ActionKinds.{implied_is, tag_implied, tag_spelled, by_count, spelled_few, tag_below, tag_range, tag_kind_with, tag_kind_action}
use Rattle.format.proofs.Actions.{scoped_is, parts_is, few_parts}
use Rattle.format.proofs.InScope.{Readable, ReadableActing}

-- Words, counts and fields

pub word_back : (v : ℕ) → v / 256 * 256 + v % 256 ≡ v
word_back v = omega arith

pub reads_count : (least most v : ℕ) (rest : List ℕ) → least ≤ v → v ≤ most → read_count least most (word v ++ rest) ≡ got v 2
unfolding read_count word
reads_count least most v rest low high =
    let n : 2 ≤ suc (suc (length rest)) = omega arith in
    simp (le-ltb _ _ n, word_back v, le-ltb _ _ low, le-ltb _ _ high)

module _ (low high tag : ℕ) (body rest : List ℕ) (above : low ≤ tag) (below : tag ≤ high) (short : length body < word_limit) where
  pub open_field_law : open_field low high (field tag body ++ rest) ≡ opened tag (length body)
  unfolding open_field field word
  open_field_law =
      let l = length-append body rest in
      let long : 3 ≤ suc (suc (suc (length (body ++ rest)))) = omega arith in
      let fits : length body ≤ suc (suc (suc (length (body ++ rest)))) - 3 = omega arith in
      simp (le-ltb _ _ long, le-ltb _ _ above, le-ltb _ _ below, word_back (length body), le-ltb _ _ fits)

  field_body : take (length body) (drop 3 (field tag body ++ rest)) ≡ body
  unfolding field word
  field_body = take_at body rest (length body) refl

  -- a field reads back where its body does
  pub enter_field : {A : Type 0} (f : ℕ → List ℕ → Outcome A) (a : A) → f tag body ≡ got a (length body)
      → read_field (open_field low high (field tag body ++ rest)) (field tag body ++ rest) f ≡ got a (length (field tag body))
  unfolding read_field whole
  enter_field f a e = rw (open_field_law, field_body, e, eq-eqb (length body) (length body) refl, length_field tag body)

-- one part and then another
pub then_reads : {A B : Type 0} (o : Outcome A) (a : A) (x y : List ℕ) (f : A → List ℕ → Outcome B) (b : B) (m : ℕ)
    → o ≡ got a (length x) → f a y ≡ got b m → and_then o (x ++ y) f ≡ got b (length x + m)
unfolding and_then shift
then_reads o a x y f b m e g = rw (e, drop_at x y (length x) refl, g)

-- References and actions

pub length_reference : (r : Reference) → length (encode_reference r) ≡ 2
unfolding encode_reference word
length_reference r = refl

pub length_references : (rs : List Reference) → length (encode_references rs) ≡ 2 * length rs
unfolding encode_references
length_references [] = refl
length_references (r ∷ rs) =
    omega (arith, length-append (encode_reference r) (encode_references rs), length_reference r, length_references rs)

length_count : (α : Action) → length (spelled_count α) ≤ 1
length_count α =
    by_count (kind_of α) (count α)
    (λ e. omega (arith, ap length (tag_implied (kind_of α) (count α) e).1))
    (λ e. omega (arith, ap length (tag_spelled (kind_of α) (count α) e).1))

-- an action has a target and a channel at most, and as many names as its count
body_short : (α : Action) → CountedAction α → length (encode_references (address_of α) ++ (spelled_count α ++ encode_references (handed α))) ≤ 13
body_short α s =
    omega (
      arith,
      length-append (encode_references (address_of α)) (spelled_count α ++ encode_references (handed α)),
      length-append (spelled_count α) (encode_references (handed α)),
      length_references (address_of α),
      length_references (handed α),
      length_count α,
      few_parts α s,
    )

module _ (names around : ℕ) (few : names ≤ name_limit) where
  pub reads_reference : (r : Reference) (rest : List ℕ) → ReferenceScoped names around r
      → read_reference names around (encode_reference r ++ rest) ≡ got r (length (encode_reference r))
  unfolding read_reference reference_of encode_reference reference_number word ReferenceScoped
  reads_reference (name n) rest h =
      let two : 2 ≤ suc (suc (length rest)) = omega arith in
      let small : n < name_limit = omega arith in
      simp (le-ltb _ _ two, word_back n, lt-ltb _ _ small, lt-ltb _ _ h)
  reads_reference (variable i) rest h =
      let two : 2 ≤ suc (suc (length rest)) = omega arith in
      let no_name : name_limit ≤ first_variable + i = omega arith in
      let bound : first_variable ≤ first_variable + i = omega arith in
      let index : first_variable + i - first_variable ≡ i = omega arith in
      simp (le-ltb _ _ two, word_back (first_variable + i), le-ltb _ _ no_name, le-ltb _ _ bound, index, lt-ltb _ _ h)

  reads_references : (rs : List Reference) (rest : List ℕ) → AllScoped names around rs
      → read_references (length rs) names around (encode_references rs ++ rest) ≡ got rs (length (encode_references rs))
  unfolding read_references encode_references map_outcome AllScoped
  reads_references [] rest h = refl
  reads_references (r ∷ rs) rest h =
      rw (append_assoc, length-append)
      (then_reads _ r (encode_reference r) (encode_references rs ++ rest) _ (r ∷ rs) (length (encode_references rs)) (reads_reference r _ h.0) (rw (reads_references rs rest h.1)))

  references_whole : (rs : List Reference) → AllScoped names around rs
      → read_references (length rs) names around (encode_references rs) ≡ got rs (length (encode_references rs))
  references_whole rs h = rw append-nil at (reads_references rs [] h)

  -- the count of an action reads back from its tag, or from the byte behind target and channel
  reads_name_count : (α : Action) (rest : List ℕ) → CountedAction α → read_name_count (action_tag α) (spelled_count α ++ rest) ≡ got (count α) (length (spelled_count α))
  unfolding read_spelled_count read_name_count action_tag
  reads_name_count α rest s =
      let k = kind_of α in
      let n = count α in
      by_count k n
      (λ e.
      let t = tag_implied k n e in
      let low : tag_with k n < 0x38 = omega (arith, t.0, tag_below k) in
      rw (t.1, tag_kind_with k n, ← e) (simp (lt-ltb _ _ low)))
      (λ e.
      let t = tag_spelled k n e in
      let high : 0x38 ≤ tag_with k n = omega (arith, t.0, tag_below k) in
      let some : 1 ≤ suc (length rest) = omega arith in
      rw t.1 (simp (le-ltb _ _ high, le-ltb _ _ some, ne_eqb n 1 (λ z. e (z ∙ sym ((implied_is k).0 (spelled_few α e)))), le-ltb _ _ (few_parts α s).2)))

  reads_action_parts : (α : Action) → ActionScoped names around α → CountedAction α
      → read_action_parts (action_tag α) names around (encode_references (address_of α) ++ (spelled_count α ++ encode_references (handed α)))
      ≡ got α (length (encode_references (address_of α) ++ (spelled_count α ++ encode_references (handed α))))
  unfolding read_action_parts map_outcome
  reads_action_parts α h s =
      let v = (scoped_is names around α).0 h in
      let p = parts_is α in
      rw (tag_kind_action α, length-append (encode_references (address_of α)), length-append (spelled_count α), ← p.0)
      (then_reads _ (address_of α) (encode_references (address_of α)) (spelled_count α ++ encode_references (handed α)) _ α (length (spelled_count α) + length (encode_references (handed α)))
      (reads_references (address_of α) _ v.0)
      (then_reads _ (count α) (spelled_count α) (encode_references (handed α)) _ α (length (encode_references (handed α)))
      (reads_name_count α (encode_references (handed α)) s)
      (rw (← p.1, references_whole (handed α) v.1, p.2))))

  reads_action : (α : Action) (rest : List ℕ) → ActionScoped names around α → CountedAction α
      → read_action names around (encode_action α ++ rest) ≡ got α (length (encode_action α))
  unfolding read_action encode_action
  reads_action α rest h s =
      enter_field 0x30 0x3B (action_tag α) (encode_references (address_of α) ++ (spelled_count α ++ encode_references (handed α))) rest
      (tag_range α).0
      (tag_range α).1
      (omega (arith, body_short α s))
      _ α
      (reads_action_parts α h s)

-- Processes

module _ (d names : ℕ) (few : names ≤ name_limit) (P : ℕ → List ℕ → Outcome Process)
    (hP : (b : ℕ) (p : Process) (rest : List ℕ) → Readable d names b p → length (encode p) < word_limit → P b (encode p ++ rest) ≡ got p (length (encode p))) where
  part_whole : (b : ℕ) (p : Process) → Readable d names b p → length (encode p) < word_limit → P b (encode p) ≡ got p (length (encode p))
  part_whole b p h l = rw append-nil at (hP b p [] h l)

  pub reads_acting : (around : ℕ) (α : Action) (p : Process) (rest : List ℕ) → ReadableActing d names around α p → length (encode p) < word_limit
      → read_acting P names around ((encode_action α ++ encode p) ++ rest) ≡ got (α, p) (length (encode_action α ++ encode p))
  unfolding read_acting map_outcome
  reads_acting around α p rest h l =
      let g : Readable d names (around + binders α) p = (h.0, subst (λ b. ProcessScoped names b p) (add_comm (binders α) around) h.2, h.4) in
      rw (append_assoc, length-append)
      (then_reads _ α (encode_action α) (encode p ++ rest) _ (α, p) (length (encode p)) (reads_action names around few α (encode p ++ rest) h.1 h.3)
      (rw (hP (around + binders α) p rest g l)))

  acting_whole : (around : ℕ) (α : Action) (p : Process) → ReadableActing d names around α p → length (encode p) < word_limit
      → read_acting P names around (encode_action α ++ encode p) ≡ got (α, p) (length (encode_action α ++ encode p))
  acting_whole around α p h l = rw append-nil at (reads_acting around α p [] h l)

  -- one level: the field of a process whose parts read back
  reads_level : (around : ℕ) (p : Process) (rest : List ℕ) → Readable (suc d) names around p → length (encode p) < word_limit
      → read_field (open_field 0x20 0x25 (encode p ++ rest)) (encode p ++ rest) (λ tag body. read_parts (shape_of tag) P names around body) ≡ got p (length (encode p))
  unfolding encode read_parts shape_of map_outcome depth ProcessScoped Counted
  reads_level b null rest h l = enter_field 0x20 0x25 0x20 [] rest (omega arith) (omega arith) (omega arith) _ null refl
  reads_level b (parallel p q) rest h l =
      let n = length_field 0x21 (encode p ++ encode q) in
      let m = length-append (encode p) (encode q) in
      enter_field 0x20 0x25 0x21 (encode p ++ encode q) rest (omega arith) (omega arith) (omega arith) _ (parallel p q)
      (rw length-append (then_reads _ p (encode p) (encode q) _ (parallel p q) (length (encode q))
      (hP b p (encode q) (omega arith, h.1.0, h.2.0) (omega arith))
      (rw (part_whole b q (omega arith, h.1.1, h.2.1) (omega arith)))))
  reads_level b (restriction p) rest h l =
      let n = length_field 0x22 (encode p) in
      enter_field 0x20 0x25 0x22 (encode p) rest (omega arith) (omega arith) (omega arith) _ (restriction p)
      (rw (part_whole (b + 1) p (omega arith, subst (λ b. ProcessScoped names b p) (sym (add-one b)) h.1, h.2) (omega arith)))
  reads_level b (ambient r p) rest h l =
      let n = length_field 0x23 (encode_reference r ++ encode p) in
      let m = length-append (encode_reference r) (encode p) in
      enter_field 0x20 0x25 0x23 (encode_reference r ++ encode p) rest (omega arith) (omega arith) (omega arith) _ (ambient r p)
      (rw length-append (then_reads _ r (encode_reference r) (encode p) _ (ambient r p) (length (encode p))
      (reads_reference names b few r (encode p) h.1.0)
      (rw (part_whole b p (omega arith, h.1.1, h.2) (omega arith)))))
  reads_level b (action α p) rest h l =
      let n = length_field 0x24 (encode_action α ++ encode p) in
      let m = length-append (encode_action α) (encode p) in
      enter_field 0x20 0x25 0x24 (encode_action α ++ encode p) rest (omega arith) (omega arith) (omega arith) _ (action α p)
      (rw (acting_whole b α p (omega arith, h.1.0, h.1.1, h.2.0, h.2.1) (omega arith)))
  reads_level b (replication α p) rest h l =
      let n = length_field 0x25 (encode_action α ++ encode p) in
      let m = length-append (encode_action α) (encode p) in
      enter_field 0x20 0x25 0x25 (encode_action α ++ encode p) rest (omega arith) (omega arith) (omega arith) _ (replication α p)
      (rw (acting_whole b α p (omega arith, h.1.0, h.1.1, h.2.0, h.2.1) (omega arith)))

depth_one : (p : Process) → 1 ≤ depth p
unfolding depth
depth_one null = omega arith
depth_one (parallel p q) = omega arith
depth_one (restriction p) = omega arith
depth_one (ambient a p) = omega arith
depth_one (action α p) = omega arith
depth_one (replication α p) = omega arith

pub reads_process : (d names around : ℕ) (p : Process) (rest : List ℕ) → names ≤ name_limit → Readable d names around p → length (encode p) < word_limit
    → read_process d names around (encode p ++ rest) ≡ got p (length (encode p))
unfolding read_process
reads_process zero names around p rest few h l = absurd (omega (arith, depth_one p, h.0))
reads_process (suc d) names around p rest few h l =
    reads_level d names few (read_process d names) (λ b q r g m. reads_process d names b q r few g m) around p rest h l
