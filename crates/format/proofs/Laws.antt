-- Laws of the readers over lists: what an answer of the code says of them.
use mathlib.Core.Path.{◌≡◌, refl, sym, ap, ap₂, ◌∙◌}
use mathlib.Core.Logic.{◌⊎◌, inl, inr, ⊎_elim}
use mathlib.Core.List.{List, [], ◌∷◌}
use mathlib.Core.Bool.{Bool, true, false}
use Prim.Native.Nat.{ℕ, zero, suc, ◌+◌, ◌-◌, ◌*◌, ◌≤◌, ◌<◌}
use native.Mathlib.Nat.{add_assoc, add-zero, zero-add, suc-add}
use native.Mathlib.Numerals.{sub-one}
use native.Mathlib.Omega.{arith}
use borrow.Author.Tests.{ltb-true, ltb-false, eqb-false, lt-ltb, le-ltb, eq-eqb, ne_eqb}
use lib.ListN.{length, get_or, take, drop, length-drop, get_or-eq_default}
use lib.Seq.{get_or-drop, drop-drop}
use lib.Dec.{ltb, eqb}
use Rattle.calculus.specs.Processes.{Reference, name, variable, Action, Process, binders}
use Rattle.machine.specs.Limits.{name_limit, count_limit}
use Rattle.format.specs.Spelling.{first_variable}
use Rattle.format.specs.Kinds.{tag_kind, reference_count, directed_of, handed_count, binder_count, implied_count, action_from}
use Rattle.format.specs.Reading.{word_at, Outcome, refused, got, Opened, shut, opened, map_outcome, shift, and_then, whole, read_field, open_field, reference_of, read_reference, read_references, read_spelled_count, read_name_count, read_action_parts, read_action, is_action, is_replication, read_parts, read_acting, shape_of, read_process, read_count}
use Rattle.machine.specs.Tests.{pick}
use Rattle.format.specs.Answers.{count_in, answer, field_at, finish_at, count_outcome}
use Rattle.format.specs.declared.Cursor.{Cursor}
use Rattle.std.specs.Prelude.{Result, Ok, Err}
use Rattle.refusals.specs.declared.Refusal.{Refusal}
use Rattle.refusals.specs.declared.Refusal.TheVariants.{CutShort, WrongTag, LeftOver, TooDeep, OutOfRange, WrongCount}
use Rattle.refusals.specs.Refusals.{refusal}
use Rattle.format.specs.declared.Field.{Field}
use Rattle.format.specs.declared.Count.{Count}
use Rattle.format.proofs.ActionKinds.{implied_references}
use Rattle.format.proofs.Actions.{from_kind}

pub word_drop : (s : List ℕ) (at i : ℕ) → word_at (drop at s) i ≡ word_at s (at + i)
word_drop s at i = simp (get_or-drop, add_assoc)

word_drop_0 : (s : List ℕ) (at : ℕ) → word_at (drop at s) 0 ≡ word_at s at
word_drop_0 s at = simp (get_or-drop, add-zero)

-- A field of these, and a count, as the code answers them

abbrev pub opens_as : (tag start end : ℕ) → Result Field Refusal
opens_as tag start end = Ok (record { tag = tag; start = start; end = end })

as_opened : {tag start end : ℕ} {field : Field} → opens_as tag start end ≡ Ok field → (tag ≡ field.tag) × (start ≡ field.start) × (end ≡ field.end)
as_opened {tag} {start} {end} {field} e =
    let q : ◌≡◌ {A = Field} (record { tag = tag; start = start; end = end }) field = cc in
    (ap (λ (d : Field). d.tag) q, ap (λ (d : Field). d.start) q, ap (λ (d : Field). d.end) q)

abbrev pub counts_as : ℕ → Cursor → Result Count Refusal
counts_as v c = Ok (record { value = v; next = c })

as_counted : {v : ℕ} {c : Cursor} {count : Count} → counts_as v c ≡ Ok count → (v ≡ count.value) × (c ≡ count.next)
as_counted {v} {c} {count} e =
    let q : ◌≡◌ {A = Count} (record { value = v; next = c }) count = cc in
    (ap (λ (d : Count). d.value) q, ap (λ (d : Count). d.next) q)

-- Answers of parts in a row

pub answer_done : {A : Type 0} (o : Outcome A) (at : ℕ) (c : Cursor) → Ok c ≡ answer at o → (a : A) × (n : ℕ) × (o ≡ got a n) × (c.at ≡ at + n)
unfolding answer
answer_done (refused j) at c e = absurd (let z : ◌≡◌ {A = ℕ} 0 1 = cc in omega arith)
answer_done (got a n) at c e =
    let p : c ≡ record { at = at + n } = cc in
    (a, n, refl, ap (λ (d : Cursor). d.at) p)

pub answer_map : {A B : Type 0} (f : A → B) (at : ℕ) (o : Outcome A) → answer at (map_outcome f o) ≡ answer at o
unfolding answer map_outcome
answer_map f at (refused k) = refl
answer_map f at (got a n) = refl

answer_shift : {A : Type 0} (at m : ℕ) (o : Outcome A) → answer at (shift m o) ≡ answer (at + m) o
unfolding answer shift
answer_shift at m (refused k) = refl
answer_shift at m (got a n) = simp add_assoc

pub then_refused : {A B : Type 0} (o : Outcome A) (at : ℕ) (k : Refusal) (bytes : List ℕ) (f : A → List ℕ → Outcome B)
    → Err k ≡ answer at o → Err k ≡ answer at (and_then o bytes f)
unfolding answer and_then
then_refused (refused j) at k bytes f e = e
then_refused (got a n) at k bytes f e = absurd (let z : ◌≡◌ {A = ℕ} 0 1 = cc in omega arith)

pub then_ok : {A B : Type 0} (o : Outcome A) (at : ℕ) (c : Cursor) (s : List ℕ) (f : A → List ℕ → Outcome B) (r : Result Cursor Refusal)
    → Ok c ≡ answer at o → ((a : A) (n : ℕ) → o ≡ got a n → r ≡ answer c.at (f a (drop c.at s))) → r ≡ answer at (and_then o (drop at s) f)
unfolding answer and_then
then_ok (refused j) at c s f r e h = absurd (let z : ◌≡◌ {A = ℕ} 0 1 = cc in omega arith)
then_ok (got a n) at c s f r e h =
    let p : c ≡ record { at = at + n } = cc in
    let q : c.at ≡ at + n = ap (λ (d : Cursor). d.at) p in
    h a n refl ∙ rw (q, drop-drop n at s, answer_shift at n (f a (drop (at + n) s)))

-- Fields

pub record Opens (low high : ℕ) (bytes : List ℕ) (tag len : ℕ) : Type 0 where
  pub long : 3 ≤ length bytes
  pub tag_is : tag ≡ get_or bytes 0 0
  pub above : low ≤ tag
  pub below : tag ≤ high
  pub len_is : len ≡ word_at bytes 1
  pub fits : len ≤ length bytes - 3

pub open_inverse : (low high : ℕ) (bytes : List ℕ) (tag len : ℕ) → open_field low high bytes ≡ opened tag len → Opens low high bytes tag len
unfolding open_field
open_inverse low high bytes tag len = go _ _ _ _ refl refl refl refl
  where
    go : (b₁ b₂ b₃ b₄ : Bool)
        → ltb (length bytes) 3 ≡ b₁ → ltb (get_or bytes 0 0) low ≡ b₂ → ltb high (get_or bytes 0 0) ≡ b₃ → ltb (length bytes - 3) (word_at bytes 1) ≡ b₄
        → pick b₁ (shut 2) (pick b₂ (shut 3) (pick b₃ (shut 3) (pick b₄ (shut 2) (opened (get_or bytes 0 0) (word_at bytes 1))))) ≡ opened tag len
        → Opens low high bytes tag len
    go true b₂ b₃ b₄ e₁ e₂ e₃ e₄ e = absurd (let z : ◌≡◌ {A = ℕ} 0 1 = cc in omega arith)
    go false true b₃ b₄ e₁ e₂ e₃ e₄ e = absurd (let z : ◌≡◌ {A = ℕ} 0 1 = cc in omega arith)
    go false false true b₄ e₁ e₂ e₃ e₄ e = absurd (let z : ◌≡◌ {A = ℕ} 0 1 = cc in omega arith)
    go false false false true e₁ e₂ e₃ e₄ e = absurd (let z : ◌≡◌ {A = ℕ} 0 1 = cc in omega arith)
    go false false false false e₁ e₂ e₃ e₄ e =
        let t : tag ≡ get_or bytes 0 0 = cc in
        let l : len ≡ word_at bytes 1 = cc in
        let h₁ = ltb-false _ _ e₁ in
        let h₂ = ltb-false _ _ e₂ in
        let h₃ = ltb-false _ _ e₃ in
        let h₄ = ltb-false _ _ e₄ in
        record { long = h₁; tag_is = t; above = rw t h₂; below = rw t h₃; len_is = l; fits = rw l h₄ }

-- what an open field's answer says: its body lies within the slice
pub open_within : (low high : ℕ) (s : List ℕ) (at tag start end : ℕ)
    → opens_as tag start end ≡ field_at at (open_field low high (drop at s)) → (start ≤ end) × (end ≤ length s)
unfolding field_at
open_within low high s at tag start end e = go _ refl e
  where
    go : (o : Opened) → open_field low high (drop at s) ≡ o → opens_as tag start end ≡ field_at at o → (start ≤ end) × (end ≤ length s)
    go (shut k) q e = absurd (let z : ◌≡◌ {A = ℕ} 0 1 = cc in omega arith)
    go (opened tag' len) q e =
        let i = open_inverse low high (drop at s) tag' len q in
        let a : start ≡ at + 3 = (as_opened e).1 in
        let b : end ≡ at + 3 + len = (as_opened e).2 in
        let l = length-drop at s in
        omega arith

pub field_shut : {A : Type 0} (o : Opened) (at : ℕ) (k : Refusal) (bytes : List ℕ) (f : ℕ → List ℕ → Outcome A)
    → Err k ≡ field_at at o → Err k ≡ answer at (read_field o bytes f)
unfolding field_at answer read_field
field_shut (shut j) at k bytes f e = let q : k ≡ refusal j = cc in ap Err q
field_shut (opened tag len) at k bytes f e = absurd (let z : ◌≡◌ {A = ℕ} 0 1 = cc in omega arith)

-- a field whose inside is refused
field_refused : (A : Type 0) (o : Opened) (at tag start end k : ℕ) (bytes : List ℕ)
    → opens_as tag start end ≡ field_at at o → Err (refusal k) ≡ answer {A = A} at (read_field o bytes (λ tag body. refused k))
unfolding field_at answer read_field whole
field_refused A (shut j) at tag start end k bytes e = absurd (let z : ◌≡◌ {A = ℕ} 0 1 = cc in omega arith)
field_refused A (opened tag' len) at tag start end k bytes e = refl

pub finish_done : (c : Cursor) (len end : ℕ) → c.at ≡ len → Ok (record { at = end }) ≡ finish_at (Ok c) len end
unfolding finish_at
finish_done c len end e = simp (eq-eqb _ _ e)

pub finish_leftover : (c : Cursor) (len end : ℕ) → (c.at ≡ len → ⊥) → Err LeftOver ≡ finish_at (Ok c) len end
unfolding finish_at refusal
finish_leftover c len end e = simp (ne_eqb _ _ e)

finish_whole : {A : Type 0} (o : Outcome A) (at len : ℕ) → finish_at (answer 0 o) len (at + 3 + len) ≡ answer at (whole len o)
unfolding answer whole finish_at refusal
finish_whole (refused k) at len = refl
finish_whole (got a n) at len = rw (zero-add n, add_assoc at 3 len) (go (eqb n len))
  where
    go : (b : Bool) → pick b (Ok (record { at = at + (3 + len) })) (Err LeftOver) ≡ answer at (pick b (got a (3 + len)) (refused 4))
    go true = refl
    go false = refl

pub field_open : {A : Type 0} (o : Opened) (at tag start end : ℕ) (s : List ℕ) (f : ℕ → List ℕ → Outcome A)
    → opens_as tag start end ≡ field_at at o
    → finish_at (answer 0 (f tag (take (end - start) (drop start s)))) (end - start) end ≡ answer at (read_field o (drop at s) f)
unfolding field_at read_field
field_open (shut j) at tag start end s f e = absurd (let z : ◌≡◌ {A = ℕ} 0 1 = cc in omega arith)
field_open (opened tag' len) at tag start end s f e =
    let a : start ≡ at + 3 = (as_opened e).1 in
    let b : end ≡ at + 3 + len = (as_opened e).2 in
    let t : tag ≡ tag' = (as_opened e).0 in
    let l : at + 3 + len - (at + 3) ≡ len = omega arith in
    rw (a, b, t, l, drop-drop 3 at s) (finish_whole (f tag' (take len (drop (at + 3) s))) at len)

-- The readers that recurse, at a number that is not 0

pub references_suc : (k names around : ℕ) (bytes : List ℕ) → (k ≡ 0 → ⊥)
    → read_references k names around bytes ≡ and_then (read_reference names around bytes) bytes (λ r rest. map_outcome (λ rs. r ∷ rs) (read_references (k - 1) names around rest))
unfolding read_references
references_suc zero names around bytes h = absurd (h refl)
references_suc (suc k) names around bytes h = rw sub-one

process_suc : (d names around : ℕ) (bytes : List ℕ) → (d ≡ 0 → ⊥)
    → read_process d names around bytes
    ≡ read_field (open_field 0x20 0x25 bytes) bytes (λ tag body. read_parts (shape_of tag) (read_process (d - 1) names) names around body)
unfolding read_process
process_suc zero names around bytes h = absurd (h refl)
process_suc (suc d) names around bytes h = rw sub-one

pub process_shut : (d names around at : ℕ) (k : Refusal) (bytes : List ℕ)
    → Err k ≡ field_at at (open_field 0x20 0x25 bytes) → Err k ≡ answer at (read_process d names around bytes)
unfolding read_process
process_shut zero names around at k bytes e = field_shut _ at k bytes _ e
process_shut (suc d) names around at k bytes e = field_shut _ at k bytes _ e

pub process_zero : (d names around at tag start end : ℕ) (bytes : List ℕ) → d ≡ 0
    → opens_as tag start end ≡ field_at at (open_field 0x20 0x25 bytes) → Err TooDeep ≡ answer at (read_process d names around bytes)
unfolding read_process refusal
process_zero d names around at tag start end bytes h e = rw h (field_refused Process _ at tag start end 5 bytes e)

-- A whole field: its header, its parts and its end

pub process_field : (d names around at tag start end : ℕ) (s : List ℕ) (inner r : Result Cursor Refusal) → (d ≡ 0 → ⊥)
    → opens_as tag start end ≡ field_at at (open_field 0x20 0x25 (drop at s))
    → inner ≡ answer 0 (read_parts (shape_of tag) (read_process (d - 1) names) names around (take (end - start) (drop start s)))
    → r ≡ finish_at inner (end - start) end → r ≡ answer at (read_process d names around (drop at s))
process_field d names around at tag start end s inner r h e i f =
    f ∙ rw (i, process_suc d names around (drop at s) h) (field_open _ at tag start end s _ e)

pub action_field : (names around at tag start end : ℕ) (s : List ℕ) (inner r : Result Cursor Refusal)
    → opens_as tag start end ≡ field_at at (open_field 0x30 0x3B (drop at s))
    → inner ≡ answer 0 (read_action_parts tag names around (take (end - start) (drop start s)))
    → r ≡ finish_at inner (end - start) end → r ≡ answer at (read_action names around (drop at s))
unfolding read_action
action_field names around at tag start end s inner r e i f = f ∙ rw i (field_open _ at tag start end s _ e)

pub parts_acting : (b : Bool) (P : ℕ → List ℕ → Outcome Process) (names around at : ℕ) (body : List ℕ)
    → answer at (read_parts (pick b is_action is_replication) P names around body) ≡ answer at (read_acting P names around body)
unfolding read_parts
parts_acting true P names around at body = answer_map _ at _
parts_acting false P names around at body = answer_map _ at _

-- what is read in a field is what its body was read as
pub field_inverse : {A : Type 0} (o : Opened) (at tag start end : ℕ) (s : List ℕ) (f : ℕ → List ℕ → Outcome A) (a : A) (n : ℕ)
    → opens_as tag start end ≡ field_at at o → read_field o (drop at s) f ≡ got a n
    → (m : ℕ) × (f tag (take (end - start) (drop start s)) ≡ got a m) × (n ≡ end - at)
unfolding field_at read_field whole
field_inverse (shut k) at tag start end s f a n e q = absurd (let z : ◌≡◌ {A = ℕ} 0 1 = cc in omega arith)
field_inverse {A} (opened tag' len) at tag start end s f a n e q =
    inner (f tag (take (end - start) (drop start s))) (rw (drop-drop 3 at s, ← x, ← t, ← l) at q)
  where
    t : tag ≡ tag'
    t = (as_opened e).0

    x : start ≡ at + 3
    x = (as_opened e).1

    y : end ≡ at + 3 + len
    y = (as_opened e).2

    l : end - start ≡ len
    l = omega (arith, x, y)

    last : (b : Bool) (c : A) (m : ℕ) → pick b (got c (3 + (end - start))) (refused 4) ≡ got a n → (k : ℕ) × (got c m ≡ got a k) × (n ≡ end - at)
    last true c m q =
        let p : c ≡ a = cc in
        let k : n ≡ 3 + (end - start) = cc in
        (m, rw p, omega (arith, x, y, k))
    last false c m q = absurd (let z : ◌≡◌ {A = ℕ} 0 1 = cc in omega arith)

    inner : (o : Outcome A) → whole (end - start) o ≡ got a n → (m : ℕ) × (o ≡ got a m) × (n ≡ end - at)
    inner (refused k) q = absurd (let z : ◌≡◌ {A = ℕ} 0 1 = cc in omega arith)
    inner (got c m) q = last (eqb m (end - start)) c m q

-- What is read in parts

-- two parts in a row
then_inverse : {A B : Type 0} (o : Outcome A) (bytes : List ℕ) (f : A → List ℕ → Outcome B) (b : B) (n : ℕ) → and_then o bytes f ≡ got b n
    → (a : A) × (m : ℕ) × (o ≡ got a m) × ((j : ℕ) × (f a (drop m bytes) ≡ got b j))
unfolding and_then shift
then_inverse (refused k) bytes f b n e = absurd (let z : ◌≡◌ {A = ℕ} 0 1 = cc in omega arith)
then_inverse {B = B} (got a m) bytes f b n e = (a, m, refl, last (f a (drop m bytes)) e)
  where
    last : (o : Outcome B) → shift m o ≡ got b n → (j : ℕ) × (o ≡ got b j)
    last (refused k) q = absurd (let z : ◌≡◌ {A = ℕ} 0 1 = cc in omega arith)
    last (got c j) q = let p : c ≡ b = cc in (j, rw p)

map_inverse : {A B : Type 0} (f : A → B) (o : Outcome A) (b : B) (n : ℕ) → map_outcome f o ≡ got b n → (a : A) × (o ≡ got a n) × (b ≡ f a)
unfolding map_outcome
map_inverse f (refused k) b n e = absurd (let z : ◌≡◌ {A = ℕ} 0 1 = cc in omega arith)
map_inverse f (got a m) b n e =
    let p : f a ≡ b = cc in
    let q : m ≡ n = cc in
    (a, rw q, sym p)

reference_bytes : (names around : ℕ) (bytes : List ℕ) (r : Reference) (n : ℕ) → read_reference names around bytes ≡ got r n → n ≡ 2
unfolding read_reference reference_of
reference_bytes names around bytes r n = go (ltb (length bytes) 2) (ltb v name_limit) (ltb v names) (ltb v first_variable) (ltb (v - first_variable) around)
  where
    v : ℕ
    v = word_at bytes 0

    go : (b b₁ b₂ b₃ b₄ : Bool)
        → pick b (refused 2) (pick b₁ (pick b₂ (got (name v) 2) (refused 6)) (pick b₃ (refused 6) (pick b₄ (got (variable (v - first_variable)) 2) (refused 6)))) ≡ got r n → n ≡ 2
    go true b₁ b₂ b₃ b₄ e = absurd (let z : ◌≡◌ {A = ℕ} 0 1 = cc in omega arith)
    go false true true b₃ b₄ e = cc
    go false true false b₃ b₄ e = absurd (let z : ◌≡◌ {A = ℕ} 0 1 = cc in omega arith)
    go false false b₂ true b₄ e = absurd (let z : ◌≡◌ {A = ℕ} 0 1 = cc in omega arith)
    go false false b₂ false true e = cc
    go false false b₂ false false e = absurd (let z : ◌≡◌ {A = ℕ} 0 1 = cc in omega arith)

references_bytes : (k names around : ℕ) (bytes : List ℕ) (rs : List Reference) (n : ℕ) → read_references k names around bytes ≡ got rs n → n ≡ 2 * k
unfolding read_references and_then shift map_outcome
references_bytes zero names around bytes rs n e = cc
references_bytes (suc k) names around bytes rs n e = first (λ m qs j. references_bytes k names around (drop m bytes) qs j) (read_reference names around bytes) refl e
  where
    last : (m : ℕ) (r : Reference) (o : Outcome (List Reference)) → ((qs : List Reference) (j : ℕ) → o ≡ got qs j → j ≡ 2 * k) → m ≡ 2 → shift m (map_outcome (λ qs. r ∷ qs) o) ≡ got rs n → n ≡ 2 * suc k
    last m r (refused i) f g q = absurd (let z : ◌≡◌ {A = ℕ} 0 1 = cc in omega arith)
    last m r (got qs j) f g q = let p : n ≡ m + j = cc in omega (arith, p, g, f qs j refl)

    first : ((m : ℕ) (qs : List Reference) (j : ℕ) → read_references k names around (drop m bytes) ≡ got qs j → j ≡ 2 * k)
        → (o : Outcome Reference) → read_reference names around bytes ≡ o
        → and_then o bytes (λ r rest. map_outcome (λ qs. r ∷ qs) (read_references k names around rest)) ≡ got rs n → n ≡ 2 * suc k
    first f (refused i) w q = absurd (let z : ◌≡◌ {A = ℕ} 0 1 = cc in omega arith)
    first f (got r m) w q = last m r (read_references k names around (drop m bytes)) (f m) (reference_bytes names around bytes r m w) q

-- Counts of actions

pub count_implied : (tag : ℕ) (body : List ℕ) → tag < 0x38 → implied_count (tag_kind tag) ≡ count_in tag body
unfolding count_in
count_implied tag body h = simp (lt-ltb _ _ h)

pub count_byte : (tag at : ℕ) (body : List ℕ) → 0x38 ≤ tag → at ≡ 2 * (1 + directed_of (tag_kind tag)) → get_or body at 0 ≡ count_in tag body
unfolding count_in
count_byte tag at body h e = rw e (simp (le-ltb _ _ h))

-- what a count that was read says, where it is spelled
pub spelled_inverse : (bytes : List ℕ) (n j : ℕ) → read_spelled_count bytes ≡ got n j → (1 ≤ length bytes) × (n ≡ get_or bytes 0 0) × ¬ (n ≡ 1) × (n ≤ count_limit) × (j ≡ 1)
unfolding read_spelled_count
spelled_inverse bytes n j = go (ltb (length bytes) 1) (eqb v 1) (ltb count_limit v) refl refl refl
  where
    v : ℕ
    v = get_or bytes 0 0

    go : (b₁ b₂ b₃ : Bool) → ltb (length bytes) 1 ≡ b₁ → eqb v 1 ≡ b₂ → ltb count_limit v ≡ b₃
        → pick b₁ (refused 2) (pick b₂ (refused 14) (pick b₃ (refused 14) (got v 1))) ≡ got n j → (1 ≤ length bytes) × (n ≡ v) × ¬ (n ≡ 1) × (n ≤ count_limit) × (j ≡ 1)
    go true b₂ b₃ e₁ e₂ e₃ q = absurd (let z : ◌≡◌ {A = ℕ} 0 1 = cc in omega arith)
    go false true b₃ e₁ e₂ e₃ q = absurd (let z : ◌≡◌ {A = ℕ} 0 1 = cc in omega arith)
    go false false true e₁ e₂ e₃ q = absurd (let z : ◌≡◌ {A = ℕ} 0 1 = cc in omega arith)
    go false false false e₁ e₂ e₃ q =
        let p : n ≡ v = cc in
        let l : j ≡ 1 = cc in
        (ltb-false (length bytes) 1 e₁, p, λ z. eqb-false v 1 e₂ (sym p ∙ z), omega (arith, p, ltb-false count_limit v e₃), l)

-- a count that was read is the implied one, in no bytes, or a spelled one
pub name_inverse : (tag : ℕ) (bytes : List ℕ) (n j : ℕ) → read_name_count tag bytes ≡ got n j
    → ((tag < 0x38) × (n ≡ implied_count (tag_kind tag)) × (j ≡ 0)) ⊎ ((0x38 ≤ tag) × (read_spelled_count bytes ≡ got n j))
unfolding read_name_count
name_inverse tag bytes n j = go (ltb tag 0x38) refl
  where
    go : (b : Bool) → ltb tag 0x38 ≡ b → pick b (got (implied_count (tag_kind tag)) 0) (read_spelled_count bytes) ≡ got n j
        → ((tag < 0x38) × (n ≡ implied_count (tag_kind tag)) × (j ≡ 0)) ⊎ ((0x38 ≤ tag) × (read_spelled_count bytes ≡ got n j))
    go true e q =
        let p : n ≡ implied_count (tag_kind tag) = cc in
        let l : j ≡ 0 = cc in
        inl (ltb-true tag 0x38 e, p, l)
    go false e q = inr (ltb-false tag 0x38 e, q)

-- the count that is read is the one that the body has
name_count_in : (tag i : ℕ) (body : List ℕ) (n j : ℕ) → i ≡ 2 * (1 + directed_of (tag_kind tag)) → read_name_count tag (drop i body) ≡ got n j → n ≡ count_in tag body
name_count_in tag i body n j e q =
    ⊎_elim (λ h. h.1 ∙ count_implied tag body h.0)
    (λ h.
    let there : 2 * (1 + directed_of (tag_kind tag)) ≡ i + 0 = omega (arith, e) in
    (spelled_inverse (drop i body) n j h.1).1 ∙ get_or-drop i body 0 0 ∙ count_byte tag (i + 0) body h.0 (sym there))
    (name_inverse tag (drop i body) n j q)

-- the variables that an action binds, from its tag and its body
pub action_binders : (names around at tag start end : ℕ) (s : List ℕ) (a : Action) (n : ℕ)
    → opens_as tag start end ≡ field_at at (open_field 0x30 0x3B (drop at s)) → read_action names around (drop at s) ≡ got a n
    → binders a ≡ count_in tag (take (end - start) (drop start s)) * binder_count (tag_kind tag)
unfolding read_action read_action_parts
action_binders names around at tag start end s a n e q =
    let body = take (end - start) (drop start s) in
    let f = field_inverse _ at tag start end s _ a n e q in
    let t = then_inverse _ body _ a f.0 f.1 in
    let u = then_inverse _ (drop t.1 body) _ a t.3.0 t.3.1 in
    let w = map_inverse _ _ a u.3.0 u.3.1 in
    let c = name_count_in tag t.1 body u.0 u.1 (references_bytes _ names around body t.0 t.1 t.2) u.2 in
    ap binders w.2 ∙ (from_kind (tag_kind tag) t.0 u.0 w.0).1 ∙ ap (λ (m : ℕ). m * binder_count (tag_kind tag)) c

module _ (low high at : ℕ) (s : List ℕ) where
  pub open_short : length s - at < 3 → Err CutShort ≡ field_at at (open_field low high (drop at s))
  unfolding open_field field_at refusal
  open_short h = simp (length-drop, lt-ltb _ _ h)

  pub open_low : 3 ≤ length s - at → get_or s at 0 < low → Err WrongTag ≡ field_at at (open_field low high (drop at s))
  unfolding open_field field_at refusal
  open_low h l = simp (length-drop, get_or-drop, add-zero, le-ltb _ _ h, lt-ltb _ _ l)

  pub open_high : 3 ≤ length s - at → low ≤ get_or s at 0 → high < get_or s at 0 → Err WrongTag ≡ field_at at (open_field low high (drop at s))
  unfolding open_field field_at refusal
  open_high h l m = simp (length-drop, get_or-drop, add-zero, le-ltb _ _ h, le-ltb _ _ l, lt-ltb _ _ m)

  pub open_long : (w : ℕ) → 3 ≤ length s - at → low ≤ get_or s at 0 → get_or s at 0 ≤ high → w ≡ word_at s (at + 1) → length s - at - 3 < w
      → Err CutShort ≡ field_at at (open_field low high (drop at s))
  unfolding open_field field_at refusal
  open_long w h l m e n = let q = e ∙ sym (word_drop s at 1) in rw (← q) (simp (length-drop, get_or-drop, add-zero, le-ltb _ _ h, le-ltb _ _ l, le-ltb _ _ m, lt-ltb _ _ n))

  pub open_opens : (w : ℕ) → 3 ≤ length s - at → low ≤ get_or s at 0 → get_or s at 0 ≤ high → w ≡ word_at s (at + 1) → w ≤ length s - at - 3
      → opens_as (get_or s at 0) (at + 3) (at + 3 + w) ≡ field_at at (open_field low high (drop at s))
  unfolding open_field field_at
  open_opens w h l m e n = let q = e ∙ sym (word_drop s at 1) in rw (← q) (simp (length-drop, get_or-drop, add-zero, le-ltb _ _ h, le-ltb _ _ l, le-ltb _ _ m, le-ltb _ _ n))

-- Words, counts and references where they stand in a slice

module _ (at : ℕ) (s : List ℕ) where
  pub word_past : length s ≤ at → 0 ≡ word_at s at
  word_past h =
      let a = get_or-eq_default s 0 h in
      let o : length s ≤ at + 1 = omega arith in
      let b = get_or-eq_default s 0 o in
      omega arith

  pub word_half : (high : ℕ) → length s - at < 2 → high ≡ get_or s at 0 → high * 256 ≡ word_at s at
  word_half high h e =
      let o : length s ≤ at + 1 = omega arith in
      let b = get_or-eq_default s 0 o in
      omega arith

module _ (least most at : ℕ) (s : List ℕ) where
  pub count_short : length s - at < 2 → Err CutShort ≡ count_outcome at (read_count least most (drop at s))
  unfolding read_count count_outcome refusal
  count_short h = simp (length-drop, lt-ltb _ _ h)

  pub count_low : (v : ℕ) → 2 ≤ length s - at → v ≡ word_at s at → v < least → Err OutOfRange ≡ count_outcome at (read_count least most (drop at s))
  unfolding read_count count_outcome refusal
  count_low v h e l = let q = e ∙ sym (word_drop_0 s at) in rw (← q) (simp (length-drop, le-ltb _ _ h, lt-ltb _ _ l))

  pub count_high : (v : ℕ) → 2 ≤ length s - at → v ≡ word_at s at → least ≤ v → most < v → Err OutOfRange ≡ count_outcome at (read_count least most (drop at s))
  unfolding read_count count_outcome refusal
  count_high v h e l m = let q = e ∙ sym (word_drop_0 s at) in rw (← q) (simp (length-drop, le-ltb _ _ h, le-ltb _ _ l, lt-ltb _ _ m))

  pub count_within : (v : ℕ) → 2 ≤ length s - at → v ≡ word_at s at → least ≤ v → v ≤ most
      → counts_as v (record { at = at + 2 }) ≡ count_outcome at (read_count least most (drop at s))
  unfolding read_count count_outcome
  count_within v h e l m = let q = e ∙ sym (word_drop_0 s at) in rw (← q) (simp (length-drop, le-ltb _ _ h, le-ltb _ _ l, le-ltb _ _ m))

-- Spelled counts where they stand in a slice

module _ (at : ℕ) (s : List ℕ) where
  pub spelled_missing : length s ≤ at → Err CutShort ≡ count_outcome at (read_spelled_count (drop at s))
  unfolding read_spelled_count count_outcome refusal
  spelled_missing l = let k : length s - at < 1 = omega arith in simp (length-drop, lt-ltb _ _ k)

  module _ (l : at < length s) where
    first_there : get_or (drop at s) 0 0 ≡ get_or s at 0
    first_there = simp (get_or-drop, add-zero)

    long : 1 ≤ length s - at
    long = omega arith

    pub spelled_one : get_or s at 0 ≡ 1 → Err WrongCount ≡ count_outcome at (read_spelled_count (drop at s))
    unfolding read_spelled_count count_outcome refusal
    spelled_one e = rw first_there (simp (length-drop, le-ltb _ _ long, eq-eqb _ _ e))

    pub spelled_many : ¬ (get_or s at 0 ≡ 1) → count_limit < get_or s at 0 → Err WrongCount ≡ count_outcome at (read_spelled_count (drop at s))
    unfolding read_spelled_count count_outcome refusal
    spelled_many e m = rw first_there (simp (length-drop, le-ltb _ _ long, ne_eqb _ _ e, lt-ltb _ _ m))

    pub spelled_few : (n : ℕ) → ¬ (get_or s at 0 ≡ 1) → get_or s at 0 ≤ count_limit → n ≡ get_or s at 0 → counts_as n (record { at = at + 1 }) ≡ count_outcome at (read_spelled_count (drop at s))
    unfolding read_spelled_count count_outcome
    spelled_few n e m q = rw (first_there, q) (simp (length-drop, le-ltb _ _ long, ne_eqb _ _ e, le-ltb _ _ m))

pub count_small : (at v : ℕ) (c : Cursor) (bytes : List ℕ) → counts_as v c ≡ count_outcome at (read_spelled_count bytes) → v ≤ count_limit
unfolding count_outcome
count_small at v c bytes = go (read_spelled_count bytes) refl
  where
    go : (o : Outcome ℕ) → read_spelled_count bytes ≡ o → counts_as v c ≡ count_outcome at o → v ≤ count_limit
    go (refused k) q e = absurd (let z : ◌≡◌ {A = ℕ} 0 1 = cc in omega arith)
    go (got n j) q e = let p : v ≡ n = (as_counted e).0 in omega (arith, p, (spelled_inverse bytes n j q).3)

-- a number times 0 or 1
pub times_few : (m n limit : ℕ) → n ≤ 1 → m < limit → m * n < limit
times_few m zero limit h l = omega arith
times_few m (suc zero) limit h l = omega arith
times_few m (suc (suc n)) limit h l = absurd (omega arith)

-- the count of a tag with a count is the one that is spelled
pub name_spelled : (tag : ℕ) (bytes : List ℕ) → 0x38 ≤ tag → read_name_count tag bytes ≡ read_spelled_count bytes
unfolding read_name_count
name_spelled tag bytes h = simp (le-ltb _ _ h)

-- the references of an action without a count are read in a row
pub references_split : {B : Type 0} (m n names around : ℕ) (g : List Reference → List Reference → B) (at : ℕ) (bytes : List ℕ)
    → answer at (and_then (read_references m names around bytes) bytes (λ rs rest. map_outcome (g rs) (read_references n names around rest))) ≡ answer at (read_references (m + n) names around bytes)
unfolding read_references and_then shift map_outcome answer
references_split zero n names around g at bytes =
    answer_shift at 0 (map_outcome (g []) (read_references n names around bytes)) ∙ ap (λ (i : ℕ). answer i (map_outcome (g []) (read_references n names around bytes))) (add-zero at) ∙ answer_map (g []) at (read_references n names around bytes)
    ∙ ap (λ (k : ℕ). answer at (read_references k names around bytes)) (sym (zero-add n))
references_split {B} (suc m) n names around g at bytes =
    first (read_reference names around bytes) (λ r j. references_split m n names around (λ rs. g (r ∷ rs)) (at + j) (drop j bytes))
    ∙ ap (λ (k : ℕ). answer at (read_references k names around bytes)) (sym (suc-add m n))
  where
    f : List Reference → List ℕ → Outcome B
    f rs rest = map_outcome (g rs) (read_references n names around rest)

    -- behind the first reference
    others : (r : Reference) (j : ℕ) (o : Outcome (List Reference))
        → answer at (and_then (shift j (map_outcome (λ rs. r ∷ rs) o)) bytes f) ≡ answer (at + j) (and_then o (drop j bytes) (λ rs rest. f (r ∷ rs) rest))
    others r j (refused k) = refl
    others r j (got rs i) =
        answer_shift at (j + i) (f (r ∷ rs) (drop (j + i) bytes))
        ∙ ap₂ (λ (a : ℕ) (l : List ℕ). answer a (f (r ∷ rs) l)) (sym (add_assoc at j i)) (sym (drop-drop i j bytes))
        ∙ sym (answer_shift (at + j) i (f (r ∷ rs) (drop i (drop j bytes))))

    first : (o : Outcome Reference)
        → ((r : Reference) (j : ℕ) → answer (at + j) (and_then (read_references m names around (drop j bytes)) (drop j bytes) (λ rs rest. f (r ∷ rs) rest)) ≡ answer (at + j) (read_references (m + n) names around (drop j bytes)))
        → answer at (and_then (and_then o bytes (λ r rest. map_outcome (λ rs. r ∷ rs) (read_references m names around rest))) bytes f)
        ≡ answer at (and_then o bytes (λ r rest. map_outcome (λ rs. r ∷ rs) (read_references (m + n) names around rest)))
    first (refused k) h = refl
    first (got r j) h =
        others r j (read_references m names around (drop j bytes)) ∙ h r j ∙ sym (answer_map (λ rs. r ∷ rs) (at + j) (read_references (m + n) names around (drop j bytes)))
        ∙ sym (answer_shift at j (map_outcome (λ rs. r ∷ rs) (read_references (m + n) names around (drop j bytes))))

pub parts_in_a_row : (tag names around : ℕ) (body : List ℕ) → tag < 0x38
    → answer 0 (read_references (reference_count (tag_kind tag)) names around body) ≡ answer 0 (read_action_parts tag names around body)
unfolding read_action_parts read_name_count and_then
parts_in_a_row tag names around body h =
    let k = tag_kind tag in
    let i = implied_count k in
    rw (lt-ltb _ _ h)
    (ap (λ (n : ℕ). answer 0 (read_references n names around body)) (sym (implied_references k))
    ∙ sym (references_split (1 + directed_of k) (i * handed_count k) names around (λ rs. action_from k rs i) 0 body)
    ∙ go (read_references (1 + directed_of k) names around body))
  where
    go : (o : Outcome (List Reference))
        → answer 0 (and_then o body (λ rs rest. map_outcome (action_from (tag_kind tag) rs (implied_count (tag_kind tag))) (read_references (implied_count (tag_kind tag) * handed_count (tag_kind tag)) names around rest)))
        ≡ answer 0 (and_then o body (λ rs behind. shift 0 (map_outcome (action_from (tag_kind tag) rs (implied_count (tag_kind tag))) (read_references (implied_count (tag_kind tag) * handed_count (tag_kind tag)) names around behind))))
    go (refused k) = refl
    go (got rs m) =
        let x = map_outcome (action_from (tag_kind tag) rs (implied_count (tag_kind tag))) (read_references (implied_count (tag_kind tag) * handed_count (tag_kind tag)) names around (drop m body)) in
        answer_shift 0 m x ∙ ap (λ (j : ℕ). answer j x) (sym (add-zero (0 + m))) ∙ sym (answer_shift (0 + m) 0 x) ∙ sym (answer_shift 0 m (shift 0 x))

-- a count that was refused, or read, and what is behind it

pub count_refused : {B : Type 0} (o : Outcome ℕ) (at : ℕ) (k : Refusal) (bytes : List ℕ) (f : ℕ → List ℕ → Outcome B) → Err k ≡ count_outcome at o → Err k ≡ answer at (and_then o bytes f)
unfolding count_outcome answer and_then
count_refused (refused j) at k bytes f e = let q : k ≡ refusal j = cc in ap Err q
count_refused (got a n) at k bytes f e = absurd (let z : ◌≡◌ {A = ℕ} 0 1 = cc in omega arith)

pub count_got : {B : Type 0} (o : Outcome ℕ) (at v : ℕ) (c : Cursor) (s : List ℕ) (f : ℕ → List ℕ → Outcome B) (r : Result Cursor Refusal)
    → counts_as v c ≡ count_outcome at o → r ≡ answer c.at (f v (drop c.at s)) → r ≡ answer at (and_then o (drop at s) f)
unfolding count_outcome answer and_then
count_got (refused j) at v c s f r e h = absurd (let z : ◌≡◌ {A = ℕ} 0 1 = cc in omega arith)
count_got (got a n) at v c s f r e h =
    let q : c.at ≡ at + n = ap (λ (d : Cursor). d.at) (as_counted e).1 in
    let w : v ≡ a = (as_counted e).0 in
    h ∙ rw (q, w, drop-drop n at s, answer_shift at n (f a (drop (at + n) s)))

module _ (names around at : ℕ) (s : List ℕ) where
  pub reference_short : length s - at < 2 → Err CutShort ≡ answer at (read_reference names around (drop at s))
  unfolding read_reference answer refusal
  reference_short h = simp (length-drop, lt-ltb _ _ h)

  module _ (v : ℕ) (h : 2 ≤ length s - at) (e : v ≡ word_at s at) where
    reference_word : read_reference names around (drop at s) ≡ reference_of names around v
    unfolding read_reference
    reference_word = let q = e ∙ sym (word_drop_0 s at) in rw (← q) (simp (length-drop, le-ltb _ _ h))

    pub reference_known : v < name_limit → v < names → Ok (record { at = at + 2 }) ≡ answer at (read_reference names around (drop at s))
    unfolding reference_of answer
    reference_known l m = rw reference_word (simp (lt-ltb _ _ l, lt-ltb _ _ m))

    pub reference_unknown : v < name_limit → names ≤ v → Err OutOfRange ≡ answer at (read_reference names around (drop at s))
    unfolding reference_of answer refusal
    reference_unknown l m = rw reference_word (simp (lt-ltb _ _ l, le-ltb _ _ m))

    pub reference_between : name_limit ≤ v → v < first_variable → Err OutOfRange ≡ answer at (read_reference names around (drop at s))
    unfolding reference_of answer refusal
    reference_between l m = rw reference_word (simp (le-ltb _ _ l, lt-ltb _ _ m))

    pub reference_bound : first_variable ≤ v → v - first_variable < around → Ok (record { at = at + 2 }) ≡ answer at (read_reference names around (drop at s))
    unfolding reference_of answer
    reference_bound l m = let k : name_limit ≤ v = omega arith in rw reference_word (simp (le-ltb _ _ k, le-ltb _ _ l, lt-ltb _ _ m))

    pub reference_unbound : first_variable ≤ v → around ≤ v - first_variable → Err OutOfRange ≡ answer at (read_reference names around (drop at s))
    unfolding reference_of answer refusal
    reference_unbound l m = let k : name_limit ≤ v = omega arith in rw reference_word (simp (le-ltb _ _ k, le-ltb _ _ l, le-ltb _ _ m))
