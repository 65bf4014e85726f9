-- The table that is filled of a whole state, what is left by it, and what is answered.
use mathlib.Core.Path.{◌≡◌, refl, sym, ap, ◌∙◌}
use mathlib.Core.Bool.{Bool, true, false}
use mathlib.Core.List.{List, [], ◌∷◌}
use Prim.Native.Nat.{ℕ, zero, suc, ◌+◌, ◌≤◌, ◌<◌}
use native.Mathlib.Decide.{ℕ_discrete}
use native.Mathlib.Omega.{arith}
use borrow.Author.Tests.{ne_eqb}
use lib.Dec.{ltb, eqb}
use lib.ListN.{length, get_or, set, replicate, length-set, length-replicate, get_or-replicate}
use lib.Seq.{get_or-set_same, get_or-set_other}
use Rattle.calculus.specs.Processes.{Reference, name, variable}
use Rattle.machine.specs.Limits.{name_limit, byte_limit}
use Rattle.machine.specs.Elements.{Elements, empty, ambient_then, process_then, blocked_then, State, state}
use Rattle.machine.specs.Names.{names}
use Rattle.machine.specs.Validity.{ReferenceScoped}
use Rattle.machine.specs.Tests.{pick}
use Rattle.buffers.specs.Buffers.{fits_in, fitting, Answered, written_answer, Left}
use Rattle.std.specs.Prelude.{Ok, Err}
use Rattle.refusals.specs.declared.Refusal.{Refusal}
use Rattle.refusals.specs.declared.Refusal.TheVariants.{NoRoom}
use Rattle.refusals.specs.Refusals.{refusal}
use Rattle.buffers.proofs.Answers.{answered_kept, answered_as, answered_full, answered_fits, Within, fitting_within}
use Rattle.buffers.proofs.Appending.{left_is}
use Rattle.buffers.proofs.Parts.{length_part}
use Rattle.format.specs.Reading.{Outcome, refused, got}
use Rattle.elements.specs.Spelling.{encode_elements, encode_state, SpellableElements}
use Rattle.elements.proofs.States.{state_length}
use Rattle.states.specs.Reading.{read_state}
use Rattle.states.specs.Answers.{state_answer}
use Rattle.states.proofs.Root.{ReadRoot, unnamed, root_bytes, root_long}
use Rattle.removals.specs.Sweeping.{occurrences, clearable, unless_cleared, sweep_by, sweep, sweep_state}
use Rattle.removals.proofs.Occurrences.{occurrences_same, occurrences_other}
use Rattle.referring.specs.Tables.{more, counted}
use Rattle.clearing.specs.Clears.{is_cleared_by}
use Rattle.clearing.proofs.Clears.{swept_shorter}
use Rattle.sweeping.specs.Sweeping.{sweep_read, sweep_bytes}

-- The table

-- a count that stops at two: enough to tell whether a name stands once
unfoldable capped : ℕ → ℕ
capped zero = 0
capped (suc zero) = 1
capped (suc (suc k)) = 2

capped_once : (k : ℕ) → eqb (capped k) 1 ≡ eqb k 1
unfolding capped
capped_once zero = refl
capped_once (suc zero) = refl
capped_once (suc (suc k)) = sym (ne_eqb (suc (suc k)) 1 (λ e. omega arith))

capped_more : (k x : ℕ) → capped (k + more x) ≡ capped (suc k + x)
unfolding capped more
capped_more k zero = let e : k + 1 ≡ suc k + 0 = omega arith in ap capped e
capped_more k (suc x) =
    let e : k + 2 ≡ suc (suc k) = omega arith in
    let f : suc k + suc x ≡ suc (suc (k + x)) = omega arith in
    rw (e, f)

capped_few : (x : ℕ) → x ≤ 2 → x ≡ capped x
unfolding capped
capped_few zero h = refl
capped_few (suc zero) h = refl
capped_few (suc (suc zero)) h = refl
capped_few (suc (suc (suc x))) h = absurd (omega arith)

more_few : (x : ℕ) → more x ≤ 2
unfolding more
more_few zero = omega arith
more_few (suc x) = omega arith

-- an entry says how often its name stands, up to two
counted_entry : (ns table : List ℕ) (n : ℕ) → n < length table → get_or table n 0 ≤ 2 → get_or (counted ns table) n 0 ≡ capped (occurrences n ns + get_or table n 0)
unfolding counted occurrences
counted_entry [] table n h l = let e : get_or table n 0 ≡ 0 + get_or table n 0 = omega arith in capped_few (get_or table n 0) l ∙ ap capped e
counted_entry (m ∷ ms) table n h l = go (ℕ_discrete n m) (λ t. counted_entry ms t n)
  where
    v : ℕ
    v = more (get_or table m 0)

    go : Dec (n ≡ m) → ((t : List ℕ) → n < length t → get_or t n 0 ≤ 2 → get_or (counted ms t) n 0 ≡ capped (occurrences n ms + get_or t n 0))
        → get_or (counted ms (set table m v)) n 0 ≡ capped (occurrences n (m ∷ ms) + get_or table n 0)
    go (yes e) i =
        let s : get_or (set table m v) n 0 ≡ more (get_or table n 0) = rw e (get_or-set_same table m v 0 (omega (arith, e, h))) in
        i (set table m v) (omega (arith, length-set table m v, h)) (omega (arith, s, more_few (get_or table n 0)))
        ∙ ap (λ (x : ℕ). capped (occurrences n ms + x)) s ∙ capped_more (occurrences n ms) (get_or table n 0)
        ∙ ap (λ (k : ℕ). capped (k + get_or table n 0)) (sym (occurrences_same n m ms e))
    go (no d) i =
        let s : get_or (set table m v) n 0 ≡ get_or table n 0 = get_or-set_other table m n v 0 d in
        i (set table m v) (omega (arith, length-set table m v, h)) (omega (arith, s, l))
        ∙ ap (λ (x : ℕ). capped (occurrences n ms + x)) s
        ∙ ap (λ (k : ℕ). capped (k + get_or table n 0)) (sym (occurrences_other n m ms d))

-- no name is counted yet
abbrev pub blank : List ℕ
blank = replicate name_limit 0

entry : (ns : List ℕ) (n : ℕ) → n < name_limit → get_or (counted ns blank) n 0 ≡ capped (occurrences n ns)
entry ns n h =
    let z : get_or blank n 0 ≡ 0 = get_or-replicate name_limit n 0 0 h in
    let e : occurrences n ns + 0 ≡ occurrences n ns = omega arith in
    counted_entry ns blank n (omega (arith, length-replicate {A = ℕ} name_limit 0, h)) (omega (arith, z)) ∙ ap (λ (x : ℕ). capped (occurrences n ns + x)) z ∙ ap capped e

-- What is left by it

cleared_as : (F : ℕ) (ns : List ℕ) (a : Reference) → ReferenceScoped name_limit 0 a → is_cleared_by F (counted ns blank) a ≡ clearable F ns a
unfolding is_cleared_by clearable ReferenceScoped
cleared_as F ns (name n) h = ap (λ (k : ℕ). pick (ltb n F) false (eqb k 1)) (entry ns n h) ∙ ap (λ (b : Bool). pick (ltb n F) false b) (capped_once (occurrences n ns))
cleared_as F ns (variable i) h = refl

swept_alike : (t u : Reference → Bool) → ((a : Reference) → ReferenceScoped name_limit 0 a → t a ≡ u a) → (A : Elements) → SpellableElements A → sweep_by t A ≡ sweep_by u A
unfolding sweep_by SpellableElements
swept_alike t u e empty h = refl
swept_alike t u e (ambient_then s a A C) h =
    λ i. unless_cleared (e a h.0 i) s a (swept_alike t u e A h.1 i) (swept_alike t u e C h.2 i)
swept_alike t u e (process_then P C) h = ap (process_then P) (swept_alike t u e C h.1)
swept_alike t u e (blocked_then α P C) h = ap (blocked_then α P) (swept_alike t u e C h.2)

pub swept_by_table : (F : ℕ) (L : Elements) → SpellableElements L → sweep_by (is_cleared_by F (counted (names L) blank)) L ≡ sweep F L
unfolding sweep
swept_by_table F L h = swept_alike (is_cleared_by F (counted (names L) blank)) (clearable F (names L)) (cleared_as F (names L)) L h

-- What is answered

pub sweep_refused_law : (s out : List ℕ) (x : Refusal) → Err x ≡ state_answer (read_state s) → Answered written_answer (sweep_bytes s (length out)) out (Err x) out
unfolding sweep_bytes sweep_read written_answer
sweep_refused_law s out x e =
    let u = unnamed (read_state s) x e in
    rw (u.2) (answered_kept written_answer u.0 out (ap (sweep_read (length out)) u.1))

module _ {s : List ℕ} {F N : ℕ} (r : ReadRoot s F N) where
  abbrev tree : Elements
  tree = r.root.tree

  abbrev result : List ℕ
  result = encode_state (sweep_state (state F N tree))

  pub sweeping : (room : ℕ) → sweep_bytes s room ≡ fitting byte_limit room tt result
  unfolding sweep_bytes sweep_read
  sweeping room = ap (sweep_read room) r.read

  -- by any table no more than the bytes of the state is left
  pub swept_short : (table : List ℕ) (n : ℕ) → n ≡ length (encode_elements (sweep_by (is_cleared_by F table) tree)) → 7 + n ≤ byte_limit
  swept_short table n e =
      omega (arith, e, swept_shorter (is_cleared_by F table) tree, ap length (root_bytes r.root), length_part 7 s, root_long r.root, r.root.accepted.within)

  module _ (table : List ℕ) (filled : table ≡ counted (names tree) blank) where
    abbrev rest : Elements
    rest = sweep_by (is_cleared_by F table) tree

    rest_is : rest ≡ sweep F tree
    rest_is = ap (λ (l : List ℕ). sweep_by (is_cleared_by F l) tree) filled ∙ swept_by_table F tree r.root.accepted.spellable

    pub long : (n : ℕ) → n ≡ length (encode_elements rest) → 7 + n ≡ length result
    unfolding sweep_state
    long n e = ap (λ (k : ℕ). 7 + k) (e ∙ ap (λ (A : Elements). length (encode_elements A)) rest_is) ∙ sym (state_length F N (sweep F tree))

    pub sweep_full : (n : ℕ) → n ≡ length (encode_elements rest) → (out : List ℕ) → fits_in byte_limit (length out) (7 + n) ≡ false → Answered written_answer (sweep_bytes s (length out)) out (Err NoRoom) out
    unfolding written_answer refusal
    sweep_full n e out f = answered_as written_answer (sweeping (length out)) (answered_full written_answer byte_limit tt result out (long n e) f)

    pub sweep_done : (n : ℕ) → n ≡ length (encode_elements rest) → {out last : List ℕ} {m : ℕ} → fits_in byte_limit (length out) (7 + n) ≡ true
        → Left (encode_state (state F N rest)) out last m → Answered written_answer (sweep_bytes s (length out)) out (Ok (7 + n)) last
    unfolding written_answer sweep_state
    sweep_done n e {out} f l =
        let swept : encode_state (state F N rest) ≡ result = ap (λ (A : Elements). encode_state (state F N A)) rest_is in
        rw (long n e) (answered_as written_answer (sweeping (length out)) (answered_fits written_answer byte_limit tt result out (long n e) f (left_is swept l).written))

pub sweep_small : (s : List ℕ) (room : ℕ) → Within byte_limit (sweep_bytes s room)
unfolding sweep_bytes sweep_read Within
sweep_small s room = go (read_state s)
  where
    go : (o : Outcome State) → Within byte_limit (sweep_read room o)
    go (refused k) = tt
    go (got S n) = fitting_within byte_limit room tt (encode_state (sweep_state S))
