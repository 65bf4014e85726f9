-- What putting names for variables does to references and to processes, and to the bytes that spell them.
use mathlib.Core.Path.{◌≡◌, refl, sym, ap, ◌∙◌, subst}
use mathlib.Core.List.{List, [], ◌∷◌, ◌++◌, append_assoc}
use Prim.Native.Nat.{ℕ, zero, suc, ◌+◌, ◌*◌, ◌-◌, ◌/◌, ◌%◌, ◌≤◌, ◌<◌}
use native.Mathlib.Nat.{zero-add, suc-add}
use native.Mathlib.Omega.{arith}
use lib.ListN.{length, take, drop, get_or, set, length-append}
use lib.Seq.{take_at}
use borrow.Rule.Slice.PartMut.{put_mid, same_len_mid}
use Rattle.calculus.specs.Processes.{Reference, name, variable, Process, parallel, Renaming, raise, raise_by, lift, lift_by, rename_all, rename, assign, reverse_onto, receive}
use Rattle.calculus.proofs.Renaming.{lift_by_raise_by}
use Rattle.machine.specs.Limits.{name_limit}
use Rattle.machine.specs.Validity.{ReferenceScoped, AllScoped}
use Rattle.machine.proofs.Scoping.{takes_receive}
use Rattle.buffers.specs.Words.{word, field}
use Rattle.buffers.proofs.Parts.{part_all}
use Rattle.buffers.proofs.Writing.{back}
use Rattle.buffers.proofs.Middle.{Part, inside, put, front_length}
use Rattle.format.specs.Kinds.{reference_at}
use Rattle.format.specs.Spelling.{first_variable, reference_number, encode_reference, encode_references, encode}
use Rattle.format.specs.Spellable.{Spellable}
use Rattle.format.specs.Reading.{word_at}
use Rattle.format.proofs.Readback.{word_back, length_reference, length_references}
use Rattle.format.proofs.Spellable.{spellable_parallel}
use Rattle.layouts.specs.Layouts.{Laid}
use Rattle.layouts.proofs.Laying.{length_rename, headed, process_long}
use Rattle.elements.proofs.Tags.{Tagged, tagged_null, tagged_parallel, tagged_restriction, tagged_ambient, tagged_action, tagged_replication, tagged, tagged_as}
use Rattle.elements.proofs.Processes.{length_bytes}
use Rattle.substituting.specs.Substituting.{SpellsNames, Referring}

-- Renaming

abbrev pub putting : ℕ → List Reference → Renaming
putting b ns = lift_by b (receive ns)

-- binders on binders
lift_by_more : (k b : ℕ) (ρ : Renaming) → lift_by k (lift_by b ρ) ≡ lift_by (k + b) ρ
unfolding lift_by
lift_by_more zero b ρ = rw zero-add
lift_by_more (suc k) b ρ = rw suc-add (ap lift (lift_by_more k b ρ))

-- the process behind an action, under its binders too
pub spellable_more : (k n b : ℕ) (P : Process) → Spellable (k + (n + b)) P → Spellable (n + (b + k)) P
spellable_more k n b P h = let e : k + (n + b) ≡ n + (b + k) = omega arith in subst (λ (d : ℕ). Spellable d P) e h

pub renamed_more : (k b : ℕ) (ρ : Renaming) (P : Process) → encode (rename (lift_by (b + k) ρ) P) ≡ encode (rename (lift_by k (lift_by b ρ)) P)
renamed_more k b ρ P = let e : b + k ≡ k + b = omega arith in rw (e, ← lift_by_more k b ρ)

-- names, and the variables of the binders inside, stay

putting_name : (b : ℕ) (ns : List Reference) (m : ℕ) → putting b ns (name m) ≡ name m
unfolding lift_by lift raise receive assign
putting_name zero ns m = refl
putting_name (suc b) ns m = ap raise (putting_name b ns m)

putting_below : (b : ℕ) (ns : List Reference) (i : ℕ) → i < b → putting b ns (variable i) ≡ variable i
unfolding lift_by lift raise
putting_below zero ns i h = absurd (omega arith)
putting_below (suc b) ns zero h = refl
putting_below (suc b) ns (suc i) h = ap raise (putting_below b ns i (omega arith))

-- the others become the names, the innermost the last

raised : (b : ℕ) (r : Reference) → ReferenceScoped name_limit 0 r → raise_by b r ≡ r
unfolding raise_by raise ReferenceScoped
raised zero r h = refl
raised (suc b) (name n) h = ap raise (raised b (name n) h)
raised (suc b) (variable i) h = absurd (omega arith)

raised_variable : (b j : ℕ) → raise_by b (variable j) ≡ variable (b + j)
unfolding raise_by raise
raised_variable zero j = rw zero-add
raised_variable (suc b) j = rw suc-add (ap raise (raised_variable b j))

past_all : (ns done : List Reference) (k : ℕ) → assign (reverse_onto ns done) (variable (length ns + k)) ≡ assign done (variable k)
unfolding assign reverse_onto
past_all [] done k = rw zero-add
past_all (n ∷ ns) done k =
    let e : suc (length ns) + k ≡ length ns + suc k = omega arith in
    ap (λ (m : ℕ). assign (reverse_onto ns (n ∷ done)) (variable m)) e ∙ past_all ns (n ∷ done) (suc k)

assigned : (ns done : List Reference) (k j : ℕ) → k + j + 1 ≡ length ns → assign (reverse_onto ns done) (variable j) ≡ reference_at ns k
unfolding assign reverse_onto reference_at
assigned [] done k j e = absurd (omega arith)
assigned (n ∷ ns) done zero j e =
    let i : j ≡ length ns + 0 = omega arith in
    ap (λ (m : ℕ). assign (reverse_onto ns (n ∷ done)) (variable m)) i ∙ past_all ns (n ∷ done) 0
assigned (n ∷ ns) done (suc k) j e = assigned ns (n ∷ done) k j (omega arith)

putting_above : (b : ℕ) (ns : List Reference) (k j : ℕ) → AllScoped name_limit 0 ns → k + j + 1 ≡ length ns → putting b ns (variable (b + j)) ≡ reference_at ns k
unfolding receive ReferenceScoped
putting_above b ns k j h e =
    ap (putting b ns) (sym (raised_variable b j))
    ∙ lift_by_raise_by b (receive ns) (variable j)
    ∙ raised b (receive ns (variable j)) (takes_receive name_limit 0 ns h (variable j) (omega arith))
    ∙ assigned ns [] k j e

-- References, in two bytes each

two_bytes : (ns : List Reference) (k : ℕ) → k < length ns
    → get_or (encode_references ns) (2 * k) 0 ∷ get_or (encode_references ns) (2 * k + 1) 0 ∷ [] ≡ encode_reference (reference_at ns k)
unfolding encode_references encode_reference word reference_at
two_bytes [] k h = absurd (omega arith)
two_bytes (n ∷ ns) zero h = refl
two_bytes (n ∷ ns) (suc k) h =
    let e : 2 * suc k ≡ suc (suc (2 * k)) = omega arith in
    rw (e, suc-add, suc-add) (two_bytes ns k (omega arith))

-- the reference at the front, by the number in its bytes
module _ (s names : List ℕ) (b v : ℕ) (k : v ≡ word_at s 0) (ns : List Reference) (n : SpellsNames names ns) (a : Reference) (rest : List ℕ)
    (e : s ≡ encode_reference a ++ rest) (h : ReferenceScoped name_limit (length ns + b) a) where
  number : v ≡ reference_number a
  unfolding encode_reference word
  number = k ∙ ap (λ (l : List ℕ). word_at l 0) e ∙ word_back (reference_number a)

  below : (r : Reference) → v ≡ reference_number r → v < first_variable + b → putting b ns r ≡ r
  unfolding reference_number
  below (name m) l q = putting_name b ns m
  below (variable i) l q = putting_below b ns i (omega arith)

  pub reference_kept : v < first_variable + b → s ≡ encode_reference (putting b ns a) ++ rest
  reference_kept q = e ∙ ap (λ (r : Reference). encode_reference r ++ rest) (sym (below a number q))

  above : (r : Reference) → ReferenceScoped name_limit (length ns + b) r → v ≡ reference_number r → first_variable + b ≤ v
      → (r ≡ variable (b + (v - (first_variable + b)))) × (v - (first_variable + b) < length ns)
  unfolding reference_number ReferenceScoped
  above (name m) i l q = absurd (omega arith)
  above (variable i) j l q = let x : i ≡ b + (v - (first_variable + b)) = omega arith in (ap variable x, omega arith)

  pub names_hold : first_variable + b ≤ v → 2 * (1 + (v - (first_variable + b))) ≤ length names
  names_hold q = omega (arith, (above a h number q).1, ap length n.spelled, length_references ns)

  pub reference_put : first_variable + b ≤ v → (at : ℕ) → at ≡ length names - 2 * (1 + (v - (first_variable + b)))
      → set (set s 0 (get_or names at 0)) 1 (get_or names (at + 1) 0) ≡ encode_reference (putting b ns a) ++ rest
  unfolding encode_reference word
  reference_put q at i =
      let j = v - (first_variable + b) in
      let m = length ns - (1 + j) in
      let t = above a h number q in
      let small : j < length ns = t.1 in
      let there : at ≡ 2 * m = omega (arith, small, ap length n.spelled, length_references ns) in
      let all : m + j + 1 ≡ length ns = omega (arith, small) in
      let put : get_or names at 0 ∷ get_or names (at + 1) 0 ∷ [] ≡ encode_reference (reference_at ns m) = rw (n.spelled, there) (two_bytes ns m (omega (arith, small))) in
      ap (λ (l : List ℕ). set (set l 0 (get_or names at 0)) 1 (get_or names (at + 1) 0)) e
      ∙ ap (λ (l : List ℕ). l ++ rest) put
      ∙ ap (λ (r : Reference). encode_reference r ++ rest) (sym (ap (putting b ns) t.0 ∙ putting_above b ns m j n.scoped all))

pub no_reference : (rs : List Reference) (s : List ℕ) (ρ : Renaming) → s ≡ encode_references rs → length s < 2 → s ≡ encode_references (rename_all ρ rs)
unfolding encode_references rename_all
no_reference [] s ρ e h = e
no_reference (r ∷ rs) s ρ e h =
    absurd (omega (arith, ap length e, length-append (encode_reference r) (encode_references rs), length_reference r))

-- references that are not none
pub record Leading (s : List ℕ) (d : ℕ) (rs : List Reference) : Type 0 where
  pub first : Reference
  pub others : List Reference
  pub are : rs ≡ first ∷ others
  pub bytes : s ≡ encode_reference first ++ encode_references others
  pub scoped : ReferenceScoped name_limit d first × AllScoped name_limit d others

pub leading : (rs : List Reference) (s : List ℕ) (d : ℕ) → s ≡ encode_references rs → AllScoped name_limit d rs → 2 ≤ length s → Leading s d rs
unfolding encode_references AllScoped
leading [] s d e i h = absurd (omega (arith, ap length e))
leading (r ∷ rs) s d e i h = record { first = r; others = rs; are = refl; bytes = e; scoped = i }

-- what the first of them, a variable, is to become lies within the bytes of the names
pub names_room : {s names : List ℕ} {b v : ℕ} → Referring s names b → 2 ≤ length s → v ≡ word_at s 0 → first_variable + b ≤ v → 2 * (1 + (v - (first_variable + b))) ≤ length names
names_room p h k q =
    let v = leading p.references _ _ p.spelled p.scoped h in
    names_hold _ _ _ _ k p.handed p.named v.first _ v.bytes v.scoped.0 q

-- what is behind the first
pub behind_first : (s rest : List ℕ) (r : Reference) → s ≡ encode_reference r ++ rest → take (length s - 2) (drop 2 s) ≡ rest
unfolding encode_reference word
behind_first s rest (name n) e = part_all 2 s ∙ ap (drop 2) e
behind_first s rest (variable i) e = part_all 2 s ∙ ap (drop 2) e

-- the first was renamed, and then the others
pub references_put : (s rest ys : List ℕ) (r : Reference) (ρ : Renaming) (rs qs : List Reference) → rs ≡ r ∷ qs
    → s ≡ encode_reference (ρ r) ++ rest → ys ≡ encode_references (rename_all ρ qs)
    → put_mid 2 (length s - 2) s ys ≡ encode_references (rename_all ρ rs)
unfolding encode_references rename_all
references_put s rest ys r ρ rs qs e f g =
    back 2 s ys ∙ ap (λ (l : List ℕ). take 2 l ++ ys) f ∙ two (ρ r) ∙ ap (λ (l : List ℕ). encode_reference (ρ r) ++ l) g
    ∙ ap (λ (l : List Reference). encode_references (rename_all ρ l)) (sym e)
  where
    two : (q : Reference) → take 2 (encode_reference q ++ rest) ++ ys ≡ encode_reference q ++ ys
    two q = ap (λ (l : List ℕ). l ++ ys) (take_at (encode_reference q) rest 2 (length_reference q))

-- How processes lie

-- a parallel, whose second process begins at `mid`
pub record Beside (s : List ℕ) (P : Process) (mid : ℕ) : Type 0 where
  pub first : Process
  pub second : Process
  pub is : P ≡ parallel first second
  pub part : Part s (encode first) (encode second) 3 mid
  pub spellable : (d : ℕ) → Spellable d P → Spellable d first × Spellable d second
  pub renamed : (ρ : Renaming) → encode (rename ρ P) ≡ part.front ++ (encode (rename ρ first) ++ encode (rename ρ second))

beside_of : {P : Process} (n : ℕ) → Tagged 0x21 P → n ≡ word_at (encode P) 4 → Beside (encode P) P (6 + n)
unfolding encode rename field word
beside_of n (tagged_parallel P Q) k =
    let b = encode P ++ encode Q in
    record {
      first = P;
      second = Q;
      is = refl;
      part = record { front = 0x21 ∷ length b / 256 ∷ length b % 256 ∷ []; bytes = refl; starts = refl; ends = omega (arith, length_bytes P (encode Q)) };
      spellable = λ d. spellable_parallel d P Q;
      renamed = λ ρ.
          headed 0x21 b (encode (rename ρ P) ++ encode (rename ρ Q))
          (omega (arith, length-append (encode P) (encode Q), length-append (encode (rename ρ P)) (encode (rename ρ Q)), length_rename ρ P, length_rename ρ Q));
    }

-- a process whose tag is below a parallel's is null
null_of : {tag : ℕ} {P : Process} → Tagged tag P → tag < 0x21 → (ρ : Renaming) → rename ρ P ≡ P
unfolding rename
null_of tagged_null h ρ = refl
null_of (tagged_parallel P Q) h ρ = absurd (omega arith)
null_of (tagged_restriction P) h ρ = absurd (omega arith)
null_of (tagged_ambient a P) h ρ = absurd (omega arith)
null_of (tagged_action α P) h ρ = absurd (omega arith)
null_of (tagged_replication α P) h ρ = absurd (omega arith)

-- The same of a list that is the spelling

module _ (P : Process) (s : List ℕ) (e : s ≡ encode P) where
  pub beside : (n : ℕ) → n ≡ word_at s 4 → get_or s 0 0 ≡ 0x21 → Beside s P (6 + n)
  beside n k t = subst (λ (l : List ℕ). Beside l P (6 + n)) (sym e) (beside_of n (tagged_as e t) (rw e at k))

  pub same_null : get_or s 0 0 < 0x21 → (ρ : Renaming) → s ≡ encode (rename ρ P)
  same_null h ρ = e ∙ ap encode (sym (null_of (tagged e) h ρ))

  pub header_long : 3 ≤ length s
  header_long = rw e (process_long P)

-- Any other process that is not null: its first references, and, with Z in their place, its second

module _ {s : List ℕ} {P : Process} {a m n e b : ℕ} (v : Laid s P a m n e b) where
  abbrev pub first_part : Part s (encode_references v.first) (v.between ++ (encode_references v.second ++ encode v.after)) a m
  first_part = record { front = v.front; bytes = v.bytes; starts = v.starts; ends = v.halves }

  module _ (Z : List ℕ) (z : length Z ≡ length (take (m - a) (drop a s))) where
    abbrev kept : List ℕ
    kept = (v.front ++ Z) ++ v.between

    pub regrouped : (X : List ℕ) → v.front ++ (Z ++ (v.between ++ X)) ≡ kept ++ X
    regrouped X = sym (append_assoc (v.front ++ Z) v.between X ∙ append_assoc v.front Z (v.between ++ X))

    abbrev pub second_part : Part (put_mid a (m - a) s Z) (encode_references v.second) (encode v.after) n e
    second_part =
        record {
          front = kept;
          bytes = put first_part Z ∙ regrouped (encode_references v.second ++ encode v.after);
          starts = omega (arith, length-append (v.front ++ Z) v.between, front_length first_part Z z, v.resumes);
          ends = v.ends;
        }

    -- the second end within the bytes, which stay as long where others stand in their place too
    pub second_within : e ≤ length s
    second_within = omega (arith, (inside second_part).1, same_len_mid a (m - a) s Z z)

    pub length_after : (Y : List ℕ) → length Y ≡ length (take (e - n) (drop n (put_mid a (m - a) s Z)))
        → length (put_mid n (e - n) (put_mid a (m - a) s Z) Y) ≡ length s
    length_after Y y = same_len_mid n (e - n) (put_mid a (m - a) s Z) Y y ∙ same_len_mid a (m - a) s Z z

    pub second_renamed : (ρ : Renaming) → Z ≡ encode_references (rename_all ρ v.first)
        → encode (rename ρ P) ≡ kept ++ (encode_references (rename_all ρ v.second) ++ encode (rename (lift_by b ρ) v.after))
    second_renamed ρ f =
        let X = encode_references (rename_all ρ v.second) ++ encode (rename (lift_by b ρ) v.after) in
        v.renamed ρ ∙ ap (λ (l : List ℕ). v.front ++ (l ++ (v.between ++ X))) (sym f) ∙ regrouped X
