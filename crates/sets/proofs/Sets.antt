-- Sets of names in words.
use mathlib.Core.Path.{◌≡◌, refl, sym, ap, ◌∙◌}
use mathlib.Core.Bool.{Bool, true, false, false≢true}
use mathlib.Core.Logic.{◌⊎◌, inl, inr, ◌↔◌, ⊎_elim}
use mathlib.Core.List.Memᴰ
use mathlib.Core.List.{List, [], ◌∷◌, ◌++◌}
use Prim.Native.Nat.{ℕ, ◌+◌, ◌*◌, ◌/◌, ◌%◌, ◌^◌, ◌≤◌, ◌<◌}
use native.Mathlib.Nat.{zero-div, one-mul}
use native.Mathlib.Omega.{arith}
use borrow.Author.Tests.{eqb-true, eqb-false, eq-eqb, lt-ltb, le-ltb}
use lib.Dec.{eqb}
use lib.ListN.{length, get_or, set, replicate, length-set, length-replicate, get_or-replicate}
use lib.Pow.{shl_exact}
use lib.Seq.{get_or-set_same, get_or-set_other}
use Rattle.std.specs.Prelude.{Option, None, Some}
use Rattle.calculus.specs.Names.{Among}
use Rattle.machine.specs.Limits.{free_name_limit}
use Rattle.machine.specs.Tests.{pick}
use Rattle.sets.specs.Sets.{set_words, holds_name, with_name, holds_given, with_given}
use Rattle.sets.proofs.Bits.{bit, bit_added, bit_kept, bit_room}

abbrev bit_in : List ℕ → ℕ → ℕ
bit_in names n = bit (get_or names (n % set_words) 0) (n / set_words)

pub held_as : (names : List ℕ) (n : ℕ) → n < free_name_limit → eqb (bit_in names n) 1 ≡ holds_name names n
unfolding holds_name
held_as names n h = ap (λ (t : Bool). pick t (eqb (bit_in names n) 1) false) (sym (lt-ltb n free_name_limit h))

-- a bit is 0 or 1
unset : (names : List ℕ) (n : ℕ) → n < free_name_limit → holds_name names n ≡ false → bit_in names n ≡ 0
unset names n h e = omega (arith, eqb-false (bit_in names n) 1 (held_as names n h ∙ e))

-- What is no free name is in no set

pub not_held : (names : List ℕ) (n : ℕ) → free_name_limit ≤ n → false ≡ holds_name names n
unfolding holds_name
not_held names n h = ap (λ (t : Bool). pick t (eqb (bit_in names n) 1) false) (sym (le-ltb n free_name_limit h))

abbrev more : List ℕ → ℕ → List ℕ
more names m = set names (m % set_words) (get_or names (m % set_words) 0 + 2 ^ (m / set_words))

pub not_put : (names : List ℕ) (n : ℕ) → free_name_limit ≤ n → names ≡ with_name names n
unfolding with_name
not_put names n h = ap (λ (t : Bool). pick t (pick (holds_name names n) names (more names n)) names) (sym (le-ltb n free_name_limit h))

-- nor is a name that is not there

unfoldable pub NoFreeName : Option ℕ → Type 0
NoFreeName None = Unit {0}
NoFreeName (Some n) = free_name_limit ≤ n

pub none_held : (names : List ℕ) (o : Option ℕ) → NoFreeName o → false ≡ holds_given names o
unfolding NoFreeName holds_given
none_held names None h = refl
none_held names (Some n) h = not_held names n h

pub none_put : (names : List ℕ) (o : Option ℕ) → NoFreeName o → names ≡ with_given names o
unfolding NoFreeName with_given
none_put names None h = refl
none_put names (Some n) h = not_put names n h

-- A free name that is put in

module _ (names : List ℕ) (m : ℕ) (small : m < free_name_limit) where
  with_as : (b : Bool) → holds_name names m ≡ b → with_name names m ≡ pick b names (more names m)
  unfolding with_name
  with_as b e =
      ap (λ (t : Bool). pick t (pick (holds_name names m) names (more names m)) names) (lt-ltb m free_name_limit small) ∙ ap (λ (t : Bool). pick t names (more names m)) e

  pub put_held : holds_name names m ≡ true → names ≡ with_name names m
  put_held e = sym (with_as true e)

  with_length : length (with_name names m) ≡ length names
  with_length = go (holds_name names m) refl
    where
      go : (b : Bool) → holds_name names m ≡ b → length (with_name names m) ≡ length names
      go true e = ap length (with_as true e)
      go false e = ap length (with_as false e) ∙ length-set names (m % set_words) _

  module _ (in-range : m % set_words < length names) where
    now_held : holds_name names m ≡ false → holds_name (more names m) m ≡ true
    now_held none =
        sym (held_as (more names m) m small)
        ∙ eq-eqb _ 1 (ap (λ (b : ℕ). bit b (m / set_words)) (get_or-set_same names (m % set_words) _ 0 in-range) ∙ bit_added (get_or names (m % set_words) 0) (m / set_words) (unset names m small none))

    bit_stays : holds_name names m ≡ false → (n : ℕ) → (n ≡ m → ⊥) → bit_in (more names m) n ≡ bit_in names n
    bit_stays none n h = go (eqb (n % set_words) (m % set_words)) refl
      where
        go : (t : Bool) → eqb (n % set_words) (m % set_words) ≡ t → bit_in (more names m) n ≡ bit_in names n
        go true e =
            let q = eqb-true (n % set_words) (m % set_words) e in
            ap (λ (i : ℕ). bit (get_or (more names m) i 0) (n / set_words)) q ∙ ap (λ (b : ℕ). bit b (n / set_words)) (get_or-set_same names (m % set_words) _ 0 in-range)
            ∙ bit_kept (get_or names (m % set_words) 0) (n / set_words) (m / set_words) (λ r. h (omega (arith, q, r))) (unset names m small none)
            ∙ ap (λ (i : ℕ). bit (get_or names i 0) (n / set_words)) (sym q)
        go false e = ap (λ (b : ℕ). bit b (n / set_words)) (get_or-set_other names (m % set_words) (n % set_words) _ 0 (eqb-false (n % set_words) (m % set_words) e))

    others_kept : holds_name names m ≡ false → (n : ℕ) → n < free_name_limit → (n ≡ m → ⊥) → holds_name (more names m) n ≡ holds_name names n
    others_kept none n l h = sym (held_as (more names m) n l) ∙ ap (λ (b : ℕ). eqb b 1) (bit_stays none n h) ∙ held_as names n l

    with_holds : (n : ℕ) → n < free_name_limit → (holds_name (with_name names m) n ≡ true) ↔ ((holds_name names n ≡ true) ⊎ (n ≡ m))
    with_holds n l = go (holds_name names m) refl (eqb n m) refl
      where
        go : (t : Bool) → holds_name names m ≡ t → (s : Bool) → eqb n m ≡ s → (holds_name (with_name names m) n ≡ true) ↔ ((holds_name names n ≡ true) ⊎ (n ≡ m))
        go true e s f =
            let w : holds_name (with_name names m) n ≡ holds_name names n = ap (λ (l : List ℕ). holds_name l n) (with_as true e) in
            ((λ h. inl (sym w ∙ h)), ⊎_elim (λ h. w ∙ h) (λ q. w ∙ ap (holds_name names) q ∙ e))
        go false e true f =
            let q = eqb-true n m f in
            ((λ h. inr q), (λ h. ap (λ (l : List ℕ). holds_name l n) (with_as false e) ∙ ap (holds_name (more names m)) q ∙ now_held e))
        go false e false f =
            let d = eqb-false n m f in
            let w : holds_name (with_name names m) n ≡ holds_name names n = ap (λ (l : List ℕ). holds_name l n) (with_as false e) ∙ others_kept e n l d in
            ((λ h. inl (sym w ∙ h)), ⊎_elim (λ h. w ∙ h) (λ q. absurd (d q)))

-- A set that holds these free names

pub record Holding (names ns : List ℕ) : Type 0 where
  pub size : length names ≡ set_words
  pub says : (n : ℕ) → n < free_name_limit → (holds_name names n ≡ true) ↔ Among n ns

abbrev pub blank : List ℕ
blank = replicate set_words 0

blank_holds : (n : ℕ) → n < free_name_limit → holds_name blank n ≡ false
blank_holds n h =
    sym (held_as blank n h)
    ∙ ap (λ (b : ℕ). eqb (b / 2 ^ (n / set_words) % 2) 1) (get_or-replicate set_words (n % set_words) 0 0 (omega arith)) ∙ ap (λ (b : ℕ). eqb (b % 2) 1) (zero-div (2 ^ (n / set_words)))

pub holding_none : Holding blank []
holding_none = record {
  size = length-replicate {A = ℕ} set_words 0;
  says = λ n h. ((λ e. absurd (false≢true (sym (blank_holds n h) ∙ e))), (λ a. absurd (Memᴰ.not-nil a)));
}

pub holding_more : (names ns : List ℕ) (m : ℕ) → Holding names ns → m < free_name_limit → Holding (with_name names m) (ns ++ m ∷ [])
holding_more names ns m g h = record {
  size = with_length names m h ∙ g.size;
  says = λ n l.
      let w = with_holds names m h (omega (arith, g.size)) n l in (
        (λ e. ⊎_elim (λ f. Memᴰ.append_left (m ∷ []) ((g.says n l).0 f)) (λ q. Memᴰ.append_right ns (Memᴰ.head q)) (w.0 e)),
        (λ a. w.1 (⊎_elim (λ b. inl ((g.says n l).1 b)) (λ b. inr (Memᴰ.eq_of_singleton b)) (Memᴰ.append_cases ns a))),
      );
}

-- As the code has it: a shifted 1 is added to a word

module _ (names : List ℕ) (n : ℕ) (small : n < free_name_limit) (none : holds_name names n ≡ false) where
  one_shifted : 1 * 2 ^ (n / set_words) % 2 ^ 64 ≡ 2 ^ (n / set_words)
  one_shifted = shl_exact 1 (n / set_words) 64 (omega arith) (omega (arith, small)) ∙ one-mul (2 ^ (n / set_words))

  pub put_room : get_or names (n % set_words) 0 < 2 ^ 64 → get_or names (n % set_words) 0 + 1 * 2 ^ (n / set_words) % 2 ^ 64 < 2 ^ 64
  put_room h = rw one_shifted (bit_room (get_or names (n % set_words) 0) (n / set_words) 64 h (omega (arith, small)) (unset names n small none))

  pub put_done : set names (n % set_words) (get_or names (n % set_words) 0 + 1 * 2 ^ (n / set_words) % 2 ^ 64) ≡ with_name names n
  put_done = ap (λ (b : ℕ). set names (n % set_words) (get_or names (n % set_words) 0 + b)) one_shifted ∙ sym (with_as names n small false none)
