-- What a call that fills a buffer answers, and the test of a result against a limit and the buffer.
use mathlib.Core.Path.{◌≡◌, refl, sym, ap, ◌∙◌}
use mathlib.Core.Logic.{◌⊎◌, inl, inr}
use mathlib.Core.Bool.{Bool, true, false, false≢true}
use mathlib.Core.List.{List, ◌++◌}
use Rattle.std.specs.Prelude.{Ok, Err}
use Rattle.refusals.specs.declared.Refusal.{Refusal}
use Rattle.refusals.specs.Refusals.{refusal}
use Prim.Native.Nat.{ℕ, ◌≤◌}
use native.Mathlib.Omega.{arith}
use borrow.Author.Tests.{le-leb, leb-true}
use lib.Dec.{leb}
use lib.ListN.{length, drop}
use Rattle.machine.specs.Tests.{pick}
use Rattle.buffers.specs.Buffers.{Written, kept, wrote, buffer_after, fits_in, fitting, Answered, written_answer}

module _ {Why A B : Type 0} (answer : Written Why A → B) {w : Written Why A} where
  pub answered_kept : (why : Why) (out : List ℕ) → w ≡ kept why → Answered answer w out (answer (kept why)) out
  unfolding buffer_after
  answered_kept why out e = record { answers = ap answer (sym e); leaves = rw e }

  pub answered_wrote : (a : A) (new : List ℕ) {out last : List ℕ} → w ≡ wrote a new → last ≡ new ++ drop (length new) out → Answered answer w out (answer (wrote a new)) last
  unfolding buffer_after
  answered_wrote a new e f = record { answers = ap answer (sym e); leaves = rw e f }

  -- of what comes to the same
  pub answered_as : {v : Written Why A} {r : B} {out last : List ℕ} → w ≡ v → Answered answer v out r last → Answered answer w out r last
  answered_as {out = out} e h = record { answers = h.answers ∙ ap answer (sym e); leaves = h.leaves ∙ ap (λ u. buffer_after u out) (sym e) }

-- The test

module _ (limit room n : ℕ) where
  pub fits_within : fits_in limit room n ≡ true → (n ≤ limit) × (n ≤ room)
  unfolding fits_in
  fits_within e = go (leb n limit) refl e
    where
      go : (b : Bool) → leb n limit ≡ b → pick b (leb n room) false ≡ true → (n ≤ limit) × (n ≤ room)
      go true q e = (leb-true n limit q, leb-true n room e)
      go false q e = absurd (false≢true e)

module _ {A : Type 0} (limit room : ℕ) (a : A) (new : List ℕ) where
  pub fitting_is : length new ≤ limit → length new ≤ room → fitting limit room a new ≡ wrote a new
  unfolding fitting fits_in
  fitting_is h k = simp (le-leb _ _ h, le-leb _ _ k)

  -- a result fits, or is 13
  abbrev pub Fits : Type 0
  Fits = ((fitting limit room a new ≡ wrote a new) × (length new ≤ limit) × (length new ≤ room)) ⊎ (fitting limit room a new ≡ kept 13)

  pub fitting_cases : Fits
  unfolding fitting
  fitting_cases = go (fits_in limit room (length new)) refl
    where
      go : (b : Bool) → fits_in limit room (length new) ≡ b → Fits
      go true q = inl (rw q, (fits_within limit room (length new) q).0, (fits_within limit room (length new) q).1)
      go false q = inr (rw q)

  -- what is written is the result, which fits
  pub fitting_wrote : {b : A} {last : List ℕ} → fitting limit room a new ≡ wrote b last → (last ≡ new) × (length new ≤ limit) × (length new ≤ room)
  fitting_wrote {b} {last} e = go fitting_cases
    where
      go : Fits → (last ≡ new) × (length new ≤ limit) × (length new ≤ room)
      go (inl f) = let q : ◌≡◌ {A = Written ℕ A} (wrote a new) (wrote b last) = sym f.0 ∙ e in let l : last ≡ new = cc in (l, f.1, f.2)
      go (inr f) = absurd (let q : ◌≡◌ {A = Written ℕ A} (kept 13) (wrote b last) = sym f ∙ e in let z : ◌≡◌ {A = ℕ} 0 1 = cc in omega arith)

  -- the only refusal is 13
  pub fitting_kept : {k : ℕ} → fitting limit room a new ≡ kept k → k ≡ 13
  fitting_kept {k} e = go fitting_cases
    where
      go : Fits → k ≡ 13
      go (inl f) = absurd (let q : ◌≡◌ {A = Written ℕ A} (wrote a new) (kept k) = sym f.0 ∙ e in let z : ◌≡◌ {A = ℕ} 0 1 = cc in omega arith)
      go (inr f) = let q : ◌≡◌ {A = Written ℕ A} (kept 13) (kept k) = sym f ∙ e in cc

  -- of a result that does not fit
  pub fitting_full : ¬ ((length new ≤ limit) × (length new ≤ room)) → fitting limit room a new ≡ kept 13
  fitting_full h = go fitting_cases
    where
      go : Fits → fitting limit room a new ≡ kept 13
      go (inl f) = absurd (h (f.1, f.2))
      go (inr f) = f

-- where the code has tested how many bytes the result has
module _ {A B : Type 0} (answer : Written ℕ A → B) (limit : ℕ) (a : A) (new out : List ℕ) {n : ℕ} (e : n ≡ length new) where
  pub answered_full : fits_in limit (length out) n ≡ false → Answered answer (fitting limit (length out) a new) out (answer (kept 13)) out
  unfolding fitting
  answered_full f = answered_kept answer 13 out (rw (← e) (rw f))

  pub answered_fits : {last : List ℕ} → fits_in limit (length out) n ≡ true → last ≡ new ++ drop (length new) out
      → Answered answer (fitting limit (length out) a new) out (answer (wrote a new)) last
  unfolding fitting
  answered_fits f g = answered_wrote answer a new (rw (← e) (rw f)) g

-- Where bytes are written, they are within the limit.
unfoldable pub Within : {A : Type 0} → ℕ → Written ℕ A → Type 0
Within limit (kept k) = Unit {0}
Within limit (wrote a new) = length new ≤ limit

pub fitting_within : {A : Type 0} (limit room : ℕ) (a : A) (new : List ℕ) → Within limit (fitting limit room a new)
unfolding Within
fitting_within limit room a new = go (fitting_cases limit room a new)
  where
    go : Fits limit room a new → Within limit (fitting limit room a new)
    go (inl h) = rw h.0 h.1
    go (inr h) = rw h tt

-- so the length that is answered is within it
pub length_within : {A : Type 0} (limit : ℕ) (w : Written ℕ A) {n : ℕ} → Within limit w → Ok n ≡ written_answer w → n ≤ limit
unfolding Within written_answer
length_within limit (kept k) h e = absurd (let z : ◌≡◌ {A = ℕ} 0 1 = cc in omega arith)
length_within limit (wrote a new) {n} h e = let q : n ≡ length new = cc in omega (arith, h)

-- a refusal is that of the number
pub kept_of : {A : Type 0} (w : Written ℕ A) (e : Refusal) → Err e ≡ written_answer w → (k : ℕ) × (w ≡ kept k) × (e ≡ refusal k)
unfolding written_answer
kept_of (kept k) e h = (k, refl, cc)
kept_of (wrote a new) e h = absurd (let z : ◌≡◌ {A = ℕ} 0 1 = cc in omega arith)
