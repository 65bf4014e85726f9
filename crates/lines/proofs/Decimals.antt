-- The fewest digits that hold a number are its decimal text.
use mathlib.Core.Path.{◌≡◌, refl, ap}
use mathlib.Core.Bool.{Bool, true, false}
use mathlib.Core.List.{List, [], ◌∷◌, ◌++◌}
use Prim.Native.Nat.{ℕ, zero, suc, ◌/◌, ◌%◌, ◌^◌, ◌-◌, ◌≤◌, ◌<◌}
use native.Mathlib.Nat.{one-le-pow, pow-le-pow_right}
use native.Mathlib.Omega.{arith}
use borrow.Author.Tests.{lt-ltb, le-ltb, ltb-false, ltb-true}
use lib.Dec.{ltb}
use Rattle.io.specs.Digits.{hex_digit_ascii, last_digits, IsDigitCount}
use Rattle.lines.specs.Lines.{digits_by, decimal}

module _ (n k : ℕ) (f : IsDigitCount 10 1 n (suc (suc k))) where
  reached : 10 ^ suc k ≤ n
  reached = let e : suc (suc k) - 1 ≡ suc k = omega arith in rw e at (f.2 (omega arith))

  ten_or_more : 10 ≤ n
  ten_or_more = omega (arith, reached, one-le-pow k 10 (omega arith))

  fewest_lower : IsDigitCount 10 1 (n / 10) (suc k)
  fewest_lower =
      let e : suc k - 1 ≡ k = omega arith in
      let g : 10 ^ k ≤ n / 10 = omega (arith, reached) in
      (omega arith, omega (arith, f.1), λ h. rw e g)

digits_by_law : (d n k : ℕ) → n ≤ d → IsDigitCount 10 1 n k → last_digits 10 k n ≡ digits_by d n
unfolding digits_by
digits_by_law d n zero h f = absurd (omega (arith, f.0))
digits_by_law zero n (suc zero) h f = let e : n % 10 ≡ n = omega (arith, h) in rw e
digits_by_law (suc d) n (suc zero) h f =
    let l : n < 10 = omega (arith, f.1) in
    let e : n % 10 ≡ n = omega (arith, l) in
    simp (e, lt-ltb n 10 l)
digits_by_law zero n (suc (suc k)) h f = absurd (omega (arith, ten_or_more n k f))
digits_by_law (suc d) n (suc (suc k)) h f =
    let l = ten_or_more n k f in
    simp (le-ltb n 10 l) (ap (λ (x : List ℕ). x ++ (hex_digit_ascii (n % 10) ∷ [])) (digits_by_law d (n / 10) (suc k) (omega (arith, l, h)) (fewest_lower n k f)))

pub decimal_digits : (n k : ℕ) → IsDigitCount 10 1 n k → last_digits 10 k n ≡ decimal n
unfolding decimal
decimal_digits n k f = digits_by_law n n k (omega arith) f

-- A number of 64 bits has at most twenty digits.
pub decimal_short : (n k : ℕ) → n < 2 ^ 64 → IsDigitCount 10 1 n k → k ≤ 20
decimal_short n k h f = go (ltb 20 k) refl
  where
    go : (b : Bool) → ltb 20 k ≡ b → k ≤ 20
    go false q = ltb-false 20 k q
    go true q =
        let l : 20 < k = ltb-true 20 k q in
        let m : 20 ≤ k - 1 = omega (arith, l) in
        let g : 10 ^ 20 ≤ 10 ^ (k - 1) = pow-le-pow_right (omega arith) m in
        absurd (omega (arith, g, h, f.2 (omega (arith, l))))
