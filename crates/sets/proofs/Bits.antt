-- The bits of a number, and of the same with a bit more.
use mathlib.Core.Path.{◌≡◌, refl, sym, ap, ◌∙◌}
use Prim.Native.Nat.{ℕ, zero, suc, ◌+◌, ◌/◌, ◌%◌, ◌^◌, ◌<◌}
use native.Mathlib.Nat.{pow-suc, mul_comm, div-div-eq-div-mul}
use native.Mathlib.Omega.{arith}

abbrev pub bit : ℕ → ℕ → ℕ
bit b k = b / 2 ^ k % 2

-- without its lowest bit
halved : (b k : ℕ) → bit b (suc k) ≡ bit (b / 2) k
halved b k = ap (λ (x : ℕ). x % 2) (ap (λ (x : ℕ). b / x) (pow-suc 2 k ∙ mul_comm (2 ^ k) 2) ∙ sym (div-div-eq-div-mul b 2 (2 ^ k)))

half_more : (b k : ℕ) → (b + 2 ^ suc k) / 2 ≡ b / 2 + 2 ^ k
half_more b k = omega (arith, pow-suc 2 k)

pub bit_added : (b k : ℕ) → bit b k ≡ 0 → bit (b + 2 ^ k) k ≡ 1
bit_added b zero e = omega arith
bit_added b (suc k) e = halved (b + 2 ^ suc k) k ∙ ap (λ (x : ℕ). bit x k) (half_more b k) ∙ bit_added (b / 2) k (sym (halved b k) ∙ e)

pub bit_kept : (b j k : ℕ) → (j ≡ k → ⊥) → bit b k ≡ 0 → bit (b + 2 ^ k) j ≡ bit b j
bit_kept b zero zero h e = absurd (h refl)
bit_kept b zero (suc k) h e = omega (arith, pow-suc 2 k)
bit_kept b (suc j) zero h e = let f : (b + 1) / 2 ≡ b / 2 = omega arith in halved (b + 1) j ∙ ap (λ (x : ℕ). bit x j) f ∙ sym (halved b j)
bit_kept b (suc j) (suc k) h e =
    halved (b + 2 ^ suc k) j ∙ ap (λ (x : ℕ). bit x j) (half_more b k) ∙ bit_kept (b / 2) j k (λ q. h (ap suc q)) (sym (halved b k) ∙ e) ∙ sym (halved b j)

-- There is room for a bit that is not set
pub bit_room : (b k n : ℕ) → b < 2 ^ n → k < n → bit b k ≡ 0 → b + 2 ^ k < 2 ^ n
bit_room b k zero s h e = absurd (omega arith)
bit_room b zero (suc n) s h e = omega (arith, s, e, pow-suc 2 n)
bit_room b (suc k) (suc n) s h e =
    let r = bit_room (b / 2) k n (omega (arith, s, pow-suc 2 n)) (omega (arith, h)) (sym (halved b k) ∙ e) in omega (arith, r, pow-suc 2 n, pow-suc 2 k)
