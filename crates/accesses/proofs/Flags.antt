-- The three flags as bits of a byte: what the masks of the record leave of them, and the line.
use mathlib.Core.Path.{◌≡◌, refl, ◌∙◌}
use mathlib.Core.Bool.{Bool, true, false}
use Prim.Native.Nat.{ℕ, ◌+◌, ◌*◌, ◌/◌, ◌%◌, ◌≤◌}
use native.Mathlib.Omega.{arith}
use lib.Bits.{bit_and, bit_or, and_step}
use lib.Dec.{eqb}
use borrow.Author.Tests.{eqb-true, eqb-false, ne_eqb}
use Rattle.machine.specs.Tests.{pick, ◌and◌, ◌or◌}
use Rattle.machine.proofs.Tests.{and_false}
use Rattle.registers.specs.Registers.{done_bits}
use Rattle.accesses.specs.Registers.{bit}

abbrev flags : (blocked done refused : Bool) → ℕ
flags a b c = bit a + (2 * bit b + 4 * bit c)

-- The lowest bit of a mask is set.
abbrev odd : ℕ → Bool
odd m = eqb (m % 2) 1

bit_is : (n : ℕ) (b : Bool) → n ≤ 1 → eqb n 1 ≡ b → n ≡ bit b
bit_is n true h e = eqb-true n 1 e
bit_is n false h e = let k : n ≡ 1 → ⊥ = eqb-false n 1 e in omega arith

-- what a mask leaves of them
flags_and : (a b c : Bool) (m : ℕ) → bit_and (flags a b c) m ≡ flags (a and odd m) (b and odd (m / 2)) (c and odd (m / 4))
flags_and a b c m =
    let h : m / 2 / 2 % 2 ≡ m / 4 % 2 = omega arith in
    go a b c _ _ _ (bit_is (m % 2) _ (omega arith) refl) (bit_is (m / 2 % 2) _ (omega arith) refl) (h ∙ bit_is (m / 4 % 2) _ (omega arith) refl)
  where
    go : (a b c x y z : Bool) → m % 2 ≡ bit x → m / 2 % 2 ≡ bit y → m / 2 / 2 % 2 ≡ bit z → bit_and (flags a b c) m ≡ flags (a and x) (b and y) (c and z)
    go false false false x y z e f g = refl
    go true false false x y z e f g = omega (arith, and_step 1 m)
    go false true false x y z e f g = omega (arith, and_step 2 m, and_step 1 (m / 2))
    go true true false x y z e f g = omega (arith, and_step 3 m, and_step 1 (m / 2))
    go false false true x y z e f g = omega (arith, and_step 4 m, and_step 2 (m / 2), and_step 1 (m / 2 / 2))
    go true false true x y z e f g = omega (arith, and_step 5 m, and_step 2 (m / 2), and_step 1 (m / 2 / 2))
    go false true true x y z e f g = omega (arith, and_step 6 m, and_step 3 (m / 2), and_step 1 (m / 2 / 2))
    go true true true x y z e f g = omega (arith, and_step 7 m, and_step 3 (m / 2), and_step 1 (m / 2 / 2))

-- The masks of the record

and_all : (b : Bool) → b and true ≡ b
and_all true = refl
and_all false = refl

pub acknowledged_flags : (a b c : Bool) → bit_and (flags a b c) 0xF9 ≡ flags a false false
acknowledged_flags a b c = flags_and a b c 0xF9 ∙ simp (and_all, and_false)

pub refused_flags : (a b c : Bool) → bit_or (bit_and (flags a b c) 0xF9) 4 ≡ flags a false true
refused_flags a b c = rw (acknowledged_flags a b c) (go a)
  where
    go : (a : Bool) → bit_or (flags a false false) 4 ≡ flags a false true
    go true = refl
    go false = refl

pub accepted_flags : (a b c : Bool) (w : ℕ) → bit_or (bit_and (flags a b c) 0xF8) (done_bits w) ≡ flags (eqb w 0) true false
unfolding done_bits
accepted_flags a b c w = rw (flags_and a b c 0xF8) (simp and_false (go (eqb w 0)))
  where
    go : (d : Bool) → pick d 3 2 ≡ flags d true false
    go true = refl
    go false = refl

-- The line

some_flag : (a b c : Bool) → pick (eqb (flags a b c) 0) 0 1 ≡ bit (a or b or c)
some_flag false false false = refl
some_flag false false true = refl
some_flag false true c = rw (ne_eqb (flags false true c) 0 (λ e. omega arith))
some_flag true b c = rw (ne_eqb (flags true b c) 0 (λ e. omega arith))

pub line_flags : (a b c : Bool) (m : ℕ) → pick (eqb (bit_and (flags a b c) m) 0) 0 1 ≡ bit (a and odd m or b and odd (m / 2) or c and odd (m / 4))
line_flags a b c m = rw (flags_and a b c m) (some_flag (a and odd m) (b and odd (m / 2)) (c and odd (m / 4)))
