-- The registers as the rules spell them: what the record's definitions make of them.
use mathlib.Core.Path.{◌≡◌, refl, sym, ap, ◌∙◌}
use mathlib.Core.Bool.{Bool, true, false}
use mathlib.Core.List.{List}
use Prim.Native.Nat.{ℕ, zero, suc, ◌+◌, ◌-◌, ◌<◌}
use native.Mathlib.Omega.{arith}
use lib.Dec.{ltb, eqb}
use lib.ListN.{take, get_or, set, replicate}
use lib.Seq.{get_or-append-add}
use borrow.Author.Tests.{ltb-true, ltb-false, le-ltb, eqb-true, eqb-false}
use Rattle.machine.specs.Tests.{pick}
use Rattle.buffers.specs.Buffers.{kept, wrote}
use Rattle.weighing.specs.Weighing.{weigh}
use Rattle.registers.specs.declared.Panel.{Panel}
use Rattle.registers.specs.Registers.{read_of, line_of, takes_write, store_of, refused_of, accepted_of, acknowledged_of}
use Rattle.panel.specs.Access.{result_weight}
use Rattle.accesses.specs.Accesses.{Keyed, keyed}
use Rattle.accesses.specs.Registers.{Told, told_by, acknowledged, spelled, line_at}
use Rattle.accesses.proofs.Flags.{acknowledged_flags, refused_flags, accepted_flags, line_flags}

-- Registers that read 0

zeros : (m n : ℕ) → ◌≡◌ {A = ℕ} (get_or (replicate m 0) n 0) 0
zeros zero n = refl
zeros (suc m) zero = refl
zeros (suc m) (suc n) = zeros m n

-- the first register, and those past the tenth
first_zero : (a : ℕ) (k : Keyed) (x : Told) → a < 1 → get_or (spelled k x) a 0 ≡ 0
first_zero a k x h = let e : a ≡ 0 = omega arith in rw e

last_zero : (a : ℕ) (k : Keyed) (x : Told) → 10 < a → get_or (spelled k x) a 0 ≡ 0
last_zero a k x h =
    let e : a ≡ 11 + (a - 11) = omega arith in
    ap (λ (i : ℕ). get_or (spelled k x) i 0) e ∙ get_or-append-add (take 11 (spelled k x)) (replicate 5 0) (a - 11) 0 ∙ zeros 5 (a - 11)

-- Stores

-- What a store to this address makes of the registers is keyed.
abbrev Stores : ℕ → Keyed → Told → ℕ → Type 0
Stores v k x a = pick (takes_write a) (set (spelled k x) a v) (spelled k x) ≡ spelled (keyed a v k) x

stores : (a v : ℕ) (k : Keyed) (x : Told) → Stores v k x a
unfolding takes_write
stores a v k x = go (eqb a 2) (eqb a 4) (eqb a 5) (eqb a 6) (eqb a 7) refl refl refl refl refl
  where
    taken : {i : ℕ} → Stores v k x i → a ≡ i → Stores v k x a
    taken h e = rw e h

    go : (b c d e f : Bool) → eqb a 2 ≡ b → eqb a 4 ≡ c → eqb a 5 ≡ d → eqb a 6 ≡ e → eqb a 7 ≡ f → Stores v k x a
    go true c d e f two four five six seven = taken {i = 2} refl (eqb-true a 2 two)
    go false true d e f two four five six seven = taken {i = 4} refl (eqb-true a 4 four)
    go false false true e f two four five six seven = taken {i = 5} refl (eqb-true a 5 five)
    go false false false true f two four five six seven = taken {i = 6} refl (eqb-true a 6 six)
    go false false false false true two four five six seven = taken {i = 7} refl (eqb-true a 7 seven)
    go false false false false false two four five six seven = simp (two, four, five, six, seven, elsewhere (ltb a 4) refl)
      where
        elsewhere : (b : Bool) → ltb a 4 ≡ b → pick b false (ltb a 8) ≡ false
        elsewhere true e = refl
        elsewhere false e = le-ltb a 8 (omega (arith, ltb-false a 4 e, eqb-false a 4 four, eqb-false a 5 five, eqb-false a 6 six, eqb-false a 7 seven))

-- On a panel with these registers

module _ (p : Panel) (k : Keyed) (x : Told) (faced : p.registers ≡ spelled k x) where
  pub read_is : (a : ℕ) → read_of a p ≡ get_or (spelled k x) a 0
  unfolding read_of
  read_is a = rw faced (go (ltb a 1) (ltb 10 a) refl refl)
    where
      go : (b c : Bool) → ltb a 1 ≡ b → ltb 10 a ≡ c → pick b 0 (pick c 0 (get_or (spelled k x) a 0)) ≡ get_or (spelled k x) a 0
      go true c e f = sym (first_zero a k x (ltb-true a 1 e))
      go false true e f = sym (last_zero a k x (ltb-true 10 a f))
      go false false e f = refl

  pub line_is : line_of p ≡ line_at k x
  unfolding line_of line_at
  line_is = rw faced (line_flags x.blocked x.done x.refused k.enable)

  pub acknowledged_is : (acknowledged_of p).registers ≡ spelled k (acknowledged x)
  acknowledged_is = rw faced (ap (λ (n : ℕ). set (spelled k x) 1 n) (acknowledged_flags x.blocked x.done x.refused))

  -- by the answer to a step
  pub refused_is : (j : ℕ) → (refused_of j p).registers ≡ spelled k (told_by (kept j) x)
  unfolding told_by
  refused_is j = rw faced (ap (λ (n : ℕ). set (set (spelled k x) 1 n) 3 j) (refused_flags x.blocked x.done x.refused))

  pub accepted_is : (rule n : ℕ) (new : List ℕ) → (accepted_of rule n (result_weight (weigh new)) p).registers ≡ spelled k (told_by (wrote rule new) x)
  unfolding told_by
  accepted_is rule n new = rw (faced, accepted_flags x.blocked x.done x.refused (result_weight (weigh new))) refl

  pub store_is : (a v : ℕ) → store_of a v p ≡ record { length = p.length; registers = spelled (keyed a v k) x }
  unfolding store_of
  store_is a v = go (takes_write a) (stores a v k x)
    where
      go : (b : Bool) → pick b (set (spelled k x) a v) (spelled k x) ≡ spelled (keyed a v k) x
          → pick b (record { length = p.length; registers = set p.registers a v }) p ≡ record { length = p.length; registers = spelled (keyed a v k) x }
      go true h = rw (faced, h)
      go false h = ap (λ (rs : List ℕ). record { length = p.length; registers = rs }) (faced ∙ h)
