-- The eight kinds one by one.
use mathlib.Core.Path.{◌≡◌, refl}
use Prim.Native.Nat.{ℕ, zero, suc, ◌%◌, ◌<◌}
use native.Mathlib.Omega.{arith}
use Rattle.calculus.specs.Redexes.{sibling_outputs, parent_outputs, internal_inputs, external_inputs, enters, leaves, accepts, releases}
use Rattle.machine.specs.Kinds.{kind_number, answering, standing_of}
use Rattle.kinds.specs.Kinds.{tag_kind, standing_number, reference_count, directed_of, row_of, kind_byte, answer_in, standing_in, references_in, directed_in}
use Rattle.kinds.specs.Theorems.{PackedKinds}

-- the eight numbers below 8, one by one
pub below_eight : {A : Type 0} (k : ℕ) → k < 8
    → (k ≡ 0 → A) → (k ≡ 1 → A) → (k ≡ 2 → A) → (k ≡ 3 → A) → (k ≡ 4 → A) → (k ≡ 5 → A) → (k ≡ 6 → A) → (k ≡ 7 → A) → A
below_eight zero h a₀ a₁ a₂ a₃ a₄ a₅ a₆ a₇ = a₀ refl
below_eight (suc zero) h a₀ a₁ a₂ a₃ a₄ a₅ a₆ a₇ = a₁ refl
below_eight (suc (suc zero)) h a₀ a₁ a₂ a₃ a₄ a₅ a₆ a₇ = a₂ refl
below_eight (suc (suc (suc zero))) h a₀ a₁ a₂ a₃ a₄ a₅ a₆ a₇ = a₃ refl
below_eight (suc (suc (suc (suc zero)))) h a₀ a₁ a₂ a₃ a₄ a₅ a₆ a₇ = a₄ refl
below_eight (suc (suc (suc (suc (suc zero))))) h a₀ a₁ a₂ a₃ a₄ a₅ a₆ a₇ = a₅ refl
below_eight (suc (suc (suc (suc (suc (suc zero)))))) h a₀ a₁ a₂ a₃ a₄ a₅ a₆ a₇ = a₆ refl
below_eight (suc (suc (suc (suc (suc (suc (suc zero))))))) h a₀ a₁ a₂ a₃ a₄ a₅ a₆ a₇ = a₇ refl
below_eight (suc (suc (suc (suc (suc (suc (suc (suc n)))))))) h a₀ a₁ a₂ a₃ a₄ a₅ a₆ a₇ = absurd (omega arith)

-- the byte of each kind says what the table says of it
pub packed_kinds : PackedKinds
unfolding kind_byte kind_number answering standing_of standing_number reference_count directed_of
packed_kinds sibling_outputs = (omega arith, refl, refl, refl, refl)
packed_kinds parent_outputs = (omega arith, refl, refl, refl, refl)
packed_kinds internal_inputs = (omega arith, refl, refl, refl, refl)
packed_kinds external_inputs = (omega arith, refl, refl, refl, refl)
packed_kinds enters = (omega arith, refl, refl, refl, refl)
packed_kinds leaves = (omega arith, refl, refl, refl, refl)
packed_kinds accepts = (omega arith, refl, refl, refl, refl)
packed_kinds releases = (omega arith, refl, refl, refl, refl)

-- so that what is taken out of it is the row
pub row_says : (tag byte a s r d : ℕ) → byte ≡ kind_byte (tag_kind tag) → a ≡ answer_in byte → s ≡ standing_in byte → r ≡ references_in byte → d ≡ directed_in byte
    → record { answer = a; standing = s; references = r; directed = d } ≡ row_of (tag % 8)
unfolding row_of tag_kind
row_says tag byte a s r d e answer standing references directed =
    let says = packed_kinds (tag_kind tag) in
    rw (answer, standing, references, directed, e, says.1, says.2, says.3, says.4)
