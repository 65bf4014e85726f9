-- The shapes of elements: their tags, and which of them are due in an ambient of a status.
use mathlib.Core.Path.{◌≡◌, refl, sym, ◌∙◌}
use mathlib.Core.List.{List, ◌++◌}
use mathlib.Core.Bool.{Bool, true, false}
use Prim.Native.Nat.{ℕ, ◌≤◌, ◌<◌}
use native.Mathlib.Omega.{arith}
use borrow.Author.Tests.{eqb-true, eqb-false, le-ltb, ne_eqb}
use lib.ListN.{length, get_or, length-append}
use lib.Dec.{ltb, eqb}
use Rattle.machine.specs.Elements.{Status, unblocked, blocked}
use Rattle.buffers.specs.Words.{field}
use Rattle.machine.specs.Tests.{pick}
use Rattle.format.specs.Reading.{shut, opened, open_field}
use Rattle.format.proofs.Laws.{open_inverse}
use Rattle.buffers.proofs.Parts.{length_field}
use Rattle.format.proofs.Readback.{open_field_law}
use Rattle.elements.specs.Spelling.{ambient_tag}
use Rattle.states.specs.Reading.{open_element, ElementShape, is_ambient, is_blocked_ambient, is_process, is_blocked_action, element_shape}

unfoldable pub element_tag : ElementShape → ℕ
element_tag is_ambient = 0x40
element_tag is_blocked_ambient = 0x41
element_tag is_process = 0x42
element_tag is_blocked_action = 0x43

pub shape_tag_law : (tag : ℕ) → 0x40 ≤ tag → tag ≤ 0x43 → element_tag (element_shape tag) ≡ tag
unfolding element_tag element_shape
shape_tag_law tag low high = go _ _ _ refl refl refl
  where
    go : (b₀ b₁ b₂ : Bool) → eqb tag 0x40 ≡ b₀ → eqb tag 0x41 ≡ b₁ → eqb tag 0x42 ≡ b₂
        → element_tag (pick b₀ is_ambient (pick b₁ is_blocked_ambient (pick b₂ is_process is_blocked_action))) ≡ tag
    go true b₁ b₂ e₀ e₁ e₂ = sym (eqb-true _ _ e₀)
    go false true b₂ e₀ e₁ e₂ = sym (eqb-true _ _ e₁)
    go false false true e₀ e₁ e₂ = sym (eqb-true _ _ e₂)
    go false false false e₀ e₁ e₂ = omega (arith, eqb-false tag 0x40 e₀, eqb-false tag 0x41 e₁, eqb-false tag 0x42 e₂)

pub tag_shape : (k : ElementShape) → element_shape (element_tag k) ≡ k
unfolding element_tag element_shape
tag_shape is_ambient = refl
tag_shape is_blocked_ambient = refl
tag_shape is_process = refl
tag_shape is_blocked_action = refl

pub tag_range : (k : ElementShape) → (0x40 ≤ element_tag k) × (element_tag k ≤ 0x43)
unfolding element_tag
tag_range is_ambient = omega arith
tag_range is_blocked_ambient = omega arith
tag_range is_process = omega arith
tag_range is_blocked_action = omega arith

-- An ambient of a status

unfoldable pub ambient_shape : Status → ElementShape
ambient_shape unblocked = is_ambient
ambient_shape blocked = is_blocked_ambient

pub ambient_tag_law : (s : Status) → element_tag (ambient_shape s) ≡ ambient_tag s
unfolding element_tag ambient_shape ambient_tag
ambient_tag_law unblocked = refl
ambient_tag_law blocked = refl

-- In a blocked ambient only blocked ambients and blocked actions are due.
unfoldable pub Due : Status → ElementShape → Type 0
Due unblocked k = Unit {0}
Due blocked is_ambient = ⊥
Due blocked is_blocked_ambient = Unit {0}
Due blocked is_process = ⊥
Due blocked is_blocked_action = Unit {0}

-- from 41 on every tag but 42 is due
due_blocked : (tag : ℕ) → 0x41 ≤ tag → (tag ≡ 0x42 → ⊥) → Due blocked (element_shape tag)
unfolding Due element_shape
due_blocked tag low other = go (eqb tag 0x40) (eqb tag 0x41) (eqb tag 0x42) refl refl
  where
    go : (b₀ b₁ b₂ : Bool) → eqb tag 0x40 ≡ b₀ → eqb tag 0x42 ≡ b₂
        → Due blocked (pick b₀ is_ambient (pick b₁ is_blocked_ambient (pick b₂ is_process is_blocked_action)))
    go true b₁ b₂ e₀ e₂ = omega (arith, eqb-true tag 0x40 e₀)
    go false true b₂ e₀ e₂ = tt
    go false false true e₀ e₂ = other (eqb-true _ _ e₂)
    go false false false e₀ e₂ = tt

-- the element whose header opens is due
pub element_due : (s : Status) (bytes : List ℕ) (tag len : ℕ) → open_element s bytes ≡ opened tag len → Due s (element_shape tag)
unfolding open_element Due
element_due unblocked bytes tag len = λ e. tt
element_due blocked bytes tag len = go (ltb (length bytes) 3) (eqb (get_or bytes 0 0) 0x42) refl
  where
    go : (b₁ b₂ : Bool) → eqb (get_or bytes 0 0) 0x42 ≡ b₂
        → pick b₁ (shut 2) (pick b₂ (shut 3) (open_field 0x41 0x43 bytes)) ≡ opened tag len → Due blocked (element_shape tag)
    go true b₂ q e = absurd (let z : ◌≡◌ {A = ℕ} 0 1 = cc in omega arith)
    go false true q e = absurd (let z : ◌≡◌ {A = ℕ} 0 1 = cc in omega arith)
    go false false q e =
        let o = open_inverse 0x41 0x43 bytes tag len e in
        due_blocked tag o.above (λ t. eqb-false _ _ q (sym o.tag_is ∙ t))

due_tag : (k : ElementShape) → Due blocked k → (0x41 ≤ element_tag k) × (element_tag k ≡ 0x42 → ⊥)
unfolding Due element_tag
due_tag is_ambient due = absurd due
due_tag is_blocked_ambient due = (omega arith, λ e. omega arith)
due_tag is_process due = absurd due
due_tag is_blocked_action due = (omega arith, λ e. omega arith)

tag_first : (tag : ℕ) (body rest : List ℕ) → get_or (field tag body ++ rest) 0 0 ≡ tag
unfolding field
tag_first tag body rest = refl

-- the header of a spelled element that is due opens as it does where all are due
pub open_element_law : (s : Status) (k : ElementShape) (body rest : List ℕ) → Due s k → length body < 65536
    → open_element s (field (element_tag k) body ++ rest) ≡ open_field 0x40 0x43 (field (element_tag k) body ++ rest)
unfolding open_element
open_element_law unblocked k body rest due short = refl
open_element_law blocked k body rest due short =
    let tag = element_tag k in
    let range = tag_range k in
    let other = due_tag k due in
    let long : 3 ≤ length (field tag body ++ rest) = rw (length-append (field tag body) rest, length_field tag body) (omega arith) in
    simp (le-ltb _ _ long, tag_first tag body rest, ne_eqb _ _ other.1)
    (open_field_law 0x41 0x43 tag body rest other.0 range.1 short ∙ sym (open_field_law 0x40 0x43 tag body rest range.0 range.1 short))
