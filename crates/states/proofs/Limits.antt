-- Reading with two limits of nesting: with the lower one as with the higher one, or 5.
use mathlib.Core.Path.{◌≡◌, refl, ap, ◌∙◌}
use mathlib.Core.Logic.{◌⊎◌, inl, inr}
use mathlib.Core.Bool.{Bool, true, false}
use mathlib.Core.List.{List, [], ◌∷◌}
use Prim.Native.Nat.{ℕ, zero, suc, ◌≤◌}
use native.Mathlib.Omega.{arith}
use lib.Dec.{ltb}
use lib.ListN.{length, take, drop}
use Rattle.machine.specs.Limits.{byte_limit}
use Rattle.machine.specs.Tests.{pick}
use Rattle.machine.specs.Elements.{Status, unblocked, blocked, Elements, ambient_then, state}
use Rattle.format.specs.Reading.{Outcome, refused, got, map_outcome, shift, and_then, Opened, shut, opened, open_field, whole, read_field, read_reference, read_count}
use Rattle.states.specs.Reading.{open_element, ElementShape, is_ambient, is_blocked_ambient, is_process, is_blocked_action, element_shape, element_parts, read_element, read_up_to, read_elements, read_ambient, ends, state_rest, state_body, parse_state, unpaired, read_within}
use Rattle.states.specs.Theorems.{LowerLimit}

-- One outcome is the other, or 5.
abbrev pub Lower : {A : Type 0} → Outcome A → Outcome A → Type 0
Lower o o' = (o ≡ o') ⊎ (o ≡ refused 5)

-- by a test
lower_test : {A : Type 0} (b : Bool) (x : Outcome A) {o o' : Outcome A} → Lower o o' → Lower (pick b x o) (pick b x o')
lower_test true x h = inl refl
lower_test false x h = h

-- what is done to both, if it leaves 5
lower_by : {A B : Type 0} (f : Outcome A → Outcome B) → f (refused 5) ≡ refused 5 → (o o' : Outcome A) → Lower o o' → Lower (f o) (f o')
lower_by f five o o' (inl e) = inl (ap f e)
lower_by f five o o' (inr e) = inr (ap f e ∙ five)

lower_map : {A B : Type 0} (f : A → B) (o o' : Outcome A) → Lower o o' → Lower (map_outcome f o) (map_outcome f o')
unfolding map_outcome
lower_map f = lower_by (map_outcome f) refl

-- behind what both read alike
lower_behind : {A B : Type 0} (bytes : List ℕ) (o : Outcome A) (f g : A → List ℕ → Outcome B) → ((a : A) (rest : List ℕ) → Lower (f a rest) (g a rest))
    → Lower (and_then o bytes f) (and_then o bytes g)
unfolding and_then shift
lower_behind bytes (refused k) f g h = inl refl
lower_behind bytes (got a n) f g h = lower_by (shift n) refl _ _ (h a (drop n bytes))

lower_then : {A B : Type 0} (bytes : List ℕ) (o o' : Outcome A) (f g : A → List ℕ → Outcome B) → Lower o o' → ((a : A) (rest : List ℕ) → Lower (f a rest) (g a rest))
    → Lower (and_then o bytes f) (and_then o' bytes g)
unfolding and_then
lower_then bytes o o' f g (inl e) h = rw e (lower_behind bytes o' f g h)
lower_then bytes o o' f g (inr e) h = inr (rw e)

lower_field : {A : Type 0} (o : Opened) (bytes : List ℕ) (f g : ℕ → List ℕ → Outcome A) → ((tag : ℕ) (body : List ℕ) → Lower (f tag body) (g tag body))
    → Lower (read_field o bytes f) (read_field o bytes g)
unfolding read_field whole
lower_field (shut k) bytes f g h = inl refl
lower_field (opened tag len) bytes f g h = lower_by (whole len) refl _ _ (h tag (take len (drop 3 bytes)))

-- Elements, with two readers of ambients

abbrev Bodies : Type 0
Bodies = Status → List ℕ → Outcome (Elements → Elements)

module _ (A B : Bodies) (h : (s : Status) (body : List ℕ) → Lower (A s body) (B s body)) (names : ℕ) where
  lower_parts : (k : ElementShape) (body : List ℕ) → Lower (element_parts k A names body) (element_parts k B names body)
  unfolding element_parts
  lower_parts is_ambient body = h unblocked body
  lower_parts is_blocked_ambient body = h blocked body
  lower_parts is_process body = inl refl
  lower_parts is_blocked_action body = inl refl

  lower_element : (s : Status) (bytes : List ℕ) → Lower (read_element A s names bytes) (read_element B s names bytes)
  unfolding read_element
  lower_element s bytes = lower_field (open_element s bytes) bytes _ _ (λ tag body. lower_parts (element_shape tag) body)

  lower_up_to : (s : Status) (fuel : ℕ) (bytes : List ℕ) → Lower (read_up_to A s names fuel bytes) (read_up_to B s names fuel bytes)
  unfolding read_up_to
  lower_up_to s zero bytes = inl refl
  lower_up_to s (suc fuel) [] = inl refl
  lower_up_to s (suc fuel) (b ∷ bs) = lower_then (b ∷ bs) _ _ _ _ (lower_element s (b ∷ bs)) (λ E rest. lower_map E _ _ (lower_up_to s fuel rest))

  lower_elements : (s : Status) (bytes : List ℕ) → Lower (read_elements A s names bytes) (read_elements B s names bytes)
  unfolding read_elements
  lower_elements s bytes = lower_up_to s (length bytes) bytes

lower_ambient : (nest more names : ℕ) → nest ≤ more → (s : Status) (body : List ℕ) → Lower (read_ambient nest names s body) (read_ambient more names s body)
unfolding read_ambient
lower_ambient zero more names l s body = inr refl
lower_ambient (suc nest) zero names l s body = absurd (omega (arith, l))
lower_ambient (suc nest) (suc more) names l s body =
    lower_behind body (read_reference names 0 body) _ _
    (λ a rest. lower_map (λ A C. ambient_then s a A C) _ _ (lower_elements (read_ambient nest names) (read_ambient more names) (lower_ambient nest more names (omega (arith, l))) names s rest))

-- States

module _ (nest more : ℕ) (l : nest ≤ more) where
  lower_body : (body : List ℕ) → Lower (state_body nest body) (state_body more body)
  unfolding state_body state_rest
  lower_body body =
      lower_behind body (read_count 0 _ body) _ _
      (λ F rest. lower_behind rest (read_count F _ rest) _ _ (λ N behind. lower_map (state F N) _ _ (lower_elements (read_ambient nest N) (read_ambient more N) (lower_ambient nest more N l) N unblocked behind)))

  pub lower_parse : (bytes : List ℕ) → Lower (parse_state nest bytes) (parse_state more bytes)
  unfolding parse_state ends
  lower_parse bytes = lower_test (ltb byte_limit (length bytes)) (refused 1) (lower_by (ends (length bytes)) refl _ _ (lower_field (open_field 0x11 0x11 bytes) bytes _ _ (λ tag body. lower_body body)))

pub lower_limit : LowerLimit
unfolding read_within unpaired
lower_limit nest more bytes l = lower_by unpaired refl _ _ (lower_parse nest more l bytes)
