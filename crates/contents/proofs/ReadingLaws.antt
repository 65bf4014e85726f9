-- Laws of the readers of elements: what an answer of the code says of them.
use mathlib.Core.Path.{◌≡◌, refl, sym, ◌∙◌}
use mathlib.Core.List.{List, [], ◌∷◌}
use mathlib.Core.Bool.{Bool, true, false}
use Prim.Native.Nat.{ℕ, zero, suc, ◌+◌, ◌-◌, ◌≤◌, ◌<◌}
use native.Mathlib.Nat.{add-zero}
use native.Mathlib.Numerals.{sub-one}
use native.Mathlib.Omega.{arith}
use borrow.Author.Tests.{lt-ltb, le-ltb, eq-eqb, ne_eqb}
use lib.ListN.{length, get_or, drop, length-drop}
use lib.Seq.{get_or-drop}
use lib.Dec.{ltb, eqb}
use Rattle.machine.specs.Elements.{Status, unblocked, blocked, Elements, empty, ambient_then}
use Rattle.machine.specs.Tests.{pick}
use Rattle.format.specs.Reading.{Outcome, refused, got, Opened, shut, opened, map_outcome, and_then, read_field, open_field, read_reference}
use Rattle.format.specs.Answers.{answer, field_at}
use Rattle.format.specs.declared.Cursor.{Cursor}
use Rattle.std.specs.Prelude.{Result, Ok, Err}
use Rattle.refusals.specs.declared.Refusal.{Refusal}
use Rattle.refusals.specs.declared.Refusal.TheVariants.{CutShort, WrongTag}
use Rattle.refusals.specs.Refusals.{refusal}
use Rattle.format.specs.declared.Field.{Field}
use Rattle.format.proofs.Laws.{opens_as, answer_done, open_within, then_refused, then_ok, answer_map, field_inverse}
use Rattle.contents.specs.Reading.{open_element, read_element, read_up_to, read_elements, read_ambient}

-- The header of an element in a blocked ambient

module _ (at : ℕ) (bytes : List ℕ) where
  pub blocked_short : length bytes - at < 3 → Err CutShort ≡ field_at at (open_element blocked (drop at bytes))
  unfolding open_element field_at refusal
  blocked_short h = simp (length-drop, lt-ltb _ _ h)

  pub blocked_process : 3 ≤ length bytes - at → get_or bytes at 0 ≡ 0x42 → Err WrongTag ≡ field_at at (open_element blocked (drop at bytes))
  unfolding open_element field_at refusal
  blocked_process h e = simp (length-drop, get_or-drop, add-zero, le-ltb _ _ h, eq-eqb _ _ e)

  pub blocked_due : (r : Result Field Refusal) → 3 ≤ length bytes - at → (get_or bytes at 0 ≡ 0x42 → ⊥) → r ≡ field_at at (open_field 0x41 0x43 (drop at bytes))
      → r ≡ field_at at (open_element blocked (drop at bytes))
  unfolding open_element
  blocked_due r h e f = f ∙ simp (length-drop, get_or-drop, add-zero, le-ltb _ _ h, ne_eqb _ _ e)

-- the body of an open element lies within the slice
pub element_within : (s : Status) (bytes : List ℕ) (at tag start end : ℕ)
    → opens_as tag start end ≡ field_at at (open_element s (drop at bytes)) → (start ≤ end) × (end ≤ length bytes)
unfolding open_element field_at
element_within unblocked bytes at tag start end e = open_within 0x40 0x43 bytes at tag start end e
element_within blocked bytes at tag start end e = go (ltb (length (drop at bytes)) 3) (eqb (get_or (drop at bytes) 0 0) 0x42) e
  where
    go : (b₁ b₂ : Bool) → opens_as tag start end ≡ field_at at (pick b₁ (shut 2) (pick b₂ (shut 3) (open_field 0x41 0x43 (drop at bytes))))
        → (start ≤ end) × (end ≤ length bytes)
    go true b₂ e = absurd (let z : ◌≡◌ {A = ℕ} 0 1 = cc in omega arith)
    go false true e = absurd (let z : ◌≡◌ {A = ℕ} 0 1 = cc in omega arith)
    go false false e = open_within 0x41 0x43 bytes at tag start end e

-- Elements in a row

-- a field is three bytes at least
field_long : {A : Type 0} (o : Opened) (bytes : List ℕ) (f : ℕ → List ℕ → Outcome A) (a : A) (n : ℕ) → read_field o bytes f ≡ got a n → 3 ≤ n
unfolding read_field field_at
field_long (shut k) bytes f a n e = absurd (let z : ◌≡◌ {A = ℕ} 0 1 = cc in omega arith)
field_long (opened tag len) bytes f a n e = omega (arith, (field_inverse (opened tag len) 0 tag (0 + 3) (0 + 3 + len) bytes f a n refl e).2)

module _ (A : Status → List ℕ → Outcome (Elements → Elements)) (s : Status) (names : ℕ) where
  pub element_long : (bytes : List ℕ) (E : Elements → Elements) (n : ℕ) → read_element A s names bytes ≡ got E n → 3 ≤ n
  unfolding read_element
  element_long bytes E n q = field_long _ bytes _ E n q

  -- the same element, and others that are read alike behind it
  read_alike : (f g : List ℕ → Outcome Elements) (bytes : List ℕ) → ((n : ℕ) → 3 ≤ n → f (drop n bytes) ≡ g (drop n bytes))
      → and_then (read_element A s names bytes) bytes (λ E rest. map_outcome E (f rest)) ≡ and_then (read_element A s names bytes) bytes (λ E rest. map_outcome E (g rest))
  unfolding and_then
  read_alike f g bytes same = go (read_element A s names bytes) refl
    where
      go : (o : Outcome (Elements → Elements)) → read_element A s names bytes ≡ o
          → and_then o bytes (λ E rest. map_outcome E (f rest)) ≡ and_then o bytes (λ E rest. map_outcome E (g rest))
      go (refused k) q = refl
      go (got E n) q = rw (same n (element_long bytes E n q))

  fewer : (bytes : List ℕ) (n k : ℕ) → 3 ≤ n → length bytes ≤ suc k → length (drop n bytes) ≤ k
  fewer bytes n k h r = rw (length-drop n bytes) (omega arith)

  -- more fuel than bytes makes no difference
  enough_fuel : (f g : ℕ) (bytes : List ℕ) → length bytes ≤ f → length bytes ≤ g → read_up_to A s names f bytes ≡ read_up_to A s names g bytes
  unfolding read_up_to
  enough_fuel zero zero bytes p q = refl
  enough_fuel zero (suc g) [] p q = refl
  enough_fuel zero (suc g) (b ∷ bs) p q = absurd (omega arith)
  enough_fuel (suc f) zero [] p q = refl
  enough_fuel (suc f) zero (b ∷ bs) p q = absurd (omega arith)
  enough_fuel (suc f) (suc g) [] p q = refl
  enough_fuel (suc f) (suc g) (b ∷ bs) p q =
      read_alike (read_up_to A s names f) (read_up_to A s names g) (b ∷ bs) (λ n h. enough_fuel f g (drop n (b ∷ bs)) (fewer (b ∷ bs) n f h p) (fewer (b ∷ bs) n g h q))

  pub elements_none : (bytes : List ℕ) → length bytes ≡ 0 → read_elements A s names bytes ≡ got empty 0
  unfolding read_elements read_up_to
  elements_none [] h = refl
  elements_none (b ∷ bs) h = absurd (omega arith)

  pub elements_step : (bytes : List ℕ) → 0 < length bytes
      → read_elements A s names bytes ≡ and_then (read_element A s names bytes) bytes (λ E rest. map_outcome E (read_elements A s names rest))
  unfolding read_elements read_up_to
  elements_step [] h = absurd (omega arith)
  elements_step (b ∷ bs) h =
      read_alike (read_up_to A s names (length bs)) (λ rest. read_up_to A s names (length rest) rest) (b ∷ bs)
      (λ n h. enough_fuel (length bs) (length (drop n (b ∷ bs))) (drop n (b ∷ bs)) (fewer (b ∷ bs) n (length bs) h (omega arith)) (omega arith))

  -- the cursor behind an element is at least three bytes further
  pub element_further : (at : ℕ) (bytes : List ℕ) (c : Cursor) → Ok c ≡ answer at (read_element A s names bytes) → at + 3 ≤ c.at
  element_further at bytes c e =
      let i = answer_done _ at c e in
      let l = element_long bytes i.0 i.1 i.2 in
      omega (arith, l, i.3)

  -- the elements from a position in a slice: at its end there are none, before it they are an element and those behind it
  module _ (at : ℕ) (bytes : List ℕ) where
    pub elements_end : length bytes ≤ at → Ok (record { at = at }) ≡ answer at (read_elements A s names (drop at bytes))
    unfolding answer
    elements_end h =
        let l : length (drop at bytes) ≡ 0 = rw length-drop (omega arith) in
        rw (elements_none (drop at bytes) l, add-zero)

    module _ (h : at < length bytes) where
      left : 0 < length (drop at bytes)
      left = rw length-drop (omega arith)

      pub elements_refused : (k : Refusal) → Err k ≡ answer at (read_element A s names (drop at bytes))
          → Err k ≡ answer at (read_elements A s names (drop at bytes))
      elements_refused k e = rw (elements_step (drop at bytes) left) (then_refused _ _ _ _ _ e)

      pub elements_again : (c : Cursor) → Ok c ≡ answer at (read_element A s names (drop at bytes))
          → answer at (read_elements A s names (drop at bytes)) ≡ answer c.at (read_elements A s names (drop c.at bytes))
      elements_again c e = rw (elements_step (drop at bytes) left) (sym (then_ok _ _ _ _ _ _ e (λ E n q. sym (answer_map _ _ _))))

pub ambient_suc : (nest names : ℕ) (s : Status) (body : List ℕ) → (nest ≡ 0 → ⊥)
    → read_ambient nest names s body
    ≡ and_then (read_reference names 0 body) body (λ a rest. map_outcome (λ A C. ambient_then s a A C) (read_elements (read_ambient (nest - 1) names) s names rest))
unfolding read_ambient
ambient_suc zero names s body h = absurd (h refl)
ambient_suc (suc nest) names s body h = rw sub-one
