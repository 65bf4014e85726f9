-- A part in the middle of a slice that is lent and comes back, and the part behind it.
use mathlib.Core.Path.{◌≡◌, refl, sym, ap, ◌∙◌}
use mathlib.Core.List.{List, ◌++◌, append_assoc}
use Prim.Native.Nat.{ℕ, ◌+◌, ◌-◌, ◌≤◌}
use native.Mathlib.Omega.{arith}
use lib.ListN.{length, take, drop, length-append}
use lib.Seq.{take_at, drop_at, drop-drop}
use borrow.Rule.Slice.PartMut.{put_mid}
use Rattle.buffers.proofs.Parts.{part_all}
use Rattle.buffers.proofs.Writing.{back}

-- s is some front, then X from a to e, then Y
pub record Part (s X Y : List ℕ) (a e : ℕ) : Type 0 where
  pub front : List ℕ
  pub bytes : s ≡ front ++ (X ++ Y)
  pub starts : a ≡ length front
  pub ends : e ≡ a + length X

module _ {s X Y : List ℕ} {a e : ℕ} (p : Part s X Y a e) where
  pub inside : (a ≤ e) × (e ≤ length s)
  inside = (omega (arith, p.ends), omega (arith, p.ends, p.starts, ap length p.bytes, length-append p.front (X ++ Y), length-append X Y))

  from_start : drop a s ≡ X ++ Y
  from_start = ap (drop a) p.bytes ∙ drop_at p.front (X ++ Y) a (sym p.starts)

  pub lent : take (e - a) (drop a s) ≡ X
  lent = ap (take (e - a)) from_start ∙ take_at X Y (e - a) (omega (arith, p.ends))

  -- behind it
  pub rest_behind : drop e s ≡ Y
  rest_behind = ap (λ (n : ℕ). drop n s) p.ends ∙ sym (drop-drop (length X) a s) ∙ ap (drop (length X)) from_start ∙ drop_at X Y (length X) refl

  -- with Z in the place of X
  pub put : (Z : List ℕ) → put_mid a (e - a) s Z ≡ p.front ++ (Z ++ Y)
  put Z =
      ap (λ (l : List ℕ). take a l ++ (Z ++ drop (e - a) (drop a s))) p.bytes
      ∙ ap (λ (l : List ℕ). l ++ (Z ++ drop (e - a) (drop a s))) (take_at p.front (X ++ Y) a (sym p.starts))
      ∙ ap (λ (l : List ℕ). p.front ++ (Z ++ l)) (ap (drop (e - a)) from_start ∙ drop_at X Y (e - a) (omega (arith, p.ends)))

  -- Z has come back in the place of X
  module _ (Z : List ℕ) (z : length Z ≡ length (take (e - a) (drop a s))) where
    together : put_mid a (e - a) s Z ≡ (p.front ++ Z) ++ Y
    together = put Z ∙ sym (append_assoc p.front Z Y)

    pub front_length : length (p.front ++ Z) ≡ e
    front_length = omega (arith, p.starts, p.ends, length-append p.front Z, z ∙ ap length lent)

    pub behind : take (length (put_mid a (e - a) s Z) - e) (drop e (put_mid a (e - a) s Z)) ≡ Y
    behind = part_all e (put_mid a (e - a) s Z) ∙ ap (drop e) together ∙ drop_at (p.front ++ Z) Y e front_length

    -- and then U in the place of Y
    pub both : (U A B last : List ℕ) → Z ≡ A → U ≡ B → last ≡ p.front ++ (A ++ B)
        → put_mid e (length (put_mid a (e - a) s Z) - e) (put_mid a (e - a) s Z) U ≡ last
    both U A B last f g h =
        back e (put_mid a (e - a) s Z) U
        ∙ ap (λ (l : List ℕ). take e l ++ U) together
        ∙ ap (λ (l : List ℕ). l ++ U) (take_at (p.front ++ Z) Y e front_length)
        ∙ append_assoc p.front Z U
        ∙ ap (λ (l : List ℕ). p.front ++ (l ++ U)) f
        ∙ ap (λ (l : List ℕ). p.front ++ (A ++ l)) g
        ∙ sym h
