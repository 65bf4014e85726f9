-- What is written for each use in an opening, by its form.
use mathlib.Core.Path.{◌≡◌, refl, sym, ap, ◌∙◌}
use mathlib.Core.List.{List, [], ◌∷◌, ◌++◌, append_assoc, append-nil}
use Prim.Native.Nat.{ℕ, ◌+◌, ◌-◌, ◌≤◌, ◌<◌}
use native.Mathlib.Omega.{arith}
use lib.ListN.{length, drop, length-append}
use lib.Seq.{drop_at, drop-drop}
use Rattle.calculus.specs.Processes.{Reference, Action}
use Rattle.std.specs.Prelude.{Option, None, Some}
use Rattle.machine.specs.Kinds.{channel}
use Rattle.buffers.specs.Words.{word}
use Rattle.buffers.proofs.Middle.{inside}
use Rattle.format.specs.Spelling.{reference_number, encode_reference, encode_references}
use Rattle.format.specs.Reading.{word_at}
use Rattle.format.proofs.Laws.{word_drop}
use Rattle.format.proofs.Readback.{word_back, length_reference, length_references}
use Rattle.layouts.specs.Openings.{bare, naming, acting, Opening, alone, named, whole, first_of, between_of, second_of, encode_opening, opened_of}
use Rattle.layouts.specs.declared.Opened.{Opened}
use Rattle.layouts.proofs.Openings.{form_is, first_references}
use Rattle.uses.specs.Uses.{as_box, as_channel, of_ambient, of_action}
use Rattle.using.specs.Using.{of_opening, number_of, written_in}
use Rattle.using.specs.declared.Written.{Written}
use Rattle.uses.proofs.Uses.{address_uses}

written_as : (o : Opening) (b c : Option ℕ) (e : ℕ) → b ≡ number_of (of_opening as_box o) → c ≡ number_of (of_opening as_channel o) → e ≡ (opened_of o).end
    → ◌≡◌ {A = Written} record { boxed = b; channel = c; end = e } (written_in o)
written_as o b c e p q r = λ i. record { boxed = p i; channel = q i; end = r i }

-- The number of a reference

number_at : (s : List ℕ) (at : ℕ) (r : Reference) (rest : List ℕ) → drop at s ≡ encode_reference r ++ rest → word_at s at ≡ reference_number r
unfolding encode_reference word
number_at s at r rest e =
    let z : at + 0 ≡ at = omega arith in
    ap (word_at s) (sym z) ∙ sym (word_drop s at 0) ∙ ap (λ (t : List ℕ). word_at t 0) e ∙ word_back (reference_number r)

pub target_there : (s : List ℕ) (start : ℕ) (rs : List Reference) (rest : List ℕ) → drop 3 s ≡ encode_references rs ++ rest → start ≡ 3 + length (encode_references rs) → 5 ≤ start
    → (number : ℕ) → number ≡ word_at s 3 → Some number ≡ number_of rs
unfolding number_of encode_references
target_there s start [] rest e l h number k = absurd (omega (arith, l, h))
target_there s start (r ∷ rs) rest e l h number k = ap Some (k ∙ number_at s 3 r (encode_references rs ++ rest) (e ∙ append_assoc (encode_reference r) (encode_references rs) rest))

pub no_target : (start : ℕ) (rs : List Reference) → start ≡ 3 + length (encode_references rs) → start < 5 → None ≡ number_of rs
unfolding number_of encode_references
no_target start [] l h = refl
no_target start (r ∷ rs) l h = absurd (omega (arith, l, h, length-append (encode_reference r) (encode_references rs), length_reference r))

-- A header alone

pub bare_written : (o : Opening) → bare ≡ form_is o → ◌≡◌ {A = Written} record { boxed = None; channel = None; end = 3 } (written_in o)
unfolding form_is of_opening number_of first_of between_of second_of encode_references
bare_written (alone tag len f) q = written_as (alone tag len f) _ _ _ refl refl refl
bare_written (named tag len f a) q = absurd (let z : ◌≡◌ {A = ℕ} 0 1 = cc in omega arith)
bare_written (whole α) q = absurd (let z : ◌≡◌ {A = ℕ} 0 1 = cc in omega arith)

-- A header and the name of an ambient

pub name_within : (o : Opening) (s rest : List ℕ) → s ≡ encode_opening o ++ rest → naming ≡ form_is o → 5 ≤ length s
unfolding form_is encode_opening encode_references encode_reference word
name_within (alone tag len f) s rest e q = absurd (let z : ◌≡◌ {A = ℕ} 0 1 = cc in omega arith)
name_within (named tag len f a) s rest e q = omega (arith, ap length e)
name_within (whole α) s rest e q = absurd (let z : ◌≡◌ {A = ℕ} 0 1 = cc in omega arith)

pub name_written : (o : Opening) (s rest : List ℕ) → s ≡ encode_opening o ++ rest → naming ≡ form_is o → (number : ℕ) → number ≡ word_at s 3
    → ◌≡◌ {A = Written} record { boxed = Some number; channel = None; end = 5 } (written_in o)
unfolding form_is encode_opening of_opening of_ambient number_of first_of between_of second_of encode_references encode_reference word
name_written (alone tag len f) s rest e q number k = absurd (let z : ◌≡◌ {A = ℕ} 0 1 = cc in omega arith)
name_written (named tag len f a) s rest e q number k = written_as (named tag len f a) _ _ _ (ap Some (k ∙ number_at s 3 a rest (ap (drop 3) e))) refl refl
name_written (whole α) s rest e q number k = absurd (let z : ◌≡◌ {A = ℕ} 0 1 = cc in omega arith)

-- An action: its target, if it has one, and its channel

references_append : (rs ss : List Reference) → encode_references (rs ++ ss) ≡ encode_references rs ++ encode_references ss
unfolding encode_references
references_append [] ss = refl
references_append (r ∷ rs) ss = ap (λ (l : List ℕ). encode_reference r ++ l) (references_append rs ss) ∙ sym (append_assoc (encode_reference r) (encode_references rs) (encode_references ss))

module _ (α : Action) (s rest : List ℕ) (e : s ≡ encode_opening (whole α) ++ rest) (r : Opened) (k : r ≡ opened_of (whole α)) where
  abbrev target : List ℕ
  target = encode_references (of_action as_box α)

  abbrev behind : List ℕ
  behind = between_of (whole α) ++ (encode_references (second_of (whole α)) ++ rest)

  address_is : encode_references (first_of (whole α)) ≡ target ++ encode_references (channel α ∷ [])
  unfolding first_of of_action
  address_is = ap encode_references (address_uses α) ∙ references_append (of_action as_box α) (channel α ∷ [])

  target_bytes : drop 3 s ≡ target ++ (encode_references (channel α ∷ []) ++ behind)
  target_bytes =
      let p = first_references (whole α) s rest e in
      ap (drop 3) p.bytes ∙ drop_at p.front (encode_references (first_of (whole α)) ++ behind) 3 (sym p.starts) ∙ ap (λ (l : List ℕ). l ++ behind) address_is
      ∙ append_assoc target (encode_references (channel α ∷ [])) behind

  start_is : r.middle ≡ 3 + length target + 2
  start_is =
      let m = ap (λ (x : Opened). x.middle) k in
      omega (arith, m, ap length address_is, length-append target (encode_references (channel α ∷ [])), length_references (channel α ∷ []))

  channel_bytes : drop (r.middle - 2) s ≡ encode_reference (channel α) ++ behind
  unfolding encode_references
  channel_bytes =
      let n : r.middle - 2 ≡ 3 + length target = omega (arith, start_is) in
      ap (λ (i : ℕ). drop i s) n ∙ sym (drop-drop (length target) 3 s) ∙ ap (drop (length target)) target_bytes
      ∙ drop_at target (encode_references (channel α ∷ []) ++ behind) (length target) refl
      ∙ ap (λ (l : List ℕ). l ++ behind) (append-nil (encode_reference (channel α)))

  channel_in : (2 ≤ r.middle) × (r.middle - 2 + 2 ≤ length s)
  channel_in =
      let m = ap (λ (x : Opened). x.middle) k in
      (omega (arith, start_is), omega (arith, start_is, m, inside (first_references (whole α) s rest e)))

  both_in : (b : Option ℕ) (c : ℕ) → ((rs : List Reference) (t : List ℕ) → drop 3 s ≡ encode_references rs ++ t → r.middle - 2 ≡ 3 + length (encode_references rs) → b ≡ number_of rs)
      → c ≡ word_at s (r.middle - 2) → ◌≡◌ {A = Written} record { boxed = b; channel = Some c; end = r.end } (written_in (whole α))
  unfolding of_opening of_action number_of
  both_in b c hb hc =
      written_as (whole α) b (Some c) r.end (hb (of_action as_box α) (encode_references (channel α ∷ []) ++ behind) target_bytes (omega (arith, start_is)))
      (ap Some (hc ∙ number_at s (r.middle - 2) (channel α) behind channel_bytes)) (ap (λ (x : Opened). x.end) k)

module _ (s rest : List ℕ) (r : Opened) where
  pub channel_within : (o : Opening) → s ≡ encode_opening o ++ rest → acting ≡ form_is o → r ≡ opened_of o → (2 ≤ r.middle) × (r.middle - 2 + 2 ≤ length s)
  unfolding form_is
  channel_within (alone tag len f) e q k = absurd (let z : ◌≡◌ {A = ℕ} 0 1 = cc in omega arith)
  channel_within (named tag len f a) e q k = absurd (let z : ◌≡◌ {A = ℕ} 0 1 = cc in omega arith)
  channel_within (whole α) e q k = channel_in α s rest e r k

  pub action_written : (o : Opening) → s ≡ encode_opening o ++ rest → acting ≡ form_is o → r ≡ opened_of o → (b : Option ℕ) (c : ℕ)
      → ((rs : List Reference) (t : List ℕ) → drop 3 s ≡ encode_references rs ++ t → r.middle - 2 ≡ 3 + length (encode_references rs) → b ≡ number_of rs) → c ≡ word_at s (r.middle - 2)
      → ◌≡◌ {A = Written} record { boxed = b; channel = Some c; end = r.end } (written_in o)
  unfolding form_is
  action_written (alone tag len f) e q k b c hb hc = absurd (let z : ◌≡◌ {A = ℕ} 0 1 = cc in omega arith)
  action_written (named tag len f a) e q k b c hb hc = absurd (let z : ◌≡◌ {A = ℕ} 0 1 = cc in omega arith)
  action_written (whole α) e q k b c hb hc = both_in α s rest e r k b c hb hc
