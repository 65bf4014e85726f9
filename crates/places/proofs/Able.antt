-- The listing from tag to tag: whether the first element can act, and how the places listed go on behind it.
use mathlib.Core.Path.{◌≡◌, refl, sym, ap, ◌∙◌, subst}
use mathlib.Core.Bool.{Bool, true, false}
use mathlib.Core.List.{List, [], ◌∷◌, ◌++◌, append-nil, append_assoc}
use Prim.Native.Nat.{ℕ, suc, ◌+◌, ◌≤◌}
use native.Mathlib.Omega.{arith}
use lib.ListN.{length, get_or, length-append}
use Rattle.machine.specs.Elements.{unblocked, blocked, Elements, empty, ambient_then, process_then, blocked_then, ◌then◌, size, AllBlocked}
use Rattle.machine.specs.Tests.{all_blocked, pick}
use Rattle.machine.specs.Validity.{Graded}
use Rattle.machine.proofs.Elementwise.{then_all}
use Rattle.machine.proofs.Graded.{graded_elementwise, blocked_graded}
use Rattle.machine.proofs.Tests.{all_blocked_true, true_all_blocked}
use Rattle.buffers.specs.Words.{field}
use Rattle.elements.specs.Spelling.{ambient_tag, encode_elements}
use Rattle.std.specs.Prelude.{◌==◌, ◌||◌}
use Rattle.std.specs.List.{list_all}
use Rattle.elements.proofs.Each.{spellings}
use Rattle.elements.proofs.Views.{tail, Ambient, Processing, unblocked_tag}
use denote.Ref.{Bor}
use Rattle.places.specs.Places.{PlaceAt}
use Rattle.places.specs.Offsets.{following}
use Rattle.machine.specs.Lowest.{able, first_able}
use Rattle.places.proofs.Walking.{Remaining, remaining_all, remaining_none, remaining_on}

-- Blocked lists

-- the tag of a blocked ambient, or of a blocked action
unfoldable pub has_blocked_tag : List ℕ → Bool
has_blocked_tag x = (get_or x 0 0 == 0x41) || (get_or x 0 0 == 0x43)

-- all is blocked where each element has such a tag
pub blocked_tags : (A : Elements) → Graded A → list_all has_blocked_tag (spellings A) ≡ all_blocked A
unfolding has_blocked_tag spellings all_blocked Graded encode_elements field ambient_tag
blocked_tags empty g = refl
blocked_tags (ambient_then unblocked a A C) g = refl
blocked_tags (ambient_then blocked a A C) g = rw (true_all_blocked A g.0) (blocked_tags C g.1)
blocked_tags (process_then P C) g = refl
blocked_tags (blocked_then α P C) g = blocked_tags C g

blocked_none : (k : ℕ) (A : Elements) → AllBlocked A → able k A ≡ []
unfolding able AllBlocked
blocked_none k empty h = refl
blocked_none k (ambient_then unblocked a A C) h = absurd h
blocked_none k (ambient_then blocked a A C) h = blocked_none (suc (k + size A)) C h.1
blocked_none k (process_then P C) h = absurd h
blocked_none k (blocked_then α P C) h = blocked_none (suc k) C h

-- Lists in a row

able_then : (k : ℕ) (A C : Elements) → able k (A then C) ≡ able k A ++ able (k + size A) C
unfolding able ◌then◌ size
able_then k empty C = let n : k + 0 ≡ k = omega arith in rw n
able_then k (ambient_then unblocked a A D) C =
    let n : k + suc (size A + size D) ≡ suc (k + size A) + size D = omega arith in
    rw n
    (ap (λ (l : List ℕ). pick (all_blocked A) (k ∷ []) (able (suc k) A) ++ l) (able_then (suc (k + size A)) D C)
    ∙ sym (append_assoc (pick (all_blocked A) (k ∷ []) (able (suc k) A)) (able (suc (k + size A)) D) (able (suc (k + size A) + size D) C)))
able_then k (ambient_then blocked a A D) C =
    let n : k + suc (size A + size D) ≡ suc (k + size A) + size D = omega arith in
    rw n (able_then (suc (k + size A)) D C)
able_then k (process_then P D) C =
    let n : k + suc (size D) ≡ suc k + size D = omega arith in
    rw n (ap (λ (l : List ℕ). k ∷ l) (able_then (suc k) D C))
able_then k (blocked_then α P D) C =
    let n : k + suc (size D) ≡ suc k + size D = omega arith in
    rw n (able_then (suc k) D C)

pub following_graded : (A : Elements) → Graded A → Graded (following A)
unfolding following Graded
following_graded empty g = g
following_graded (ambient_then unblocked a A C) g = then_all graded_elementwise A C g.0 g.1
following_graded (ambient_then blocked a A C) g = then_all graded_elementwise A C (blocked_graded A g.0) g.1
following_graded (process_then P C) g = g
following_graded (blocked_then α P C) g = g

-- The first element's place, if it can act
unfoldable pub first_places : ℕ → Elements → List ℕ
first_places k A = pick (first_able A) (k ∷ []) []

pub able_first : (k : ℕ) (A : Elements) → Graded A → able k A ≡ first_places k A ++ able (suc k) (following A)
unfolding able following first_places first_able Graded
able_first k empty g = refl
able_first k (ambient_then unblocked a A C) g = rw (able_then (suc k) A C) (go (all_blocked A) refl)
  where
    next : suc k + size A ≡ suc (k + size A)
    next = omega arith

    go : (b : Bool) → all_blocked A ≡ b
        → pick b (k ∷ []) (able (suc k) A) ++ able (suc (k + size A)) C ≡ pick b (k ∷ []) [] ++ (able (suc k) A ++ able (suc k + size A) C)
    go true e = rw (next, blocked_none (suc k) A (all_blocked_true A e))
    go false e = rw next
able_first k (ambient_then blocked a A C) g =
    let n : suc k + size A ≡ suc (k + size A) = omega arith in
    rw (able_then (suc k) A C) (rw (n, blocked_none (suc k) A g.0))
able_first k (process_then P C) g = refl
able_first k (blocked_then α P C) g = refl

pub places_able : (k : ℕ) (A : Elements) → first_able A ≡ true → first_places k A ≡ k ∷ []
unfolding first_places
places_able k A e = rw e

pub places_none : (k : ℕ) (A : Elements) → first_able A ≡ false → first_places k A ≡ []
unfolding first_places
places_none k A e = rw e

-- What the first element's tag tells

pub able_process : {s : List ℕ} {A : Elements} {n : ℕ} → Processing s A n → first_able A ≡ true
unfolding first_able
able_process v = ap first_able v.is

module _ {s : List ℕ} {A : Elements} {n : ℕ} (v : Ambient s A n) (t : get_or s 0 0 ≡ 0x40) where
  is_unblocked : A ≡ ambient_then unblocked v.called v.inside (tail A)
  is_unblocked = v.is ∙ ap (λ u. ambient_then u v.called v.inside (tail A)) (unblocked_tag v.status (sym v.tag ∙ t))

  pub able_ambient : first_able A ≡ all_blocked v.inside
  unfolding first_able
  able_ambient = ap first_able is_unblocked

  pub graded_inside : Graded A → Graded v.inside
  unfolding Graded
  graded_inside g = (subst Graded is_unblocked g).0

nothing_of : (A : Elements) → (get_or (encode_elements A) 0 0 ≡ 0x40 → ⊥) → (get_or (encode_elements A) 0 0 ≡ 0x42 → ⊥) → first_able A ≡ false
unfolding first_able encode_elements field ambient_tag
nothing_of empty h k = refl
nothing_of (ambient_then unblocked a A C) h k = absurd (h refl)
nothing_of (ambient_then blocked a A C) h k = refl
nothing_of (process_then P C) h k = absurd (k refl)
nothing_of (blocked_then α P C) h k = refl

-- a blocked element cannot act
pub first_blocked : (s : List ℕ) (A : Elements) → s ≡ encode_elements A → (get_or s 0 0 ≡ 0x40 → ⊥) → (get_or s 0 0 ≡ 0x42 → ⊥) → first_able A ≡ false
first_blocked s A e h k = nothing_of A (rw e at h) (rw e at k)

-- Along a slice from tag to tag

-- At an offset of s, which spells A: the elements that are left, the place of the first of them, and the places listed before it.
pub record Along (s : List ℕ) (at : ℕ) (A : Elements) : Type 0 where
  pub ahead : Remaining s at A
  pub place : ℕ
  pub done : List ℕ
  pub graded : Graded A → Graded ahead.rest
  pub same : Graded A → able 0 A ≡ done ++ able place ahead.rest

module _ (s : List ℕ) (A : Elements) where
  abbrev pub begin : s ≡ encode_elements A → Along s 0 A
  begin e = record { ahead = remaining_all s A e; place = 0; done = []; graded = λ h. h; same = λ h. refl }

  module _ {at : ℕ} (g : Along s at A) where
    abbrev pub go_on : {x : ℕ × Bor (List ℕ)} {t : List ℕ} {next : ℕ} → PlaceAt s at x t next → Along t next A
    go_on p = record {
      ahead = remaining_on g.ahead p;
      place = suc g.place;
      done = g.done ++ first_places g.place g.ahead.rest;
      graded = λ h. following_graded g.ahead.rest (g.graded h);
      same = λ h.
          g.same h
          ∙ ap (λ (l : List ℕ). g.done ++ l) (able_first g.place g.ahead.rest (g.graded h))
          ∙ sym (append_assoc g.done (first_places g.place g.ahead.rest) (able (suc g.place) (following g.ahead.rest)));
    }

    pub over : length s ≤ at → Graded A → able 0 A ≡ g.done
    unfolding able
    over h k = g.same k ∙ ap (λ R. g.done ++ able g.place R) (remaining_none g.ahead h) ∙ append-nil g.done

-- how many places are listed with the first element's
module _ {s : List ℕ} {at : ℕ} {A : Elements} (g : Along s at A) where
  pub counted_able : (count : ℕ) → count ≡ length g.done → first_able g.ahead.rest ≡ true → count + 1 ≡ length (g.done ++ first_places g.place g.ahead.rest)
  counted_able count e f = rw (places_able g.place g.ahead.rest f) (omega (arith, length-append g.done (g.place ∷ [])))

  pub counted_none : (count : ℕ) → count ≡ length g.done → first_able g.ahead.rest ≡ false → count ≡ length (g.done ++ first_places g.place g.ahead.rest)
  counted_none count e f = rw (places_none g.place g.ahead.rest f) (omega (arith, length-append g.done []))
