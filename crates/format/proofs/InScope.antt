-- What is read is within the depth, in scope, and has counts that are spelled.
use mathlib.Core.Path.{◌≡◌, refl, subst}
use mathlib.Core.Logic.{⊎_elim}
use mathlib.Core.List.{List}
use mathlib.Core.Bool.{Bool, true, false}
use Prim.Native.Nat.{ℕ, zero, suc, ◌+◌, ◌-◌, ◌*◌, ◌≤◌}
use native.Mathlib.Nat.{add_comm}
use native.Mathlib.Numerals.{add-one}
use native.Mathlib.Omega.{arith}
use borrow.Author.Tests.{ltb-true, ltb-false}
use lib.ListN.{length, take, drop}
use lib.Dec.{ltb, eqb}
use Rattle.calculus.specs.Processes.{Reference, name, variable, Action, Process, binders}
use Rattle.calculus.specs.Redexes.{Kind}
use Rattle.machine.specs.Limits.{name_limit, count_limit}
use Rattle.machine.specs.Elements.{depth}
use Rattle.machine.specs.Validity.{ReferenceScoped, AllScoped, ActionScoped, ProcessScoped}
use Rattle.format.specs.Spelling.{first_variable}
use Rattle.format.specs.Spellable.{CountedAction, Counted}
use Rattle.format.specs.Kinds.{tag_kind, directed_of, handed_count, action_from}
use Rattle.format.specs.Reading.{Outcome, refused, got, map_outcome, shift, and_then, Opened, shut, opened, word_at, whole, read_field, reference_of, read_reference, read_references, read_name_count, read_action_parts, read_action, read_acting, Shape, is_null, is_parallel, is_restriction, is_ambient, is_action, is_replication, shape_of, read_parts, read_process, read_count}
use Rattle.machine.specs.Tests.{pick}
use Rattle.format.proofs.ActionKinds.{implied_small}
use Rattle.format.proofs.Laws.{spelled_inverse, name_inverse}
use Rattle.format.proofs.Actions.{scoped_is, from_counted, from_address, from_handed}

-- What was read has the property Q.
unfoldable pub Holds : {A : Type 0} → (A → Type 0) → Outcome A → Type 0
Holds Q (refused k) = Unit {0}
Holds Q (got a n) = Q a

pub holds_read : {A : Type 0} (Q : A → Type 0) (o : Outcome A) (a : A) (n : ℕ) → Holds Q o → o ≡ got a n → Q a
unfolding Holds
holds_read Q o a n h e = rw e at h

pub holds_refused : {A : Type 0} (Q : A → Type 0) (k : ℕ) → Holds Q (refused k)
unfolding Holds
holds_refused Q k = tt

pub holds_got : {A : Type 0} (Q : A → Type 0) (a : A) (n : ℕ) → Q a → Holds Q (got a n)
unfolding Holds
holds_got Q a n q = q

pub holds_map : {A B : Type 0} (P : A → Type 0) (Q : B → Type 0) (f : A → B) (o : Outcome A)
    → ((a : A) → P a → Q (f a)) → Holds P o → Holds Q (map_outcome f o)
unfolding map_outcome Holds
holds_map P Q f (refused k) w h = tt
holds_map P Q f (got a n) w h = w a h

pub holds_then : {A B : Type 0} (P : A → Type 0) (Q : B → Type 0) (bytes : List ℕ) (o : Outcome A) (f : A → List ℕ → Outcome B)
    → Holds P o → ((a : A) (rest : List ℕ) → P a → Holds Q (f a rest)) → Holds Q (and_then o bytes f)
unfolding and_then shift Holds
holds_then P Q bytes (refused k) f h g = tt
holds_then {A} {B} P Q bytes (got a n) f h g = last (f a (drop n bytes)) (g a (drop n bytes) h)
  where
    last : (o : Outcome B) → Holds Q o → Holds Q (shift n o)
    last (refused k) s = tt
    last (got b m) s = s

pub holds_field : {A : Type 0} (Q : A → Type 0) (o : Opened) (bytes : List ℕ) (f : ℕ → List ℕ → Outcome A)
    → ((tag : ℕ) (body : List ℕ) → Holds Q (f tag body)) → Holds Q (read_field o bytes f)
unfolding read_field whole Holds
holds_field Q (shut k) bytes f g = tt
holds_field {A} Q (opened tag len) bytes f g = inner (f tag (take len (drop 3 bytes))) (g tag (take len (drop 3 bytes)))
  where
    end : (b : Bool) (a : A) → Q a → Holds Q (pick b (got a (3 + len)) (refused 4))
    end true a q = q
    end false a q = tt

    inner : (o : Outcome A) → Holds Q o → Holds Q (whole len o)
    inner (refused k) h = tt
    inner (got a n) h = end (eqb n len) a h

pub holds_count : (least most : ℕ) (bytes : List ℕ) → Holds (λ v. (least ≤ v) × (v ≤ most)) (read_count least most bytes)
unfolding read_count Holds
holds_count least most bytes = go (ltb (length bytes) 2) (ltb (word_at bytes 0) least) (ltb most (word_at bytes 0)) refl refl
  where
    go : (b₁ b₂ b₃ : Bool) → ltb (word_at bytes 0) least ≡ b₂ → ltb most (word_at bytes 0) ≡ b₃
        → Holds (λ v. (least ≤ v) × (v ≤ most)) (pick b₁ (refused 2) (pick b₂ (refused 6) (pick b₃ (refused 6) (got (word_at bytes 0) 2))))
    go true b₂ b₃ e₂ e₃ = tt
    go false true b₃ e₂ e₃ = tt
    go false false true e₂ e₃ = tt
    go false false false e₂ e₃ = (ltb-false _ _ e₂, ltb-false _ _ e₃)

-- References and actions

pub holds_reference : (names around : ℕ) (bytes : List ℕ) → Holds (ReferenceScoped names around) (read_reference names around bytes)
unfolding read_reference reference_of ReferenceScoped Holds
holds_reference names around bytes =
    go (ltb (length bytes) 2) (ltb v name_limit) (ltb v names) (ltb v first_variable) (ltb (v - first_variable) around) refl refl
  where
    v : ℕ
    v = word_at bytes 0

    go : (b b₁ b₂ b₃ b₄ : Bool) → ltb v names ≡ b₂ → ltb (v - first_variable) around ≡ b₄
        → Holds (ReferenceScoped names around) (pick b (refused 2) (pick b₁ (pick b₂ (got (name v) 2) (refused 6)) (pick b₃ (refused 6) (pick b₄ (got (variable (v - first_variable)) 2) (refused 6)))))
    go true b₁ b₂ b₃ b₄ e₂ e₄ = tt
    go false true true b₃ b₄ e₂ e₄ = ltb-true _ _ e₂
    go false true false b₃ b₄ e₂ e₄ = tt
    go false false b₂ true b₄ e₂ e₄ = tt
    go false false b₂ false true e₂ e₄ = ltb-true _ _ e₄
    go false false b₂ false false e₂ e₄ = tt

holds_references : (k names around : ℕ) (bytes : List ℕ)
    → Holds (λ rs. (length rs ≡ k) × AllScoped names around rs) (read_references k names around bytes)
unfolding read_references AllScoped
holds_references zero names around bytes = holds_got _ _ _ (refl, tt)
holds_references (suc k) names around bytes =
    holds_then (ReferenceScoped names around) _ bytes _ _ (holds_reference names around bytes)
    (λ r rest s.
    holds_map (λ rs. (length rs ≡ k) × AllScoped names around rs) _ _ _ (λ rs q. (rw q.0, (s, q.1)))
    (holds_references k names around rest))

holds_name_count : (tag : ℕ) (bytes : List ℕ) → Holds (λ n. n ≤ count_limit) (read_name_count tag bytes)
unfolding Holds
holds_name_count tag bytes = go (read_name_count tag bytes) refl
  where
    go : (o : Outcome ℕ) → read_name_count tag bytes ≡ o → Holds (λ n. n ≤ count_limit) o
    go (refused k) q = tt
    go (got n j) q = ⊎_elim (λ h. omega (arith, h.1, implied_small (tag_kind tag))) (λ h. (spelled_inverse bytes n j h.1).3) (name_inverse tag bytes n j q)

from_scoped : (names around : ℕ) (k : Kind) (rs : List Reference) (n : ℕ) (ns : List Reference) → length rs ≡ 1 + directed_of k → length ns ≡ n * handed_count k
    → AllScoped names around rs → AllScoped names around ns → ActionScoped names around (action_from k rs n ns)
from_scoped names around k rs n ns p q s t = (scoped_is names around (action_from k rs n ns)).1 (rw (from_address n ns k rs p) s, rw (from_handed n ns k rs q) t)

holds_action : (names around : ℕ) (bytes : List ℕ) → Holds (λ α. ActionScoped names around α × CountedAction α) (read_action names around bytes)
unfolding read_action read_action_parts
holds_action names around bytes =
    holds_field _ _ bytes _
    (λ tag body.
    let k = tag_kind tag in
    holds_then (λ rs. (length rs ≡ 1 + directed_of k) × AllScoped names around rs) _ body _ _ (holds_references (1 + directed_of k) names around body)
    (λ rs behind p.
    holds_then (λ n. n ≤ count_limit) _ behind _ _ (holds_name_count tag behind)
    (λ n rest l.
    holds_map (λ ns. (length ns ≡ n * handed_count k) × AllScoped names around ns) _ _ _
    (λ ns q. (from_scoped names around k rs n ns p.0 q.0 p.1 q.1, from_counted n ns k rs q.0 l))
    (holds_references (n * handed_count k) names around rest))))

-- Processes

-- within the depth, in scope, and with counts that are spelled
abbrev pub Readable : ℕ → ℕ → ℕ → Process → Type 0
Readable d names around P = (depth P ≤ d) × ProcessScoped names around P × Counted P

abbrev pub ReadableActing : ℕ → ℕ → ℕ → Action → Process → Type 0
ReadableActing d names around α P =
    (depth P ≤ d) × ActionScoped names around α × ProcessScoped names (binders α + around) P × CountedAction α × Counted P

module _ (d names : ℕ) (P : ℕ → List ℕ → Outcome Process) (hP : (b : ℕ) (l : List ℕ) → Holds (Readable d names b) (P b l)) where
  pub holds_acting : (around : ℕ) (bytes : List ℕ) → Holds (λ t. ReadableActing d names around t.0 t.1) (read_acting P names around bytes)
  unfolding read_acting
  holds_acting around bytes =
      holds_then (λ α. ActionScoped names around α × CountedAction α) _ bytes _ _ (holds_action names around bytes)
      (λ α rest s.
      holds_map (Readable d names (around + binders α)) _ _ _ (λ p q. (q.0, s.0, rw (add_comm (binders α) around) q.1, s.1, q.2))
      (hP (around + binders α) rest))

  holds_parts : (k : Shape) (around : ℕ) (body : List ℕ) → Holds (Readable (suc d) names around) (read_parts k P names around body)
  unfolding read_parts depth ProcessScoped Counted
  holds_parts is_null around body = holds_got _ _ _ (omega arith, tt, tt)
  holds_parts is_parallel around body =
      holds_then (Readable d names around) _ body _ _ (hP around body)
      (λ p rest s. holds_map (Readable d names around) _ _ _ (λ q t. (omega (arith, s.0, t.0), (s.1, t.1), (s.2, t.2))) (hP around rest))
  holds_parts is_restriction around body =
      holds_map (Readable d names (around + 1)) _ _ _ (λ p s. (omega (arith, s.0), subst (λ b. ProcessScoped names b p) (add-one around) s.1, s.2)) (hP (around + 1) body)
  holds_parts is_ambient around body =
      holds_then (ReferenceScoped names around) _ body _ _ (holds_reference names around body)
      (λ r rest s. holds_map (Readable d names around) _ _ _ (λ p t. (omega (arith, t.0), (s, t.1), t.2)) (hP around rest))
  holds_parts is_action around body =
      holds_map (λ t. ReadableActing d names around t.0 t.1) _ _ _ (λ t s. (omega (arith, s.0), (s.1, s.2), (s.3, s.4))) (holds_acting around body)
  holds_parts is_replication around body =
      holds_map (λ t. ReadableActing d names around t.0 t.1) _ _ _ (λ t s. (omega (arith, s.0), (s.1, s.2), (s.3, s.4))) (holds_acting around body)

pub holds_process : (d names around : ℕ) (bytes : List ℕ) → Holds (Readable d names around) (read_process d names around bytes)
unfolding read_process
holds_process zero names around bytes = holds_field _ _ bytes _ (λ tag body. holds_refused _ 5)
holds_process (suc d) names around bytes =
    holds_field _ _ bytes _ (λ tag body. holds_parts d names (read_process d names) (λ b l. holds_process d names b l) (shape_of tag) around body)
