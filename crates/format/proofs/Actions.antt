-- An action is its kind, its count and its references.
use mathlib.Core.Path.{◌≡◌, refl, sym}
use mathlib.Core.List.{List, [], ◌∷◌}
use Prim.Native.Nat.{ℕ, ◌+◌, ◌*◌, ◌≤◌}
use native.Mathlib.Omega.{arith}
use lib.ListN.{length}
use Rattle.calculus.specs.Processes.{Reference, Action, sibling_output, parent_output, internal_input, external_input, enter, leave, accept, release, binders}
use Rattle.calculus.specs.Redexes.{Kind, sibling_outputs, parent_outputs, internal_inputs, external_inputs, enters, leaves, accepts, releases}
use Rattle.machine.specs.Limits.{count_limit}
use Rattle.machine.specs.Validity.{AllScoped, ActionScoped}
use Rattle.format.specs.Spellable.{CountedAction}
use Rattle.machine.specs.Kinds.{count, answering, kind_of}
use Rattle.format.specs.Kinds.{reference_count, directed_of, handed_count, binder_count, implied_count, address_of, handed, reference_at, action_from}

-- Its scope

pub scoped_is : (N d : ℕ) (α : Action)
    → (ActionScoped N d α → AllScoped N d (address_of α) × AllScoped N d (handed α)) × (AllScoped N d (address_of α) × AllScoped N d (handed α) → ActionScoped N d α)
unfolding ActionScoped AllScoped address_of handed
scoped_is N d (sibling_output a x ns) = (λ s. ((s.0, (s.1, tt)), s.2), λ s. (s.0.0, s.0.1.0, s.1))
scoped_is N d (parent_output x ns) = (λ s. ((s.0, tt), s.1), λ s. (s.0.0, s.1))
scoped_is N d (internal_input x k) = (λ s. ((s, tt), tt), λ s. s.0.0)
scoped_is N d (external_input x k) = (λ s. ((s, tt), tt), λ s. s.0.0)
scoped_is N d (enter a x) = (λ s. ((s.0, (s.1, tt)), tt), λ s. (s.0.0, s.0.1.0))
scoped_is N d (leave x) = (λ s. ((s, tt), tt), λ s. s.0.0)
scoped_is N d (accept x) = (λ s. ((s, tt), tt), λ s. s.0.0)
scoped_is N d (release x) = (λ s. ((s, tt), tt), λ s. s.0.0)

-- The action of a kind with a count and references, as many as the table says

no_reference : (rs : List Reference) → length rs ≡ 0 → [] ≡ rs
no_reference [] e = refl
no_reference (r ∷ rs) e = absurd (omega arith)

one_reference : (rs : List Reference) → length rs ≡ 1 → reference_at rs 0 ∷ [] ≡ rs
unfolding reference_at
one_reference [] e = absurd (omega arith)
one_reference (r ∷ []) e = refl
one_reference (r ∷ s ∷ rs) e = absurd (omega arith)

two_references : (rs : List Reference) → length rs ≡ 2 → reference_at rs 0 ∷ reference_at rs 1 ∷ [] ≡ rs
unfolding reference_at
two_references [] e = absurd (omega arith)
two_references (r ∷ []) e = absurd (omega arith)
two_references (r ∷ s ∷ []) e = refl
two_references (r ∷ s ∷ t ∷ rs) e = absurd (omega arith)

pub from_kind : (k : Kind) (rs : List Reference) (n : ℕ) (ns : List Reference) → (kind_of (action_from k rs n ns) ≡ k) × (binders (action_from k rs n ns) ≡ n * binder_count k)
unfolding kind_of action_from binders binder_count handed_count answering reference_count directed_of
from_kind sibling_outputs rs n ns = (refl, omega arith)
from_kind parent_outputs rs n ns = (refl, omega arith)
from_kind internal_inputs rs n ns = (refl, omega arith)
from_kind external_inputs rs n ns = (refl, omega arith)
from_kind enters rs n ns = (refl, omega arith)
from_kind leaves rs n ns = (refl, omega arith)
from_kind accepts rs n ns = (refl, omega arith)
from_kind releases rs n ns = (refl, omega arith)

module _ (n : ℕ) (ns : List Reference) where
  pub from_count : (k : Kind) (rs : List Reference) → length ns ≡ n * handed_count k → (implied_count k ≡ 0 → n ≡ 0) → count (action_from k rs n ns) ≡ n
  unfolding count action_from implied_count binder_count handed_count answering reference_count directed_of
  from_count sibling_outputs rs e z = omega (arith, e)
  from_count parent_outputs rs e z = omega (arith, e)
  from_count internal_inputs rs e z = refl
  from_count external_inputs rs e z = refl
  from_count enters rs e z = sym (z refl)
  from_count leaves rs e z = sym (z refl)
  from_count accepts rs e z = sym (z refl)
  from_count releases rs e z = sym (z refl)

  pub from_counted : (k : Kind) (rs : List Reference) → length ns ≡ n * handed_count k → n ≤ count_limit → CountedAction (action_from k rs n ns)
  unfolding CountedAction action_from handed_count reference_count directed_of
  from_counted sibling_outputs rs e l = omega (arith, e)
  from_counted parent_outputs rs e l = omega (arith, e)
  from_counted internal_inputs rs e l = l
  from_counted external_inputs rs e l = l
  from_counted enters rs e l = tt
  from_counted leaves rs e l = tt
  from_counted accepts rs e l = tt
  from_counted releases rs e l = tt

  pub from_address : (k : Kind) (rs : List Reference) → length rs ≡ 1 + directed_of k → address_of (action_from k rs n ns) ≡ rs
  unfolding address_of action_from directed_of
  from_address sibling_outputs rs e = two_references rs e
  from_address parent_outputs rs e = one_reference rs e
  from_address internal_inputs rs e = one_reference rs e
  from_address external_inputs rs e = one_reference rs e
  from_address enters rs e = two_references rs e
  from_address leaves rs e = one_reference rs e
  from_address accepts rs e = one_reference rs e
  from_address releases rs e = one_reference rs e

  pub from_handed : (k : Kind) (rs : List Reference) → length ns ≡ n * handed_count k → handed (action_from k rs n ns) ≡ ns
  unfolding handed action_from handed_count reference_count directed_of
  from_handed sibling_outputs rs e = refl
  from_handed parent_outputs rs e = refl
  from_handed internal_inputs rs e = no_reference ns (omega (arith, e))
  from_handed external_inputs rs e = no_reference ns (omega (arith, e))
  from_handed enters rs e = no_reference ns (omega (arith, e))
  from_handed leaves rs e = no_reference ns (omega (arith, e))
  from_handed accepts rs e = no_reference ns (omega (arith, e))
  from_handed releases rs e = no_reference ns (omega (arith, e))

-- An action is the action of its kind with its count and its references

pub parts_is : (α : Action)
    → (length (address_of α) ≡ 1 + directed_of (kind_of α)) × (length (handed α) ≡ count α * handed_count (kind_of α)) × (action_from (kind_of α) (address_of α) (count α) (handed α) ≡ α)
    × (binders α ≡ count α * binder_count (kind_of α))
unfolding address_of handed count binders kind_of directed_of handed_count binder_count answering reference_count action_from reference_at
parts_is (sibling_output a x ns) = (refl, omega arith, refl, omega arith)
parts_is (parent_output x ns) = (refl, omega arith, refl, omega arith)
parts_is (internal_input x k) = (refl, omega arith, refl, omega arith)
parts_is (external_input x k) = (refl, omega arith, refl, omega arith)
parts_is (enter a x) = (refl, omega arith, refl, omega arith)
parts_is (leave x) = (refl, omega arith, refl, omega arith)
parts_is (accept x) = (refl, omega arith, refl, omega arith)
parts_is (release x) = (refl, omega arith, refl, omega arith)

-- of an action that the format spells
pub few_parts : (α : Action) → CountedAction α → (length (address_of α) ≤ 2) × (length (handed α) ≤ count_limit) × (count α ≤ count_limit) × (binders α ≤ count_limit)
unfolding address_of handed count binders CountedAction
few_parts (sibling_output a x ns) h = (omega arith, h, h, omega arith)
few_parts (parent_output x ns) h = (omega arith, h, h, omega arith)
few_parts (internal_input x k) h = (omega arith, omega arith, h, h)
few_parts (external_input x k) h = (omega arith, omega arith, h, h)
few_parts (enter a x) h = (omega arith, omega arith, omega arith, omega arith)
few_parts (leave x) h = (omega arith, omega arith, omega arith, omega arith)
few_parts (accept x) h = (omega arith, omega arith, omega arith, omega arith)
few_parts (release x) h = (omega arith, omega arith, omega arith, omega arith)

pub binders_few : (α : Action) → CountedAction α → binders α ≤ count_limit
binders_few α h = (few_parts α h).3
