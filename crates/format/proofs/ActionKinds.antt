-- Laws of the table of action kinds.
use mathlib.Core.Path.{◌≡◌, refl, sym, ap, ◌∙◌}
use mathlib.Core.Bool.{Bool, true, false}
use mathlib.Core.List.{[], ◌∷◌}
use Prim.Native.Nat.{ℕ, ◌+◌, ◌-◌, ◌*◌, ◌%◌, ◌≤◌, ◌<◌}
use native.Mathlib.Omega.{arith}
use borrow.Author.Tests.{eqb-true, eqb-false, eq-eqb, ne_eqb}
use lib.Dec.{eqb}
use Rattle.calculus.specs.Redexes.{Kind, sibling_outputs, parent_outputs, internal_inputs, external_inputs, enters, leaves, accepts, releases}
use Rattle.calculus.specs.Processes.{Action, sibling_output, parent_output, internal_input, external_input, enter, leave, accept, release}
use Rattle.machine.specs.Kinds.{count, kind_of, kind_number, answering, standing_of}
use Rattle.kinds.proofs.Table.{below_eight}
use Rattle.format.specs.Kinds.{kind_at, tag_kind, tag_of, tag_with, count_bytes, action_tag, reference_count, directed_of, row_of, handed_count, binder_count, implied_count, standing_number}
use Rattle.format.specs.Theorems.{CountedTags}
use Rattle.kinds.specs.declared.Row.{Row}

-- Numbers

at_number : (n : ℕ) → n < 8 → kind_number (kind_at n) ≡ n
unfolding kind_at kind_number
at_number n h = below_eight n h (λ e. rw e) (λ e. rw e) (λ e. rw e) (λ e. rw e) (λ e. rw e) (λ e. rw e) (λ e. rw e) (λ e. rw e)

-- the number of a tag's kind
pub kind_number_law : (tag : ℕ) → kind_number (tag_kind tag) ≡ tag % 8
unfolding tag_kind
kind_number_law tag = at_number (tag % 8) (omega arith)

pub number_small : (k : Kind) → kind_number k < 8
unfolding kind_number
number_small sibling_outputs = omega arith
number_small parent_outputs = omega arith
number_small internal_inputs = omega arith
number_small external_inputs = omega arith
number_small enters = omega arith
number_small leaves = omega arith
number_small accepts = omega arith
number_small releases = omega arith

pub tag_kind_law : (k : Kind) → tag_kind (tag_of k) ≡ k
unfolding tag_kind kind_at kind_number tag_of
tag_kind_law sibling_outputs = refl
tag_kind_law parent_outputs = refl
tag_kind_law internal_inputs = refl
tag_kind_law external_inputs = refl
tag_kind_law enters = refl
tag_kind_law leaves = refl
tag_kind_law accepts = refl
tag_kind_law releases = refl

pub number_kind : (k : Kind) → tag_kind (kind_number k) ≡ k
unfolding tag_of tag_kind
number_kind k =
    let e : kind_number k % 8 ≡ (0x30 + kind_number k) % 8 = omega arith in
    ap kind_at e ∙ tag_kind_law k

-- Counts

-- what the table says of the counts of each kind
counts_are : (k : Kind)
    → (reference_count k ≤ 3) × (1 + directed_of k ≤ reference_count k) × (handed_count k ≤ 1) × (implied_count k ≤ 1) × (implied_count (answering k) ≡ implied_count k)
    × (1 + directed_of k + implied_count k * handed_count k ≡ reference_count k) × (implied_count k * binder_count k ≡ binder_count k)
unfolding implied_count binder_count handed_count answering reference_count directed_of
counts_are sibling_outputs = (omega arith, omega arith, omega arith, omega arith, refl, refl, refl)
counts_are parent_outputs = (omega arith, omega arith, omega arith, omega arith, refl, refl, refl)
counts_are internal_inputs = (omega arith, omega arith, omega arith, omega arith, refl, refl, refl)
counts_are external_inputs = (omega arith, omega arith, omega arith, omega arith, refl, refl, refl)
counts_are enters = (omega arith, omega arith, omega arith, omega arith, refl, refl, refl)
counts_are leaves = (omega arith, omega arith, omega arith, omega arith, refl, refl, refl)
counts_are accepts = (omega arith, omega arith, omega arith, omega arith, refl, refl, refl)
counts_are releases = (omega arith, omega arith, omega arith, omega arith, refl, refl, refl)

pub counts_small : (k : Kind) → (reference_count k ≤ 3) × (1 + directed_of k ≤ reference_count k) × (handed_count k ≤ 1)
counts_small k = let c = counts_are k in (c.0, c.1, c.2)

pub binders_small : (k : Kind) → binder_count k ≤ 1
unfolding binder_count
binders_small k = (counts_small (answering k)).2

pub implied_small : (k : Kind) → implied_count k ≤ 1
implied_small k = (counts_are k).3

-- an action and its answer have one implied count
pub implied_answer : (k : Kind) → implied_count (answering k) ≡ implied_count k
implied_answer k = (counts_are k).4

-- with the implied count an action has the references that the table says, and binds one variable or none

pub implied_references : (k : Kind) → 1 + directed_of k + implied_count k * handed_count k ≡ reference_count k
implied_references k = (counts_are k).5

pub implied_binders : (k : Kind) → implied_count k * binder_count k ≡ binder_count k
implied_binders k = (counts_are k).6

-- the first four kinds hand names over or take them, and the others don't
pub implied_is : (k : Kind) → (kind_number k < 4 → implied_count k ≡ 1) × (4 ≤ kind_number k → implied_count k ≡ 0)
unfolding implied_count binder_count handed_count answering reference_count directed_of kind_number
implied_is sibling_outputs = (λ h. refl, λ h. absurd (omega arith))
implied_is parent_outputs = (λ h. refl, λ h. absurd (omega arith))
implied_is internal_inputs = (λ h. refl, λ h. absurd (omega arith))
implied_is external_inputs = (λ h. refl, λ h. absurd (omega arith))
implied_is enters = (λ h. absurd (omega arith), λ h. refl)
implied_is leaves = (λ h. absurd (omega arith), λ h. refl)
implied_is accepts = (λ h. absurd (omega arith), λ h. refl)
implied_is releases = (λ h. absurd (omega arith), λ h. refl)

-- Tags with counts

pub tag_implied : (k : Kind) (n : ℕ) → n ≡ implied_count k → (tag_with k n ≡ tag_of k) × (count_bytes k n ≡ [])
unfolding tag_with count_bytes
tag_implied k n e = (rw (eq-eqb n (implied_count k) e), rw (eq-eqb n (implied_count k) e))

pub tag_spelled : (k : Kind) (n : ℕ) → ¬ (n ≡ implied_count k) → (tag_with k n ≡ 8 + tag_of k) × (count_bytes k n ≡ n ∷ [])
unfolding tag_with count_bytes
tag_spelled k n e = (rw (ne_eqb n (implied_count k) e), rw (ne_eqb n (implied_count k) e))

-- the tag of a kind with a count: with the count implied, or spelled
pub by_count : {A : Type 0} (k : Kind) (n : ℕ) → (n ≡ implied_count k → A) → (¬ (n ≡ implied_count k) → A) → A
by_count {A} k n f g = go (eqb n (implied_count k)) refl
  where
    go : (b : Bool) → eqb n (implied_count k) ≡ b → A
    go true e = f (eqb-true n (implied_count k) e)
    go false e = g (eqb-false n (implied_count k) e)

pub tag_kind_with : (k : Kind) (n : ℕ) → tag_kind (tag_with k n) ≡ k
unfolding tag_kind
tag_kind_with k n =
    by_count k n
    (λ e. ap tag_kind (tag_implied k n e).0 ∙ tag_kind_law k)
    (λ e. ap tag_kind (tag_spelled k n e).0 ∙ ap kind_at (let z : (8 + tag_of k) % 8 ≡ tag_of k % 8 = omega arith in z) ∙ tag_kind_law k)

-- a count of an action that hands nothing over and takes nothing is implied
pub count_mover : (α : Action) → 4 ≤ kind_number (kind_of α) → count α ≡ 0
unfolding kind_of kind_number count
count_mover (sibling_output a x ns) h = absurd (omega arith)
count_mover (parent_output x ns) h = absurd (omega arith)
count_mover (internal_input x k) h = absurd (omega arith)
count_mover (external_input x k) h = absurd (omega arith)
count_mover (enter a x) h = refl
count_mover (leave x) h = refl
count_mover (accept x) h = refl
count_mover (release x) h = refl

pub spelled_few : (α : Action) → ¬ (count α ≡ implied_count (kind_of α)) → kind_number (kind_of α) < 4
spelled_few α e = let h : ¬ (4 ≤ kind_number (kind_of α)) = λ h. e (count_mover α h ∙ sym ((implied_is (kind_of α)).1 h)) in omega arith

pub tag_below : (k : Kind) → (0x30 ≤ tag_of k) × (tag_of k < 0x38)
unfolding tag_of
tag_below k = omega (arith, number_small k)

pub tag_range : (α : Action) → (0x30 ≤ action_tag α) × (action_tag α ≤ 0x3B)
unfolding action_tag tag_of
tag_range α =
    let k = kind_of α in
    by_count k (count α)
    (λ e. let t = (tag_implied k (count α) e).0 in omega (arith, t, number_small k))
    (λ e. let t = (tag_spelled k (count α) e).0 in omega (arith, t, spelled_few α e))

-- the tags with a count that the format has are those of the first four kinds
pub counted_tags_law : CountedTags
counted_tags_law tag above below =
    let e = kind_number_law tag in
    let i = implied_is (tag_kind tag) in
    (λ h. i.0 (omega (arith, e)), λ h. i.1 (omega (arith, e)))

pub tag_kind_action : (α : Action) → tag_kind (action_tag α) ≡ kind_of α
unfolding action_tag
tag_kind_action α = tag_kind_with (kind_of α) (count α)

-- Rows

pub row_is : (tag : ℕ) (r : Row) → r ≡ row_of (tag % 8)
    → (r.answer ≡ kind_number (answering (tag_kind tag))) × (r.standing ≡ standing_number (standing_of (tag_kind tag))) × (r.references ≡ reference_count (tag_kind tag)) × (r.directed ≡ directed_of (tag_kind tag))
unfolding row_of tag_kind
row_is tag r e = (ap (λ (x : Row). x.answer) e, ap (λ (x : Row). x.standing) e, ap (λ (x : Row). x.references) e, ap (λ (x : Row). x.directed) e)

pub row_small : (tag : ℕ) (r : Row) → r ≡ row_of (tag % 8) → (r.answer < 8) × (r.directed < r.references) × (r.references ≤ 3)
row_small tag r e =
    let i = row_is tag r e in
    let k = counts_small (tag_kind tag) in
    (omega (arith, i.0, number_small (answering (tag_kind tag))), omega (arith, i.2, i.3, k.1), omega (arith, i.2, k.0))

pub row_hands : (tag : ℕ) (r : Row) → r ≡ row_of (tag % 8) → r.references - (1 + r.directed) ≡ handed_count (tag_kind tag)
unfolding handed_count
row_hands tag r e = let i = row_is tag r e in rw (i.2, i.3)

-- what the answering kind hands over is what an action binds
pub answer_binds : (tag : ℕ) (r : Row) → r ≡ row_of (tag % 8) → handed_count (tag_kind r.answer) ≡ binder_count (tag_kind tag)
unfolding binder_count
answer_binds tag r e = rw ((row_is tag r e).0, number_kind (answering (tag_kind tag)))
