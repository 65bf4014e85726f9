-- The offsets of a plan, where they lie in a list, and what the plan sets down.
use mathlib.Core.Path.{◌≡◌, sym, ◌∙◌, subst}
use mathlib.Core.Bool.{Bool, true, false}
use mathlib.Core.Logic.{inl}
use mathlib.Core.List.{List}
use mathlib.Core.Option.{some}
use Rattle.std.specs.Prelude.{Option, Some, None, IfSome}
use Prim.Native.Nat.{ℕ}
use native.Mathlib.Omega.{arith}
use Rattle.calculus.specs.Processes.{Reference}
use Rattle.machine.specs.Elements.{Elements, empty, Element, ambient_element, only, Position, element_at}
use Rattle.machine.specs.Tests.{pick}
use Rattle.rewriting.specs.declared.Plan.{Plan}
use Rattle.places.specs.Offsets.{offset}
use Rattle.rewriting.specs.Editing.{marked, carried}
use Rattle.planning.specs.Choices.{SetDown, nothing, ambient}
use Rattle.places.proofs.Widths.{bytes, width_least}
use Rattle.places.proofs.Offsets.{element_at_within}
use Rattle.planning.proofs.Holders.{Holder}
use Rattle.planning.proofs.Editing.{Each, Among, Away, unmarked}

-- The offsets of a plan

pub record Fixed (k : Plan) (m : ℕ) (n c a : Option ℕ) : Type 0 where
  pub turns : k.first ≡ m
  pub answers : k.second ≡ n
  pub cuts : k.cut ≡ c
  pub sets : k.after ≡ a

pub each_of : {F : ℕ → Type 0} {k : Plan} {m : ℕ} {n c a : Option ℕ} → Fixed k m n c a → F m → IfSome n F → IfSome c F → IfSome a F → Each F k
each_of {F} x p q r s =
    record { first = subst F (sym x.turns) p; second = rw x.answers q; cut = rw x.cuts r; after = rw x.sets s }

pub fixed_unmarked : {k : Plan} {m o : ℕ} {n c a : Option ℕ} → Fixed k m n c a → ¬ (o ≡ m) → Away o n → marked k o ≡ false
fixed_unmarked {k} {o = o} x e f = unmarked k o (rw x.turns e) (rw x.answers f)

pub fixed_at : {k : Plan} {m m' : ℕ} {n c a n' c' a' : Option ℕ} → Fixed k m n c a → m ≡ m' → n ≡ n' → c ≡ c' → a ≡ a' → Fixed k m' n' c' a'
fixed_at x e f g h = record { turns = x.turns ∙ e; answers = x.answers ∙ f; cuts = x.cuts ∙ g; sets = x.sets ∙ h }

-- an offset of an element lies in its list
pub among_at : (low high o : ℕ) (L : Elements) (p : Position) (E : Element) → element_at L p ≡ some E → Among low high o (bytes L) (offset o L p)
among_at low high o L p E e = let w = width_least E in let i = element_at_within o L p E e in inl (omega arith)

pub if_picked : (F : ℕ → Type 0) (none : Bool) (m : ℕ) → F m → IfSome (pick none None (Some m)) F
if_picked F true m h = tt
if_picked F false m h = h

-- What is set down: nothing, or the ambient at the offset c that holds the mover
abbrev pub set_down : {L : Elements} {σ : Position} → Bool → Plan → List Reference → ℕ → Holder L σ → Elements
set_down none k ns c h = pick none empty (only (carried k ns empty c (ambient_element h.status h.called h.inside)))

pub sets_down : {L : Elements} {σ : Position} (none : Bool) (k : Plan) (ns : List Reference) (h : Holder L σ) → k.cut ≡ pick none None (Some (offset 7 L h.position))
    → SetDown L k ns (set_down none k ns (offset 7 L h.position) h)
sets_down true k ns h e = nothing e
sets_down false k ns h e = ambient h.position h.stands e
