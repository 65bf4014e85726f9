-- Lists of elements as they are read in an ambient of a status: what must hold of the first element and of the others.
use mathlib.Core.Logic.{◌↔◌}
use Prim.Native.Nat.{ℕ, zero, suc, ◌≤◌}
use native.Mathlib.Omega.{arith}
use Rattle.calculus.specs.Processes.{Reference, Action, Process}
use Rattle.machine.specs.Limits.{state_depth_limit, blocked_depth_limit}
use Rattle.machine.specs.Elements.{Status, unblocked, blocked, Elements, empty, ambient_then, process_then, blocked_then, AllBlocked, process_depth, nesting}
use Rattle.machine.specs.Validity.{ReferenceScoped, Scoped, Graded}
use Rattle.format.proofs.InScope.{Readable, ReadableActing}
use Rattle.elements.specs.Spelling.{CountedElements}
use Rattle.states.specs.Reading.{is_process, is_blocked_action}
use Rattle.states.proofs.Shapes.{ambient_shape, Due}

-- In an ambient of a status, and unblocked at the root: blocked ambients hold blocked elements only.
unfoldable pub GradedIn : Status → Elements → Type 0
GradedIn unblocked L = Graded L
GradedIn blocked L = AllBlocked L

graded_empty : (s : Status) → GradedIn s empty
unfolding GradedIn Graded AllBlocked
graded_empty unblocked = tt
graded_empty blocked = tt

graded_ambient : (s t : Status) (a : Reference) (A C : Elements)
    → GradedIn s (ambient_then t a A C) ↔ (Due s (ambient_shape t) × GradedIn t A × GradedIn s C)
unfolding GradedIn Graded AllBlocked Due ambient_shape
graded_ambient unblocked unblocked a A C = (λ g. (tt, g.0, g.1), λ g. (g.1, g.2))
graded_ambient unblocked blocked a A C = (λ g. (tt, g.0, g.1), λ g. (g.1, g.2))
graded_ambient blocked unblocked a A C = (λ g. absurd g, λ g. g.0)
graded_ambient blocked blocked a A C = (λ g. (tt, g.0, g.1), λ g. (g.1, g.2))

graded_process : (s : Status) (P : Process) (C : Elements) → GradedIn s (process_then P C) ↔ (Due s is_process × GradedIn s C)
unfolding GradedIn Graded AllBlocked Due
graded_process unblocked P C = (λ g. (tt, g), λ g. g.1)
graded_process blocked P C = (λ g. absurd g, λ g. g.0)

graded_blocked : (s : Status) (α : Action) (P : Process) (C : Elements) → GradedIn s (blocked_then α P C) ↔ (Due s is_blocked_action × GradedIn s C)
unfolding GradedIn Graded AllBlocked Due
graded_blocked unblocked α P C = (λ g. (tt, g), λ g. g.1)
graded_blocked blocked α P C = (λ g. (tt, g), λ g. g.1)

-- A list within an ambient of status s whose ambients nest no deeper than `nest`, with names below `names`.
pub record ReadableElements (s : Status) (nest names : ℕ) (L : Elements) : Type 0 where
  pub scoped : Scoped names L
  pub graded : GradedIn s L
  pub shallow : process_depth L ≤ state_depth_limit
  pub nested : nesting L ≤ nest
  pub counted : CountedElements L

-- The body of an ambient of status s.
unfoldable pub ReadableAmbient : ℕ → ℕ → Status → Reference → Elements → Type 0
ReadableAmbient zero names s a A = ⊥
ReadableAmbient (suc nest) names s a A = ReferenceScoped names 0 a × ReadableElements s nest names A

pub readable_empty : (s : Status) (nest names : ℕ) → ReadableElements s nest names empty
unfolding Scoped process_depth nesting CountedElements
readable_empty s nest names = record { scoped = tt; graded = graded_empty s; shallow = omega arith; nested = omega arith; counted = tt }

-- A list is readable where its first element and the others are.
module _ (s : Status) (names : ℕ) where
  pub readable_ambient : (nest : ℕ) (t : Status) (a : Reference) (A C : Elements)
      → ReadableElements s nest names (ambient_then t a A C) ↔ (Due s (ambient_shape t) × ReadableAmbient nest names t a A × ReadableElements s nest names C)
  unfolding ReadableAmbient Scoped process_depth nesting CountedElements
  readable_ambient zero t a A C = (λ r. absurd (omega (arith, r.nested)), λ h. absurd h.1)
  readable_ambient (suc nest) t a A C = (
    λ r.
        let g = (graded_ambient s t a A C).0 r.graded in (
          g.0,
          (r.scoped.0, record { scoped = r.scoped.1; graded = g.1; shallow = omega (arith, r.shallow); nested = omega (arith, r.nested); counted = r.counted.0 }),
          record { scoped = r.scoped.2; graded = g.2; shallow = omega (arith, r.shallow); nested = omega (arith, r.nested); counted = r.counted.1 },
        ),
    λ h.
        let i = h.1.1 in
        let c = h.2 in
        record {
          scoped = (h.1.0, i.scoped, c.scoped);
          graded = (graded_ambient s t a A C).1 (h.0, i.graded, c.graded);
          shallow = omega (arith, i.shallow, c.shallow);
          nested = omega (arith, i.nested, c.nested);
          counted = (i.counted, c.counted);
        },
  )

  pub readable_process : (nest : ℕ) (P : Process) (C : Elements)
      → ReadableElements s nest names (process_then P C) ↔ (Due s is_process × Readable state_depth_limit names 0 P × ReadableElements s nest names C)
  unfolding Scoped process_depth nesting CountedElements
  readable_process nest P C = (
    λ r.
        let g = (graded_process s P C).0 r.graded in (
          g.0,
          (omega (arith, r.shallow), r.scoped.0, r.counted.0),
          record { scoped = r.scoped.1; graded = g.1; shallow = omega (arith, r.shallow); nested = r.nested; counted = r.counted.1 },
        ),
    λ h.
        let c = h.2 in
        record {
          scoped = (h.1.1, c.scoped);
          graded = (graded_process s P C).1 (h.0, c.graded);
          shallow = omega (arith, h.1.0, c.shallow);
          nested = c.nested;
          counted = (h.1.2, c.counted);
        },
  )

  -- the action of a 43 counts into its depth
  pub readable_blocked : (nest : ℕ) (α : Action) (P : Process) (C : Elements)
      → ReadableElements s nest names (blocked_then α P C) ↔ (Due s is_blocked_action × ReadableActing blocked_depth_limit names 0 α P × ReadableElements s nest names C)
  unfolding Scoped process_depth nesting CountedElements
  readable_blocked nest α P C = (
    λ r.
        let g = (graded_blocked s α P C).0 r.graded in (
          g.0,
          (omega (arith, r.shallow), r.scoped.0, r.scoped.1, r.counted.0, r.counted.1),
          record { scoped = r.scoped.2; graded = g.1; shallow = omega (arith, r.shallow); nested = r.nested; counted = r.counted.2 },
        ),
    λ h.
        let c = h.2 in
        record {
          scoped = (h.1.1, h.1.2, c.scoped);
          graded = (graded_blocked s α P C).1 (h.0, c.graded);
          shallow = omega (arith, h.1.0, c.shallow);
          nested = c.nested;
          counted = (h.1.3, h.1.4, c.counted);
        },
  )
