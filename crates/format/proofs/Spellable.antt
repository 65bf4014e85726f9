-- The parts of what is spellable are spellable, and renaming keeps it so.
use Prim.Native.Nat.{ℕ, suc, ◌+◌, ◌≤◌}
use Rattle.calculus.specs.Processes.{Action, sibling_output, parent_output, internal_input, external_input, enter, leave, accept, release, Process, null, parallel, restriction, ambient, action, replication, binders, Renaming, lift, lift_by, rename_action, rename}
use Rattle.calculus.proofs.Renaming.{length_rename_all}
use Rattle.machine.specs.Limits.{name_limit}
use Rattle.machine.specs.Validity.{ProcessScoped}
use Rattle.machine.proofs.Scoping.{process_more}
use Rattle.format.specs.Spellable.{CountedAction, Counted, SpellableAction, Spellable}

-- Parts

pub spellable_parallel : (d : ℕ) (P Q : Process) → Spellable d (parallel P Q) → Spellable d P × Spellable d Q
unfolding ProcessScoped Counted
spellable_parallel d P Q h = ((h.0.0, h.1.0), (h.0.1, h.1.1))

pub spellable_restriction : (d : ℕ) (P : Process) → Spellable d (restriction P) → Spellable (suc d) P
unfolding ProcessScoped Counted
spellable_restriction d P h = h

pub spellable_action : (d : ℕ) (α : Action) (P : Process) → Spellable d (action α P) → SpellableAction d α × Spellable (binders α + d) P
unfolding ProcessScoped Counted
spellable_action d α P h = ((h.0.0, h.1.0), (h.0.1, h.1.1))

-- Renaming

pub counted_rename_action : (σ : Renaming) (α : Action) → CountedAction α → CountedAction (rename_action σ α)
unfolding CountedAction rename_action
counted_rename_action σ (sibling_output a x ns) h = rw length_rename_all h
counted_rename_action σ (parent_output x ns) h = rw length_rename_all h
counted_rename_action σ (internal_input x k) h = h
counted_rename_action σ (external_input x k) h = h
counted_rename_action σ (enter a x) h = h
counted_rename_action σ (leave x) h = h
counted_rename_action σ (accept x) h = h
counted_rename_action σ (release x) h = h

pub counted_rename : (σ : Renaming) (P : Process) → Counted P → Counted (rename σ P)
unfolding Counted rename
counted_rename σ null h = h
counted_rename σ (parallel P Q) h = (counted_rename σ P h.0, counted_rename σ Q h.1)
counted_rename σ (restriction P) h = counted_rename (lift σ) P h
counted_rename σ (ambient a P) h = counted_rename σ P h
counted_rename σ (action α P) h = (counted_rename_action σ α h.0, counted_rename (lift_by (binders α) σ) P h.1)
counted_rename σ (replication α P) h = (counted_rename_action σ α h.0, counted_rename (lift_by (binders α) σ) P h.1)

-- what is in scope below a lesser limit
pub spellable_below : (names d : ℕ) (P : Process) → names ≤ name_limit → ProcessScoped names d P → Counted P → Spellable d P
spellable_below names d P few s u = (process_more names name_limit d few P s, u)
