-- A name with both uses is found, and names of a process in scope are free names.
use mathlib.Core.Path.{◌≡◌, refl, sym, ◌∙◌, subst}
use mathlib.Core.Bool.{Bool, true, false, false≢true}
use mathlib.Core.Logic.{◌⊎◌, inl, inr, ⊎_elim}
use mathlib.Core.List.Memᴰ
use mathlib.Core.List.{List, [], ◌∷◌, ◌++◌}
use Prim.Native.Nat.{ℕ, suc, ◌+◌, ◌<◌}
use native.Mathlib.Omega.{arith}
use Rattle.calculus.specs.Processes.{Reference, name, variable, Action, sibling_output, parent_output, internal_input, external_input, enter, leave, accept, release, Process, null, parallel, restriction, ambient, action, replication, binders}
use Rattle.calculus.specs.Names.{Among, names_of_reference, names_of_all}
use Rattle.machine.specs.Kinds.{channel}
use Rattle.machine.specs.Ordered.{member}
use Rattle.machine.specs.Tests.{◌or◌}
use Rattle.machine.specs.Validity.{ReferenceScoped, AllScoped, ActionScoped, ProcessScoped}
use Rattle.machine.proofs.search.Questions.{member_among}
use Rattle.format.specs.Kinds.{address_of}
use Rattle.format.proofs.Actions.{scoped_is}
use Rattle.uses.specs.Uses.{Use, as_box, as_channel, targets, of_ambient, of_action, written, used, shared, mixed}
use Rattle.uses.specs.Theorems.{BothUses, MixedHasBoth}

shared_found : (n : ℕ) (ns ms : List ℕ) → Among n ns → Among n ms → shared ns ms ≡ true
unfolding shared
shared_found n [] ms a b = absurd (Memᴰ.not-nil a)
shared_found n (k ∷ ns) ms a b = go (member k ms) refl (λ m. shared_found n ns ms m b) (Memᴰ.cases_cons a)
  where
    go : (t : Bool) → member k ms ≡ t → (Among n ns → shared ns ms ≡ true) → (n ≡ k) ⊎ Among n ns → t or shared ns ms ≡ true
    go true e more c = refl
    go false e more (inl q) = absurd (false≢true (sym e ∙ (member_among k ms).1 (Memᴰ.cast (sym q) b)))
    go false e more (inr m) = more m

shared_some : (ns ms : List ℕ) → shared ns ms ≡ true → (n : ℕ) × Among n ns × Among n ms
unfolding shared
shared_some [] ms e = absurd (false≢true e)
shared_some (k ∷ ns) ms e = go (member k ms) refl (shared_some ns ms) e
  where
    go : (t : Bool) → member k ms ≡ t → (shared ns ms ≡ true → (n : ℕ) × Among n ns × Among n ms) → t or shared ns ms ≡ true → (n : ℕ) × Among n (k ∷ ns) × Among n ms
    go true q more f = (k, Memᴰ.head refl, (member_among k ms).0 q)
    go false q more f = let w = more f in (w.0, Memᴰ.tail w.1, w.2)

pub mixed_has_both : MixedHasBoth
unfolding mixed
mixed_has_both P =
    ((λ e. let w = shared_some (used as_channel P) (used as_box P) e in record { number = w.0; box = w.2; channel = w.1 }), (λ b. shared_found b.number (used as_channel P) (used as_box P) b.channel b.box))

pub apart_unmixed : (P : Process) → (BothUses P → ⊥) → mixed P ≡ false
apart_unmixed P h = go (mixed P) refl
  where
    go : (t : Bool) → mixed P ≡ t → mixed P ≡ false
    go true e = absurd (h ((mixed_has_both P).0 e))
    go false e = e

-- Names in scope

reference_below : (F d : ℕ) (r : Reference) → ReferenceScoped F d r → (n : ℕ) → Among n (names_of_reference r) → n < F
unfolding ReferenceScoped names_of_reference
reference_below F d (name m) s n a = omega (arith, s, Memᴰ.eq_of_singleton a)
reference_below F d (variable i) s n a = absurd (Memᴰ.not-nil a)

all_below : (F d : ℕ) (rs : List Reference) → AllScoped F d rs → (n : ℕ) → Among n (names_of_all rs) → n < F
unfolding AllScoped names_of_all
all_below F d [] s n a = absurd (Memᴰ.not-nil a)
all_below F d (r ∷ rs) s n a = ⊎_elim (reference_below F d r s.0 n) (all_below F d rs s.1 n) (Memᴰ.append_cases (names_of_reference r) a)

ambient_scoped : (F d : ℕ) (u : Use) (a : Reference) → ReferenceScoped F d a → AllScoped F d (of_ambient u a)
unfolding of_ambient AllScoped
ambient_scoped F d as_box a s = (s, tt)
ambient_scoped F d as_channel a s = tt

-- the references of an action in front of its count: those of both uses
pub address_uses : (α : Action) → address_of α ≡ of_action as_box α ++ of_action as_channel α
unfolding address_of of_action targets channel
address_uses (sibling_output a x ns) = refl
address_uses (parent_output x ns) = refl
address_uses (internal_input x k) = refl
address_uses (external_input x k) = refl
address_uses (enter a x) = refl
address_uses (leave x) = refl
address_uses (accept x) = refl
address_uses (release x) = refl

scoped_parts : (F d : ℕ) (rs ss : List Reference) → AllScoped F d (rs ++ ss) → AllScoped F d rs × AllScoped F d ss
unfolding AllScoped
scoped_parts F d [] ss s = (tt, s)
scoped_parts F d (r ∷ rs) ss s = let w = scoped_parts F d rs ss s.1 in ((s.0, w.0), w.1)

action_scoped : (F d : ℕ) (u : Use) (α : Action) → ActionScoped F d α → AllScoped F d (of_action u α)
action_scoped F d u α s = go u (scoped_parts F d (of_action as_box α) (of_action as_channel α) (subst (AllScoped F d) (address_uses α) ((scoped_is F d α).0 s).0))
  where
    go : (u : Use) → AllScoped F d (of_action as_box α) × AllScoped F d (of_action as_channel α) → AllScoped F d (of_action u α)
    go as_box w = w.0
    go as_channel w = w.1

pub written_below : (F d : ℕ) (u : Use) (P : Process) → ProcessScoped F d P → (n : ℕ) → Among n (written u P) → n < F
unfolding ProcessScoped written
written_below F d u null s n a = absurd (Memᴰ.not-nil a)
written_below F d u (parallel P Q) s n a = ⊎_elim (written_below F d u P s.0 n) (written_below F d u Q s.1 n) (Memᴰ.append_cases (written u P) a)
written_below F d u (restriction P) s n a = written_below F (suc d) u P s n a
written_below F d u (ambient r P) s n a =
    ⊎_elim (all_below F d (of_ambient u r) (ambient_scoped F d u r s.0) n) (written_below F d u P s.1 n) (Memᴰ.append_cases (names_of_all (of_ambient u r)) a)
written_below F d u (action α P) s n a =
    ⊎_elim (all_below F d (of_action u α) (action_scoped F d u α s.0) n) (written_below F (binders α + d) u P s.1 n) (Memᴰ.append_cases (names_of_all (of_action u α)) a)
written_below F d u (replication α P) s n a =
    ⊎_elim (all_below F d (of_action u α) (action_scoped F d u α s.0) n) (written_below F (binders α + d) u P s.1 n) (Memᴰ.append_cases (names_of_all (of_action u α)) a)
