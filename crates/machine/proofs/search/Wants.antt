-- What is wanted is an action of the answering kind, on the channel, with the count, directed as asked.
use mathlib.Core.Path.{◌≡◌, refl, sym, ◌∙◌, ap, subst}
use mathlib.Core.Bool.{true}
use mathlib.Core.List.{List, []}
use mathlib.Core.Option.{Option}
use Prim.Native.Nat.{ℕ, zero, suc}
use lib.Dec.{eqb}
use borrow.Author.Tests.{eqb-true, eq-eqb}
use Rattle.calculus.specs.Processes.{Reference, Action, sibling_output, parent_output, internal_input, external_input, enter, leave, accept, release}
use Rattle.calculus.specs.Redexes.{Kind, sibling_outputs, parent_outputs, internal_inputs, external_inputs, enters, leaves, accepts, releases}
use Rattle.machine.specs.Tests.{◌and◌, same}
use Rattle.machine.specs.Kinds.{channel, count, kind_of, kind_number, target}
use Rattle.machine.specs.Answers.{Want, aimed, matches}
use Rattle.machine.proofs.Tests.{and_true, true_and, same_true, same_itself}

-- Kinds are known by their numbers.

unfoldable kind_at : ℕ → Kind
kind_at zero = sibling_outputs
kind_at (suc zero) = parent_outputs
kind_at (suc (suc zero)) = internal_inputs
kind_at (suc (suc (suc zero))) = external_inputs
kind_at (suc (suc (suc (suc zero)))) = enters
kind_at (suc (suc (suc (suc (suc zero))))) = leaves
kind_at (suc (suc (suc (suc (suc (suc zero)))))) = accepts
kind_at (suc (suc (suc (suc (suc (suc (suc n))))))) = releases

kind_at_number : (k : Kind) → kind_at (kind_number k) ≡ k
unfolding kind_at kind_number
kind_at_number = elim [ sibling_outputs ↦ refl | parent_outputs ↦ refl | internal_inputs ↦ refl | external_inputs ↦ refl | enters ↦ refl | leaves ↦ refl | accepts ↦ refl | releases ↦ refl ]

-- The action of a kind: to an ambient, on a channel, with the names that it hands over or the count that it takes.
unfoldable pub formed : Kind → Reference → Reference → List Reference → ℕ → Action
formed sibling_outputs a x ns k = sibling_output a x ns
formed parent_outputs a x ns k = parent_output x ns
formed internal_inputs a x ns k = internal_input x k
formed external_inputs a x ns k = external_input x k
formed enters a x ns k = enter a x
formed leaves a x ns k = leave x
formed accepts a x ns k = accept x
formed releases a x ns k = release x

form : (β : Action) → (a : Reference) × (ns : List Reference) × (β ≡ formed (kind_of β) a (channel β) ns (count β))
unfolding formed kind_of channel count
form (sibling_output a x ns) = (a, ns, refl)
form (parent_output x ns) = (x, ns, refl)
form (internal_input x k) = (x, [], refl)
form (external_input x k) = (x, [], refl)
form (enter a x) = (a, [], refl)
form (leave x) = (x, [], refl)
form (accept x) = (x, [], refl)
form (release x) = (x, [], refl)

abbrev pub want : Kind → Reference → ℕ → Option Reference → Want
want n x k d = record { kind = n; on = x; names = k; directed = d }

pub record Matched (n : Kind) (x : Reference) (k : ℕ) (d : Option Reference) (β : Action) : Type 0 where
  pub to : Reference
  pub handed : List Reference
  pub formed_so : β ≡ formed n to x handed k
  pub counted : k ≡ count (formed n to x handed k)
  pub directed : aimed d (target (formed n to x handed k)) ≡ true

pub matches_true : {n : Kind} {x : Reference} {k : ℕ} {d : Option Reference} (β : Action) → matches (want n x k d) β ≡ true → Matched n x k d β
unfolding matches
matches_true {n} {x} {k} {d} β e =
    let t = and_true (eqb (kind_number (kind_of β)) (kind_number n)) (same x (channel β) and (eqb k (count β) and aimed d (target β))) e in
    let u = and_true (same x (channel β)) (eqb k (count β) and aimed d (target β)) t.1 in
    let v = and_true (eqb k (count β)) (aimed d (target β)) u.1 in
    let f = form β in
    let s : kind_of β ≡ n = sym (kind_at_number (kind_of β)) ∙ ap kind_at (eqb-true (kind_number (kind_of β)) (kind_number n) t.0) ∙ kind_at_number n in
    let c = eqb-true k (count β) v.0 in
    let g : β ≡ formed n f.0 x f.1 k = f.2 ∙ λ i. formed (s i) f.0 (sym (same_true x (channel β) u.0) i) f.1 (sym c i) in
    record { to = f.0; handed = f.1; formed_so = g; counted = c ∙ ap count g; directed = subst (λ (γ : Action). aimed d (target γ) ≡ true) g v.1 }

pub itself_matches : (β : Action) (d : Option Reference) → aimed d (target β) ≡ true → matches (want (kind_of β) (channel β) (count β) d) β ≡ true
unfolding matches
itself_matches β d h =
    true_and (eq-eqb (kind_number (kind_of β)) (kind_number (kind_of β)) refl) (true_and (same_itself (channel β)) (true_and (eq-eqb (count β) (count β) refl) h))
