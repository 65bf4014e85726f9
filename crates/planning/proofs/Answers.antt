-- What the step answers at the place of an element, by what stands there.
use mathlib.Core.Path.{◌≡◌, refl, sym, ap, ◌∙◌, subst}
use mathlib.Core.Bool.{Bool, true, false}
use mathlib.Core.Option.{Option, none, some, some-injective}
use Prim.Native.Nat.{ℕ, ◌≤◌, ◌<◌}
use native.Mathlib.Omega.{arith}
use Rattle.calculus.specs.Processes.{Action, Process, restriction, action}
use Rattle.machine.specs.Limits.{name_limit}
use Rattle.machine.specs.Elements.{Elements, Element, process_element, blocked_element, only, state, Position, place, element_at}
use Rattle.machine.specs.Rules.{Turns, blocks, Meeting, Partner, turns, meets, rule43, Ready, CanAct}
use Rattle.machine.specs.Causes.{Cause8, Cause9, Cause10, Cause11}
use Rattle.machine.specs.Tests.{fits}
use Rattle.machine.specs.Positions.{position, replace_at}
use Rattle.machine.specs.Stepping.{refused, accepted, within12, limited, step_within}
use Rattle.machine.proofs.Places.{position_place, element_at_anywhere}
use Rattle.machine.proofs.Stepping.{partner_of_law, meeting_acting, limited_state, refused_by8, refused_by9, refused_by10, refused_by11, step_complete}

-- 12, or the rule
pub fitting : (nest n F N : ℕ) (L : Elements) → fits nest L ≡ true → limited_state nest n (state F N L) ≡ accepted n (state F N L)
unfolding limited_state limited within12
fitting nest n F N L e = ap (λ (b : Bool). within12 b n (state F N L)) e

pub unfitting : (nest n F N : ℕ) (L : Elements) → fits nest L ≡ false → limited_state nest n (state F N L) ≡ refused 12
unfolding limited_state limited within12
unfitting nest n F N L e = ap (λ (b : Bool). within12 b n (state F N L)) e

module _ (nest F N : ℕ) (L : Elements) (π : Position) (E : Element) (el : element_at L π ≡ some E) where
  same_position : (ω : Position) (D : Element) → element_at L ω ≡ some D → place L ω ≡ place L π → ω ≡ π
  same_position ω D e h = some-injective ω π (sym (position_place L ω D e) ∙ ap (position L) h ∙ position_place L π E el)

  same_element : (ω : Position) (D : Element) → element_at L ω ≡ some D → place L ω ≡ place L π → D ≡ E
  same_element ω D e h = some-injective D E (sym e ∙ ap (element_at L) (same_position ω D e h) ∙ el)

  ready : CanAct L (place L π) → Ready E
  ready c = subst Ready (same_element c.position c.element c.stands c.numbered) c.ready

  can_act_law : Ready E → CanAct L (place L π)
  can_act_law r = record { position = π; element = E; stands = el; numbered = refl; ready = r }

  pub eight : ¬ Ready E → (q : Option ℕ) → step_within nest (state F N L) (place L π) q ≡ refused 8
  unfolding Cause8
  eight h q = refused_by8 nest (state F N L) (place L π) q (λ c. h (ready c))

  not_eight : Ready E → (q : Option ℕ) → ¬ Cause8 (state F N L) (place L π) q
  unfolding Cause8
  not_eight r q h = h (can_act_law r)

  -- only an action has a partner
  no_partner : ((α : Action) (P : Process) → ¬ (E ≡ process_element (action α P))) → (q : ℕ) → ¬ Partner L (place L π) q
  no_partner h q w =
      let t = partner_of_law w π (position_place L π E el) in
      let a = meeting_acting t.4 in
      h a.0 a.1 (some-injective E (process_element (action a.0 a.1)) (sym el ∙ a.3))

  pub nine : Ready E → (q : ℕ) → ¬ Partner L (place L π) q → step_within nest (state F N L) (place L π) (some q) ≡ refused 9
  unfolding Cause9
  nine r q h = refused_by9 nest (state F N L) (place L π) (some q) (not_eight r (some q), h)

  pub nine_alone : Ready E → ((α : Action) (P : Process) → ¬ (E ≡ process_element (action α P))) → (q : ℕ) → step_within nest (state F N L) (place L π) (some q) ≡ refused 9
  nine_alone r h q = nine r q (no_partner h q)

  pub ten : Ready E → (q : ℕ) → Partner L (place L π) q → step_within nest (state F N L) (place L π) none ≡ refused 10
  unfolding Cause9 Cause10
  ten r q w = refused_by10 nest (state F N L) (place L π) none (not_eight r none, (λ z. z), (q, w))

  pub not_eleven : ((P : Process) → E ≡ process_element (restriction P) → N < name_limit) → (q : Option ℕ) → ¬ Cause11 (state F N L) (place L π) q
  unfolding Cause11
  not_eleven h q c =
      let l = h c.1 (sym (same_element c.0 (process_element (restriction c.1)) c.2 c.3)) in
      omega (arith, l, c.4)

  pub eleven : (P : Process) → E ≡ process_element (restriction P) → ((α : Action) (Q : Process) → ¬ (E ≡ process_element (action α Q))) → Ready E → name_limit ≤ N
      → step_within nest (state F N L) (place L π) none ≡ refused 11
  unfolding Cause9 Cause10 Cause11
  eleven P e h r l =
      refused_by11 nest (state F N L) (place L π) none
      (not_eight r none, (λ z. z), (λ w. no_partner h w.0 w.1), (π, P, el ∙ ap some e, refl, l))

  -- rules 29 to 34
  pub turning : {M n : ℕ} {X : Elements} → Turns N M n E X → ((P : Process) → E ≡ process_element (restriction P) → N < name_limit)
      → step_within nest (state F N L) (place L π) none ≡ limited_state nest n (state F M (replace_at L π X))
  turning {X = X} t h = step_complete nest (state F N L) (place L π) none (turns (element_at_anywhere L π E X el t)) (not_eleven h none)

module _ (nest F N : ℕ) (L : Elements) (π : Position) (α : Action) (P : Process) (el : element_at L π ≡ some (process_element (action α P))) where
  no_restriction : (Q : Process) → process_element (action α P) ≡ process_element (restriction Q) → N < name_limit
  no_restriction Q e = absurd (let z : ◌≡◌ {A = ℕ} 0 1 = cc in omega arith)

  -- rule 43
  pub blocking : ((q : ℕ) → ¬ Partner L (place L π) q)
      → step_within nest (state F N L) (place L π) none ≡ limited_state nest 43 (state F N (replace_at L π (only (blocked_element α P))))
  blocking h = step_complete nest (state F N L) (place L π) none (rule43 (element_at_anywhere L π _ _ el blocks) h) (not_eleven nest F N L π _ el no_restriction none)

  -- rules 35 to 42
  pub meeting : {n : ℕ} {κ : Position} {L' : Elements} → Meeting n π κ L L' → step_within nest (state F N L) (place L π) (some (place L κ)) ≡ limited_state nest n (state F N L')
  meeting {κ = κ} m = step_complete nest (state F N L) (place L π) (some (place L κ)) (meets m) (not_eleven nest F N L π _ el no_restriction (some (place L κ)))
