-- The answers for `ask`: by where the answers to the action stand.
use mathlib.Core.Path.{◌≡◌, sym, ◌∙◌}
use Prim.Native.Nat.{ℕ}
use native.Mathlib.Omega.{arith}
use Rattle.layouts.specs.declared.Standing.{Standing}
use Rattle.layouts.specs.declared.Standing.TheVariants.{Sibling, Outside, Child}
use Rattle.searching.proofs.Answers.{root_alone, kind_beside, children_closed, children_told, outside_closed, outside_told, own_enclosed, outer_enclosed}
use Rattle.searching.proofs.asking.ask.Goals.{then-spot-eq0-2-via-then-spot-eq0-2, then-spot-eq0-2-via-else-spot-eq0-2+then-is_shut-2}
use Rattle.searching.proofs.asking.ask.Goals as goal

sibling_apart : {d : Standing} → d ≡ Sibling → d ≡ Child → ⊥
sibling_apart e f = let x : Sibling ≡ Child = sym e ∙ f in let z : ◌≡◌ {A = ℕ} 0 1 = cc in omega arith

outside_apart : {d : Standing} → d ≡ Outside → d ≡ Child → ⊥
outside_apart e f = let x : Outside ≡ Child = sym e ∙ f in let z : ◌≡◌ {A = ℕ} 0 1 = cc in omega arith

-- beside the action

pub returns-then-is_shut : goal.returns-then-is_shut
returns-then-is_shut c L π s α P p e z =
    let d = c.doing-action.ensures L π s α P p e z in
    let h = c.is_shut.ensures.shut c.if-is_shut.true in
    children_closed (record { spells = p; stands = e; spotted = z }) d _ c.in-Child.is h.0 h.1

pub in_ambients-requires : goal.in_ambients-requires
in_ambients-requires c = own_enclosed c.requires

pub returns-else-is_shut : goal.returns-else-is_shut
returns-else-is_shut c L π s α P p e z =
    let d = c.doing-action.ensures L π s α P p e z in
    children_told (record { spells = p; stands = e; spotted = z }) d _ c.in-Child.is (λ n l. omega (arith, c.is_shut.ensures.open c.if-is_shut.false n, l)) c.wanted-want.ensures _ c.in_ambients.ensures

-- beside its ambient

pub returns-then-spot-eq0 : goal.returns-then-spot-eq0
returns-then-spot-eq0 c L π s α P p e z =
    let d = c.doing-action.ensures L π s α P p e z in
    root_alone (record { spells = p; stands = e; spotted = z }) d _ (sibling_apart c.in-Sibling.is) c.if-spot-eq0.true

pub returns-else-spot-eq0 : goal.returns-else-spot-eq0
returns-else-spot-eq0 c L π s α P p e z =
    let d = c.doing-action.ensures L π s α P p e z in
    c.ask_beside.ensures L π s α P p e z (kind_beside (record { spells = p; stands = e; spotted = z }) d c.in-Sibling.is)

-- around its ambient

pub returns-then-spot-eq0-2 : goal.returns-then-spot-eq0-2
returns-then-spot-eq0-2 c L π s α P p e z =
    let d = c.doing-action.ensures L π s α P p e z in
    elim c.then-spot-eq0-2.branch [
      | then-spot-eq0-2-via-then-spot-eq0-2 w ↦ root_alone (record { spells = p; stands = e; spotted = z }) d _ (outside_apart c.in-Outside.is) w.if-spot-eq0-2.true
      | then-spot-eq0-2-via-else-spot-eq0-2+then-is_shut-2 w ↦
          let h = w.is_shut-else-spot-eq0-2.ensures.shut w.if-is_shut-2.true in
          outside_closed (record { spells = p; stands = e; spotted = z }) d _ c.in-Outside.is (omega (arith, w.if-spot-eq0-2.false)) h.0 (omega (arith, w.if-spot-eq0-2.false, h.1))
    ]

pub directly-requires : goal.directly-requires
directly-requires c = outer_enclosed c.requires (omega (arith, c.if-spot-eq0-2.false))

pub returns-else-is_shut-2 : goal.returns-else-is_shut-2
returns-else-is_shut-2 c L π s α P p e z =
    let d = c.doing-action.ensures L π s α P p e z in
    outside_told (record { spells = p; stands = e; spotted = z }) d _ c.in-Outside.is (omega (arith, c.if-spot-eq0-2.false))
    (λ n l. omega (arith, c.is_shut-else-spot-eq0-2.ensures.open c.if-is_shut-2.false n, l)) c.wanted-want.ensures _ c.directly.ensures
