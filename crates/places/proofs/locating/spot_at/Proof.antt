-- The proof of `spot_at`.
use mathlib.Core.Path.{◌≡◌, sym}
use mathlib.Core.Option.{some}
use Prim.Native.Nat.{◌-◌, ◌≤◌, ◌<◌}
use native.Mathlib.Omega.{arith}
use Rattle.machine.specs.Elements.{Elements, Element, Position, element_at}
use Rattle.format.specs.Spelling.{word_limit}
use Rattle.elements.specs.Spelling.{encode_elements}
use Rattle.places.specs.Offsets.{offset, spot_of}
use Rattle.places.proofs.Offsets.{standing_below}
use Rattle.places.proofs.Walking.{Sought, seek, sought_ahead, sought_whole, arrive, enter, pass}
use Rattle.places.proofs.locating.spot_at.Statement.{statement}
use Rattle.places.proofs.locating.spot_at.Tie as tie

abbrev invariant_loop : tie.invariant-loop-current
invariant_loop list at current₀ within₀ around₀ level₀ current within around level =
    (level ≤ current) × (current ≤ at)
    × ((A : Elements) (π : Position) (E : Element) → list ≡ encode_elements A → element_at A π ≡ some E → offset 0 A π ≡ at → Sought list at current within around level E (spot_of A π))

abbrev decreases_loop : tie.decreases-loop-current
decreases_loop list at current₀ within₀ around₀ level₀ current within around level = at - current

small : (c : tie.In-loop-current invariant_loop decreases_loop) → c.args.at < word_limit
small c = omega (arith, standing_below c.requires, c.requires.list.short)

starts : tie.Need-loop-current-init invariant_loop decreases_loop
starts c = (omega arith, omega arith, λ A π E e f o. seek _ _ A π E e f o)

whole : tie.Need-word_within-requires invariant_loop decreases_loop
whole c κs =
    let t = c.requires in
    sought_whole (c.loop-current.invariant.2 t.list.tree t.position t.element t.list.spelled t.stands t.there) (omega (arith, c.loop-current.invariant.1, c.loop-current-test.true, standing_below t))

enters : tie.Need-loop-current-preserved-then-at-end invariant_loop decreases_loop
enters c =
    let t = c.requires in
    let i = c.loop-current.invariant in
    let h = c.loop-current-test.true in
    let k = c.word_within.ensures.0 in (
      omega (arith, i.0),
      sought_ahead (enter (i.2 t.list.tree t.position t.element t.list.spelled t.stands t.there) h _ k c.if-at-end.true),
      λ A π E e f o. enter (i.2 A π E e f o) h _ k c.if-at-end.true,
    )

passes : tie.Need-loop-current-preserved invariant_loop decreases_loop
passes c =
    let i = c.loop-current.invariant in (
      omega (arith, i.0),
      c.if-at-end.false,
      λ A π E e f o. pass (i.2 A π E e f o) c.loop-current-test.true _ c.word_within.ensures.0 c.if-at-end.false,
    )

arrives : tie.Need-returns invariant_loop decreases_loop
arrives c A π E e f o = sym (arrive (c.loop-current.invariant.2 A π E e f o) c.loop-current-test.false)

pub spot_at_spec : {M : Type 1} → statement M
spot_at_spec =
    tie.close
    (tie.spec
    invariant_loop
    decreases_loop
    starts
    (λ c. omega (arith, c.loop-current.invariant.1, standing_below c.requires))
    (λ c. omega (arith, c.loop-current.invariant.1, standing_below c.requires))
    (λ c. omega (arith, c.loop-current.invariant.1, standing_below c.requires))
    whole
    (λ c. omega arith)
    (λ c. omega (arith, small c.before.before))
    (λ c. omega (arith, small c.before.before.before))
    (λ c. omega (arith, small c.before.before.before))
    (λ c. omega (arith, c.loop-current-test.true))
    enters
    (λ c. omega (arith, c.loop-current-test.true))
    passes
    arrives)
