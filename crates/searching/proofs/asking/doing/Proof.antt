-- The proof of `doing`.
use mathlib.Core.Path.{◌≡◌}
use mathlib.Core.List.{List, ◌++◌}
use borrow.Author.Rules.{rules}
use Prim.Native.Nat.{ℕ, ◌+◌, ◌<◌}
use native.Mathlib.Omega.{arith}
use lib.ListN.{length}
use Rattle.calculus.specs.Processes.{Action}
use Rattle.format.specs.Spelling.{encode_action}
use Rattle.layouts.specs.Layouts.{layout_of}
use Rattle.layouts.specs.declared.Layout.{Layout}
use Rattle.buffers.proofs.Parts.{from, length_part}
use Rattle.tallying.specs.Numbers.{Begins}
use Rattle.tallying.proofs.Wants.{begins_long, begins_action_at}
use Rattle.searching.proofs.Arenas.{acted_long, acted_unblocked, acted_blocked}
use Rattle.searching.proofs.Answers.{required, spot_acted}
use Rattle.searching.proofs.asking.doing.Statement.{statement}
use Rattle.searching.proofs.asking.doing.Tie as tie

-- an element with an action stands in the list
stands : (c : tie.After-shared_slice_known-1) → c.args.spot.at + 3 < length c.args.list.now
stands c = omega (arith, acted_long (spot_acted (required c.requires)), length_part c.args.spot.at c.args.list.now)

-- the action behind its header
unblocked_long : (c : tie.Then-element-eq66) → 0 < length (from (from c.args.list.now c.args.spot.at) 6)
unblocked_long c = begins_long (acted_unblocked (spot_acted (required c.requires)) c.if-element-eq66.true)

blocked_long : (c : tie.Else-element-eq66) → 0 < length (from (from c.args.list.now c.args.spot.at) 3)
blocked_long c = begins_long (acted_blocked (spot_acted (required c.requires)) c.if-element-eq66.false)

-- the layout of the action that the bytes begin with
laid : {s : List ℕ} {α : Action} {r : Layout} → ((β : Action) (rest : List ℕ) → s ≡ encode_action β ++ rest → r ≡ layout_of β) → Begins s α → r ≡ layout_of α
laid {α = α} f b = f α b.rest b.spelled

unblocked : tie.Need-returns-then-element-eq66
unblocked c L π s α P p e z = laid c.action_at.ensures (acted_unblocked (spot_acted (record { spells = p; stands = e; spotted = z })) c.if-element-eq66.true)

blocked : tie.Need-returns
blocked c L π s α P p e z = laid c.action_at-2.ensures (acted_blocked (spot_acted (record { spells = p; stands = e; spotted = z })) c.if-element-eq66.false)

pub doing_spec : {M : Type 1} → statement M
doing_spec =
    tie.close
    (tie.spec
    (λ c. omega (arith, stands c))
    (λ c. omega (arith, stands c))
    (λ c. omega (arith, stands c))
    (λ c. omega (arith, stands c.before.before, length_part c.args.spot.at c.args.list.now))
    (λ c. omega (arith, unblocked_long c, length_part 6 (from c.args.list.now c.args.spot.at)))
    (λ c. omega (arith, unblocked_long c, length_part 6 (from c.args.list.now c.args.spot.at)))
    (λ c. search rules)
    (λ c κs. begins_action_at (acted_unblocked (spot_acted (required c.requires)) c.if-element-eq66.true))
    unblocked
    (λ c. omega (arith, blocked_long c, length_part 3 (from c.args.list.now c.args.spot.at)))
    (λ c. omega (arith, blocked_long c, length_part 3 (from c.args.list.now c.args.spot.at)))
    (λ c. search rules)
    (λ c κs. begins_action_at (acted_blocked (spot_acted (required c.requires)) c.if-element-eq66.false))
    blocked)
