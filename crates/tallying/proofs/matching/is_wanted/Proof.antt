-- The proof of `is_wanted`.
use mathlib.Core.Path.{◌∙◌, subst}
use borrow.Author.Rules.{rules}
use Prim.Native.Nat.{◌<◌}
use native.Mathlib.Omega.{arith}
use lib.ListN.{length}
use Rattle.calculus.specs.Processes.{Action}
use Rattle.buffers.proofs.Parts.{from, length_part}
use Rattle.elements.specs.Spelled.{Spells}
use Rattle.elements.proofs.Views.{tail}
use Rattle.elements.proofs.Searching.{tree_spelled}
use Rattle.tallying.specs.Numbers.{Begins}
use Rattle.tallying.proofs.Wants.{first_spelled, blocked_first, begins_long, begins_action_at, not_blocked, wanted_blocked, other_tag, other_channel}
use Rattle.tallying.proofs.matching.is_wanted.Statement.{statement}
use Rattle.tallying.proofs.matching.is_wanted.Tie as tie

-- an action stands behind the header of a blocked one
begins : (c : tie.Else-list-lt67) → (α : Action) × Begins (from c.args.list.now 3) α
begins c =
    let l = c.requires.1 in
    let f = first_spelled l.tree (tree_spelled l) c.requires.0 in
    let v = blocked_first f.0 (tail l.tree) (subst (Spells _) f.1 (tree_spelled l)) c.if-list-lt67.false in
    (v.doing, v.begins)

action_long : (c : tie.Else-list-lt67) → 3 < length c.args.list.now
action_long c = omega (arith, begins_long (begins c).1, length_part 3 c.args.list.now)

returned : tie.Need-returns-then-want-word
returned c w E C k p =
    let c₆ = c.before.before.before.before.before.before in
    let v = blocked_first E C p c₆.if-list-lt67.false in
    c.is_such.ensures
    ∙ wanted_blocked v _ w k c₆.if-want-list.true _ c.word.ensures.0 c.if-want-word.true _
    (c.action_at.ensures v.doing v.begins.rest v.begins.spelled)

channel_other : tie.Need-returns-else-want-word
channel_other c w E C k p =
    let v = blocked_first E C p c.if-list-lt67.false in
    other_channel v _ w k c.if-want-list.true _ c.word.ensures.0 c.if-want-word.false

tag_other : tie.Need-returns-else-want-list
tag_other c w E C k p = other_tag (blocked_first E C p c.if-list-lt67.false) _ w k c.if-want-list.false

pub is_wanted_spec : {M : Type 1} → statement M
is_wanted_spec =
    tie.close
    (tie.spec
    (λ c. search rules)
    (λ c w E C k p. not_blocked w E C p.spelled c.if-list-lt67.true)
    (λ c. action_long c.before)
    (λ c κs. tt)
    (λ c. omega (arith, action_long c.before.before.before.before.before.before))
    (λ c. omega (arith, action_long c.before.before.before.before.before.before))
    (λ c. search rules)
    (λ c κs. begins_action_at (begins c.before.before.before.before.before.before.before).1)
    (λ c κs. tt)
    returned
    channel_other
    tag_other)
