-- The proof of `extent_of`.
use native.Mathlib.Omega.{arith}
use Rattle.format.proofs.ActionKinds.{row_small}
use Rattle.layouts.proofs.Layouts.{extent_is, action_long}
use Rattle.layouts.proofs.extent_of.Statement.{statement}
use Rattle.layouts.proofs.extent_of.Tie as tie

long : tie.Need-bounds-s-0
long c = let p = c.before.before.requires in omega (arith, action_long p.doing c.before.before.args.s.now p.rest p.spelled)

extent : tie.Need-returns
extent c =
    let row = c.before.before.before.before.kind_row-row.ensures in
    let place = c.before.before.channel_place.ensures.0 in (
      λ α rest e. extent_is α _ rest e _ row _ _ c.before.before.before.rule_by.ensures place _ _ c.word.ensures.0 c.before.count_width.ensures.0,
      omega (arith, c.word.ensures.1),
      omega (arith, place, row_small _ _ row, c.before.count_width.ensures.1),
    )

pub extent_of_spec : {M : Type 1} → statement M
extent_of_spec =
    tie.close
    (tie.spec
    long
    (λ c κs. tt)
    (λ c κs. (omega arith, (row_small _ _ c.kind_row-row.ensures).0))
    (λ c κs. tt)
    (λ c. omega (arith, c.channel_place.ensures.1))
    (λ c κs. tt)
    (λ c. omega (arith, c.before.channel_place.ensures.1, c.count_width.ensures.1))
    (λ c κs. tt)
    (λ c. omega (arith, c.word.ensures.1))
    extent)
