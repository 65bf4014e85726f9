-- `opened_action`: the names that an action hands over start behind its count.
use mathlib.Core.Path.{ap}
use native.Mathlib.Omega.{arith}
use Rattle.layouts.specs.declared.Extent.{Extent}
use Rattle.layouts.proofs.Layouts.{action_long, tag_is}
use Rattle.layouts.proofs.Openings.{opened_whole}
use Rattle.layouts.proofs.opened_action.Statement.{statement}
use Rattle.layouts.proofs.opened_action.Tie as tie

width_below : tie.Need-overflow_sub-result
width_below c =
    let p = c.before.before.before.before.requires in
    let x = ap (λ (r : Extent). r.sent) (c.before.before.extent_of-extent.ensures.0 p.doing p.rest p.spelled) in
    omega (arith, x, c.count_width.ensures.0 p.doing (tag_is p.doing _ p.rest p.spelled))

opened : tie.Need-returns
opened c =
    let x = c.before.before.extent_of-extent in (
      λ α rest e.
          let y = x.ensures.0 α rest e in
          opened_whole α _ _ _ (ap (λ (r : Extent). r.sent) y) (c.count_width.ensures.0 α (tag_is α _ rest e)) (ap (λ (r : Extent). r.end) y),
      omega (arith, x.ensures.2),
      omega (arith, x.ensures.2),
      omega (arith, x.ensures.1),
    )

pub opened_action_spec : {M : Type 1} → statement M
opened_action_spec =
    tie.close
    (tie.spec
    (λ c κs. c.before.requires)
    (λ c. let p = c.before.before.before.requires in omega (arith, action_long p.doing c.before.before.before.args.s.now p.rest p.spelled))
    (λ c κs. tt)
    width_below
    opened)
