-- The answers for `choose_action`: where no partner is named it blocks or is refused.
use native.Mathlib.Omega.{arith}
use Rattle.alone.proofs.Turnings.{chosen_standing}
use Rattle.choosing.proofs.Choices.{chosen, acting, found_unnamed, nobody_unnamed}
use Rattle.choosing.proofs.choose_action.Goals as goal

pub spot_at-spot-requires : goal.spot_at-spot-requires
spot_at-spot-requires c = chosen_standing c.requires.chooses_at

pub count_answers-tally-requires : goal.count_answers-tally-requires
count_answers-tally-requires c = acting c.requires.chooses_at c.requires.at_value _ c.spot_at-spot.ensures

pub returns-then-tally-eq0 : goal.returns-then-tally-eq0
returns-then-tally-eq0 c F L π E a e o =
    rw c.in-None.is (nobody_unnamed (chosen a π E e o) c.requires.at_value _ c.spot_at-spot.ensures _ _ c.count_answers-tally.ensures _ c.alone.ensures (omega arith))

pub returns-else-tally-eq0 : goal.returns-else-tally-eq0
returns-else-tally-eq0 c F L π E a e o =
    rw c.in-None.is (found_unnamed (chosen a π E e o) c.requires.at_value _ c.spot_at-spot.ensures _ _ c.count_answers-tally.ensures (omega arith))
