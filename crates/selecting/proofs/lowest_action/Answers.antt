-- The answers for `lowest_action`: what the search finds first is the lowest partner.
use Rattle.choosing.proofs.Choices.{chosen, acting}
use Rattle.alone.proofs.Turnings.{chosen_standing}
use Rattle.selecting.proofs.LowestChoices.{partner_standing, partner_meeting, nobody_lowest, partner_lowest}
use Rattle.selecting.proofs.lowest_action.Goals as goal

pub spot_at-spot-requires : goal.spot_at-spot-requires
spot_at-spot-requires c = chosen_standing c.requires.chooses_at

pub count_answers-tally-requires : goal.count_answers-tally-requires
count_answers-tally-requires c = acting c.requires.chooses_at c.requires.at_value _ c.spot_at-spot.ensures

pub returns-in-None : goal.returns-in-None
returns-in-None c F L π E a e o q h =
    nobody_lowest (chosen a π E e o) c.requires.at_value _ c.spot_at-spot.ensures _ _ c.count_answers-tally.ensures q h _ c.alone.ensures c.in-None.is

pub place_of-requires : goal.place_of-requires
place_of-requires c = partner_standing c.requires.chooses_at c.requires.at_value _ c.spot_at-spot.ensures _ _ c.count_answers-tally.ensures c.in-Some.is

pub spot_at-requires : goal.spot_at-requires
spot_at-requires c = partner_standing c.requires.chooses_at c.requires.at_value _ c.spot_at-spot.ensures _ _ c.count_answers-tally.ensures c.in-Some.is

pub meet-requires : goal.meet-requires
meet-requires c = partner_meeting c.requires.chooses_at c.requires.at_value _ c.spot_at-spot.ensures _ _ c.count_answers-tally.ensures c.in-Some.is _ c.spot_at.ensures

pub returns-in-Some : goal.returns-in-Some
returns-in-Some c F L π E a e o q h =
    partner_lowest (chosen a π E e o) c.requires.at_value _ c.spot_at-spot.ensures _ _ c.count_answers-tally.ensures q h c.in-Some.is
    _ c.place_of.ensures _ c.spot_at.ensures _ c.meet.ensures
