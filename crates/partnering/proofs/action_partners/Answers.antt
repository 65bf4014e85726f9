-- The answers for `action_partners`: the first answer is the lowest partner, and there are as many partners as answers.
use Rattle.partnering.proofs.Partnering.{action_standing, action_acting, nobody_answers, some_answer, answer_standing}
use Rattle.partnering.proofs.action_partners.Goals as goal

pub spot_at-requires : goal.spot_at-requires
spot_at-requires c = action_standing c.requires

pub count_answers-tally-requires : goal.count_answers-tally-requires
count_answers-tally-requires c = action_acting c.spot_at.ensures c.requires

pub returns-in-None : goal.returns-in-None
returns-in-None c L π α P n p e o = nobody_answers c.spot_at.ensures c.count_answers-tally.ensures L π α P p e o n c.in-None.is

pub place_of-requires : goal.place_of-requires
place_of-requires c = answer_standing c.spot_at.ensures c.count_answers-tally.ensures c.requires c.in-Some.is

pub returns-in-Some : goal.returns-in-Some
returns-in-Some c L π α P n p e o = some_answer c.spot_at.ensures c.count_answers-tally.ensures L π α P p e o n _ c.in-Some.is c.place_of.ensures
