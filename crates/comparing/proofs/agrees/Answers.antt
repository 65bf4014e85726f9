-- `agrees`: the derived test compares the four numbers.
use Rattle.comparing.proofs.Comparing.{agreeing_is}
use Rattle.comparing.proofs.agrees.Goals as goal

pub returns : goal.returns
returns c = agreeing_is _ _ _ _ c.due.ensures c.eq.ensures
