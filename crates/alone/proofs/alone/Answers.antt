-- The answer for `alone`: the move is the one that is written.
use mathlib.Core.Path.{refl}
use Rattle.alone.specs.Alone.{alone_move}
use Rattle.alone.proofs.alone.Goals as goal

pub returns : goal.returns
unfolding alone_move
returns c = refl
