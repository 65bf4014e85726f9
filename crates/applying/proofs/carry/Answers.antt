-- The answers for `carry`: an ambient changed, its top level unblocked, with nothing set down in it.
use mathlib.Core.Path.{ap}
use native.Mathlib.Omega.{arith}
use lib.ListN.{length}
use Rattle.machine.specs.Elements.{empty}
use Rattle.places.proofs.Alone.{nothing_spelled}
use Rattle.rewriting.proofs.Writers.{left_as}
use Rattle.applying.proofs.Edited.{carried_spelled}
use Rattle.applying.proofs.carry.Goals as goal

pub rewrite_ambient-requires : goal.rewrite_ambient-requires
rewrite_ambient-requires c =
    let p = c.requires in
    let e = ap length (carried_spelled c.args.k p.handed c.args.at p.status p.called p.contents) in
    record {
      handed = p.handed;
      named = p.named;
      status = p.status;
      called = p.called;
      contents = p.contents;
      spells = p.spells;
      suits = p.suits;
      moved = empty;
      carries = nothing_spelled;
      fits = omega (arith, p.fits, e);
      small = omega (arith, p.small, e);
      near = p.near;
    }

pub returns : goal.returns
returns c ns u a A n p h = left_as (carried_spelled c.args.k ns c.args.at u a A) (c.rewrite_ambient.ensures ns u a A empty n p h nothing_spelled)
