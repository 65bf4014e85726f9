-- The answers for `partner`: by whether the number is 65,535.
use Rattle.std.proofs.Common.{◌≡◌, arith}
use borrow.Author.Tests.{ne_eqb}
use Rattle.machine.specs.Limits.{absent}
use Rattle.machine.specs.Lowest.{partner_of}
use Rattle.stepping.proofs.partner.Goals as goal

pub returns-then-place-eq-ABSENT : goal.returns-then-place-eq-ABSENT
unfolding partner_of
returns-then-place-eq-ABSENT c =
    let e : c.args.other ≡ absent = omega arith in
    rw e

pub returns-else-place-eq-ABSENT : goal.returns-else-place-eq-ABSENT
unfolding partner_of
returns-else-place-eq-ABSENT c = rw (ne_eqb c.args.other absent (λ e. omega arith), c.from-place.ensures)
