-- `pairs_from`: the measure is what is between start and end, and no pair is in the elements that are gone by.
use Rattle.std.proofs.Common.{◌-◌}
use Rattle.searching.proofs.Walks.{Going}
use Rattle.searching.proofs.pairing.+pairs_from.Given as goal

abbrev pub decreases-pairs_from : goal.decreases-pairs_from
decreases-pairs_from a = a.end - a.start

abbrev pub invariant-loop-element : goal.invariant-loop-element
invariant-loop-element l = Going l.list l.element-iterator.rest.now l.start l.end l.level l.within l.around l.at
