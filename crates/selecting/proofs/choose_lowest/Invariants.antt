-- `choose_lowest`: none of the elements gone by can act.
use Rattle.std.proofs.Common.{◌≡◌}
use Rattle.machine.specs.Elements.{Elements}
use Rattle.elements.specs.Spelling.{encode_elements}
use Rattle.places.proofs.Lowest.{Scanned}
use Rattle.selecting.proofs.choose_lowest.Given as goal

abbrev pub invariant-loop-place : goal.invariant-loop-place
invariant-loop-place l =
    let it = l.place-iterator.iter in record {
      same : it.list.now ≡ l.list;
      scanned : (A : Elements) → l.list ≡ encode_elements A → Scanned it.list.now it.at l.place-iterator.count A;
    }
