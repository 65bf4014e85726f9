-- `write_able`: the places of the elements gone by that can act stand at the front of the buffer.
use Rattle.std.proofs.Common.{◌≡◌, ◌≤◌}
use Rattle.machine.specs.Elements.{Elements}
use Rattle.machine.specs.Validity.{Graded}
use Rattle.elements.specs.Spelling.{encode_elements}
use Rattle.listing.proofs.Words.{Writing}
use Rattle.listing.proofs.write_able.Given as goal

abbrev pub invariant-loop-place : goal.invariant-loop-place
invariant-loop-place l =
    let it = l.place-iterator.iter in record {
      few : l.place-iterator.count ≤ it.at;
      same : it.list.now ≡ l.list;
      writing : (A : Elements) → l.list ≡ encode_elements A → Graded A → Writing it.list.now A l.fn.out it.at l.place-iterator.count l.end l.out;
    }
