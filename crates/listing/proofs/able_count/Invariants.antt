-- `able_count`: so many of the elements gone by can act.
use Rattle.std.proofs.Common.{◌≡◌, ◌≤◌, length}
use Rattle.machine.specs.Elements.{Elements}
use Rattle.machine.specs.Validity.{Graded}
use Rattle.elements.specs.Spelling.{encode_elements}
use Rattle.places.proofs.Able.{Along}
use Rattle.listing.proofs.able_count.Given as goal

abbrev pub invariant-loop-rest : goal.invariant-loop-rest
invariant-loop-rest l =
    let it = l.rest-iterator in record {
      few : l.count ≤ it.at;
      within : it.at ≤ length l.list;
      same : it.list.now ≡ l.list;
      along : (A : Elements) → l.list ≡ encode_elements A → (g : Along it.list.now it.at A) × (Graded A → l.count ≡ length g.done);
    }
