-- `tally_among`: what is told of the elements that are gone by, in the list and in an ambient of it.
use Rattle.std.proofs.Common.{◌≤◌, ◌+◌}
use Rattle.machine.specs.Questions.{untold}
use Rattle.buffers.proofs.Parts.{from}
use Rattle.places.specs.Offsets.{meant}
use Rattle.tallying.specs.Numbers.{question_of, tally_of}
use Rattle.tallying.proofs.Loops.{Reached, count_in_list, in_ambients}
use Rattle.looking.proofs.tally_among.Given as goal

abbrev pub invariant-loop-inside : goal.invariant-loop-inside
invariant-loop-inside l = record {
  few : l.tally.number ≤ l.inner;
  told : Reached (count_in_list l.want (question_of l.question)) (from l.element 5) l.inside-iterator.rest.now (l.at + 5) l.inner (tally_of l.initial.tally) (tally_of l.tally);
}

abbrev pub invariant-search : goal.invariant-search
invariant-search l = record {
  few : l.tally.number ≤ l.at;
  told : Reached (in_ambients l.want l.name (question_of l.question) (meant l.skip)) l.list l.element-iterator.rest.now l.start l.at untold (tally_of l.tally);
}
