-- `tally_in`: what is told of the elements that are gone by.
use Rattle.std.proofs.Common.{◌≤◌}
use Rattle.machine.specs.Questions.{untold}
use Rattle.tallying.specs.Numbers.{question_of, tally_of}
use Rattle.tallying.proofs.Loops.{Reached, count_in_list}
use Rattle.looking.proofs.tally_in.Given as goal

abbrev pub invariant-loop-element : goal.invariant-loop-element
invariant-loop-element l = record {
  few : l.tally.number ≤ l.at;
  told : Reached (count_in_list l.want (question_of l.question)) l.list l.element-iterator.rest.now l.start l.at untold (tally_of l.tally);
}
