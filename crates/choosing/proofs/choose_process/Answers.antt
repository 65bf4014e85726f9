-- The answers for `choose_process`: an action, another process by itself, or a partner named where none can be.
use Rattle.alone.proofs.Turnings.{process_within}
use Rattle.choosing.proofs.Ambients.{process_named}
use Rattle.choosing.proofs.choose_process.Goals as goal

pub bounds-rest-3 : goal.bounds-rest-3
bounds-rest-3 c = process_within c.requires.chooses_at c.requires.at_value

pub returns-in-Some : goal.returns-in-Some
returns-in-Some c F L π E adm el there = rw c.in-Some.is (process_named adm π E el _ there c.requires.at_value c.if-rest-eq36.false _)
