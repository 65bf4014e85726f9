-- `cabinet_load`: its answer as numbers.
use Rattle.refusing.proofs.Theorems.{load_refuses}
use Rattle.refusals.specs.Refusals.{number}
use Rattle.answers.specs.Numbers.{filled_numbers}
use Rattle.answers.proofs.Numbers.{numbered, filled_in_table}
use Rattle.loaded.proofs.Loading.{load_small}
use Rattle.cabinet.proofs.Small.{filled_small}
use Rattle.cabinet.proofs.cabinet_load.Goals as goal

pub length_answer-requires : goal.length_answer-requires
length_answer-requires c = filled_small _ (load_small _ _) c.load.ensures.answers

pub returns : goal.returns
returns c = numbered (filled_numbers number) (filled_in_table _ (load_refuses _ _)) c.length_answer.ensures c.load.ensures
