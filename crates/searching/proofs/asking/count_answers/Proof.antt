-- The proof of `count_answers`.
use mathlib.Core.Path.{ap, ◌∙◌}
use Rattle.machine.specs.Frames.{frame_of}
use Rattle.machine.specs.Questions.{ask, Question as Query}
use Rattle.places.specs.Offsets.{by_bytes}
use Rattle.tallying.specs.Numbers.{tally_numbers}
use Rattle.tallying.proofs.Wants.{question_every}
use Rattle.searching.proofs.asking.count_answers.Statement.{statement}
use Rattle.searching.proofs.asking.count_answers.Tie as tie

pub count_answers_spec : {M : Type 1} → statement M
count_answers_spec =
    tie.close
    (tie.spec
    (λ c κs. c.requires)
    (λ c L π s α P p e z. c.ask.ensures L π s α P p e z ∙ ap (λ (q : Query). tally_numbers (ask by_bytes q (frame_of L π) α)) (question_every _)))
