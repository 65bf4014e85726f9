-- The proof of `is_one`.
use mathlib.Core.Path.{ap, ◌∙◌}
use lib.Dec.{ltb}
use Rattle.machine.specs.Frames.{frame_of}
use Rattle.machine.specs.Questions.{ask, Question as Query}
use Rattle.places.specs.Offsets.{by_bytes}
use Rattle.tallying.proofs.Wants.{number_is, question_one}
use Rattle.searching.proofs.asking.is_one.Statement.{statement}
use Rattle.searching.proofs.asking.is_one.Tie as tie

pub is_one_spec : {M : Type 1} → statement M
is_one_spec =
    tie.close
    (tie.spec
    (λ c κs. c.requires)
    (λ c L π s α P p e z.
    ap (ltb 0) (number_is _ _ (c.ask-tally.ensures L π s α P p e z))
    ∙ ap (λ (q : Query). ltb 0 (ask by_bytes q (frame_of L π) α).number) (question_one _)))
