-- What a stored case compares: the bytes of two buffers, and the numbers of an answer with those in the case's header.
use Rattle.std.specs.Prelude.{Bool, true, false, List, [], ◌∷◌, ℕ, eqb}
use Rattle.machine.specs.Tests.{◌and◌, pick}
use Rattle.format.specs.Reading.{word_at}
use Rattle.comparing.specs.declared.Answer.{Answer}

unfoldable pub equal : List ℕ → List ℕ → Bool
equal [] [] = true
equal [] (y ∷ ys) = false
equal (x ∷ xs) [] = false
equal (x ∷ xs) (y ∷ ys) = pick (eqb x y) (equal xs ys) false

-- The answer that a header names.
abbrev pub due_in : List ℕ → Answer
due_in header = record { refusal = word_at header 12; outcome = word_at header 14; count = word_at header 16; length = word_at header 18 }

-- Words 6 to 9 of the header: refusal, outcome, count, length.
unfoldable pub agreeing : List ℕ → Answer → Bool
agreeing header a = eqb a.refusal (word_at header 12) and (eqb a.outcome (word_at header 14) and (eqb a.count (word_at header 16) and eqb a.length (word_at header 18)))
