-- What the code has of a line: the ending of a run that its ending stands for, where `told` is the number of a limit, and the text of a partner that is a place or none.
use Rattle.std.specs.Prelude.{◌≡◌, List, [], ◌∷◌, ◌++◌, ℕ, Option, Some, None}
use Rattle.machine.specs.Lowest.{partner_of}
use Rattle.format.specs.Answers.{coded}
use Rattle.runs.specs.Runs.{Ending as Ended, blocked, spent, limit}
use Rattle.runs.specs.Turns.{moves}
use Rattle.advancing.specs.declared.Ending.{Ending}
use Rattle.advancing.specs.declared.Ending.TheVariants.{Blocked, Spent, Limit}
use Rattle.advancing.specs.declared.Turn.{Turn}
use Rattle.lines.specs.Lines.{decimal, space, next_field, line_feed, step_line}

abbrev pub ended_by : {E : Type 0} → (E → ℕ) → Ending E → Ended
ended_by told Blocked = blocked
ended_by told Spent = spent
ended_by told (Limit e) = limit (told e)

-- The partner's place, or - for none, as `partner_text` has it.
abbrev pub partner_shown : Option ℕ → List ℕ
partner_shown None = 45 ∷ []
partner_shown (Some q) = decimal q

-- The line of a turn.
unfoldable pub turn_line : Turn → List ℕ
turn_line t = ((((decimal t.place ++ space) ++ partner_shown t.other) ++ next_field t.rule) ++ next_field t.partners) ++ line_feed

-- It is the line of the step that the turn is, whose partner is a number or 65,535 for none.
abbrev pub TurnIsStep : Type 0
TurnIsStep = (t : Turn) (q : ℕ) → t.other ≡ coded (partner_of q) → turn_line t ≡ step_line (moves t.place q t.rule t.partners)
