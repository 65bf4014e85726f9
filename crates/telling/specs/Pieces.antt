-- A session that is told piece by piece: what its record stands for, and the contracts of its calls.
use Rattle.std.specs.Prelude.{◌≡◌, List, [], ◌++◌, ℕ, suc, ◌+◌, ◌-◌, ◌≤◌, ◌<◌, length, take}
use Rattle.machine.specs.Limits.{byte_limit}
use Rattle.buffers.specs.Buffers.{Left}
use Rattle.advancing.specs.Answers.{SpellsAdmitted}
use Rattle.lines.specs.Lines.{refusal_line, line_limit}
use Rattle.telling.specs.Sessions.{step_budget, run_text, session_text}
use Rattle.telling.specs.declared.Session.{Session}
use Rattle.telling.specs.declared.Session.TheVariants.{Refused, Running, Over}
use Rattle.telling.specs.declared.Piece.{Piece}

-- The text that is still to come, where a buffer holds the present state at its front.
unfoldable pub text_left : Session → (present : List ℕ) → List ℕ
text_left (Refused k) present = refusal_line k
text_left (Running steps n) present = run_text steps (step_budget - steps) (take n present)
text_left Over present = []

-- At most so many lines are still to come.
unfoldable pub lines_left : Session → ℕ
lines_left (Refused k) = 1
lines_left (Running steps n) = suc (step_budget - steps)
lines_left Over = 0

-- While it runs, the buffer holds an admitted state.
pub record StandsAt (steps n : ℕ) (present : List ℕ) : Type 0 where
  pub admitted : SpellsAdmitted (take n present)
  pub within : n ≤ byte_limit
  pub long : length present ≡ byte_limit
  pub count : steps ≤ step_budget

unfoldable pub Stands : Session → (present : List ℕ) → Type 0
Stands (Refused k) present = Unit {0}
Stands (Running steps n) present = StandsAt steps n present
Stands Over present = Unit {0}

-- The session of a job is begun: all of its text is to come.
pub record Begun (job : List ℕ) (session : Session) (present : List ℕ) : Type 0 where
  pub stands : Stands session present
  pub tells : text_left session present ≡ session_text job

-- A piece is at the front of a text buffer, and the rest of the buffer as it was; it is the first part of the text that was to come, and the rest
-- of that is still to come. At least one line fewer is left, until it is over; and while it is not, there was no room for another line.
pub record Told (session : Session) (present text : List ℕ) (r : Piece) (after filled : List ℕ) : Type 0 where
  pub bytes : List ℕ
  pub fills : Left bytes text filled r.length
  pub tells : text_left session present ≡ bytes ++ text_left r.session after
  pub stands : Stands r.session after
  pub fewer : lines_left r.session ≤ lines_left session - 1
  pub full : 0 < lines_left r.session → length text < r.length + line_limit
