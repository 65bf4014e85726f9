-- What is proved of sessions, each statement a named type.
use Rattle.std.specs.Prelude.{◌≡◌, ℕ, ◌+◌, ◌≤◌, ◌<◌, length, take}
use mathlib.Core.List.{List, [], ◌∷◌, ◌++◌, map, flatten}
use Rattle.machine.specs.Limits.{byte_limit}
use Rattle.machine.specs.Elements.{State, weight_state}
use Rattle.machine.specs.Lowest.{number_in}
use Rattle.format.specs.Reading.{got}
use Rattle.states.specs.Reading.{read_state}
use Rattle.buffers.specs.Buffers.{wrote}
use Rattle.loaded.specs.Loading.{load}
use Rattle.calls.specs.Steps.{step_bytes}
use Rattle.runs.specs.Runs.{Ending, ended, run_bytes}
use Rattle.runs.specs.Turns.{Moved, moves}
use Rattle.lines.specs.Lines.{step_line, last_line}
use Rattle.telling.specs.Sessions.{step_budget, session_text}
use Rattle.telling.specs.Pieces.{lines_left, Stands, Begun, Told}
use Rattle.telling.specs.declared.Session.{Session}
use Rattle.telling.specs.declared.Session.TheVariants.{Over}
use Rattle.telling.specs.declared.Piece.{Piece}

-- Moves that are calls of the step, all accepted into buffers of so many bytes, each from the state that the one before wrote; and each with the number of
-- partners that its place has in the state before it.
pub data AreCalls (room : ℕ) : List ℕ → List Moved → List ℕ → Type 0 where
  no_call : {s : List ℕ} → AreCalls room s [] s
  call : {s new last : List ℕ} {S : State} {m p q rule : ℕ} {steps : List Moved} → read_state s ≡ got S m → step_bytes s p q room ≡ wrote rule new → AreCalls room new steps last →
      AreCalls room s (moves p q rule (number_in S p) ∷ steps) last

-- What the session of a job tells whose state has these bytes: the lines of its run's steps, as many as the run counts, which are calls of the step from that
-- state to the run's last one; then how the run ended, after how many steps, and the weight of that last state.
pub record TellsRun (job first : List ℕ) : Type 0 where
  pub end : Ending
  pub count : ℕ
  pub last : List ℕ
  pub reached : State
  pub steps : List Moved
  pub runs : run_bytes first step_budget byte_limit ≡ wrote (ended end count) last
  pub reads : read_state last ≡ got reached (length last)
  pub calls : AreCalls byte_limit first steps last
  pub counts : length steps ≡ count
  pub text : session_text job ≡ flatten (map step_line steps) ++ last_line end count (weight_state reached)

abbrev pub SessionTellsRun : Type 0
SessionTellsRun = (job first : List ℕ) (t : Unit {0}) → load job byte_limit ≡ wrote t first → TellsRun job first

-- Pieces one after another, each the front of a text buffer of any contents as a call that meets its contract leaves it, from a session and the
-- buffer of its present state to those after the last. No piece is taken of a session that is over.
pub data Pieces : Session → List ℕ → List (List ℕ) → Session → List ℕ → Type 0 where
  no_piece : {s : Session} {present : List ℕ} → Pieces s present [] s present
  piece : {s t : Session} {present after last text filled : List ℕ} {r : Piece} {ps : List (List ℕ)} →
      0 < lines_left s → Told s present text r after filled → Pieces r.session after ps t last →
      Pieces s present (take r.length filled ∷ ps) t last

-- The pieces of a session, from its begin until it is over, are the text of the job's session.
abbrev pub PiecesAreText : Type 0
PiecesAreText = (job present last : List ℕ) (s : Session) (ps : List (List ℕ)) → Begun job s present → Pieces s present ps Over last → flatten ps ≡ session_text job

-- While it is not over the next piece may be asked for, and there are no more pieces than the budget and one.
abbrev pub PiecesEnd : Type 0
PiecesEnd = (job present last : List ℕ) (s t : Session) (ps : List (List ℕ)) → Begun job s present → Pieces s present ps t last →
    Stands t last × (length ps + lines_left t ≤ step_budget + 1)
