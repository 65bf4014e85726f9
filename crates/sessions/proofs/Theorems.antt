-- The proofs of the statements in specs/Theorems.antt.
use mathlib.Core.Path.{◌≡◌, refl, sym, ap, ◌∙◌}
use mathlib.Core.List.{List, ◌++◌, append_assoc, append-nil, map, flatten}
use Prim.Native.Nat.{ℕ, ◌+◌, ◌≤◌}
use native.Mathlib.Omega.{arith}
use lib.ListN.{length, take, drop}
use lib.Seq.{take_at}
use Rattle.machine.specs.Limits.{byte_limit}
use Rattle.machine.specs.Elements.{State, weight_state}
use Rattle.elements.specs.Spelling.{encode_state}
use Rattle.format.specs.Reading.{map_outcome}
use Rattle.buffers.specs.Buffers.{wrote}
use Rattle.weighing.specs.Weighing.{weigh}
use Rattle.runs.specs.Runs.{Ending, Ran, ran, run_from, ended, ended_in, run_bytes}
use Rattle.runs.specs.Turns.{Moved}
use Rattle.advancing.specs.Answers.{Present}
use Rattle.lines.specs.Lines.{step_line, last_line}
use Rattle.telling.specs.Sessions.{step_budget, run_steps, weight_in, reported, run_text, loaded_text, session_text}
use Rattle.telling.specs.Pieces.{text_left, lines_left, Stands, Told}
use Rattle.sessions.specs.Theorems.{TellsRun, SessionTellsRun, Pieces, no_piece, piece, PiecesAreText, PiecesEnd}
use Rattle.telling.specs.declared.Session.{Session}
use Rattle.telling.specs.declared.Session.TheVariants.{Refused, Running, Over}
use Rattle.telling.specs.declared.Piece.{Piece}
use Rattle.telling.proofs.Texts.{present_reads, present_run}
use Rattle.sessions.proofs.Steps.{CallsOf, run_calls}
use Rattle.telling.proofs.Telling.{loaded_present}

-- The text and the run

told_weight : (e : Ending) (n : ℕ) (T : State) (steps : List Moved) → Present (encode_state T) T →
    reported 0 steps (wrote (ended e n) (encode_state T)) ≡ flatten (map step_line steps) ++ last_line e n (weight_state T)
unfolding reported weight_in weigh map_outcome
told_weight e n T steps p =
    let z : 0 + n ≡ n = omega arith in
    rw (z, present_reads p)

run_told : (job first : List ℕ) (r : Ran) → session_text job ≡ run_text 0 step_budget first → run_bytes first step_budget byte_limit ≡ ended_in r →
    CallsOf byte_limit first (run_steps byte_limit step_budget first) r → TellsRun job first
unfolding ended_in CallsOf run_text
run_told job first (ran e n T) q f h =
    record {
      end = e;
      count = n;
      last = encode_state T;
      reached = T;
      steps = run_steps byte_limit step_budget first;
      runs = f;
      reads = present_reads h.2;
      calls = h.0;
      counts = h.1;
      text = q ∙ ap (reported 0 (run_steps byte_limit step_budget first)) f ∙ told_weight e n T (run_steps byte_limit step_budget first) h.2;
    }

pub session_tells_run : SessionTellsRun
unfolding session_text loaded_text
session_tells_run job first t e =
    let s = loaded_present job first t e in
    run_told job first (run_from byte_limit step_budget s.tree) (ap loaded_text e) (present_run step_budget s.present) (run_calls byte_limit step_budget first s.tree s.present)

-- The pieces

told_front : {s : Session} {present text after filled : List ℕ} {r : Piece} (t : Told s present text r after filled) → take r.length filled ≡ t.bytes
told_front {text = text} {r = r} t = ap (take r.length) t.fills.written ∙ take_at t.bytes (drop (length t.bytes) text) r.length (sym t.fills.count)

-- what is told so far, and what is still to come, are what was to come at first
pieces_text : {s t : Session} {present last : List ℕ} {ps : List (List ℕ)} → Pieces s present ps t last → text_left s present ≡ flatten ps ++ text_left t last
unfolding flatten
pieces_text no_piece = refl
pieces_text {t = t} {last = last} (piece {after = after} {filled = filled} {r = r} {ps = ps} l c p) =
    c.tells
    ∙ ap (λ (x : List ℕ). x ++ text_left r.session after) (sym (told_front c))
    ∙ ap (λ (x : List ℕ). take r.length filled ++ x) (pieces_text p)
    ∙ sym (append_assoc (take r.length filled) (flatten ps) (text_left t last))

pub pieces_are_text : PiecesAreText
unfolding text_left
pieces_are_text job present last s ps b p = sym (append-nil (flatten ps)) ∙ sym (pieces_text p) ∙ b.tells

lines_most : (s : Session) → lines_left s ≤ step_budget + 1
unfolding lines_left
lines_most (Refused k) = omega arith
lines_most (Running steps n) = omega arith
lines_most Over = omega arith

pieces_fewer : {s t : Session} {present last : List ℕ} {ps : List (List ℕ)} → Stands s present → Pieces s present ps t last → Stands t last × (length ps + lines_left t ≤ lines_left s)
pieces_fewer h no_piece = (h, omega arith)
pieces_fewer h (piece l c p) = let q = pieces_fewer c.stands p in (q.0, omega (arith, c.fewer, q.1))

pub pieces_end : PiecesEnd
pieces_end job present last s t ps b p = let q = pieces_fewer b.stands p in (q.0, omega (arith, q.1, lines_most s))
