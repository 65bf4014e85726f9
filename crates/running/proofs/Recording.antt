-- The record of a run after a turn.
use mathlib.Core.Path.{◌≡◌, ap}
use mathlib.Core.Bool.{Bool}
use mathlib.Core.List.{List}
use Prim.Native.Nat.{ℕ}
use native.Mathlib.Omega.{arith}
use lib.ListN.{length}
use Rattle.buffers.specs.Buffers.{Written, kept, wrote, Answered}
use Rattle.std.specs.Prelude.{Result, Ok, Err}
use Rattle.refusals.specs.declared.Refusal.{Refusal}
use Rattle.advancing.specs.declared.Ending.{Ending}
use Rattle.advancing.specs.declared.Turn.{Turn}
use Rattle.advancing.specs.Answers.{ending_of, turn_answer}
use Rattle.runs.specs.Runs.{Ending as Ended}
use Rattle.runs.specs.Turns.{Moved, moves}
use Rattle.machine.specs.Lowest.{partner_of}
use Rattle.machine.specs.Questions.{told_of}
use Rattle.places.specs.Offsets.{coded}
use Rattle.running.specs.declared.Progress.{Progress}
use Rattle.running.specs.Answers.{ended_at, onward, record_after}

pub recorded_over : (once : Bool) (t : Written Ended Moved) (r : Progress) {out last : List ℕ} {x : Result Turn (Ending Refusal)} {e : Ending Refusal} → Answered (turn_answer once) t out x last → x ≡ Err e
    → Answered (record_after r) t out (ended_at r e) last
unfolding turn_answer record_after
recorded_over once (kept d) r {e = e} h u = let k : e ≡ ending_of d = (let a = h.answers in cc) in record { answers = ap (ended_at r) k; leaves = h.leaves }
recorded_over once (wrote (moves p q rule k) new) r h u = absurd (let a = h.answers in let z : ◌≡◌ {A = ℕ} 0 1 = cc in omega arith)

pub recorded_took : (once : Bool) (t : Written Ended Moved) (r : Progress) {out last : List ℕ} {x : Result Turn (Ending Refusal)} {y : Turn} → Answered (turn_answer once) t out x last → x ≡ Ok y
    → Answered (record_after r) t out (onward r y.length) last
unfolding turn_answer record_after
recorded_took once (kept d) r h u = absurd (let a = h.answers in let z : ◌≡◌ {A = ℕ} 0 1 = cc in omega arith)
recorded_took once (wrote (moves p q rule k) new) r {y = y} h u =
    let j : y ≡ record { place = p; other = coded (partner_of q); rule = rule; partners = told_of once k; length = length new } = (let a = h.answers in cc) in
    record { answers = ap (onward r) (ap (λ (z : Turn). z.length) j); leaves = h.leaves }
