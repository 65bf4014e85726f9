-- The text of a run by its turns: the last line where the turn is over, and otherwise a line and the text from the state after it.
use mathlib.Core.Path.{◌≡◌, refl, sym, ap, ap₂, ◌∙◌}
use mathlib.Core.List.{List, [], ◌∷◌, ◌++◌, append_assoc, map, flatten}
use Prim.Native.Nat.{ℕ, zero, suc, ◌+◌, ◌-◌, ◌<◌}
use native.Mathlib.Omega.{arith}
use lib.ListN.{length}
use Rattle.machine.specs.Limits.{byte_limit}
use Rattle.machine.specs.Elements.{State}
use Rattle.format.specs.Reading.{Outcome, refused, got, map_outcome}
use Rattle.elements.specs.Spelling.{encode_state}
use Rattle.states.specs.Reading.{read_state}
use Rattle.states.proofs.Theorems.{admitted_reads}
use Rattle.buffers.specs.Buffers.{kept, wrote}
use Rattle.buffers.proofs.Answers.{fitting_is}
use Rattle.weighing.specs.Weighing.{weigh, weight_answer}
use Rattle.std.specs.Prelude.{Result}
use Rattle.std.specs.Result.{result_unwrap_or}
use Rattle.refusals.specs.declared.Refusal.{Refusal}
use Rattle.runs.specs.Runs.{Ending, Ran, ran, counted, run_from, ended_in, run_first, run_read, run_bytes}
use Rattle.runs.specs.Turns.{Moved, turn}
use Rattle.runs.proofs.Turning.{turned, halts, follows}
use Rattle.advancing.specs.Answers.{Present}
use Rattle.lines.specs.Lines.{step_line, last_line}
use Rattle.telling.specs.Sessions.{step_then, run_steps, weight_in, reported, run_text}

-- The bytes of an admitted state

pub present_reads : {s : List ℕ} {S : State} → Present s S → read_state s ≡ got S (length s)
present_reads {S = S} p = rw p.spelled (admitted_reads S p.admitted (rw p.spelled at p.short))

pub present_run : {s : List ℕ} {S : State} (budget : ℕ) → Present s S → run_bytes s budget byte_limit ≡ ended_in (run_from byte_limit budget S)
unfolding run_bytes run_read run_first
present_run {s} {S} budget p =
    ap (run_read s byte_limit budget) (present_reads p) ∙ ap (run_first byte_limit budget) (fitting_is byte_limit byte_limit S s p.short p.short)

-- Steps

pub steps_end : {s : List ℕ} {S : State} {e : Ending} (room budget : ℕ) → Present s S → turn room budget S ≡ kept e → run_steps room budget s ≡ []
unfolding run_steps step_then map_outcome
steps_end room zero p u = refl
steps_end room (suc b) p u = rw (present_reads p, u)

pub steps_go : {s new : List ℕ} {S : State} {move : Moved} (room budget : ℕ) → Present s S → 0 < budget → turn room budget S ≡ wrote move new →
    run_steps room budget s ≡ move ∷ run_steps room (budget - 1) new
unfolding run_steps step_then map_outcome
steps_go room zero p l u = absurd (omega arith)
steps_go room (suc b) p l u = let e : suc b - 1 ≡ b = omega arith in rw (present_reads p, u, e)

-- What is reported

reported_end : (before : ℕ) (e : Ending) (S : State) → reported before [] (ended_in (ran e 0 S)) ≡ last_line e before (weight_in (weigh (encode_state S)))
unfolding reported ended_in flatten
reported_end before e S = let z : before + 0 ≡ before = omega arith in rw z

reported_step : (before : ℕ) (move : Moved) (steps : List Moved) (r : Ran) →
    reported before (move ∷ steps) (ended_in (counted r)) ≡ step_line move ++ reported (before + 1) steps (ended_in r)
unfolding reported ended_in counted flatten
reported_step before move steps (ran e n T) =
    let z : before + suc n ≡ before + 1 + n = omega arith in
    rw z (append_assoc (step_line move) (flatten (map step_line steps)) (last_line e (before + 1 + n) (weight_in (weigh (encode_state T)))))

pub text_ends : {s : List ℕ} {S : State} {e : Ending} (before budget : ℕ) → Present s S → turn byte_limit budget S ≡ kept e → run_text before budget s ≡ last_line e before (weight_in (weigh s))
unfolding run_text
text_ends {s} {S} {e} before budget p u =
    ap₂ (reported before) (steps_end byte_limit budget p u) (present_run budget p ∙ ap ended_in (halts (turned byte_limit budget S) u))
    ∙ reported_end before e S
    ∙ ap (λ (t : List ℕ). last_line e before (weight_in (weigh t))) (sym p.spelled)

pub text_goes : {s new : List ℕ} {S : State} {move : Moved} (before budget : ℕ) → Present s S → turn byte_limit budget S ≡ wrote move new →
    run_text before budget s ≡ step_line move ++ run_text (before + 1) (budget - 1) new
unfolding run_text
text_goes {s} {new} {S} {move} before budget p u =
    let v = follows (turned byte_limit budget S) u in
    let q : Present new v.after = record { spelled = v.bytes; admitted = v.admitted p.admitted; short = v.small } in
    ap₂ (reported before) (steps_go byte_limit budget p v.less u) (present_run budget p ∙ ap ended_in v.runs)
    ∙ reported_step before move (run_steps byte_limit (budget - 1) new) (run_from byte_limit (budget - 1) v.after)
    ∙ ap (λ w. step_line move ++ reported (before + 1) (run_steps byte_limit (budget - 1) new) w) (sym (present_run (budget - 1) q))

-- The weight that is heard of a state

-- the weight that an answer of the code tells, and 0 where it was refused
pub weight_heard : {a : Result ℕ Refusal} (o : Outcome ℕ) → a ≡ weight_answer o → result_unwrap_or a 0 ≡ weight_in o
unfolding weight_answer weight_in
weight_heard (refused k) e = ap (λ (r : Result ℕ Refusal). result_unwrap_or r 0) e
weight_heard (got w n) e = ap (λ (r : Result ℕ Refusal). result_unwrap_or r 0) e
