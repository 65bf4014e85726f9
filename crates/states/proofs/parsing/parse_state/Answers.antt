-- The answers for `parse_state`.
use borrow.Author.Tests.{lt-ltb}
use lib.ListN.{length}
use native.Mathlib.Omega.{arith}
use mathlib.Core.Path.{◌≡◌, ◌∙◌, sym, ap}
use Rattle.std.specs.Prelude.{Err}
use Rattle.refusals.specs.Refusals.{refusal}
use Rattle.reading.specs.Parts.{whole_of}
use Rattle.states.specs.Reading.{parse_state}
use Rattle.states.specs.Answers.{state_answer}
use Rattle.states.proofs.Handed.{state_of, state_handed}
use Rattle.states.proofs.parsing.parse_state.Goals as goal

pub returns-then-s-gt-BYTE_LIMIT : goal.returns-then-s-gt-BYTE_LIMIT
unfolding parse_state state_answer refusal
returns-then-s-gt-BYTE_LIMIT c = simp (lt-ltb _ _ c.if-s-gt-BYTE_LIMIT.true)

pub returns-in_err-p : goal.returns-in_err-p
unfolding state_of
returns-in_err-p c =
    let e : c.from_residual.result ≡ Err c.in_err-p.field-0.0 = grind arith in
    e ∙ state_handed _ _ c.if-s-gt-BYTE_LIMIT.false _
    (sym c.in_err-p.was ∙ c.whole.ensures ∙ ap (whole_of (length c.args.s.now)) c.state-reached.ensures)

pub returns : goal.returns
unfolding state_of
returns c =
    state_handed _ _ c.if-s-gt-BYTE_LIMIT.false _
    (sym c.in_ok-p.was ∙ c.whole.ensures ∙ ap (whole_of (length c.args.s.now)) c.state-reached.ensures)
