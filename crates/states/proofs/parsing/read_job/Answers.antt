-- The answers for `read_job`.
use borrow.Author.Tests.{lt-ltb}
use lib.ListN.{length}
use native.Mathlib.Omega.{arith}
use mathlib.Core.Path.{◌≡◌, ◌∙◌, sym, ap}
use Rattle.std.specs.Prelude.{Err}
use Rattle.refusals.specs.Refusals.{refusal}
use Rattle.reading.specs.Parts.{whole_of}
use Rattle.states.specs.Reading.{read_job}
use Rattle.states.specs.Answers.{job_answer}
use Rattle.states.proofs.Handed.{job_of, job_handed}
use Rattle.states.proofs.parsing.read_job.Goals as goal

pub returns-then-s-gt-BYTE_LIMIT : goal.returns-then-s-gt-BYTE_LIMIT
unfolding read_job job_answer refusal
returns-then-s-gt-BYTE_LIMIT c = simp (lt-ltb _ _ c.if-s-gt-BYTE_LIMIT.true)

pub returns-in_err-p : goal.returns-in_err-p
unfolding job_of
returns-in_err-p c =
    let e : c.from_residual.result ≡ Err c.in_err-p.field-0.0 = grind arith in
    e ∙ job_handed _ c.if-s-gt-BYTE_LIMIT.false _
    (sym c.in_err-p.was ∙ c.whole.ensures ∙ ap (whole_of (length c.args.s.now)) c.job-reached.ensures)

pub returns : goal.returns
unfolding job_of
returns c =
    job_handed _ c.if-s-gt-BYTE_LIMIT.false _
    (sym c.in_ok-p.was ∙ c.whole.ensures ∙ ap (whole_of (length c.args.s.now)) c.job-reached.ensures)
