-- The answers for `write_job`: a refusal at each test, then the header, and the body in its part.
use mathlib.Core.Path.{◌≡◌, sym, ◌∙◌}
use lib.ListN.{length}
use Rattle.std.specs.Prelude.{Err}
use Prim.Native.Nat.{◌+◌, ◌≤◌}
use native.Mathlib.Omega.{arith}
use Rattle.machine.specs.Limits.{byte_limit, free_name_least, free_name_limit}
use Rattle.refusals.specs.Refusals.{refusal}
use Rattle.buffers.proofs.Answers.{fits_within}
use Rattle.writing.specs.Theorems.{OutOfRange}
use Rattle.writing.proofs.Writing.{refuses, refused_with, too_long, out_of_range, unread, left_over, read_whole, job_written, job_full, job_done}
use Rattle.writing.proofs.write_job.Goals as goal

pub returns-then-process-gt-BYTE_LIMIT : goal.returns-then-process-gt-BYTE_LIMIT
unfolding refusal
returns-then-process-gt-BYTE_LIMIT c =
    refuses 1 _ (too_long _ _ _ c.if-process-gt-BYTE_LIMIT.true)

pub returns-then-not-contains : goal.returns-then-not-contains
unfolding refusal
returns-then-not-contains c =
    let e = c.from-names.ensures in
    let out : OutOfRange c.from-names.result = grind arith in
    rw (← e) (refuses 6 _ (out_of_range _ _ _ c.if-process-gt-BYTE_LIMIT.false out))

pub returns-in_err-last : goal.returns-in_err-last
returns-in_err-last c =
    let e = c.from-names.ensures in
    let some : free_name_least ≤ c.from-names.result = grind arith in
    let few : c.from-names.result ≤ free_name_limit = grind arith in
    let r : c.from_residual.result ≡ Err c.in_err-last.field-0.0 = grind arith in
    rw (← e) (rw r (refused_with _ (unread _ _ _ c.if-process-gt-BYTE_LIMIT.false some few _ (sym c.in_err-last.was ∙ c.process.ensures))))

pub returns-then-end-process : goal.returns-then-end-process
unfolding refusal
returns-then-end-process c =
    let e = c.from-names.ensures in
    let some : free_name_least ≤ c.from-names.result = grind arith in
    let few : c.from-names.result ≤ free_name_limit = grind arith in
    rw (← e) (refuses 4 _ (left_over _ _ _ c.if-process-gt-BYTE_LIMIT.false some few _ (sym c.in_ok-last.was ∙ c.process.ensures) c.if-end-process.true))

pub returns-then-not-fits : goal.returns-then-not-fits
returns-then-not-fits c =
    let e = c.from-names.ensures in
    let some : free_name_least ≤ c.from-names.result = grind arith in
    let few : c.from-names.result ≤ free_name_limit = grind arith in
    let size : c.in_ok-last.last.at + 5 ≡ length c.args.process.now + 5 = omega (arith, c.if-end-process.false) in
    rw (← e) (job_full _ _ _ _ size (read_whole _ _ _ c.if-process-gt-BYTE_LIMIT.false some few _ (sym c.in_ok-last.was ∙ c.process.ensures) c.if-end-process.false) (sym c.fits.ensures ∙ c.if-not-fits.true))

pub slice_bounds-write_body-end : goal.slice_bounds-write_body-end
slice_bounds-write_body-end c =
    omega (arith, fits_within byte_limit _ _ (sym c.fits.ensures ∙ c.if-not-fits.false), c.write_header.auto.out)

pub returns : goal.returns
returns c =
    let e = c.from-names.ensures in
    let some : free_name_least ≤ c.from-names.result = grind arith in
    let few : c.from-names.result ≤ free_name_limit = grind arith in
    let size : c.in_ok-last.last.at + 5 ≡ length c.args.process.now + 5 = omega (arith, c.if-end-process.false) in
    let room = fits_within byte_limit _ _ (sym c.fits.ensures ∙ c.if-not-fits.false) in
    rw (← e)
    (job_done _ _ _ _ size (read_whole _ _ _ c.if-process-gt-BYTE_LIMIT.false some few _ (sym c.in_ok-last.was ∙ c.process.ensures) c.if-end-process.false) (sym c.fits.ensures ∙ c.if-not-fits.false)
    (job_written _ _ c.args.out.now _ _ _ size room.1 room.0 c.write_header.ensures c.write_body.ensures))
