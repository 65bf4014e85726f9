-- The answers for `load`: the job read and judged, the test for 13, the state written.
use mathlib.Core.Path.{◌≡◌, sym, ◌∙◌}
use native.Mathlib.Omega.{arith}
use Rattle.std.specs.Prelude.{Err}
use Rattle.machine.specs.Limits.{byte_limit}
use Rattle.buffers.proofs.Answers.{fits_within}
use Rattle.buffers.proofs.Parts.{length_part}
use Rattle.loading.proofs.Loading.{accepted, job_long, few, process_spelled, judged, load_refused, load_mixed, load_full, load_done}
use Rattle.loading.proofs.load.Goals as goal

pub returns-in_err-free : goal.returns-in_err-free
returns-in_err-free c =
    let e : c.from_residual.result ≡ Err c.in_err-free.field-0.0 = grind arith in
    rw e (load_refused _ _ _ (sym c.in_err-free.was ∙ c.read_job.ensures))

pub slice_bounds-process-count : goal.slice_bounds-process-count
slice_bounds-process-count c =
    let a = accepted _ _ (λ i. omega (arith, c.type_inv.job i)) c.in_ok-free.was c.read_job.ensures in
    omega (arith, job_long _ _ a)

pub slice_bounds-process-start : goal.slice_bounds-process-start
slice_bounds-process-start c =
    let a = accepted _ _ (λ i. omega (arith, c.type_inv.job i)) c.in_ok-free.was c.read_job.ensures in
    omega (arith, job_long _ _ a)

pub is_mixed-requires : goal.is_mixed-requires
is_mixed-requires c = process_spelled _ _ (accepted _ _ (λ i. omega (arith, c.type_inv.job i)) c.in_ok-free.was c.read_job.ensures)

pub returns-then-is_mixed : goal.returns-then-is_mixed
returns-then-is_mixed c =
    let a = accepted _ _ (λ i. omega (arith, c.type_inv.job i)) c.in_ok-free.was c.read_job.ensures in
    load_mixed _ _ a _ (judged _ _ a _ c.is_mixed.ensures ∙ c.if-is_mixed.true)

pub returns-then-not-fits : goal.returns-then-not-fits
returns-then-not-fits c =
    let a = accepted _ _ (λ i. omega (arith, c.type_inv.job i)) c.in_ok-free.was c.read_job.ensures in
    load_full _ _ a _ (judged _ _ a _ c.is_mixed.ensures ∙ c.if-is_mixed.false) (sym c.fits.ensures ∙ c.if-not-fits.true)

pub write_loaded-requires-clause-process_in_bounds : goal.write_loaded-requires-clause-process_in_bounds
write_loaded-requires-clause-process_in_bounds c =
    let a = accepted _ _ (λ i. omega (arith, c.type_inv.job i)) c.in_ok-free.was c.read_job.ensures in
    omega (arith, job_long _ _ a, length_part 5 c.args.job.now, fits_within byte_limit _ _ (sym c.fits.ensures ∙ c.if-not-fits.false))

pub write_loaded-requires-clause-process_bound : goal.write_loaded-requires-clause-process_bound
write_loaded-requires-clause-process_bound c =
    let a = accepted _ _ (λ i. omega (arith, c.type_inv.job i)) c.in_ok-free.was c.read_job.ensures in
    (omega (arith, job_long _ _ a, length_part 5 c.args.job.now, fits_within byte_limit _ _ (sym c.fits.ensures ∙ c.if-not-fits.false)), few _ _ a)

pub returns : goal.returns
returns c =
    let a = accepted _ _ (λ i. omega (arith, c.type_inv.job i)) c.in_ok-free.was c.read_job.ensures in
    load_done _ _ a (judged _ _ a _ c.is_mixed.ensures ∙ c.if-is_mixed.false) (sym c.fits.ensures ∙ c.if-not-fits.false) c.write_loaded.ensures
