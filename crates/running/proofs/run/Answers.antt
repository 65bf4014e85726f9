-- The answers for `run`: the state read, its turns played, and the last state written.
use mathlib.Core.Path.{◌≡◌, refl, sym, ◌∙◌}
use Prim.Native.Nat.{◌≤◌}
use native.Mathlib.Omega.{arith}
use lib.ListN.{length}
use lib.Seq.{length-take-le}
use Rattle.std.specs.Prelude.{Err}
use Rattle.machine.specs.Limits.{byte_limit}
use Rattle.buffers.proofs.Answers.{fits_within}
use Rattle.states.proofs.Root.{read_names}
use Rattle.advancing.proofs.Admitting.{read_present, copied_present}
use Rattle.running.proofs.Running.{run_refused, start, read_fits, run_short, played_held, run_done}
use Rattle.running.proofs.run.Goals as goal

pub returns-in_err-read_state : goal.returns-in_err-read_state
returns-in_err-read_state c =
    let e : c.from_residual.result ≡ Err c.in_err-read_state.field-0.0 = grind arith in
    rw e (run_refused _ _ _ _ (sym c.in_err-read_state.was ∙ c.read_state.ensures))

pub returns-then-not-fits : goal.returns-then-not-fits
returns-then-not-fits c =
    run_short (read_names _ _ (λ i. omega (arith, c.type_inv.state i)) c.in_ok-read_state.was c.read_state.ensures) _ _ (sym c.fits.ensures ∙ c.if-not-fits.true)

pub play-last-requires-clause-spells_admitted : goal.play-last-requires-clause-spells_admitted
play-last-requires-clause-spells_admitted c =
    let r = read_names _ _ (λ i. omega (arith, c.type_inv.state i)) c.in_ok-read_state.was c.read_state.ensures in
    record { tree = start r; present = (copied_present _ (read_present (λ i. omega (arith, c.type_inv.state i)) r.read) refl c.copy.ensures).0 }

pub play-last-requires-clause-present_len : goal.play-last-requires-clause-present_len
play-last-requires-clause-present_len c =
    let r = read_names _ _ (λ i. omega (arith, c.type_inv.state i)) c.in_ok-read_state.was c.read_state.ensures in
    let l = c.least-room.ensures in
    let h : length c.args.state.now ≤ length c.args.out.now = (fits_within byte_limit _ _ (sym c.fits.ensures ∙ c.if-not-fits.false)).1 in (
      (copied_present _ (read_present (λ i. omega (arith, c.type_inv.state i)) r.read) refl c.copy.ensures).1,
      omega (arith, c.ranges.budget, c.from.ensures),
      read_fits r _ _ h l.2,
      l.0,
    )

pub slice_bounds-present-end : goal.slice_bounds-present-end
slice_bounds-present-end c =
    let r = read_names _ _ (λ i. omega (arith, c.type_inv.state i)) c.in_ok-read_state.was c.read_state.ensures in
    played_held r (c.play-last.ensures (start r) (copied_present _ (read_present (λ i. omega (arith, c.type_inv.state i)) r.read) refl c.copy.ensures).0)

pub slice_bounds-copy-end-2 : goal.slice_bounds-copy-end-2
slice_bounds-copy-end-2 c =
    let r = read_names _ _ (λ i. omega (arith, c.type_inv.state i)) c.in_ok-read_state.was c.read_state.ensures in
    sym (length-take-le _ _ (played_held r (c.play-last.ensures (start r) (copied_present _ (read_present (λ i. omega (arith, c.type_inv.state i)) r.read) refl c.copy.ensures).0)))

pub returns : goal.returns
returns c =
    let r = read_names _ _ (λ i. omega (arith, c.type_inv.state i)) c.in_ok-read_state.was c.read_state.ensures in
    let l = c.least-room.ensures in
    let h : length c.args.state.now ≤ length c.args.out.now = (fits_within byte_limit _ _ (sym c.fits.ensures ∙ c.if-not-fits.false)).1 in
    run_done r (rw c.from.ensures at (c.play-last.ensures (start r) (copied_present _ (read_present (λ i. omega (arith, c.type_inv.state i)) r.read) refl c.copy.ensures).0)) _ _ h l.1 l.2 c.copy-2.ensures
