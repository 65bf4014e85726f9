-- The answers for `step`: a refusal, or a result that is copied over the state and weighed.
use mathlib.Core.Path.{sym, ap, ◌∙◌}
use Prim.Native.Nat.{ℕ}
use native.Mathlib.Omega.{arith}
use Rattle.registers.specs.Registers.{refused_of}
use lib.Seq.{length-take-le}
use Rattle.panel.proofs.Accesses.{step_refused, taken, step_accepted}
use Rattle.panel.proofs.step.Goals as goal

pub slice_bounds-result-end : goal.slice_bounds-result-end
slice_bounds-result-end c = (taken _ _ _ _ _ _ c.ask.ensures c.in-Ok.is).stands

pub slice_bounds-result-end-in-Ok : goal.slice_bounds-result-end-in-Ok
slice_bounds-result-end-in-Ok c = sym (length-take-le _ _ (taken _ _ _ _ _ _ c.ask.ensures c.in-Ok.is).stands)

pub accepted_weight-requires : goal.accepted_weight-requires
accepted_weight-requires c = (taken _ _ _ _ _ _ c.ask.ensures c.in-Ok.is).reads

pub accepted-requires : goal.accepted-requires
accepted-requires c = (omega (arith, (taken _ _ _ _ _ _ c.ask.ensures c.in-Ok.is).small), omega (arith, c.accepted_weight.ensures.1))

pub returns-in-Err : goal.returns-in-Err
returns-in-Err c = step_refused _ _ _ _ _ _ _ c.ask.ensures c.in-Err.is (c.refused.ensures ∙ ap (λ (k : ℕ). refused_of k c.args.panel) c.number.ensures)

pub returns-in-Ok : goal.returns-in-Ok
returns-in-Ok c =
    step_accepted _ _ _ _ _ _ _ _ _ (taken _ _ _ _ _ _ c.ask.ensures c.in-Ok.is) c.copy.ensures c.accepted_weight.ensures.0 c.accepted.ensures
