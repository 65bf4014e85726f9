-- The answers for `weight`: the weight of a state that reads.
use mathlib.Core.Path.{◌≡◌, sym, ◌∙◌}
use native.Mathlib.Omega.{arith}
use Rattle.std.specs.Prelude.{Err}
use Rattle.weighing.proofs.Weighing.{weigh_refused, named_accepted}
use Rattle.weighing.proofs.weight.Goals as goal

pub returns-in_err-read_state : goal.returns-in_err-read_state
returns-in_err-read_state c =
    let e : c.from_residual.result ≡ Err c.in_err-read_state.field-0.0 = grind arith in
    e ∙ weigh_refused _ _ (sym c.in_err-read_state.was ∙ c.read_state.ensures)

pub accepted_weight-requires : goal.accepted_weight-requires
accepted_weight-requires c = named_accepted _ _ (λ i. omega (arith, c.type_inv.s i)) c.in_ok-read_state.was c.read_state.ensures
