-- The answers for `step`: the state read, the choice made, the move performed.
use mathlib.Core.Path.{◌≡◌, sym, ◌∙◌}
use native.Mathlib.Omega.{arith}
use Rattle.std.specs.Prelude.{Err}
use Rattle.states.proofs.Root.{read_names, root_long}
use Rattle.performing.proofs.Moves.{choosing}
use Rattle.stepping.proofs.Stepping.{step_refused, root_bytes, chosen, choice_refused, choice_taken, choice_performs}
use Rattle.stepping.proofs.step.Goals as goal

pub returns-in_err-names : goal.returns-in_err-names
returns-in_err-names c =
    let e : c.from_residual.result ≡ Err c.in_err-names.field-0.0 = grind arith in
    rw e (step_refused _ _ _ _ _ (sym c.in_err-names.was ∙ c.read_state.ensures))

pub slice_bounds-root-count : goal.slice_bounds-root-count
slice_bounds-root-count c = root_long (read_names _ _ (λ i. omega (arith, c.type_inv.state i)) c.in_ok-names.was c.read_state.ensures).root

pub slice_bounds-root-start : goal.slice_bounds-root-start
slice_bounds-root-start c = root_long (read_names _ _ (λ i. omega (arith, c.type_inv.state i)) c.in_ok-names.was c.read_state.ensures).root

pub choose-requires : goal.choose-requires
choose-requires c =
    choosing (root_bytes (read_names _ _ (λ i. omega (arith, c.type_inv.state i)) c.in_ok-names.was c.read_state.ensures) (λ i. omega (arith, c.type_inv.state i)))

pub returns-in_err-m : goal.returns-in_err-m
returns-in_err-m c =
    let r = read_names _ _ (λ i. omega (arith, c.type_inv.state i)) c.in_ok-names.was c.read_state.ensures in
    let e : c.from_residual-in_err-m.result ≡ Err c.in_err-m.field-0.0 = grind arith in
    rw e
    (choice_refused r (λ i. omega (arith, c.type_inv.state i)) _ _ _ _
    (chosen r (λ i. omega (arith, c.type_inv.state i)) _ c.from.ensures c.partner.ensures c.in_err-m.was c.choose.ensures))

pub perform-requires : goal.perform-requires
perform-requires c =
    let r = read_names _ _ (λ i. omega (arith, c.type_inv.state i)) c.in_ok-names.was c.read_state.ensures in
    choice_performs r (λ i. omega (arith, c.type_inv.state i)) _ _ c.args.out.now
    (chosen r (λ i. omega (arith, c.type_inv.state i)) _ c.from.ensures c.partner.ensures c.in_ok-m.was c.choose.ensures)

pub returns : goal.returns
returns c =
    let r = read_names _ _ (λ i. omega (arith, c.type_inv.state i)) c.in_ok-names.was c.read_state.ensures in
    choice_taken r (λ i. omega (arith, c.type_inv.state i)) _ _ _
    (chosen r (λ i. omega (arith, c.type_inv.state i)) _ c.from.ensures c.partner.ensures c.in_ok-m.was c.choose.ensures) c.perform.ensures
