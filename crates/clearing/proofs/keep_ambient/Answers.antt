-- `keep_ambient`: the start of a field, where the ambient takes a byte.
use Rattle.std.proofs.Common.{◌∙◌, ap, ℕ, arith, length-take, length-drop}
use Rattle.calculus.specs.Processes.{name}
use Rattle.clearing.specs.Clears.{is_cleared_by, width_left}
use Rattle.clearing.proofs.Clears.{width_is}
use Rattle.clearing.proofs.keep_ambient.Goals as goal

pub start_field-requires-clause-first_in_bounds : goal.start_field-requires-clause-first_in_bounds
start_field-requires-clause-first_in_bounds c =
    let e = c.width_left-width.ensures ∙ ap (λ (m : ℕ). width_left (is_cleared_by c.args.free c.args.table.now (name m)) c.args.n) c.word.ensures.0 in
    omega (arith, e, width_is _ _ (λ z. c.if-width-eq0.false (e ∙ z)), length-take {A = ℕ}, length-drop {A = ℕ})
