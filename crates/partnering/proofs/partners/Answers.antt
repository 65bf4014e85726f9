-- The answers for `partners`: the state is read; then the place is found, or 8.
use mathlib.Core.Path.{◌≡◌, sym, ap, ◌∙◌}
use native.Mathlib.Omega.{arith}
use Rattle.std.specs.Prelude.{Some, None, Err}
use Rattle.refusals.specs.declared.Refusal.TheVariants.{CannotAct}
use Rattle.states.proofs.Root.{read_names, root_long, root_list_law, root_bytes}
use Rattle.places.specs.Offsets.{place_offset}
use Rattle.partnering.proofs.Partnering.{read_refused, place_refused, place_element, place_told}
use Rattle.partnering.proofs.partners.Goals as goal

pub returns-in_err-read_state : goal.returns-in_err-read_state
returns-in_err-read_state c =
    let e : c.from_residual.result ≡ Err c.in_err-read_state.field-0.0 = grind arith in
    e ∙ read_refused _ _ _ (sym c.in_err-read_state.was ∙ c.read_state.ensures)

pub slice_bounds-root-count : goal.slice_bounds-root-count
slice_bounds-root-count c = root_long (read_names _ _ (λ i. omega (arith, c.type_inv.state i)) c.in_ok-read_state.was c.read_state.ensures).root

pub slice_bounds-root-start : goal.slice_bounds-root-start
slice_bounds-root-start c = root_long (read_names _ _ (λ i. omega (arith, c.type_inv.state i)) c.in_ok-read_state.was c.read_state.ensures).root

pub find-requires : goal.find-requires
find-requires c = root_list_law (read_names _ _ (λ i. omega (arith, c.type_inv.state i)) c.in_ok-read_state.was c.read_state.ensures).root

pub returns-in_err-at : goal.returns-in_err-at
returns-in_err-at c =
    let r = read_names _ _ (λ i. omega (arith, c.type_inv.state i)) c.in_ok-read_state.was c.read_state.ensures in
    let o : c.find.result ≡ None = grind arith in
    let e : c.from_residual-in_err-at.result ≡ Err CannotAct = grind arith in
    e ∙ place_refused r _ (ap (place_offset r.root.tree) (sym c.from.ensures) ∙ sym (c.find.ensures _ (root_bytes r.root)) ∙ o)

pub partners_at-requires : goal.partners_at-requires
partners_at-requires c =
    let r = read_names _ _ (λ i. omega (arith, c.type_inv.state i)) c.in_ok-read_state.was c.read_state.ensures in
    let o : c.find.result ≡ Some c.in_ok-at.at = grind arith in
    place_element r _ (sym (c.find.ensures _ (root_bytes r.root)) ∙ o)

pub returns : goal.returns
returns c =
    let r = read_names _ _ (λ i. omega (arith, c.type_inv.state i)) c.in_ok-read_state.was c.read_state.ensures in
    let o : c.find.result ≡ Some c.in_ok-at.at = grind arith in
    place_told r _ (ap (place_offset r.root.tree) (sym c.from.ensures) ∙ sym (c.find.ensures _ (root_bytes r.root)) ∙ o) _ c.partners_at.ensures
