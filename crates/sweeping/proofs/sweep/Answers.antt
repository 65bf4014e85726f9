-- The answers for `sweep`: the names counted, the length by the table, then the writing.
use mathlib.Core.Path.{◌≡◌, sym, ◌∙◌}
use native.Mathlib.Omega.{arith}
use Rattle.std.specs.Prelude.{Err}
use Rattle.machine.specs.Limits.{byte_limit}
use Rattle.buffers.proofs.Answers.{fits_within}
use Rattle.buffers.proofs.Parts.{length_part}
use Rattle.elements.proofs.States.{state_behind}
use Rattle.states.proofs.Root.{read_root, root_long, root_bytes, root_spells, root_list_law, root_few}
use Rattle.sweeping.proofs.Swept.{swept_short, sweep_refused_law, sweep_full, sweep_done}
use Rattle.sweeping.proofs.sweep.Goals as goal

pub returns-in_err-names : goal.returns-in_err-names
returns-in_err-names c =
    let e : c.from_residual.result ≡ Err c.in_err-names.field-0.0 = grind arith in
    rw e (sweep_refused_law _ _ _ (sym c.in_err-names.was ∙ c.read_state.ensures))

pub slice_bounds-root-count : goal.slice_bounds-root-count
slice_bounds-root-count c =
    let r = read_root _ _ _ (λ i. omega (arith, c.type_inv.state i)) (sym c.in_ok-names.was ∙ c.read_state.ensures) in
    root_long r.root

pub slice_bounds-root-start : goal.slice_bounds-root-start
slice_bounds-root-start c =
    let r = read_root _ _ _ (λ i. omega (arith, c.type_inv.state i)) (sym c.in_ok-names.was ∙ c.read_state.ensures) in
    root_long r.root

pub count_names-requires-clause-spelled_list : goal.count_names-requires-clause-spelled_list
count_names-requires-clause-spelled_list c =
    let r = read_root _ _ _ (λ i. omega (arith, c.type_inv.state i)) (sym c.in_ok-names.was ∙ c.read_state.ensures) in
    root_list_law r.root

pub list_left-n-requires : goal.list_left-n-requires
list_left-n-requires c =
    let r = read_root _ _ _ (λ i. omega (arith, c.type_inv.state i)) (sym c.in_ok-names.was ∙ c.read_state.ensures) in
    root_list_law r.root

pub overflow_add-n : goal.overflow_add-n
overflow_add-n c =
    let r = read_root _ _ _ (λ i. omega (arith, c.type_inv.state i)) (sym c.in_ok-names.was ∙ c.read_state.ensures) in
    omega (arith, swept_short r c.count_names.new.table _ (c.list_left-n.ensures r.root.tree (root_spells r.root)))

pub returns-then-not-fits : goal.returns-then-not-fits
returns-then-not-fits c =
    let r = read_root _ _ _ (λ i. omega (arith, c.type_inv.state i)) (sym c.in_ok-names.was ∙ c.read_state.ensures) in
    sweep_full r _ (c.count_names.ensures r.root.tree (root_bytes r.root)) _ (c.list_left-n.ensures r.root.tree (root_spells r.root)) _ (sym c.fits.ensures ∙ c.if-not-fits.true)

pub start_state-requires-clause-in_bounds : goal.start_state-requires-clause-in_bounds
start_state-requires-clause-in_bounds c =
    let r = read_root _ _ _ (λ i. omega (arith, c.type_inv.state i)) (sym c.in_ok-names.was ∙ c.read_state.ensures) in
    omega (arith, fits_within byte_limit _ _ (sym c.fits.ensures ∙ c.if-not-fits.false))

pub start_state-requires-clause-n_bound : goal.start_state-requires-clause-n_bound
start_state-requires-clause-n_bound c =
    let r = read_root _ _ _ (λ i. omega (arith, c.type_inv.state i)) (sym c.in_ok-names.was ∙ c.read_state.ensures) in
    let few = root_few r in
    (omega (arith, swept_short r c.count_names.new.table _ (c.list_left-n.ensures r.root.tree (root_spells r.root))), few.0, few.1)

pub sweep_list-requires : goal.sweep_list-requires
sweep_list-requires c =
    let r = read_root _ _ _ (λ i. omega (arith, c.type_inv.state i)) (sym c.in_ok-names.was ∙ c.read_state.ensures) in
    let o = c.start_state.new.out in
    record {
      tree = r.root.tree;
      spells = root_spells r.root;
      fits = omega (arith, (c.list_left-n.ensures r.root.tree (root_spells r.root)), fits_within byte_limit _ _ (sym c.fits.ensures ∙ c.if-not-fits.false), c.start_state.auto.out, length_part 7 o);
      short = (root_list_law r.root).short;
    }

pub overflow_add-result : goal.overflow_add-result
overflow_add-result c =
    let r = read_root _ _ _ (λ i. omega (arith, c.type_inv.state i)) (sym c.in_ok-names.was ∙ c.read_state.ensures) in
    omega (arith, swept_short r c.count_names.new.table _ (c.list_left-n.ensures r.root.tree (root_spells r.root)))

pub returns : goal.returns
returns c =
    let r = read_root _ _ _ (λ i. omega (arith, c.type_inv.state i)) (sym c.in_ok-names.was ∙ c.read_state.ensures) in
    sweep_done r _ (c.count_names.ensures r.root.tree (root_bytes r.root)) _ (c.list_left-n.ensures r.root.tree (root_spells r.root)) (sym c.fits.ensures ∙ c.if-not-fits.false)
    (state_behind _ _ _ (c.list_left-n.ensures r.root.tree (root_spells r.root)) c.start_state.ensures (c.sweep_list.ensures r.root.tree (root_spells r.root)))
