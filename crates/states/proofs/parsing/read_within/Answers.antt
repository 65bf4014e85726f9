-- The answers for `read_within`: parsed, and then without a blocked pair.
use mathlib.Core.Path.{◌≡◌, sym, ◌∙◌}
use native.Mathlib.Omega.{arith}
use Rattle.std.specs.Prelude.{Err}
use Rattle.states.proofs.Root.{parsed_names, root_long, root_list_law, root_short, root_spells, parse_refused, root_paired, root_unpaired}
use Rattle.states.proofs.parsing.read_within.Goals as goal

pub returns-in_err-names : goal.returns-in_err-names
returns-in_err-names c =
    let e : c.from_residual.result ≡ Err c.in_err-names.field-0.0 = grind arith in
    e ∙ parse_refused _ _ _ (sym c.in_err-names.was ∙ c.parse_state.ensures)

pub slice_bounds-paired-count : goal.slice_bounds-paired-count
slice_bounds-paired-count c =
    root_long (parsed_names _ _ _ (λ i. omega (arith, c.type_inv.s i)) c.in_ok-names.was c.parse_state.ensures).root

pub slice_bounds-paired-start : goal.slice_bounds-paired-start
slice_bounds-paired-start c =
    root_long (parsed_names _ _ _ (λ i. omega (arith, c.type_inv.s i)) c.in_ok-names.was c.parse_state.ensures).root

pub paired-requires-clause-spelled_list : goal.paired-requires-clause-spelled_list
paired-requires-clause-spelled_list c =
    root_list_law (parsed_names _ _ _ (λ i. omega (arith, c.type_inv.s i)) c.in_ok-names.was c.parse_state.ensures).root

pub paired-requires-clause-list_len_bound : goal.paired-requires-clause-list_len_bound
paired-requires-clause-list_len_bound c =
    root_short (parsed_names _ _ _ (λ i. omega (arith, c.type_inv.s i)) c.in_ok-names.was c.parse_state.ensures).root

pub returns-then-paired : goal.returns-then-paired
returns-then-paired c =
    let r = parsed_names _ _ _ (λ i. omega (arith, c.type_inv.s i)) c.in_ok-names.was c.parse_state.ensures in
    root_paired r _ (c.paired.ensures r.root.tree (root_spells r.root)) c.if-paired.true

pub returns : goal.returns
returns c =
    let r = parsed_names _ _ _ (λ i. omega (arith, c.type_inv.s i)) c.in_ok-names.was c.parse_state.ensures in
    root_unpaired r _ (c.paired.ensures r.root.tree (root_spells r.root)) c.if-paired.false
