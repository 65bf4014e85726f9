-- The answers for `accepted_weight`: the weight of a state that is known to be accepted.
use native.Mathlib.Omega.{arith}
use Rattle.states.proofs.Root.{root_long, root_list_law, root_bytes}
use Rattle.weighing.proofs.Weighing.{weighable, weigh_read, root_weight_small}
use Rattle.weighing.proofs.accepted_weight.Goals as goal

pub slice_bounds-elements_weight-count : goal.slice_bounds-elements_weight-count
slice_bounds-elements_weight-count c = root_long (weighable _ c.requires (λ i. omega (arith, c.type_inv.s i))).whole.root

pub slice_bounds-elements_weight-start : goal.slice_bounds-elements_weight-start
slice_bounds-elements_weight-start c = root_long (weighable _ c.requires (λ i. omega (arith, c.type_inv.s i))).whole.root

pub elements_weight-requires : goal.elements_weight-requires
elements_weight-requires c = root_list_law (weighable _ c.requires (λ i. omega (arith, c.type_inv.s i))).whole.root

pub returns : goal.returns
returns c =
    let r = (weighable _ c.requires (λ i. omega (arith, c.type_inv.s i))).whole in
    (weigh_read r _ (c.elements_weight.ensures.0 r.root.tree (root_bytes r.root)), root_weight_small r.root _ c.elements_weight.ensures.1)
