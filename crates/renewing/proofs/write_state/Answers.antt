-- The answers for `write_state`: the root list as the plan changes it, and then the front of the state.
use native.Mathlib.Omega.{arith}
use Rattle.buffers.proofs.Parts.{length_part}
use Rattle.renewing.proofs.Renewing.{state_parts, root_spelled, state_left}
use Rattle.renewing.proofs.write_state.Goals as goal

pub slice_bounds-rewrite-count : goal.slice_bounds-rewrite-count
slice_bounds-rewrite-count c = omega (arith, (state_parts c.requires.renewing.spells).long)

pub slice_bounds-rewrite-start : goal.slice_bounds-rewrite-start
slice_bounds-rewrite-start c = omega (arith, (state_parts c.requires.renewing.spells).long)

pub rewrite-n-requires : goal.rewrite-n-requires
rewrite-n-requires c =
    let p = c.requires.renewing in
    record {
      handed = p.handed;
      named = p.named;
      tree = p.tree;
      spells = root_spelled p.spells;
      suits = p.suits;
      moved = p.moved;
      carries = p.carries;
      fits = omega (arith, p.fits, length_part 7 c.args.out.now);
      small = omega (arith, p.small);
      near = omega (arith, p.short, length_part 7 c.args.state.now);
    }

pub start_state-requires-clause-n_bound : goal.start_state-requires-clause-n_bound
start_state-requires-clause-n_bound c =
    let p = c.requires.renewing in
    let n = (c.rewrite-n.ensures p.handed p.tree p.moved p.named (root_spelled p.spells) p.suits p.carries).count in
    (omega (arith, n, p.small), c.word.ensures.1, c.requires.names_lt_word_limit)

pub overflow_add-result : goal.overflow_add-result
overflow_add-result c =
    let p = c.requires.renewing in
    omega (arith, p.small, (c.rewrite-n.ensures p.handed p.tree p.moved p.named (root_spelled p.spells) p.suits p.carries).count)

pub returns : goal.returns
returns c F N L Z ns p e n h =
    state_left p c.args.names _ c.args.out.now _ _ _ _ (omega (arith, c.requires.renewing.fits)) c.word.ensures.0 (c.rewrite-n.ensures ns L Z n (root_spelled p) h e) c.start_state.ensures
