-- The answers for `tell_steps`.
use mathlib.Core.Path.{sym, ◌∙◌}
use native.Mathlib.Omega.{arith}
use lib.Seq.{length-take-le}
use Rattle.lines.proofs.Partners.{turn_is_step}
use Rattle.telling.proofs.Telling.{turn_ends, other_is, turn_goes, line_told, piece_full, piece_last}
use Rattle.telling.proofs.tell_steps.Goals as goal

pub returns-in-Err : goal.returns-in-Err
returns-in-Err c =
    let i = c.loop-text.invariant in
    let e = turn_ends i.telling.stands i.buffer c.take_turn.ensures c.in-Err.is in
    piece_last i.telling _ e (rw c.weight_of-weight.ensures at c.append_last.ensures)

pub slice_bounds-next-end : goal.slice_bounds-next-end
slice_bounds-next-end c =
    let i = c.loop-text.invariant in
    (turn_goes i.telling.stands i.buffer c.take_turn.ensures c.in-Ok.is).held

pub slice_bounds-copy-end : goal.slice_bounds-copy-end
slice_bounds-copy-end c =
    let i = c.loop-text.invariant in
    sym (length-take-le _ _ (turn_goes i.telling.stands i.buffer c.take_turn.ensures c.in-Ok.is).held)

pub loop-text-smaller : goal.loop-text-smaller
loop-text-smaller c =
    let i = c.loop-text.invariant in
    omega (arith, (turn_goes i.telling.stands i.buffer c.take_turn.ensures c.in-Ok.is).less)

pub loop-text-preserved : goal.loop-text-preserved
loop-text-preserved c =
    let i = c.loop-text.invariant in
    let t = turn_goes i.telling.stands i.buffer c.take_turn.ensures c.in-Ok.is in
    let o = other_is i.telling.stands i.buffer c.take_turn.ensures c.in-Ok.is in
    let a = c.append_step-at.ensures in
    record {
      telling = line_told i.telling t c.copy.ensures (rw (turn_is_step c.in-Ok.turn _ o) at a.1) a.0;
      buffer = c.take_turn.auto.out ∙ i.buffer;
      long = c.append_step-at.auto.text ∙ i.long;
    }

pub returns : goal.returns
returns c =
    let i = c.loop-text.invariant in
    piece_full i.telling i.long c.requires.1 (omega (arith, c.loop-text-test.false))
