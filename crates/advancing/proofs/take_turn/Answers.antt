-- The answers for `take_turn`: the choice, and where there is one and budget is left, its move.
use mathlib.Core.Path.{◌≡◌}
use native.Mathlib.Omega.{arith}
use Rattle.std.specs.Prelude.{Some, None, Err}
use Rattle.advancing.specs.declared.Ending.TheVariants.{Blocked, Limit}
use Rattle.advancing.proofs.Turning.{present_long, present_chooses, turned_blocked, turned_spent, turned_limit, present_performs, turned_performed}
use Rattle.advancing.proofs.take_turn.Goals as goal

pub slice_bounds-root-count : goal.slice_bounds-root-count
slice_bounds-root-count c = present_long c.requires.tree c.requires.present

pub slice_bounds-root-start : goal.slice_bounds-root-start
slice_bounds-root-start c = present_long c.requires.tree c.requires.present

pub choose_lowest-requires : goal.choose_lowest-requires
choose_lowest-requires c = present_chooses c.requires.tree c.requires.present c.word-names.ensures.0

pub returns-in_err-next : goal.returns-in_err-next
returns-in_err-next c S h =
    let n : c.choose_lowest.result ≡ None = grind arith in
    let e : c.from_residual.result ≡ Err Blocked = grind arith in
    rw e (turned_blocked _ c.word-names.ensures.0 _ _ n c.choose_lowest.ensures S h)

pub returns-then-spent : goal.returns-then-spent
returns-then-spent c S h =
    let n : c.choose_lowest.result ≡ Some c.in_ok-next.next = grind arith in
    turned_spent _ c.word-names.ensures.0 _ c.if-spent.true n c.choose_lowest.ensures S h

pub returns-in_err-m : goal.returns-in_err-m
returns-in_err-m c S h =
    let n : c.choose_lowest.result ≡ Some c.in_ok-next.next = grind arith in
    let e : c.from_residual-in_err-m.result ≡ Err (Limit c.in_err-m.field-0.0) = grind arith in
    rw e (turned_limit _ c.word-names.ensures.0 _ c.if-spent.false n c.in_err-m.was c.choose_lowest.ensures S h)

pub perform-requires : goal.perform-requires
perform-requires c =
    let n : c.choose_lowest.result ≡ Some c.in_ok-next.next = grind arith in
    present_performs _ c.word-names.ensures.0 n c.in_ok-m.was c.choose_lowest.ensures c.requires.tree c.requires.present

pub returns-in_err-step : goal.returns-in_err-step
returns-in_err-step c S h =
    let n : c.choose_lowest.result ≡ Some c.in_ok-next.next = grind arith in
    let e : c.from_residual-in_err-step.result ≡ Err (Limit c.in_err-step.field-0.0) = grind arith in
    rw e (rw c.in_err-step.was at (turned_performed _ c.word-names.ensures.0 n c.in_ok-m.was c.choose_lowest.ensures _ _ c.perform.ensures c.if-spent.false S h))

pub returns : goal.returns
returns c S h =
    let n : c.choose_lowest.result ≡ Some c.in_ok-next.next = grind arith in
    rw c.in_ok-step.was at (turned_performed _ c.word-names.ensures.0 n c.in_ok-m.was c.choose_lowest.ensures _ _ c.perform.ensures c.if-spent.false S h)
