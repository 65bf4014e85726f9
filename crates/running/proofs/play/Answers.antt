-- The answers for `play`.
use mathlib.Core.Path.{◌≡◌, refl, sym, ap, ◌∙◌}
use mathlib.Core.List.{List, ◌++◌}
use Prim.Native.Nat.{ℕ, ◌-◌, ◌≤◌}
use native.Mathlib.Omega.{arith}
use lib.ListN.{length, take, drop, length-take}
use lib.Seq.{length-take-le}
use Rattle.std.specs.Prelude.{None}
use Rattle.machine.specs.Elements.{State}
use Rattle.buffers.specs.Buffers.{overlay, Answered}
use Rattle.buffers.proofs.Answers.{answered_as}
use Rattle.runs.specs.Turns.{turn}
use Rattle.advancing.specs.Answers.{Present}
use Rattle.advancing.proofs.Admitting.{copied_front, copied_length}
use Rattle.running.specs.declared.Progress.{Progress}
use Rattle.running.specs.Answers.{record_after}
use Rattle.running.proofs.Stages.{Stands, first_stage, Onward, here_turn, ended_stage, next_stage, part_written, part_length}
use Rattle.running.proofs.play.Goals as goal

-- what a turn made of the record and of the buffer for the next state
recorded : {room budget : ℕ} {S : State} {r r' : Progress} {present : List ℕ} (next : List ℕ) {after : List ℕ} (s : Stands room budget S r present) → room ≤ length next
    → ((S : State) → Present (take r.length present) S → Answered (record_after r) (turn (length (take room next)) (budget - r.count) S) (take room next) r' after)
    → Answered (record_after r) (here_turn s) (take room next) r' after
recorded {room} {budget} {r = r} next s h f = answered_as (record_after r) (ap (λ (n : ℕ). turn n (budget - r.count) s.at) (sym (length-take-le room next h))) (f s.at s.here)

-- where it goes on
gone : {room budget : ℕ} {S : State} {r r' : Progress} {present : List ℕ} (next : List ℕ) {after : List ℕ} (s : Stands room budget S r present) → room ≤ length next
    → ((S : State) → Present (take r.length present) S → Answered (record_after r) (turn (length (take room next)) (budget - r.count) S) (take room next) r' after)
    → r'.ending ≡ None → Onward room budget S r (take room next) r' after
gone next s h f = next_stage s (recorded next s h f)

pub loop-reached-init : goal.loop-reached-init
loop-reached-init c = record {
  counted = omega arith;
  fits = c.requires.present_len.2;
  present_long = c.requires.present_len.0;
  next_long = refl;
  stands = λ S p. first_stage _ _ _ S _ p;
}

pub returns-in-Some : goal.returns-in-Some
returns-in-Some c S p =
    let i = c.loop-reached.invariant in
    let s = i.stands S p in
    ended_stage s _ (recorded c.loop-reached.next s (omega (arith, c.requires.present_len.3, i.next_long)) c.next-reached.ensures) c.in-Some.is i.fits (omega (arith, i.fits, i.present_long, c.requires.present_len.3))

pub slice_bounds-next-end-in-loop-reached-4 : goal.slice_bounds-next-end-in-loop-reached-4
slice_bounds-next-end-in-loop-reached-4 c =
    let i = c.loop-reached.invariant in
    let p = c.requires.spells_admitted in
    let o = gone c.loop-reached.next (i.stands p.tree p.present) (omega (arith, c.requires.present_len.3, i.next_long)) c.next-reached.ensures c.in_default.is in
    omega (arith, o.long, o.small, c.type_inv.next)

pub slice_bounds-copy-end : goal.slice_bounds-copy-end
slice_bounds-copy-end c =
    let i = c.loop-reached.invariant in
    let p = c.requires.spells_admitted in
    let h : c.args.room ≤ length c.loop-reached.next = omega (arith, c.requires.present_len.3, i.next_long) in
    let o = gone c.loop-reached.next (i.stands p.tree p.present) h c.next-reached.ensures c.in_default.is in
    omega (arith, o.long, o.small, part_length o.new _ _ _ o.wrote o.fits h, i.next_long, length-take c.next-reached.result.length (c.next-reached.new.next ++ drop c.args.room c.loop-reached.next))

pub loop-reached-smaller : goal.loop-reached-smaller
loop-reached-smaller c =
    let i = c.loop-reached.invariant in
    let p = c.requires.spells_admitted in
    let o = gone c.loop-reached.next (i.stands p.tree p.present) (omega (arith, c.requires.present_len.3, i.next_long)) c.next-reached.ensures c.in_default.is in
    omega (arith, o.count, o.less)

-- the copy back to the buffer for the present state
copied : {room budget : ℕ} {S : State} {r r' : Progress} (present next : List ℕ) {after last : List ℕ} (o : Onward room budget S r (take room next) r' after)
    → last ≡ overlay (take r'.length (after ++ drop room next)) present → last ≡ overlay o.new present
copied {room} present next o e = e ∙ ap (λ (x : List ℕ). overlay x present) (part_written o.new next _ room _ o.wrote o.long)

pub loop-reached-preserved : goal.loop-reached-preserved
loop-reached-preserved c =
    let i = c.loop-reached.invariant in
    let p = c.requires.spells_admitted in
    let h : c.args.room ≤ length c.loop-reached.next = omega (arith, c.requires.present_len.3, i.next_long) in
    let o = gone c.loop-reached.next (i.stands p.tree p.present) h c.next-reached.ensures c.in_default.is in
    record {
      counted = omega (arith, o.count, o.less);
      fits = omega (arith, o.long, o.fits);
      present_long = copied_length o.new _ _ (omega (arith, o.small, i.present_long)) (copied c.loop-reached.present c.loop-reached.next o c.copy.ensures) ∙ i.present_long;
      next_long = part_length o.new _ _ _ o.wrote o.fits h ∙ i.next_long;
      stands = λ S q.
          let w = gone c.loop-reached.next (i.stands S q) h c.next-reached.ensures c.in_default.is in
          w.stands _ (copied_front w.new _ _ (omega (arith, w.small, i.present_long)) (copied c.loop-reached.present c.loop-reached.next w c.copy.ensures));
    }
