-- The answers for `tally_in`: one element, and what is told of the others.
use Rattle.std.proofs.Common.{ap, sym, ◌∙◌, arith}
use Rattle.elements.proofs.Each.{element_listed}
use Rattle.tallying.specs.declared.Tally.{Tally}
use Rattle.tallying.specs.Numbers.{tally_of}
use Rattle.tallying.proofs.Loops.{set_out, all_told, adds_wanted, adds_none, in_none, in_on, in_settled}
use Rattle.tallying.proofs.Wants.{none_yet}
use Rattle.looking.proofs.tally_in.Goals.{then-is_wanted+else-is_settled, else-is_wanted}
use Rattle.looking.proofs.tally_in.Goals as goal

pub loop-element-init : goal.loop-element-init
loop-element-init c = record {
  few = omega arith;
  told = set_out _ c.args.start (ap (λ it. it.rest.now) c.into_iter-element-iterator.ensures.into_iter_gives ∙ c.elements_of-element-items.ensures) none_yet;
}

pub is_wanted-requires-clause-spelled_list : goal.is_wanted-requires-clause-spelled_list
is_wanted-requires-clause-spelled_list c = element_listed c.loop-element.iterator.0 c.in-Some.ensures.steps

pub returns-then-is_settled : goal.returns-then-is_settled
returns-then-is_settled c w A k p =
    sym
    (in_settled _ _ c.loop-element.invariant.told c.in-Some.ensures.steps
    (adds_wanted _ _ _ _ c.is_wanted.ensures c.if-is_wanted.true c.note-tally.ensures.0)
    (sym c.is_settled.ensures ∙ c.if-is_settled.true) A p (w, k))

pub loop-element-preserved : goal.loop-element-preserved
loop-element-preserved c =
    let i = c.loop-element.invariant in
    let g = c.in-Some.ensures.steps in
    let d = c.is_wanted.ensures in
    record {
      few = elim c.if-is_wanted.branch [
        | then-is_wanted+else-is_settled w ↦ omega (arith, ap (λ (t : Tally). t.number) w.tally-is, w.note-tally.ensures.1, i.few, g.long)
        | else-is_wanted w ↦ omega (arith, ap (λ (t : Tally). t.number) w.tally-is, i.few)
      ];
      told = in_on _ _ i.told g
          (elim c.if-is_wanted.branch [
            | then-is_wanted+else-is_settled w ↦ adds_wanted _ _ _ _ d w.if-is_wanted.true (ap tally_of w.tally-is ∙ w.note-tally.ensures.0)
            | else-is_wanted w ↦ adds_none _ _ _ _ d w.if-is_wanted.false (ap tally_of w.tally-is)
          ]);
    }

pub returns : goal.returns
returns c w A k p = sym (all_told _ c.loop-element.invariant.told (in_none _ _) c.in-None.ensures.steps A p (w, k))
