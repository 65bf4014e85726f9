-- The answers for `tally_among`: an ambient that is looked into, and what is told of the others.
use Rattle.std.proofs.Common.{refl, ap, sym, ◌∙◌, arith}
use Rattle.buffers.proofs.Parts.{length_part}
use Rattle.elements.proofs.Each.{element_listed, contents_listed}
use Rattle.tallying.specs.declared.Tally.{Tally}
use Rattle.tallying.specs.Numbers.{tally_of}
use Rattle.tallying.proofs.Loops.{set_out, all_told, adds_wanted, adds_none, in_none, in_on, in_settled, among_none, among_past, among_on, among_settled}
use Rattle.tallying.proofs.Wants.{none_yet}
use Rattle.looking.proofs.tally_among.Goals.{then-is_wanted+else-is_settled, else-is_wanted, then-is_opened+in-None-inside, else-is_opened}
use Rattle.looking.proofs.tally_among.Goals as goal

pub search-init : goal.search-init
search-init c = record {
  few = omega arith;
  told = set_out _ c.args.start (ap (λ it. it.rest.now) c.into_iter-element-iterator.ensures.into_iter_gives ∙ c.elements_of-element-items.ensures) none_yet;
}

pub is_opened-requires-clause-spelled_list : goal.is_opened-requires-clause-spelled_list
is_opened-requires-clause-spelled_list c = element_listed c.search.iterator.0 c.in-Some.ensures.steps

pub slice_bounds-elements_of-count : goal.slice_bounds-elements_of-count
slice_bounds-elements_of-count c = (contents_listed c.search.iterator.0 c.in-Some.ensures.steps (c.is_opened.ensures.1 c.if-is_opened.true)).0

pub slice_bounds-elements_of-start : goal.slice_bounds-elements_of-start
slice_bounds-elements_of-start c = (contents_listed c.search.iterator.0 c.in-Some.ensures.steps (c.is_opened.ensures.1 c.if-is_opened.true)).0

pub loop-inside-init : goal.loop-inside-init
loop-inside-init c = record {
  few = omega (arith, c.search.invariant.few);
  told = set_out _ _ (ap (λ it. it.rest.now) c.into_iter-inside-iterator.ensures.into_iter_gives ∙ c.elements_of-inside-items.ensures) refl;
}

pub loop-inside-init-derived : goal.loop-inside-init-derived
loop-inside-init-derived c =
    (rw (ap (λ it. it.rest.now) c.into_iter-inside-iterator.ensures.into_iter_gives ∙ c.elements_of-inside-items.ensures) (contents_listed c.search.iterator.0 c.in-Some.ensures.steps (c.is_opened.ensures.1 c.if-is_opened.true)).1, tt)

pub is_wanted-requires-clause-spelled_list : goal.is_wanted-requires-clause-spelled_list
is_wanted-requires-clause-spelled_list c = element_listed c.loop-inside.iterator.0 c.in-Some-inside.ensures.steps

pub loop-inside-preserved : goal.loop-inside-preserved
loop-inside-preserved c =
    let i = c.loop-inside.invariant in
    let g = c.in-Some-inside.ensures.steps in
    let d = c.is_wanted.ensures in
    record {
      few = elim c.if-is_wanted.branch [
        | then-is_wanted+else-is_settled w ↦ omega (arith, ap (λ (t : Tally). t.number) w.tally-is, w.note-tally.ensures.1, i.few, g.long)
        | else-is_wanted w ↦ omega (arith, ap (λ (t : Tally). t.number) w.tally-is, i.few)
      ];
      told = in_on _ _ i.told g
          (elim c.if-is_wanted.branch [
            | then-is_wanted+else-is_settled w ↦ adds_wanted _ _ _ _ d w.if-is_wanted.true (ap tally_of w.tally-is ∙ w.note-tally.ensures.0)
            | else-is_wanted w ↦ adds_none _ _ _ _ d w.if-is_wanted.false (ap tally_of w.tally-is)
          ]);
    }

pub search-preserved : goal.search-preserved
search-preserved c =
    let i = c.search.invariant in
    let g = c.in-Some.ensures.steps in
    let d = c.is_opened.ensures in
    record {
      few = elim c.if-is_opened.branch [
        | then-is_opened+in-None-inside w ↦ omega (
          arith,
          ap (λ (t : Tally). t.number) w.tally-is,
          w.loop-inside.invariant.few,
          w.loop-inside.invariant.told.offset,
          length_part 5 c.in-Some.element.now,
          (contents_listed c.search.iterator.0 g (d.1 w.if-is_opened.true)).0,
        )
        | else-is_opened w ↦ omega (arith, ap (λ (t : Tally). t.number) w.tally-is, i.few)
      ];
      told = elim c.if-is_opened.branch [
        | then-is_opened+in-None-inside w ↦ among_on _ _ _ _ i.told g d.0 w.if-is_opened.true (d.1 w.if-is_opened.true) _
            (λ B p j. all_told _ w.loop-inside.invariant.told (in_none _ _) w.in-None-inside.ensures.steps B p j ∙ ap tally_of (sym w.tally-is))
        | else-is_opened w ↦ among_past _ _ _ _ i.told g d.0 w.if-is_opened.false (ap tally_of (sym w.tally-is))
      ];
    }

pub returns-in-None : goal.returns-in-None
returns-in-None c w n A k e m p = sym (all_told _ c.search.invariant.told (among_none _ _ _ _) c.in-None.ensures.steps A p (w, n, k, e, m))

pub returns-then-is_settled : goal.returns-then-is_settled
returns-then-is_settled c w n A k e m p =
    let d = c.is_opened.ensures in
    let z = c.if-is_opened.true in
    let q = sym c.is_settled.ensures ∙ c.if-is_settled.true in
    sym
    (among_settled _ _ _ _ c.search.invariant.told c.in-Some.ensures.steps d.0 z (d.1 z) _
    (in_settled _ _ c.loop-inside.invariant.told c.in-Some-inside.ensures.steps
    (adds_wanted _ _ _ _ c.is_wanted.ensures c.if-is_wanted.true c.note-tally.ensures.0) q)
    q A p (w, n, k, e, m))
