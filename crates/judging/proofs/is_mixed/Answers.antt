-- The answers for `is_mixed`: opening after opening, with a set for each use.
use mathlib.Core.Path.{refl, sym, ◌∙◌}
use native.Mathlib.Omega.{arith}
use Rattle.layouts.proofs.Openings.{opening_here}
use Rattle.judging.proofs.Judging.{judge_first, judged_within, judged_box, judged_channel, judge_on, judge_over}
use Rattle.judging.proofs.is_mixed.Goals.{then-note-via-then-note, then-note-via-else-note+then-note-2}
use Rattle.judging.proofs.is_mixed.Goals as goal

pub loop-at-init : goal.loop-at-init
loop-at-init c = record { boxes_len = c.put.auto.names; channels_len = refl; judged = λ P e. judge_first _ P e _ c.put.ensures }

pub written_in-written-requires : goal.written_in-written-requires
written_in-written-requires c = let p = c.requires in opening_here (c.loop-at.invariant.judged p.process p.spelled).left c.loop-at-test.true

pub returns-then-note : goal.returns-then-note
returns-then-note c F P e i f =
    let g = c.loop-at.invariant.judged P e in
    let h = c.loop-at-test.true in
    let w = c.written_in-written.result in
    let r = c.written_in-written.ensures in
    elim c.then-note.branch [
      | then-note-via-then-note v ↦ judged_box _ P g h w r F i f (sym v.if-note.true ∙ c.note.ensures.0)
      | then-note-via-else-note+then-note-2 v ↦ judged_channel _ P g h w r (sym v.if-note.false ∙ c.note.ensures.0) _ c.note.ensures.1 F i f (sym v.if-note-2.true ∙ v.note-else-note.ensures.0)
    ]

pub overflow_add-at : goal.overflow_add-at
overflow_add-at c =
    let p = c.requires in
    let w = judged_within _ p.process (c.loop-at.invariant.judged p.process p.spelled) c.loop-at-test.true _ c.written_in-written.ensures in
    record { fits = omega (arith, w, p.short) }

pub loop-at-smaller : goal.loop-at-smaller
loop-at-smaller c =
    let p = c.requires in
    let w = judged_within _ p.process (c.loop-at.invariant.judged p.process p.spelled) c.loop-at-test.true _ c.written_in-written.ensures in
    omega (arith, w)

pub loop-at-preserved : goal.loop-at-preserved
loop-at-preserved c = record {
  boxes_len = c.note.auto.own ∙ c.loop-at.invariant.boxes_len;
  channels_len = c.note-else-note.auto.own ∙ c.loop-at.invariant.channels_len;
  judged = λ P e.
      judge_on _ P (c.loop-at.invariant.judged P e) c.loop-at-test.true _ c.written_in-written.ensures (sym c.if-note.false ∙ c.note.ensures.0) _ c.note.ensures.1 _ c.note-else-note.ensures.1
      (sym c.if-note-2.false ∙ c.note-else-note.ensures.0);
}

pub returns : goal.returns
returns c F P e i f = judge_over _ P (c.loop-at.invariant.judged P e) c.loop-at-test.false F i f
