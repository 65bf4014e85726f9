-- The answers for `perform`: refused with 13, or written.
use mathlib.Core.Path.{sym, ap, ◌∙◌}
use native.Mathlib.Omega.{arith}
use lib.ListN.{length}
use Rattle.machine.specs.Limits.{byte_limit}
use Rattle.machine.specs.Elements.{Elements, state}
use Rattle.elements.specs.Spelling.{encode_elements, encode_state}
use Rattle.buffers.proofs.Answers.{fits_within}
use Rattle.buffers.proofs.Appending.{left_is}
use Rattle.performing.proofs.Moves.{full, done, drawn_long, drawn_named, drawn_ends}
use Rattle.performing.proofs.perform.Goals as goal

pub returns-then-not-fits : goal.returns-then-not-fits
returns-then-not-fits c F N L L' p d = full c.args.m.rule _ c.args.out.now (drawn_long F c.args.m.names d) (sym c.fits.ensures ∙ c.if-not-fits.true)

pub slice_bounds-write_result-end : goal.slice_bounds-write_result-end
slice_bounds-write_result-end c = drawn_ends c.requires.spells c.requires.drawn

pub write_result-requires-clause-replanting : goal.write_result-requires-clause-replanting
write_result-requires-clause-replanting c =
    let p = c.requires in
    let d = p.drawn in
    let e = ap (λ (A : Elements). length (encode_elements A)) d.edited in
    let w = fits_within byte_limit _ _ (sym c.fits.ensures ∙ c.if-not-fits.false) in
    record {
      handed = d.handed;
      named = drawn_named p.spells d;
      free = p.free;
      names = p.names;
      tree = p.tree;
      spells = p.spells;
      short = p.short;
      suits = d.naming.suits;
      moved = d.moved;
      sets = d.sets;
      within = omega (arith, e, d.within);
      fits = omega (arith, e, d.measured, w.1);
      small = omega (arith, e, d.measured, w.0);
    }

pub returns : goal.returns
returns c F N L L' p d =
    done c.args.m.rule _ c.args.out.now (drawn_long F c.args.m.names d) (sym c.fits.ensures ∙ c.if-not-fits.false)
    (left_is (ap (λ (A : Elements). encode_state (state F c.args.m.names A)) d.edited) (c.write_result.ensures F N L d.moved d.handed p (drawn_named p d) d.naming.suits d.sets))
