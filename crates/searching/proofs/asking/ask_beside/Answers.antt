-- The answers for `ask_beside`: an action that goes to one ambient, or one whose answer has to name the holder.
use mathlib.Core.Path.{ap, ◌∙◌}
use native.Mathlib.Omega.{arith}
use Rattle.tallying.specs.Numbers.{wanted_by}
use Rattle.searching.proofs.Answers.{required, holder_below, beside_any, beside_one, outer_enclosed}
use Rattle.searching.proofs.asking.ask_beside.Goals.{in-None, in-Some}
use Rattle.searching.proofs.asking.ask_beside.Goals as goal

pub slice_bounds-word-count : goal.slice_bounds-word-count
slice_bounds-word-count c = omega (arith, holder_below (required c.requires.acting) c.requires.level_nonzero)

pub slice_bounds-word-start : goal.slice_bounds-word-start
slice_bounds-word-start c = omega (arith, holder_below (required c.requires.acting) c.requires.level_nonzero)

pub in_ambients-requires : goal.in_ambients-requires
in_ambients-requires c = outer_enclosed c.requires.acting c.requires.level_nonzero

pub returns : goal.returns
returns c L π s α P p e z k =
    elim c.match-action.branch [
      | in-None w ↦
          beside_any (record { spells = p; stands = e; spotted = z }) _ k c.requires.level_nonzero _ w.in-None.is _ w.word.ensures.0 _ (c.wanted-want.ensures ∙ ap (wanted_by c.args.action) w.holder-is)
          c.in_ambients.ensures
      | in-Some w ↦
          beside_one (record { spells = p; stands = e; spotted = z }) _ k c.requires.level_nonzero _ _ w.in-Some.is _ (c.wanted-want.ensures ∙ ap (wanted_by c.args.action) w.holder-is)
          c.in_ambients.ensures
    ]
