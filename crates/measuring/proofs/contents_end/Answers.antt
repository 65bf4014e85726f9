-- `contents_end`: the end of the ambient, by its length.
use Rattle.std.proofs.Common.{arith}
use Rattle.measuring.proofs.Contents.{at_below, contents}
use Rattle.measuring.proofs.contents_end.Goals as goal

pub returns : goal.returns
returns c = contents c.requires _ c.word.ensures.0

pub slice_bounds-ambient-count : goal.slice_bounds-ambient-count
slice_bounds-ambient-count c = omega (arith, at_below c.requires)

pub slice_bounds-ambient-start : goal.slice_bounds-ambient-start
slice_bounds-ambient-start c = omega (arith, at_below c.requires)

pub overflow_add-result-2 : goal.overflow_add-result-2
overflow_add-result-2 c = omega (arith, c.word.ensures.1, at_below c.requires, c.requires.short)
