-- `nested`: how deep ambients nest in the ambient.
use Rattle.measuring.proofs.Contents.{contents_below}
use Rattle.measuring.proofs.nested.Goals as goal

pub returns : goal.returns
returns c = (λ h. c.nesting_depth.ensures.0 h.inside (c.contents_end-end.ensures.held h), contents_below c.contents_end-end.ensures _ c.nesting_depth.ensures.1)
