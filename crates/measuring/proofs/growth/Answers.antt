-- `growth`: three bytes for each blocked action that is counted in the ambient.
use Rattle.std.proofs.Common.{ap, ℕ, ◌*◌}
use Rattle.measuring.proofs.Contents.{contents_below}
use Rattle.measuring.proofs.growth.Goals as goal

pub returns : goal.returns
returns c =
    (λ h. ap (λ (k : ℕ). 3 * k) (c.blocked_count.ensures.0 h.inside (c.contents_end-end.ensures.held h)), contents_below c.contents_end-end.ensures _ c.blocked_count.ensures.1)
