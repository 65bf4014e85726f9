-- `copy`: as many bytes as both have are copied.
use mathlib.Core.Path.{◌≡◌, ◌∙◌}
use mathlib.Core.Logic.{⊎_map}
use native.Mathlib.Omega.{arith}
use Rattle.buffers.proofs.Writing.{copied}
use Rattle.buffers.proofs.copy.Goals as goal

pub returns : goal.returns
returns c =
    let m = c.least-n.ensures in
    let e : c.loop-i.i ≡ c.least-n.result = omega (arith, c.loop-i-test.false, c.loop-i.auto.i-end) in
    copied _ _ c.loop-i.i (omega (arith, e, m.0)) (omega (arith, e, m.1)) (⊎_map (λ q. e ∙ q) (λ q. e ∙ q) m.2) c.loop-i.invariant.copied
