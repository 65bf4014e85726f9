-- The answer for `is_shallow`: a short process is not too deep.
use mathlib.Core.Path.{sym, ap}
use Prim.Native.Nat.{◌+◌}
use borrow.Author.Tests.{lt-ltb}
use native.Mathlib.Omega.{arith}
use lib.ListN.{length}
use Rattle.machine.specs.Limits.{state_depth_limit}
use Rattle.machine.specs.Elements.{depth}
use Rattle.measuring.proofs.Depths.{depth_small}
use Rattle.alone.proofs.is_shallow.Goals as goal

pub returns-then-process-from : goal.returns-then-process-from
returns-then-process-from c P e k = sym (lt-ltb (depth P + 1) state_depth_limit (omega (arith, ap length e, depth_small P)))
