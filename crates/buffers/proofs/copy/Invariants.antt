-- `copy`: after i turns the first i bytes are copied.
use mathlib.Core.Path.{◌≡◌}
use mathlib.Core.List.{◌++◌}
use lib.ListN.{length, take, drop}
use Rattle.buffers.proofs.copy.Given as goal

abbrev pub invariant-loop-i : goal.invariant-loop-i
invariant-loop-i l = record {
  copied : l.out ≡ take l.i l.fn.from ++ drop l.i l.fn.out;
  long : length l.out ≡ length l.fn.out;
}
