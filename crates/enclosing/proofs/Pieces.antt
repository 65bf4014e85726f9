-- How long the pieces are.
use mathlib.Core.List.{List}
use Prim.Native.Nat.{ℕ, ◌+◌}
use native.Mathlib.Omega.{arith}
use lib.ListN.{length}
use Rattle.buffers.specs.Words.{word, field}
use Rattle.buffers.specs.Buffers.{Left}
use Rattle.elements.specs.Spelling.{state_front}
use Rattle.enclosing.specs.Pieces.{loaded_bytes}

pub loaded_counted : {out last : List ℕ} {n : ℕ} (F : ℕ) (process : List ℕ) → Left (loaded_bytes F process) out last n → Left (loaded_bytes F process) out last (15 + length process)
unfolding state_front field word
loaded_counted F process l = record { written = l.written; count = omega arith }
