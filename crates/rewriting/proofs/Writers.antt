-- What the writers of single pieces leave at the front of a buffer.
use mathlib.Core.Path.{◌≡◌, sym}
use mathlib.Core.List.{List}
use Prim.Native.Nat.{ℕ}
use Rattle.buffers.specs.Buffers.{Left}
use Rattle.buffers.proofs.Appending.{left_is}

-- the same bytes, said otherwise
pub left_as : {new same old last : List ℕ} {n : ℕ} → same ≡ new → Left new old last n → Left same old last n
left_as e l = left_is (sym e) l
