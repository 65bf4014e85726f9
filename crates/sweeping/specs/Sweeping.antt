-- Sweeping a state in bytes (document 02, request 5).
use Rattle.std.specs.Prelude.{List, ℕ}
use Rattle.machine.specs.Limits.{byte_limit}
use Rattle.machine.specs.Elements.{State}
use Rattle.format.specs.Reading.{Outcome, refused, got}
use Rattle.elements.specs.Spelling.{encode_state}
use Rattle.states.specs.Reading.{read_state}
use Rattle.buffers.specs.Buffers.{Written, kept, fitting}
use Rattle.removals.specs.Sweeping.{sweep_state}

unfoldable pub sweep_read : (room : ℕ) → Outcome State → Written ℕ (Unit {0})
sweep_read room (refused k) = kept k
sweep_read room (got S n) = fitting byte_limit room tt (encode_state (sweep_state S))

-- The swept state of a state's bytes for an output buffer of so many bytes: refusals 1 to 7 and 14, then 13.
unfoldable pub sweep_bytes : List ℕ → (room : ℕ) → Written ℕ (Unit {0})
sweep_bytes bytes room = sweep_read room (read_state bytes)
