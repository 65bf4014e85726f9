-- The step in bytes: the number that refuses it, or the rule and the bytes of the state after it (document 01, "The step").
use Rattle.std.specs.Prelude.{List, ℕ}
use Rattle.machine.specs.Limits.{byte_limit}
use Rattle.machine.specs.Elements.{State}
use Rattle.machine.specs.Stepping.{Answer, refused as refused_step, accepted, step}
use Rattle.format.specs.Reading.{Outcome, refused, got}
use Rattle.elements.specs.Spelling.{encode_state}
use Rattle.states.specs.Reading.{read_state}
use Rattle.buffers.specs.Buffers.{Written, kept, fitting}
use Rattle.machine.specs.Lowest.{partner_of}

-- Refusals 8 to 12, then 13.
unfoldable pub stepped : ℕ → Answer → Written ℕ ℕ
stepped room (refused_step k) = kept k
stepped room (accepted n S) = fitting byte_limit room n (encode_state S)

-- Refusals 1 to 7 and 14, then the step.
unfoldable pub step_read : ℕ → ℕ → ℕ → Outcome State → Written ℕ ℕ
step_read p q room (refused k) = kept k
step_read p q room (got S n) = stepped room (step S p (partner_of q))

-- The step of a state's bytes at the place p with the partner q, for an output buffer of so many bytes.
unfoldable pub step_bytes : List ℕ → ℕ → ℕ → ℕ → Written ℕ ℕ
step_bytes bytes p q room = step_read p q room (read_state bytes)
