-- Reading jobs and states over plain lists of bytes, with document 01's refusals 1 to 7 and 14 of document 02. How elements are read is in `contents`.
use Rattle.std.specs.Prelude.{◌≡◌, List, ℕ, length, ltb, eqb}
use Rattle.machine.specs.Limits.{free_name_least, free_name_limit, name_limit, nesting_limit, job_depth_limit, byte_limit}
use Rattle.machine.specs.Elements.{unblocked, State, state}
use Rattle.format.specs.Reading.{Outcome, refused, got, map_outcome, and_then, open_field, read_field, read_process, read_count}
use Rattle.machine.specs.Tests.{pick}
use Rattle.elements.specs.Spelling.{Job, job}
use Rattle.machine.specs.Pairs.{blocked_pair}
pub use Rattle.contents.specs.Reading.{ElementShape, is_ambient, is_blocked_ambient, is_process, is_blocked_action}
unfoldable pub use Rattle.contents.specs.Reading.{open_element, element_shape, element_parts, read_element, read_up_to, read_elements, read_ambient}

-- What is read is the whole of the bytes (4).
unfoldable pub ends : {A : Type 0} → ℕ → Outcome A → Outcome A
ends size (refused k) = refused k
ends size (got a n) = pick (eqb n size) (got a n) (refused 4)

unfoldable pub job_body : List ℕ → Outcome Job
job_body body = and_then (read_count free_name_least free_name_limit body) body (λ F rest. map_outcome (job F) (read_process job_depth_limit F 0 rest))

unfoldable pub read_job : List ℕ → Outcome Job
read_job bytes =
    pick (ltb byte_limit (length bytes)) (refused 1)
    (ends (length bytes) (read_field (open_field 0x10 0x10 bytes) bytes (λ tag body. job_body body)))

-- The rest of a state's body: N and the root list, with element ambients nested at most `nest` deep.
unfoldable pub state_rest : ℕ → ℕ → List ℕ → Outcome State
state_rest nest F rest =
    and_then (read_count F name_limit rest) rest (λ N more. map_outcome (state F N) (read_elements (read_ambient nest N) unblocked N more))

unfoldable pub state_body : ℕ → List ℕ → Outcome State
state_body nest body = and_then (read_count 0 free_name_limit body) body (state_rest nest)

-- Refusals 1 to 6 and 14.
unfoldable pub parse_state : ℕ → List ℕ → Outcome State
parse_state nest bytes =
    pick (ltb byte_limit (length bytes)) (refused 1)
    (ends (length bytes) (read_field (open_field 0x11 0x11 bytes) bytes (λ tag body. state_body nest body)))

-- Then 7.
unfoldable pub unpaired : Outcome State → Outcome State
unpaired (refused k) = refused k
unpaired (got (state F N L) n) = pick (blocked_pair L) (refused 7) (got (state F N L) n)

-- A state with ambients nested at most `nest` deep.
unfoldable pub read_within : ℕ → List ℕ → Outcome State
read_within nest bytes = unpaired (parse_state nest bytes)

-- What every call but the listing reads.
abbrev pub read_state : List ℕ → Outcome State
read_state bytes = read_within nesting_limit bytes

-- Bytes that are accepted as a state.
abbrev pub Accepted : List ℕ → Type 0
Accepted bytes = (S : State) × (n : ℕ) × (read_state bytes ≡ got S n)
