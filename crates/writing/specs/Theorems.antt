-- What is proved of writing jobs.
use Rattle.std.specs.Prelude.{◌≡◌, ◌⊎◌, List, ◌++◌, ℕ, ◌+◌, ◌≤◌, ◌<◌, length, drop}
use Rattle.calculus.specs.Processes.{Process}
use Rattle.machine.specs.Limits.{free_name_least, free_name_limit, byte_limit}
use Rattle.buffers.specs.Words.{word, field}
use Rattle.buffers.specs.Buffers.{wrote}
use Rattle.format.specs.Spelling.{encode}
use Rattle.format.specs.Reading.{refused, got, map_outcome, shift}
use Rattle.format.specs.Theorems.{Bytes}
use Rattle.elements.specs.Spelling.{job, encode_job}
use Rattle.states.specs.Reading.{read_job}
use Rattle.writing.specs.Writing.{read_job_parts, write_job}

-- The parts are judged exactly as the job with them is read, where that is within the limit of bytes: the same refusals, and the same process, five bytes on.
abbrev pub PartsAsRead : Type 0
PartsAsRead = (F : ℕ) (process : List ℕ) → 5 + length process ≤ byte_limit →
    read_job (field 0x10 (word F ++ process)) ≡ shift 5 (map_outcome (job F) (read_job_parts F process))

-- So F is judged where it stands: out of its range it is 6, whatever stands behind it.
abbrev pub OutOfRange : ℕ → Type 0
OutOfRange F = (F < free_name_least) ⊎ (free_name_limit < F)

abbrev pub FreeNamesFirst : Type 0
FreeNamesFirst = (F : ℕ) (process : List ℕ) → 5 + length process ≤ byte_limit → OutOfRange F →
    read_job (field 0x10 (word F ++ process)) ≡ refused 6

-- What is written is accepted, and is the job of F and of the process that the bytes spell.
abbrev pub WrittenIsAccepted : Type 0
WrittenIsAccepted = (F : ℕ) (process : List ℕ) (room : ℕ) (new : List ℕ) → Bytes process → write_job F process room ≡ wrote tt new →
    (P : Process) × (process ≡ encode P) × (new ≡ encode_job (job F P)) × (read_job new ≡ got (job F P) (length new))

-- Every accepted job is written from its F and its process, which stands behind its header and F, wherever the buffer holds it.
abbrev pub AcceptedIsWritten : Type 0
AcceptedIsWritten = (bytes : List ℕ) (F : ℕ) (P : Process) (n room : ℕ) → Bytes bytes → read_job bytes ≡ got (job F P) n → length bytes ≤ room →
    (drop 5 bytes ≡ encode P) × (write_job F (encode P) room ≡ wrote tt bytes)
