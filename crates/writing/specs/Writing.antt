-- Writing a job from its parts: the count F of free names and the bytes of a process.
use Rattle.std.specs.Prelude.{List, ◌++◌, ℕ, length, ltb}
use Rattle.calculus.specs.Processes.{Process}
use Rattle.machine.specs.Limits.{byte_limit, free_name_least, free_name_limit, job_depth_limit}
use Rattle.machine.specs.Tests.{pick}
use Rattle.buffers.specs.Words.{word, field}
use Rattle.buffers.specs.Buffers.{Written, kept, fitting}
use Rattle.format.specs.Reading.{Outcome, refused, got, read_process}
use Rattle.states.specs.Reading.{ends}

-- The parts, judged as the job with them is read: not too many bytes (1), F within its limits (6), then one process, which is the whole of the bytes (2 to 6 and 14).
unfoldable pub read_job_parts : ℕ → List ℕ → Outcome Process
read_job_parts F process =
    pick (ltb byte_limit (length process)) (refused 1)
    (pick (ltb F free_name_least) (refused 6)
    (pick (ltb free_name_limit F) (refused 6)
    (ends (length process) (read_process job_depth_limit F 0 process))))

unfoldable pub write_parts : ℕ → List ℕ → ℕ → Outcome Process → Written ℕ (Unit {0})
write_parts F process room (refused k) = kept k
write_parts F process room (got P n) = fitting byte_limit room tt (field 0x10 (word F ++ process))

-- The job of its parts for an output buffer of so many bytes: refusals 1 to 6 and 14, then 13.
unfoldable pub write_job : ℕ → List ℕ → ℕ → Written ℕ (Unit {0})
write_job F process room = write_parts F process room (read_job_parts F process)
