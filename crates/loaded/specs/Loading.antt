-- Loading a job (document 01, "Loading keeps F, sets N to F and puts the process in one 42"; document 02, request 4: "in one ambient 40 whose name is name 0"; request 7: "15 when a free name has both uses").
use Rattle.std.specs.Prelude.{List, ℕ}
use Rattle.calculus.specs.Processes.{name}
use Rattle.machine.specs.Limits.{byte_limit, cabinet_name}
use Rattle.machine.specs.Tests.{pick}
use Rattle.machine.specs.Elements.{unblocked, empty, ambient_then, process_then, State, state}
use Rattle.format.specs.Reading.{Outcome, refused, got}
use Rattle.elements.specs.Spelling.{Job, job, encode_state}
use Rattle.states.specs.Reading.{read_job}
use Rattle.buffers.specs.Buffers.{Written, kept, fitting}
use Rattle.uses.specs.Uses.{mixed}

-- The cabinet, which holds the process of the job.
unfoldable pub loaded : Job → State
loaded (job F P) = state F F (ambient_then unblocked (name cabinet_name) (process_then P empty) empty)

unfoldable pub load_job : ℕ → Outcome Job → Written ℕ (Unit {0})
load_job room (refused k) = kept k
load_job room (got (job F P) n) = pick (mixed P) (kept 15) (fitting byte_limit room tt (encode_state (loaded (job F P))))

-- The state of a job's bytes for an output buffer of so many bytes: refusals 1 to 6 and 14, then 15, then 13.
unfoldable pub load : List ℕ → ℕ → Written ℕ (Unit {0})
load bytes room = load_job room (read_job bytes)
