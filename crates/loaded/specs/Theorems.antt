-- What is proved of loading.
use Rattle.std.specs.Prelude.{◌≡◌, List, ℕ, ◌+◌, ◌≤◌, ◌<◌, length}
use Rattle.calculus.specs.Processes.{name, Process, ambient}
use Rattle.calculus.specs.Reduction.{◌≅◌}
use Rattle.machine.specs.Limits.{cabinet_name}
use Rattle.machine.specs.Elements.{decode_state}
use Rattle.format.specs.Reading.{got}
use Rattle.format.specs.Theorems.{Bytes}
use Rattle.elements.specs.Spelling.{Job, job, encode_job, encode_state}
use Rattle.buffers.specs.Buffers.{kept, wrote}
use Rattle.states.specs.Reading.{read_job, read_state}
use Rattle.states.specs.Theorems.{ValidJobOf, Admitted}
use Rattle.uses.specs.Uses.{UsedAsBox, UsedAsChannel}
use Rattle.uses.specs.Theorems.{BothUses}
use Rattle.loaded.specs.Loading.{loaded, load}

-- The loaded state is valid, has no blocked pair, and decodes to the cabinet around the job's process, of a job too in which a name has both uses: a state that was made of one is read and stepped on.
abbrev pub LoadedIsJob : Type 0
LoadedIsJob = (F : ℕ) (P : Process) → ValidJobOf F P → Admitted (loaded (job F P)) × (decode_state (loaded (job F P)) ≅ ambient (name cabinet_name) P)

-- What is written is accepted: it is the state of the job that the bytes spell, ten bytes longer than they are.
pub record LoadedFrom (bytes new : List ℕ) : Type 0 where
  pub from : Job
  pub spelled : bytes ≡ encode_job from
  pub written : new ≡ encode_state (loaded from)
  pub accepted : read_state new ≡ got (loaded from) (length new)
  pub longer : length new ≡ length bytes + 10

abbrev pub LoadedIsAccepted : Type 0
LoadedIsAccepted = (bytes : List ℕ) (room : ℕ) (new : List ℕ) → Bytes bytes → load bytes room ≡ wrote tt new → LoadedFrom bytes new

-- A job that reads and in which some name is used both as a box and as a channel is refused with 15, whatever room there is; and one that is loaded has no such name.

abbrev pub MixedIsRefused : Type 0
MixedIsRefused = (bytes : List ℕ) (F : ℕ) (P : Process) (n room : ℕ) → read_job bytes ≡ got (job F P) n → BothUses P → load bytes room ≡ kept 15

abbrev pub LoadedUsesApart : Type 0
LoadedUsesApart = (bytes : List ℕ) (F : ℕ) (P : Process) (n room : ℕ) (new : List ℕ) → read_job bytes ≡ got (job F P) n → load bytes room ≡ wrote tt new →
    (m : ℕ) → UsedAsBox m P → UsedAsChannel m P → ⊥

-- The longest job that can be loaded.
abbrev pub longest_job : ℕ
longest_job = 32758

-- Of a job that reads and has no such name: it is loaded if it is no longer than that and the buffer has room for ten bytes more than it has, and otherwise refused with 13.
pub record LoadsWithin (bytes : List ℕ) (J : Job) (room : ℕ) : Type 0 where
  pub loads : length bytes ≤ longest_job → length bytes + 10 ≤ room → load bytes room ≡ wrote tt (encode_state (loaded J))
  pub over_length : longest_job < length bytes → load bytes room ≡ kept 13
  pub no_room : room < length bytes + 10 → load bytes room ≡ kept 13

abbrev pub AcceptedIsLoaded : Type 0
AcceptedIsLoaded = (bytes : List ℕ) (F : ℕ) (P : Process) (n room : ℕ) → Bytes bytes → read_job bytes ≡ got (job F P) n → (BothUses P → ⊥) → LoadsWithin bytes (job F P) room
