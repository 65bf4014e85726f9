-- Inner contracts: the bytes that loading writes, in the pieces of the code.
use Rattle.std.specs.Prelude.{List, ◌++◌, ℕ, ◌+◌, length}
use Rattle.machine.specs.Limits.{cabinet_name}
use Rattle.buffers.specs.Words.{word, field}
use Rattle.elements.specs.Spelling.{state_front}

-- An ambient of this name that holds one process.
abbrev pub ambient_bytes : ℕ → List ℕ → List ℕ
ambient_bytes name process = field 0x40 (word name ++ field 0x42 process)

-- The cabinet with a process, behind the front of a state.
abbrev pub loaded_bytes : ℕ → List ℕ → List ℕ
loaded_bytes free process = state_front free free (8 + length process) ++ ambient_bytes cabinet_name process
