-- The state of a job in the pieces of the code, and what is answered of a job.
use mathlib.Core.Path.{◌≡◌, sym, ap, ◌∙◌}
use mathlib.Core.Bool.{Bool, true, false}
use mathlib.Core.List.{List, [], ◌++◌, append-nil}
use Prim.Native.Nat.{ℕ, ◌+◌}
use native.Mathlib.Omega.{arith}
use lib.ListN.{length}
use Rattle.calculus.specs.Processes.{Process, name}
use Rattle.machine.specs.Elements.{unblocked, Elements, empty, ambient_then, process_then}
use Rattle.machine.specs.Limits.{byte_limit, cabinet_name}
use Rattle.machine.specs.Tests.{pick}
use Rattle.buffers.specs.Words.{word, field}
use Rattle.buffers.specs.Buffers.{Written, kept, fitting}
use Rattle.buffers.proofs.Answers.{Within, fitting_within}
use Rattle.format.specs.Spelling.{reference_number, encode_reference, encode}
use Rattle.format.specs.Reading.{Outcome, refused, got}
use Rattle.format.specs.Theorems.{Bytes}
use Rattle.elements.specs.Spelling.{Job, job, ambient_tag, encode_elements, encode_job, encode_state, state_front}
use Rattle.elements.proofs.States.{state_front_law}
use Rattle.states.specs.Reading.{read_job}
use Rattle.states.proofs.Spelled.{job_spelled}
use Rattle.uses.specs.Uses.{mixed}
use Rattle.enclosing.specs.Pieces.{ambient_bytes, loaded_bytes}
use Rattle.loaded.specs.Loading.{loaded, load_job, load}

-- an accepted job with this count of free names
pub record Accepted (bytes : List ℕ) (free : ℕ) : Type 0 where
  pub process : Process
  pub size : ℕ
  pub read : read_job bytes ≡ got (job free process) size
  pub spelled : bytes ≡ encode_job (job free process)

abbrev pub taken : (bytes : List ℕ) (F : ℕ) (P : Process) (n : ℕ) → Bytes bytes → read_job bytes ≡ got (job F P) n → Accepted bytes F
taken bytes F P n h e = record { process = P; size = n; read = e; spelled = job_spelled bytes (job F P) n h e }

-- the cabinet around a process
abbrev pub cabinet : Process → Elements
cabinet P = ambient_then unblocked (name cabinet_name) (process_then P empty) empty

cabinet_spelled : (P : Process) → encode_elements (cabinet P) ≡ ambient_bytes cabinet_name (encode P)
unfolding encode_elements ambient_tag encode_reference reference_number
cabinet_spelled P =
    append-nil (field 0x40 (word cabinet_name ++ (field 0x42 (encode P) ++ []))) ∙ ap (λ (contents : List ℕ). field 0x40 (word cabinet_name ++ contents)) (append-nil (field 0x42 (encode P)))

cabinet_long : (P : Process) → 8 + length (encode P) ≡ length (encode_elements (cabinet P))
unfolding field word
cabinet_long P = rw (cabinet_spelled P) (omega arith)

-- the pieces spell the state
pub pieces_of : (F : ℕ) (P : Process) → loaded_bytes F (encode P) ≡ encode_state (loaded (job F P))
unfolding loaded
pieces_of F P = ap (λ (r : List ℕ). state_front F F (8 + length (encode P)) ++ r) (sym (cabinet_spelled P)) ∙ sym (state_front_law F F (cabinet P) (8 + length (encode P)) (cabinet_long P))

pub size_of : (F : ℕ) (P : Process) → length (encode_job (job F P)) ≡ 5 + length (encode P)
unfolding encode_job field word
size_of F P = omega arith

loaded_size : (F : ℕ) (P : Process) → length (encode_job (job F P)) + 10 ≡ length (encode_state (loaded (job F P)))
unfolding state_front field word
loaded_size F P = rw (sym (pieces_of F P)) (omega (arith, size_of F P))

-- What is answered of a job that does not read

pub unread : (bytes : List ℕ) (room k : ℕ) → read_job bytes ≡ refused k → load bytes room ≡ kept k
unfolding load load_job
unread bytes room k e = ap (load_job room) e

-- And of one that does

module _ (bytes : List ℕ) (free : ℕ) (a : Accepted bytes free) where
  abbrev pub result : List ℕ
  result = encode_state (loaded (job free a.process))

  judging : (room : ℕ) (b : Bool) → mixed a.process ≡ b → load bytes room ≡ pick b (kept 15) (fitting byte_limit room tt result)
  unfolding load load_job
  judging room b m = ap (load_job room) a.read ∙ ap (λ (t : Bool). pick t (kept 15) (fitting byte_limit room tt result)) m

  pub mixing : (room : ℕ) → mixed a.process ≡ true → load bytes room ≡ kept 15
  mixing room = judging room true

  pub reading : (room : ℕ) → mixed a.process ≡ false → load bytes room ≡ fitting byte_limit room tt result
  reading room = judging room false

  pub long : length bytes + 10 ≡ length result
  long = rw a.spelled (loaded_size free a.process)

pub load_small : (bytes : List ℕ) (room : ℕ) → Within byte_limit (load bytes room)
unfolding load load_job Within
load_small bytes room = go (read_job bytes)
  where
    judged : (b : Bool) (w : Written ℕ (Unit {0})) → Within byte_limit w → Within byte_limit (pick b (kept 15) w)
    judged true w h = tt
    judged false w h = h

    go : (o : Outcome Job) → Within byte_limit (load_job room o)
    go (refused k) = tt
    go (got (job F P) m) = judged (mixed P) (fitting byte_limit room tt (encode_state (loaded (job F P)))) (fitting_within byte_limit room tt (encode_state (loaded (job F P))))
