-- What the numbers of the C interface tell, each statement a named type.
use Rattle.std.specs.Prelude.{◌≡◌, ◌↔◌, ◌≢◌, List, [], ◌∷◌, ℕ, suc, ◌≤◌, ◌<◌, eqb, length, take}
use Rattle.std.proofs.Math.Option.{none, some}
use Rattle.calculus.specs.Processes.{Process}
use Rattle.calculus.specs.Reduction.{Irreducible}
use Rattle.machine.specs.Limits.{nesting_limit, byte_limit, absent}
use Rattle.machine.specs.Elements.{Elements, nesting, State, state, decode_state}
use Rattle.machine.specs.Validity.{ValidWithin}
use Rattle.machine.specs.Tests.{pick}
use Rattle.format.specs.Reading.{Outcome, refused, got}
use Rattle.format.specs.Theorems.{Bytes}
use Rattle.buffers.specs.Buffers.{Written, kept, wrote, Answered}
use Rattle.elements.specs.Spelling.{job, encode_state, CountedState}
use Rattle.states.specs.Reading.{read_job, read_state}
use Rattle.uses.specs.Theorems.{BothUses}
use Rattle.loaded.specs.Loading.{load}
use Rattle.writing.specs.Writing.{write_job}
use Rattle.listing.specs.Listing.{list_bytes}
use Rattle.weighing.specs.Weighing.{weigh}
use Rattle.partnering.specs.Partnering.{partners_bytes}
use Rattle.sweeping.specs.Sweeping.{sweep_bytes}
use Rattle.calls.specs.Steps.{step_bytes}
use Rattle.calls.specs.Calls.{Call, call, Reply, refusal, acceptance, StepContract, Observation, observed}
use Rattle.calls.specs.Theorems.{Promised}
use Rattle.runs.specs.Runs.{Ending, blocked, spent, limit, ended, run_bytes}
use Rattle.registers.specs.declared.Panel.{Panel}
use Rattle.panel.specs.Access.{held, asked}
use Rattle.answers.specs.declared.LengthAnswer.{LengthAnswer}
use Rattle.answers.specs.declared.PartnersAnswer.{PartnersAnswer}
use Rattle.answers.specs.declared.StepAnswer.{StepAnswer}
use Rattle.answers.specs.declared.RunAnswer.{RunAnswer}
use Rattle.answers.specs.declared.WeightAnswer.{WeightAnswer}
use Rattle.answers.specs.Numbers.{length_numbers, partners_numbers, step_numbers, ending_number, run_numbers, weight_numbers}

-- Refusals

-- The last number of document 01's table that a call gives, with what requests 1 and 7 add to it: 15 is loading's alone.

abbrev pub last_number : ℕ
last_number = 14

abbrev pub last_of_loading : ℕ
last_of_loading = 15

abbrev pub InTable : (last k : ℕ) → Type 0
InTable last k = (1 ≤ k) × (k ≤ last)

-- Every refusal is a number of the table.
pub record RefusalsInTable : Type 0 where
  pub loading : (job : List ℕ) (room k : ℕ) → load job room ≡ kept k → InTable last_of_loading k
  pub writing : (free : ℕ) (process : List ℕ) (room k : ℕ) → write_job free process room ≡ kept k → InTable last_number k
  pub listing : (state : List ℕ) (room k : ℕ) → list_bytes state room ≡ kept k → InTable last_number k
  pub partnering : (state : List ℕ) (place k : ℕ) → partners_bytes state place ≡ refused k → InTable last_number k
  pub sweeping : (state : List ℕ) (room k : ℕ) → sweep_bytes state room ≡ kept k → InTable last_number k
  pub stepping : (state : List ℕ) (place partner room k : ℕ) → step_bytes state place partner room ≡ kept k → InTable last_number k
  pub running : (state : List ℕ) (budget room k : ℕ) → run_bytes state budget room ≡ kept k → InTable last_number k
  pub weighing : (state : List ℕ) (k : ℕ) → weigh state ≡ refused k → InTable last_number k
  -- what the panel's register 3 is set to
  pub panel : (p : Panel) (state spare : List ℕ) (k : ℕ) → asked (held p state spare) ≡ kept k → InTable last_number k

-- What the number `refusal` of an answer tells of a call that is accepted or refused with a number: 0 exactly where it is accepted; any other is the
-- number that refuses it.
pub record Tells (last : ℕ) (Accepted : Type 0) (Refused : ℕ → Type 0) (n : ℕ) : Type 0 where
  pub zero : (n ≡ 0) ↔ Accepted
  pub number : n ≢ 0 → InTable last n × Refused n

-- 15 tells that the bytes read as a job in which some name is used both as a box and as a channel, and of every such job.
pub record MixedJob (bytes : List ℕ) : Type 0 where
  pub free : ℕ
  pub process : Process
  pub size : ℕ
  pub read : read_job bytes ≡ got (job free process) size
  pub both : BothUses process

abbrev pub FifteenTells : Type 0
FifteenTells = (bytes : List ℕ) (room : ℕ) → (load bytes room ≡ kept 15) ↔ MixedJob bytes

-- A state nested too deep (document 02, request 8)

-- Bytes that every call on a state but the listing refuses with this number; the panel where they stand at the front of its buffer.
pub record RefusedByAll (bytes : List ℕ) (k : ℕ) : Type 0 where
  pub partnering : (place : ℕ) → partners_bytes bytes place ≡ refused k
  pub sweeping : (room : ℕ) → sweep_bytes bytes room ≡ kept k
  pub stepping : (place partner room : ℕ) → step_bytes bytes place partner room ≡ kept k
  pub running : (budget room : ℕ) → run_bytes bytes budget room ≡ kept k
  pub weighing : weigh bytes ≡ refused k
  pub panel : (p : Panel) (state spare : List ℕ) → p.length ≤ length state → take p.length state ≡ bytes → asked (held p state spare) ≡ kept k

-- They refuse alike.
abbrev pub RefusedAlike : Type 0
RefusedAlike = (bytes : List ℕ) (k : ℕ) → read_state bytes ≡ refused k → RefusedByAll bytes k

-- A state that nests deeper than the limit gets 5 from them all, however deep it nests, whether or not it has a blocked pair.
abbrev pub DeepGetsFive : Type 0
DeepGetsFive = (more F N : ℕ) (L : Elements) → ValidWithin more (state F N L) → CountedState (state F N L) → length (encode_state (state F N L)) ≤ byte_limit →
    nesting_limit < nesting L → RefusedByAll (encode_state (state F N L)) 5

-- What the answers of C tell

-- Of a call that fills a buffer.
abbrev pub TellsWritten : {A : Type 0} (last : ℕ) → Written ℕ A → ℕ → Type 0
TellsWritten {A} last w n = Tells last ((a : A) × (new : List ℕ) × (w ≡ wrote a new)) (λ k. w ≡ kept k) n

-- Of a call that only reads.
abbrev pub TellsRead : {A : Type 0} → Outcome A → ℕ → Type 0
TellsRead {A} o n = Tells last_number ((a : A) × (m : ℕ) × (o ≡ got a m)) (λ k. o ≡ refused k) n

-- So much is told by every answer that C gets.
pub record RefusalTells : Type 0 where
  pub loading : (job out last : List ℕ) (r : LengthAnswer) → Answered length_numbers (load job (length out)) out r last → TellsWritten last_of_loading (load job (length out)) r.refusal
  pub writing : (free : ℕ) (process out last : List ℕ) (r : LengthAnswer) → Answered length_numbers (write_job free process (length out)) out r last →
      TellsWritten last_number (write_job free process (length out)) r.refusal
  pub listing : (state out last : List ℕ) (r : LengthAnswer) → Answered length_numbers (list_bytes state (length out)) out r last → TellsWritten last_number (list_bytes state (length out)) r.refusal
  pub partnering : (state : List ℕ) (place : ℕ) (r : PartnersAnswer) → r ≡ partners_numbers (partners_bytes state place) → TellsRead (partners_bytes state place) r.refusal
  pub sweeping : (state out last : List ℕ) (r : LengthAnswer) → Answered length_numbers (sweep_bytes state (length out)) out r last → TellsWritten last_number (sweep_bytes state (length out)) r.refusal
  pub stepping : (state : List ℕ) (place partner : ℕ) (out last : List ℕ) (r : StepAnswer) → Answered step_numbers (step_bytes state place partner (length out)) out r last →
      TellsWritten last_number (step_bytes state place partner (length out)) r.refusal
  pub running : (state : List ℕ) (budget : ℕ) (out last : List ℕ) (r : RunAnswer) → Answered run_numbers (run_bytes state budget (length out)) out r last →
      TellsWritten last_number (run_bytes state budget (length out)) r.refusal
  pub weighing : (state : List ℕ) (r : WeightAnswer) → r ≡ weight_numbers (weigh state) → TellsRead (weigh state) r.refusal

-- Where the partners of a place are told, the lowest is 65,535 exactly where there is none.
abbrev pub NobodyTells : Type 0
NobodyTells = (state : List ℕ) (place : ℕ) (r : PartnersAnswer) → Bytes state → r ≡ partners_numbers (partners_bytes state place) → r.refusal ≡ 0 → (r.lowest ≡ absent) ↔ (r.count ≡ 0)

-- The number of a run's ending tells which it is: 0 all blocked, 1 the budget spent, any other the limit met, 11, 12 or 13.
abbrev pub EndingTells : Type 0
EndingTells = (state t : List ℕ) (budget room n : ℕ) (e : Ending) → Bytes state → run_bytes state budget room ≡ wrote (ended e n) t →
    ((ending_number e ≡ 0) ↔ (e ≡ blocked)) × ((ending_number e ≡ 1) ↔ (e ≡ spent))
    × ((k : ℕ) → (e ≡ limit k) ↔ ((ending_number e ≡ k) × (11 ≤ k) × (k ≤ 13)))

-- Lists of calls of `cabinet_step`

-- The reply that an answer stands for.
unfoldable pub reply_read : StepAnswer → Reply
reply_read r = pick (eqb r.refusal 0) (acceptance r.rule r.length) (refusal r.refusal)

-- Answer and buffer satisfy the contract of the step.
abbrev pub StepMeetsContract : Type 0
StepMeetsContract = (present : List ℕ) (place partner : ℕ) (out last : List ℕ) (r : StepAnswer) →
    Answered step_numbers (step_bytes present place partner (length out)) out r last → StepContract present place partner out (reply_read r) last

-- Calls made one after another from the bytes of a state, as C sees them: where `refusal` is 0, the first `length` bytes of the buffer are the present state for the next call.
pub data PlaysFromC : List ℕ → List Call → List Observation → List ℕ → ℕ → Type 0 where
  no_call : {s : List ℕ} → PlaysFromC s [] [] s 0
  refused_call : {s t out last : List ℕ} {p q n : ℕ} {r : StepAnswer} {cs : List Call} {os : List Observation} →
      Answered step_numbers (step_bytes s p q (length out)) out r last → r.refusal ≢ 0 → PlaysFromC s cs os t n →
      PlaysFromC s (call p q out ∷ cs) (observed (some r.refusal) s ∷ os) t n
  accepted_call : {s t out last : List ℕ} {p q n : ℕ} {r : StepAnswer} {cs : List Call} {os : List Observation} →
      Answered step_numbers (step_bytes s p q (length out)) out r last → r.refusal ≡ 0 → PlaysFromC (take r.length last) cs os t n →
      PlaysFromC s (call p q out ∷ cs) (observed none (take r.length last) ∷ os) t (suc n)

-- Demand 3 of these.
abbrev pub ListsOfCallsFromC : Type 0
ListsOfCallsFromC = (s : List ℕ) (S : State) (m : ℕ) → read_state s ≡ got S m → Irreducible (decode_state S) →
    (cs : List Call) (os : List Observation) (t : List ℕ) (n : ℕ) → PlaysFromC s cs os t n → Promised S s cs os t n
