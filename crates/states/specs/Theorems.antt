-- What is proved of jobs and states in bytes, each statement a named type.
use Rattle.std.specs.Prelude.{◌≡◌, ◌↔◌, ◌⊎◌, List, ℕ, ◌≤◌, ◌<◌, length}
use Rattle.calculus.specs.Processes.{Process}
use Rattle.machine.specs.Limits.{free_name_least, free_name_limit, job_depth_limit, nesting_limit, byte_limit}
use Rattle.machine.specs.Elements.{depth, Elements, nesting, State, state}
use Rattle.machine.specs.IllFormed.{WellFormed}
use Rattle.machine.specs.Validity.{ProcessScoped, ValidWithin}
use Rattle.format.specs.Spellable.{Counted}
use Rattle.format.specs.Reading.{refused, got}
use Rattle.format.specs.Theorems.{Bytes}
use Rattle.elements.specs.Spelling.{Job, job, encode_job, encode_state, CountedState}
use Rattle.states.specs.Reading.{read_job, read_within, read_state}

-- A job that document 01 admits, with the cabinet's name among its free names (document 02, request 4).
pub record ValidJobOf (F : ℕ) (P : Process) : Type 0 where
  pub some_free : free_name_least ≤ F
  pub few_free : F ≤ free_name_limit
  pub scoped : ProcessScoped F 0 P
  pub shallow : depth P ≤ job_depth_limit
  pub counted : Counted P

unfoldable pub ValidJob : Job → Type 0
ValidJob (job F P) = ValidJobOf F P

-- A state that document 01 admits, with ambients nested at most `nest` deep.
pub record AdmittedWithin (nest : ℕ) (S : State) : Type 0 where
  pub valid : ValidWithin nest S
  pub well_formed : WellFormed S
  pub counted : CountedState S

abbrev pub Admitted : State → Type 0
Admitted S = AdmittedWithin nesting_limit S

-- Bytes are accepted exactly if they spell a valid job, or a valid state with no blocked pair, within the limit of bytes; what was read is
-- what they spell. So one tree has one spelling, and one spelling one tree.
abbrev pub JobSpelling : Type 0
JobSpelling = (bytes : List ℕ) (J : Job) → Bytes bytes →
    (read_job bytes ≡ got J (length bytes)) ↔ ((bytes ≡ encode_job J) × ValidJob J × (length bytes ≤ byte_limit))

-- of a state with any limit of nesting, and with the limit of every call but the listing
abbrev pub SpellingWithin : Type 0
SpellingWithin = (nest : ℕ) (bytes : List ℕ) (S : State) → Bytes bytes →
    (read_within nest bytes ≡ got S (length bytes)) ↔ ((bytes ≡ encode_state S) × AdmittedWithin nest S × (length bytes ≤ byte_limit))

abbrev pub StateSpelling : Type 0
StateSpelling = (bytes : List ℕ) (S : State) → Bytes bytes →
    (read_state bytes ≡ got S (length bytes)) ↔ ((bytes ≡ encode_state S) × Admitted S × (length bytes ≤ byte_limit))

-- Accepted bytes are read whole.
abbrev pub JobWhole : Type 0
JobWhole = (bytes : List ℕ) (J : Job) (n : ℕ) → read_job bytes ≡ got J n → n ≡ length bytes

abbrev pub WholeWithin : Type 0
WholeWithin = (nest : ℕ) (bytes : List ℕ) (S : State) (n : ℕ) → read_within nest bytes ≡ got S n → n ≡ length bytes

abbrev pub StateWhole : Type 0
StateWhole = (bytes : List ℕ) (S : State) (n : ℕ) → read_state bytes ≡ got S n → n ≡ length bytes

-- Two limits of nesting (document 02, request 8)

-- With the lower one bytes are read as with the higher one, or refused with 5.
abbrev pub LowerLimit : Type 0
LowerLimit = (nest more : ℕ) (bytes : List ℕ) → nest ≤ more → (read_within nest bytes ≡ read_within more bytes) ⊎ (read_within nest bytes ≡ refused 5)

-- A state that nests deeper than the limit is refused with 5, whether or not it has a blocked pair.
abbrev pub DeepIsRefused : Type 0
DeepIsRefused = (nest more F N : ℕ) (L : Elements) → ValidWithin more (state F N L) → CountedState (state F N L) → length (encode_state (state F N L)) ≤ byte_limit →
    nest < nesting L → read_within nest (encode_state (state F N L)) ≡ refused 5

-- One that nests no deeper than the lower limit is admitted with both, or with neither.
abbrev pub ShallowIsBoth : Type 0
ShallowIsBoth = (nest more F N : ℕ) (L : Elements) → nest ≤ more → nesting L ≤ nest → AdmittedWithin nest (state F N L) ↔ AdmittedWithin more (state F N L)
