-- The proofs of the statements in specs/Theorems.antt.
use mathlib.Core.Path.{◌≡◌, refl, ◌∙◌}
use mathlib.Core.Logic.{◌↔◌, ⊎_elim}
use mathlib.Core.Bool.{Bool, true, false}
use mathlib.Core.List.{List}
use Prim.Native.Nat.{ℕ, ◌≤◌}
use native.Mathlib.Omega.{arith}
use lib.ListN.{length}
use Rattle.machine.specs.Limits.{nesting_limit, byte_limit}
use Rattle.machine.specs.Elements.{Elements, nesting, State, state}
use Rattle.machine.specs.IllFormed.{IllFormed, WellFormed}
use Rattle.machine.specs.Validity.{Graded, ValidWithin}
use Rattle.machine.specs.Pairs.{blocked_pair}
use Rattle.machine.proofs.Pairs.{pairs_are_found, not_paired_well_formed}
use Rattle.format.specs.Reading.{refused, got}
use Rattle.elements.specs.Spelling.{Job, job, encode_job, encode_state, CountedState}
use Rattle.states.specs.Reading.{read_job, parse_state, unpaired, read_within, read_state}
use Rattle.states.specs.Theorems.{ValidJob, AdmittedWithin, Admitted, JobSpelling, SpellingWithin, StateSpelling, JobWhole, WholeWithin, StateWhole, DeepIsRefused, ShallowIsBoth}
use Rattle.states.proofs.Whole.{job_whole_law, state_whole_law, read_parsed}
use Rattle.states.proofs.Spelled.{job_spelled, state_spelled}
use Rattle.states.proofs.InScope.{ParsedState, Parsed, parsed_valid, job_valid, state_parsed}
use Rattle.states.proofs.Readback.{reads_job, reads_state}
use Rattle.states.proofs.Limits.{lower_parse}

-- Jobs

pub job_whole : JobWhole
job_whole bytes J n e = (job_whole_law bytes J n e).whole

valid_reads : (J : Job) → ValidJob J → length (encode_job J) ≤ byte_limit → read_job (encode_job J) ≡ got J (length (encode_job J))
unfolding ValidJob
valid_reads (job F P) v within = reads_job F P v within

pub job_spelling : JobSpelling
job_spelling bytes J h = (
  λ e. (job_spelled bytes J _ h e, job_valid bytes J _ e, (job_whole_law bytes J _ e).within),
  λ t. rw t.0 (valid_reads J t.1 (rw t.0 at t.2)),
)

-- States

well_formed_not_paired : (L : Elements) → ¬ IllFormed L → blocked_pair L ≡ false
well_formed_not_paired L w = go (blocked_pair L) refl
  where
    go : (b : Bool) → blocked_pair L ≡ b → b ≡ false
    go true e = absurd (w ((pairs_are_found L).0 e))
    go false e = refl

-- a state that is parsed and in which no blocked pair is found is admitted
pub admitted : (nest F N : ℕ) (L : Elements) → AdmittedWithin nest (state F N L) ↔ (ParsedState nest F N L × (blocked_pair L ≡ false))
unfolding ValidWithin WellFormed CountedState
admitted nest F N L = (
  λ a. ((parsed_valid nest F N L).1 (a.valid, a.counted), well_formed_not_paired L a.well_formed),
  λ h.
      let v = (parsed_valid nest F N L).0 h.0 in
      record { valid = v.0; well_formed = not_paired_well_formed L h.1; counted = v.1 },
)

pub whole_within : WholeWithin
whole_within nest bytes (state F N L) n e = (state_whole_law nest bytes (state F N L) n ((read_parsed nest bytes F N L n).0 e).0).whole

pub state_whole : StateWhole
state_whole = whole_within nesting_limit

-- what is read is admitted, and what is admitted reads back
pub read_within_law : (nest : ℕ) (bytes : List ℕ) (S : State) (n : ℕ) → read_within nest bytes ≡ got S n → AdmittedWithin nest S
unfolding Parsed
read_within_law nest bytes (state F N L) n e =
    let p = (read_parsed nest bytes F N L n).0 e in
    (admitted nest F N L).1 (state_parsed nest bytes (state F N L) n p.0, p.1)

pub read_admitted : (bytes : List ℕ) (S : State) (n : ℕ) → read_state bytes ≡ got S n → Admitted S
read_admitted = read_within_law nesting_limit

pub graded_within : (nest : ℕ) (bytes : List ℕ) (F N : ℕ) (L : Elements) (n : ℕ) → read_within nest bytes ≡ got (state F N L) n → Graded L
unfolding ValidWithin
graded_within nest bytes F N L n e = (read_within_law nest bytes (state F N L) n e).valid.graded

pub read_graded : (bytes : List ℕ) (F N : ℕ) (L : Elements) (n : ℕ) → read_state bytes ≡ got (state F N L) n → Graded L
read_graded = graded_within nesting_limit

pub reads_within : (nest : ℕ) (S : State) → AdmittedWithin nest S → length (encode_state S) ≤ byte_limit → read_within nest (encode_state S) ≡ got S (length (encode_state S))
reads_within nest (state F N L) a within =
    let t = (admitted nest F N L).0 a in (read_parsed nest _ F N L _).1 (reads_state nest F N L t.0 within, t.1)

pub admitted_reads : (S : State) → Admitted S → length (encode_state S) ≤ byte_limit → read_state (encode_state S) ≡ got S (length (encode_state S))
admitted_reads = reads_within nesting_limit

pub spelling_within : SpellingWithin
spelling_within nest bytes (state F N L) h = (
  λ e.
      let p = ((read_parsed nest bytes F N L _).0 e).0 in (
        state_spelled nest bytes (state F N L) _ h p,
        read_within_law nest bytes (state F N L) _ e,
        (state_whole_law nest bytes (state F N L) _ p).within,
      ),
  λ t. rw t.0 (reads_within nest (state F N L) t.1 (rw t.0 at t.2)),
)

pub state_spelling : StateSpelling
state_spelling = spelling_within nesting_limit

-- Two limits of nesting

pub deep_is_refused : DeepIsRefused
unfolding ValidWithin CountedState Parsed read_within unpaired
deep_is_refused nest more F N L v c within deep = ⊎_elim same (λ e. rw e) (lower_parse nest more (omega (arith, deep, v.fits.nested)) (encode_state (state F N L)))
  where
    parsed : parse_state more (encode_state (state F N L)) ≡ got (state F N L) (length (encode_state (state F N L)))
    parsed = reads_state more F N L ((parsed_valid more F N L).1 (v, c)) within

    same : parse_state nest (encode_state (state F N L)) ≡ parse_state more (encode_state (state F N L)) → read_within nest (encode_state (state F N L)) ≡ refused 5
    same e = absurd (omega (arith, deep, (state_parsed nest (encode_state (state F N L)) (state F N L) _ (e ∙ parsed)).readable.nested))

pub shallow_is_both : ShallowIsBoth
unfolding ValidWithin
shallow_is_both nest more F N L l s = (within more (λ n. omega (arith, n, l)), within nest (λ n. s))
  where
    within : {limit : ℕ} (other : ℕ) → (nesting L ≤ limit → nesting L ≤ other) → AdmittedWithin limit (state F N L) → AdmittedWithin other (state F N L)
    within other f a =
        let v = a.valid in
        record {
          valid = record { few_free = v.few_free; free_below = v.free_below; few_names = v.few_names; scoped = v.scoped; graded = v.graded; fits = record { shallow = v.fits.shallow; nested = f v.fits.nested } };
          well_formed = a.well_formed;
          counted = a.counted;
        }
