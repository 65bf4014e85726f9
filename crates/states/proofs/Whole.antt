-- What is read is the whole of the bytes, and these are within their limit.
use mathlib.Core.Path.{◌≡◌, refl, sym, ◌∙◌}
use mathlib.Core.Logic.{◌↔◌}
use mathlib.Core.List.{List}
use mathlib.Core.Bool.{Bool, true, false}
use Prim.Native.Nat.{ℕ, ◌≤◌}
use native.Mathlib.Omega.{arith}
use borrow.Author.Tests.{ltb-false, eqb-true, le-ltb, eq-eqb}
use lib.ListN.{length}
use lib.Dec.{ltb, eqb}
use Rattle.machine.specs.Limits.{nesting_limit, byte_limit}
use Rattle.machine.specs.Elements.{Elements, State, state}
use Rattle.machine.specs.Pairs.{blocked_pair}
use Rattle.format.specs.Reading.{Outcome, refused, got, open_field, read_field}
use Rattle.machine.specs.Tests.{pick}
use Rattle.elements.specs.Spelling.{Job}
use Rattle.states.specs.Reading.{ends, job_body, read_job, state_body, parse_state, unpaired, read_within, read_state}

-- Bytes were read as a, which took all of them.
pub record ReadWhole {A : Type 0} (bytes : List ℕ) (o : Outcome A) (a : A) (n : ℕ) : Type 0 where
  pub read : o ≡ got a n
  pub whole : n ≡ length bytes
  pub within : length bytes ≤ byte_limit

abbrev limited : {A : Type 0} → List ℕ → Outcome A → Outcome A
limited bytes o = pick (ltb byte_limit (length bytes)) (refused 1) (ends (length bytes) o)

limited_whole : {A : Type 0} (bytes : List ℕ) (o : Outcome A) (a : A) (n : ℕ) → limited bytes o ≡ got a n → ReadWhole bytes o a n
unfolding ends
limited_whole {A} bytes o a n = go (ltb byte_limit (length bytes)) o refl
  where
    last : (b : Bool) (c : A) (m : ℕ) → eqb m (length bytes) ≡ b → length bytes ≤ byte_limit
        → pick b (got c m) (refused 4) ≡ got a n → ReadWhole bytes (got c m) a n
    last true c m e w q = let p : m ≡ n = cc in record { read = q; whole = sym p ∙ eqb-true _ _ e; within = w }
    last false c m e w q = absurd (let z : ◌≡◌ {A = ℕ} 0 1 = cc in omega arith)

    go : (b : Bool) (o : Outcome A) → ltb byte_limit (length bytes) ≡ b → pick b (refused 1) (ends (length bytes) o) ≡ got a n → ReadWhole bytes o a n
    go true o e q = absurd (let z : ◌≡◌ {A = ℕ} 0 1 = cc in omega arith)
    go false (refused k) e q = absurd (let z : ◌≡◌ {A = ℕ} 0 1 = cc in omega arith)
    go false (got c m) e q = last (eqb m (length bytes)) c m refl (ltb-false _ _ e) q

limited_reads : {A : Type 0} (bytes : List ℕ) (o : Outcome A) (a : A) → o ≡ got a (length bytes) → length bytes ≤ byte_limit
    → limited bytes o ≡ got a (length bytes)
unfolding ends
limited_reads bytes o a e w = rw (e, le-ltb _ _ w, eq-eqb (length bytes) (length bytes) refl)

-- Jobs

abbrev pub job_field : List ℕ → Outcome Job
job_field bytes = read_field (open_field 0x10 0x10 bytes) bytes (λ tag body. job_body body)

pub job_whole_law : (bytes : List ℕ) (J : Job) (n : ℕ) → read_job bytes ≡ got J n → ReadWhole bytes (job_field bytes) J n
unfolding read_job
job_whole_law bytes J n e = limited_whole bytes _ J n e

pub whole_job : (bytes : List ℕ) (J : Job) → job_field bytes ≡ got J (length bytes) → length bytes ≤ byte_limit → read_job bytes ≡ got J (length bytes)
unfolding read_job
whole_job bytes J e w = limited_reads bytes _ J e w

-- States

abbrev pub state_field : ℕ → List ℕ → Outcome State
state_field nest bytes = read_field (open_field 0x11 0x11 bytes) bytes (λ tag body. state_body nest body)

pub state_whole_law : (nest : ℕ) (bytes : List ℕ) (S : State) (n : ℕ) → parse_state nest bytes ≡ got S n → ReadWhole bytes (state_field nest bytes) S n
unfolding parse_state
state_whole_law nest bytes S n e = limited_whole bytes _ S n e

pub whole_state : (nest : ℕ) (bytes : List ℕ) (S : State) → state_field nest bytes ≡ got S (length bytes) → length bytes ≤ byte_limit
    → parse_state nest bytes ≡ got S (length bytes)
unfolding parse_state
whole_state nest bytes S e w = limited_reads bytes _ S e w

unpaired_parsed : (o : Outcome State) (F N : ℕ) (L : Elements) (n : ℕ) → unpaired o ≡ got (state F N L) n
    → (o ≡ got (state F N L) n) × (blocked_pair L ≡ false)
unfolding unpaired
unpaired_parsed (refused k) F N L n e = absurd (let z : ◌≡◌ {A = ℕ} 0 1 = cc in omega arith)
unpaired_parsed (got (state F' N' L') m) F N L n e = go (blocked_pair L') refl e
  where
    go : (b : Bool) → blocked_pair L' ≡ b → pick b (refused 7) (got (state F' N' L') m) ≡ got (state F N L) n
        → (got (state F' N' L') m ≡ got (state F N L) n) × (blocked_pair L ≡ false)
    go true p q = absurd (let z : ◌≡◌ {A = ℕ} 0 1 = cc in omega arith)
    go false p q = let l : L' ≡ L = cc in (q, rw (← l) p)

-- a state that is read is one that is parsed and in which no blocked pair is found
pub read_parsed : (nest : ℕ) (bytes : List ℕ) (F N : ℕ) (L : Elements) (n : ℕ)
    → (read_within nest bytes ≡ got (state F N L) n) ↔ ((parse_state nest bytes ≡ got (state F N L) n) × (blocked_pair L ≡ false))
unfolding read_within unpaired
read_parsed nest bytes F N L n = (λ e. unpaired_parsed (parse_state nest bytes) F N L n e, λ t. rw (t.0, t.1))

pub accepted_parsed : (bytes : List ℕ) (F N : ℕ) (L : Elements) (n : ℕ)
    → (read_state bytes ≡ got (state F N L) n) ↔ ((parse_state nesting_limit bytes ≡ got (state F N L) n) × (blocked_pair L ≡ false))
accepted_parsed = read_parsed nesting_limit
