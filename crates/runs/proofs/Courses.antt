-- The course of a run: the turns that it takes, and how it ends.
use mathlib.Core.Path.{◌≡◌, refl, sym, ap, ◌∙◌, subst}
use mathlib.Core.Logic.{inl, inr}
use mathlib.Core.List.{List}
use mathlib.Core.Option.{some}
use Prim.Native.Nat.{ℕ, zero, suc, ◌+◌, ◌-◌, ◌≤◌, ◌<◌}
use native.Mathlib.Omega.{arith}
use lib.ListN.{length}
use Rattle.calculus.specs.Reduction.{Irreducible}
use Rattle.machine.specs.Limits.{byte_limit}
use Rattle.machine.specs.Elements.{State, decode_state, weight_state}
use Rattle.machine.specs.Stepping.{accepted, step}
use Rattle.format.specs.Reading.{Outcome, refused as unread, got}
use Rattle.elements.specs.Spelling.{encode_state}
use Rattle.states.specs.Reading.{read_state}
use Rattle.buffers.specs.Buffers.{Written, kept, wrote}
use Rattle.buffers.proofs.Answers.{Fits, fitting_cases}
use Rattle.states.specs.Theorems.{Admitted}
use Rattle.calls.proofs.Theorems.{step_admitted, irreducible_step}
use Rattle.machine.specs.Lowest.{place_in, partner_in}
use Rattle.runs.specs.Runs.{Ending, blocked, spent, limit, Ran, ran, counted, run_from, ended, ended_in, run_first, run_read, run_bytes}
use Rattle.runs.specs.Turns.{Moved}
use Rattle.runs.proofs.Turning.{EndsAt, Turned, over, goes, turned}

-- Turns from one state to another, each with the run's choice, and each accepted into a buffer of so many bytes.
pub data Turns (room : ℕ) : State → ℕ → State → Type 0 where
  still : {S : State} → Turns room S 0 S
  onward : {S S' T : State} {p rule n : ℕ} → place_in S ≡ some p → step S p (partner_in S p) ≡ accepted rule S' →
      length (encode_state S') ≤ byte_limit → length (encode_state S') ≤ room → Turns room S' n T → Turns room S (suc n) T

pub record Course (room budget : ℕ) (S : State) (e : Ending) (n : ℕ) (T : State) : Type 0 where
  pub turns : Turns room S n T
  pub within : n ≤ budget
  pub ends : EndsAt room e budget n T

unfoldable CourseOf : (room budget : ℕ) → State → Ran → Type 0
CourseOf room budget S (ran e n T) = Course room budget S e n T

ends_later : (room : ℕ) {left : ℕ} (e : Ending) (n : ℕ) (T : State) → 0 < left → EndsAt room e (left - 1) n T → EndsAt room e left (suc n) T
unfolding EndsAt
ends_later room blocked n T l h = h
ends_later room spent n T l h = (omega (arith, h.0), h.1)
ends_later room (limit k) n T l h = (omega (arith, h.0), h.1, h.2)

-- one turn, and the courses that may come behind it
turned_course : {room left : ℕ} {S : State} {t : Written Ending Moved} {r : Ran} → Turned room left S t r →
    (0 < left → (S' : State) → CourseOf room (left - 1) S' (run_from room (left - 1) S')) → CourseOf room left S r
unfolding CourseOf counted
turned_course (over e h) more = record { turns = still; within = omega arith; ends = h }
turned_course {room} {left} {S} (goes {S' = S'} l q f w v) more = go (run_from room (left - 1) S') (more l S')
  where
    go : (r : Ran) → CourseOf room (left - 1) S' r → CourseOf room left S (counted r)
    go (ran e n T) c = record { turns = onward q f w v c.turns; within = omega (arith, l, c.within); ends = ends_later room e n T l c.ends }

course : (room budget : ℕ) (S : State) → CourseOf room budget S (run_from room budget S)
course room zero S = turned_course (turned room zero S) (λ l. absurd (omega arith))
course room (suc b) S = let e : suc b - 1 ≡ b = omega arith in turned_course (turned room (suc b) S) (λ l S'. rw e (course room b S'))

-- A run of bytes that ended: the state that they were read as, the state reached, which the last bytes spell, and the course between.
pub record Finished (s : List ℕ) (budget room : ℕ) (e : Ending) (n : ℕ) (t : List ℕ) : Type 0 where
  pub start : State
  pub size : ℕ
  pub read : read_state s ≡ got start size
  pub reached : State
  pub bytes : t ≡ encode_state reached
  pub course : Course room budget start e n reached

ended_course : (s t : List ℕ) (S : State) (m budget room n : ℕ) (e : Ending) → read_state s ≡ got S m →
    (r : Ran) → CourseOf room budget S r → ended_in r ≡ wrote (ended e n) t → Finished s budget room e n t
unfolding CourseOf ended_in
ended_course s t S m budget room n e q (ran e' n' T) c f =
    let x : e' ≡ e = cc in
    let y : n' ≡ n = cc in
    let z : encode_state T ≡ t = cc in
    record { start = S; size = m; read = q; reached = T; bytes = sym z; course = subst (λ i. Course room budget S i n T) x (subst (λ i. Course room budget S e' i T) y c) }

read_course : (s t : List ℕ) (budget room n : ℕ) (e : Ending) (o : Outcome State) → read_state s ≡ o → run_read s room budget o ≡ wrote (ended e n) t → Finished s budget room e n t
unfolding run_read run_first
read_course s t budget room n e (unread k) q f = absurd (let z : ◌≡◌ {A = ℕ} 0 1 = cc in omega arith)
read_course s t budget room n e (got S m) q f = go (fitting_cases byte_limit room S s)
  where
    go : Fits byte_limit room S s → Finished s budget room e n t
    go (inl h) = ended_course s t S m budget room n e q (run_from room budget S) (course room budget S) (ap (run_first room budget) (sym h.0) ∙ f)
    go (inr h) = absurd (let g : kept 13 ≡ wrote (ended e n) t = ap (run_first room budget) (sym h) ∙ f in let z : ◌≡◌ {A = ℕ} 0 1 = cc in omega arith)

pub finished : (s t : List ℕ) (budget room n : ℕ) (e : Ending) → run_bytes s budget room ≡ wrote (ended e n) t → Finished s budget room e n t
unfolding run_bytes
finished s t budget room n e f = read_course s t budget room n e (read_state s) refl f

-- What holds of the first state, and of the state reached

pub turns_admitted : {room n : ℕ} {S T : State} → Turns room S n T → Admitted S → Admitted T
turns_admitted still a = a
turns_admitted {S = S} (onward {S' = S'} {p = p} {rule = rule} q f w v r) a = turns_admitted r (step_admitted S p (partner_in S p) rule S' a f)

pub turns_short : {room n : ℕ} {S T : State} → Turns room S n T → length (encode_state S) ≤ byte_limit → length (encode_state T) ≤ byte_limit
turns_short still l = l
turns_short (onward q f w v r) l = turns_short r w

-- from an irreducible state each turn takes 1 from the weight
pub turns_weight : {room n : ℕ} {S T : State} → Turns room S n T → Admitted S → Irreducible (decode_state S) → n + weight_state T ≡ weight_state S
turns_weight still a i = omega arith
turns_weight {S = S} (onward {S' = S'} {p = p} {rule = rule} q f w v r) a i =
    let h = irreducible_step S S' p rule (partner_in S p) a i f in
    omega (arith, h.0, turns_weight r (step_admitted S p (partner_in S p) rule S' a f) h.1)
