-- The numbers of what the code answers are those of what the call comes to, where the numbers that refuse it are in document 01's table.
use mathlib.Core.Path.{◌≡◌, refl, ap, ap₂, ◌∙◌}
use mathlib.Core.List.{List}
use mathlib.Core.Option.{Option, none, some}
use Prim.Native.Nat.{ℕ}
use native.Mathlib.Omega.{arith}
use lib.ListN.{length}
use Rattle.std.specs.Prelude.{Result, Ok, Err, unwrap_or}
use Rattle.machine.specs.Limits.{absent}
use Rattle.machine.specs.Lowest.{partner_number}
use Rattle.machine.specs.Questions.{Tally}
use Rattle.refusals.specs.declared.Refusal.{Refusal}
use Rattle.refusals.specs.Refusals.{number, InTable}
use Rattle.refusals.proofs.Theorems.{of_number}
use Rattle.format.specs.Reading.{Outcome, refused, got}
use Rattle.buffers.specs.Buffers.{Written, kept, wrote, Answered, written_answer}
use Rattle.places.specs.Offsets.{coded}
use Rattle.weighing.specs.Weighing.{weight_answer}
use Rattle.partnering.specs.Answers.{partners_answer}
use Rattle.calls.specs.Calls.{reply_of}
use Rattle.partnering.specs.declared.PartnerCount.{PartnerCount}
use Rattle.performing.specs.declared.Step.{Step}
use Rattle.performing.specs.Performing.{reply_in}
use Rattle.runs.specs.Runs.{Ending, blocked, spent, limit, Report, ended}
use Rattle.advancing.specs.Answers.{ending_of}
use Rattle.advancing.specs.declared.Ending.{Ending as Ended}
use Rattle.advancing.specs.declared.Ending.TheVariants.{Blocked, Spent, Limit}
use Rattle.running.specs.declared.Finished.{Finished}
use Rattle.running.specs.Answers.{run_answer}
use Rattle.answers.specs.Numbers.{length_numbers, filled_numbers, partners_numbers, partnered_numbers, step_numbers, replied_numbers, ending_number, ended_number, run_numbers, ran_numbers, weight_numbers, weighed_numbers}

-- The numbers that refuse are in the table.
abbrev pub Kept : {A : Type 0} → Written ℕ A → Type 0
Kept w = (k : ℕ) → w ≡ kept k → InTable k

abbrev pub Unread : {A : Type 0} → Outcome A → Type 0
Unread o = (k : ℕ) → o ≡ refused k → InTable k

-- The answers by the numbers themselves: of anything that a call comes to, the numbers are those of what refuses it.

abbrev pub filled_by : {A : Type 0} → Written ℕ A → Result ℕ ℕ
filled_by (kept k) = Err k
filled_by (wrote a new) = Ok (length new)

pub filled_numbers_law : {A : Type 0} (w : Written ℕ A) → filled_numbers (λ k. k) (filled_by w) ≡ length_numbers w
unfolding length_numbers
filled_numbers_law (kept k) = refl
filled_numbers_law (wrote a new) = refl

abbrev pub partnered_by : Outcome Tally → Result PartnerCount ℕ
partnered_by (refused k) = Err k
partnered_by (got t n) = Ok (record { lowest = coded t.lowest; count = t.number })

lowest_number : (o : Option ℕ) → unwrap_or (coded o) absent ≡ partner_number o
unfolding partner_number
lowest_number none = refl
lowest_number (some q) = refl

pub partnered_numbers_law : (o : Outcome Tally) → partnered_numbers (λ k. k) (partnered_by o) ≡ partners_numbers o
unfolding partners_numbers
partnered_numbers_law (refused k) = refl
partnered_numbers_law (got t n) = ap (λ (i : ℕ). record { refusal = 0; lowest = i; count = t.number }) (lowest_number t.lowest)

abbrev pub weighed_by : Outcome ℕ → Result ℕ ℕ
weighed_by (refused k) = Err k
weighed_by (got w n) = Ok w

pub weighed_numbers_law : (o : Outcome ℕ) → weighed_numbers (λ k. k) (weighed_by o) ≡ weight_numbers o
unfolding weight_numbers
weighed_numbers_law (refused k) = refl
weighed_numbers_law (got w n) = refl

abbrev pub ending_by : Ending → Ended ℕ
ending_by blocked = Blocked
ending_by spent = Spent
ending_by (limit k) = Limit k

ended_number_law : (e : Ending) → ended_number (λ k. k) (ending_by e) ≡ ending_number e
unfolding ending_number
ended_number_law blocked = refl
ended_number_law spent = refl
ended_number_law (limit k) = refl

abbrev pub ran_by : Written ℕ Report → Result (Finished ℕ) ℕ
ran_by (kept k) = Err k
ran_by (wrote (ended e n) new) = Ok (record { ending = ending_by e; steps = n; length = length new })

pub ran_numbers_law : (w : Written ℕ Report) → ran_numbers (λ k. k) (ran_by w) ≡ run_numbers w
unfolding run_numbers
ran_numbers_law (kept k) = refl
ran_numbers_law (wrote (ended e n) new) = ap (λ (i : ℕ). record { refusal = 0; ending = i; steps = n; length = length new }) (ended_number_law e)

-- The numbers of a reply of the step, whose contract speaks of the reply and not of the code's own answer.
pub replied_numbers_law : (r : Result Step Refusal) (w : Written ℕ ℕ) → reply_in r ≡ reply_of w → replied_numbers number r ≡ step_numbers w
unfolding reply_in reply_of step_numbers
replied_numbers_law (Err e) (kept k) q = let n : number e ≡ k = cc in ap (λ (i : ℕ). record { refusal = i; rule = 0; length = 0 }) n
replied_numbers_law (Err e) (wrote rule new) q = absurd (let z : ◌≡◌ {A = ℕ} 0 1 = cc in omega arith)
replied_numbers_law (Ok x) (kept k) q = absurd (let z : ◌≡◌ {A = ℕ} 0 1 = cc in omega arith)
replied_numbers_law (Ok x) (wrote rule new) q =
    let r : x.rule ≡ rule = cc in
    let n : x.length ≡ length new = cc in
    ap₂ (λ (i j : ℕ). record { refusal = 0; rule = i; length = j }) r n

-- The same of what the code answers, whose refusals are those of the table.

pub filled_in_table : {A : Type 0} (w : Written ℕ A) → Kept w → filled_numbers number (written_answer w) ≡ length_numbers w
unfolding written_answer
filled_in_table (kept k) h = ap (λ (i : ℕ). filled_numbers (λ n. n) (Err i)) (of_number k (h k refl)) ∙ filled_numbers_law (kept k)
filled_in_table (wrote a new) h = filled_numbers_law (wrote a new)

pub partnered_in_table : (o : Outcome Tally) → Unread o → partnered_numbers number (partners_answer o) ≡ partners_numbers o
unfolding partners_answer
partnered_in_table (refused k) h = ap (λ (i : ℕ). partnered_numbers (λ n. n) (Err i)) (of_number k (h k refl)) ∙ partnered_numbers_law (refused k)
partnered_in_table (got t n) h = partnered_numbers_law (got t n)

pub weighed_in_table : (o : Outcome ℕ) → Unread o → weighed_numbers number (weight_answer o) ≡ weight_numbers o
unfolding weight_answer
weighed_in_table (refused k) h = ap (λ (i : ℕ). weighed_numbers (λ n. n) (Err i)) (of_number k (h k refl)) ∙ weighed_numbers_law (refused k)
weighed_in_table (got w n) h = weighed_numbers_law (got w n)

ended_in_table : (e : Ending) → ((k : ℕ) → e ≡ limit k → InTable k) → ended_number number (ending_of e) ≡ ending_number e
unfolding ending_of ending_number
ended_in_table blocked h = refl
ended_in_table spent h = refl
ended_in_table (limit k) h = of_number k (h k refl)

pub ran_in_table : (w : Written ℕ Report) → Kept w → ((k n : ℕ) (new : List ℕ) → w ≡ wrote (ended (limit k) n) new → InTable k) → ran_numbers number (run_answer w) ≡ run_numbers w
unfolding run_answer run_numbers
ran_in_table (kept k) h g = ap (λ (i : ℕ). ran_numbers (λ n. n) (Err i)) (of_number k (h k refl)) ∙ ran_numbers_law (kept k)
ran_in_table (wrote (ended e n) new) h g =
    ap (λ (i : ℕ). record { refusal = 0; ending = i; steps = n; length = length new })
    (ended_in_table e (λ k q. g k n new (ap (λ (f : Ending). wrote (ended f n) new) q)))

-- A call that fills a buffer, with the numbers of its answer.
pub numbered : {A B C : Type 0} {answer : Written ℕ A → B} {numbers : Written ℕ A → C} {w : Written ℕ A} {out last : List ℕ} {r : B} (of : B → C) {x : C}
    → of (answer w) ≡ numbers w → x ≡ of r → Answered answer w out r last → Answered numbers w out x last
numbered of e f h = record { answers = f ∙ ap of h.answers ∙ e; leaves = h.leaves }
