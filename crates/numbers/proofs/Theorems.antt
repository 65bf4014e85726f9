-- The proofs of the statements in specs/Theorems.antt.
use mathlib.Core.Path.{◌≡◌, refl, sym, ap, ◌∙◌, subst}
use mathlib.Core.Logic.{inl, ◌↔◌, ◌≢◌}
use mathlib.Core.Bool.{Bool, true, false}
use mathlib.Core.List.{List}
use mathlib.Core.Option.{Option, none, some, none-ne-some}
use Prim.Native.Nat.{ℕ, ◌<◌, min}
use native.Mathlib.Omega.{arith}
use borrow.Author.Tests.{eq-eqb, ne_eqb, le-ltb}
use lib.Dec.{ltb}
use lib.ListN.{length, take}
use Rattle.calculus.specs.Processes.{Process}
use Rattle.machine.specs.Limits.{nesting_limit, byte_limit, absent}
use Rattle.machine.specs.Elements.{state, weight_state}
use Rattle.machine.specs.Lowest.{partner_number}
use Rattle.machine.specs.Tests.{pick}
use Rattle.format.specs.Reading.{Outcome, refused, got, map_outcome}
use Rattle.elements.specs.Spelling.{Job, job, encode_state}
use Rattle.buffers.specs.Buffers.{Written, kept, wrote, fitting}
use Rattle.buffers.proofs.Answers.{fitting_kept}
use Rattle.states.specs.Reading.{read_job}
use Rattle.states.proofs.Theorems.{deep_is_refused}
use Rattle.uses.specs.Uses.{mixed}
use Rattle.uses.specs.Theorems.{BothUses}
use Rattle.uses.proofs.Uses.{mixed_has_both}
use Rattle.loaded.specs.Loading.{loaded, load_job, load}
use Rattle.loaded.proofs.Theorems.{mixed_is_refused}
use Rattle.sweeping.specs.Sweeping.{sweep_read, sweep_bytes}
use Rattle.weighing.specs.Weighing.{weigh}
use Rattle.machine.specs.Questions.{Tally}
use Rattle.partnering.specs.Partnering.{partners_bytes}
use Rattle.partnering.proofs.Theorems.{partners_tell, partners_refused, partners_fit}
use Rattle.calls.specs.Steps.{step_read, step_bytes}
use Rattle.calls.specs.Calls.{Call, Reply, refusal, acceptance, reply_of, StepContract, Observation, Plays, no_call as plain_no_call, refused_call as plain_refused, accepted_call as plain_accepted}
use Rattle.calls.proofs.Causes.{cause_number}
use Rattle.calls.proofs.Theorems.{lists_of_calls}
use Rattle.runs.specs.Runs.{blocked, spent, limit, Report, ended, run_read, run_bytes}
use Rattle.runs.proofs.Theorems.{limit_is_next_step}
use Rattle.registers.specs.declared.Panel.{Panel}
use Rattle.panel.specs.Access.{held, place_in, partner_in, asked}
use Rattle.answers.specs.declared.StepAnswer.{StepAnswer}
use Rattle.answers.specs.Numbers.{length_numbers, partners_numbers, step_numbers, ending_number, run_numbers, weight_numbers}
use Rattle.numbers.specs.Theorems.{last_number, InTable, RefusalsInTable, MixedJob, FifteenTells, RefusedAlike, DeepGetsFive, TellsWritten, TellsRead, RefusalTells, NobodyTells, EndingTells, reply_read, StepMeetsContract, PlaysFromC, no_call, refused_call, accepted_call, ListsOfCallsFromC}
use Rattle.refusing.proofs.Reading.{job_refusal, in_table}
use Rattle.refusing.proofs.Theorems.{load_refuses, write_refuses, list_refuses, partners_refuse, sweep_refuses, step_refuses, run_refuses, weight_refuses}

-- Every refusal is a number of the table

panel_refusal : (p : Panel) (s t : List ℕ) (k : ℕ) → asked (held p s t) ≡ kept k → InTable last_number k
unfolding asked
panel_refusal p s t k = go (ltb (length s) p.length)
  where
    go : (b : Bool) → pick b (kept 2) (step_bytes (take p.length s) (place_in p) (partner_in p) (min (length s) (length t))) ≡ kept k → InTable last_number k
    go true e = let i : 2 ≡ k = cc in (omega arith, omega arith)
    go false e = step_refuses (take p.length s) (place_in p) (partner_in p) (min (length s) (length t)) k e

pub refusals_in_table : RefusalsInTable
refusals_in_table = record { loading = load_refuses; writing = write_refuses; listing = list_refuses; partnering = partners_refuse; sweeping = sweep_refuses; stepping = step_refuses; running = run_refuses; weighing = weight_refuses; panel = panel_refusal }

-- 15

-- it is given by the judging alone
judged_mixed : (P : Process) (room : ℕ) (new : List ℕ) (b : Bool) → mixed P ≡ b → pick b (kept 15) (fitting {A = Unit {0}} byte_limit room tt new) ≡ kept 15 → BothUses P
judged_mixed P room new true m e = (mixed_has_both P).0 m
judged_mixed P room new false m e = absurd (omega (arith, fitting_kept byte_limit room tt new e))

fifteen_mixed : (bytes : List ℕ) (room : ℕ) → load bytes room ≡ kept 15 → MixedJob bytes
unfolding load load_job
fifteen_mixed bytes room = go (read_job bytes) refl
  where
    go : (o : Outcome Job) → read_job bytes ≡ o → load_job room o ≡ kept 15 → MixedJob bytes
    go (refused j) q e = let i : j ≡ 15 = cc in absurd (omega (arith, in_table 6 j (omega arith) (job_refusal bytes j q)))
    go (got (job F P) n) q e = record { free = F; process = P; size = n; read = q; both = judged_mixed P room (encode_state (loaded (job F P))) (mixed P) refl e }

pub fifteen_tells : FifteenTells
fifteen_tells bytes room = (fifteen_mixed bytes room, (λ m. mixed_is_refused bytes m.free m.process m.size room m.read m.both))

-- A state nested too deep

pub refused_alike : RefusedAlike
unfolding sweep_bytes sweep_read step_bytes step_read run_bytes run_read weigh map_outcome asked
refused_alike bytes k e =
    record {
      partnering = λ place. (partners_refused bytes place k).1 (inl e);
      sweeping = λ room. ap (sweep_read room) e;
      stepping = λ place partner room. ap (step_read place partner room) e;
      running = λ budget room. ap (run_read bytes room budget) e;
      weighing = ap (map_outcome weight_state) e;
      panel = λ p s t within q. rw (le-ltb (length s) p.length within, q) (ap (step_read (place_in p) (partner_in p) (min (length s) (length t))) e);
    }

pub deep_gets_five : DeepGetsFive
deep_gets_five more F N L v c within deep = refused_alike (encode_state (state F N L)) 5 (deep_is_refused nesting_limit more F N L v c within deep)

-- What `refusal` tells

unfoldable refusal_in : {A : Type 0} → Written ℕ A → ℕ
refusal_in (kept k) = k
refusal_in (wrote a new) = 0

tells : {A : Type 0} (last : ℕ) (w : Written ℕ A) {n : ℕ} → ((k : ℕ) → w ≡ kept k → InTable last k) → n ≡ refusal_in w → TellsWritten last w n
unfolding refusal_in
tells last (kept k) {n} table e =
    let h = table k refl in
    record {
      zero = ((λ z. absurd (omega arith)), (λ x. absurd (let z : ◌≡◌ {A = ℕ} 0 1 = cc x.2 in omega arith)));
      number = λ d. ((omega arith, omega arith), ap kept (sym e));
    }
tells last (wrote a new) table e = record { zero = ((λ z. (a, new, refl)), (λ x. e)); number = λ d. absurd (d e) }

length_tells : {A : Type 0} (w : Written ℕ A) → (length_numbers w).refusal ≡ refusal_in w
unfolding length_numbers refusal_in
length_tells (kept k) = refl
length_tells (wrote a new) = refl

step_tells : (w : Written ℕ ℕ) → (step_numbers w).refusal ≡ refusal_in w
unfolding step_numbers refusal_in
step_tells (kept k) = refl
step_tells (wrote n new) = refl

run_tells : (w : Written ℕ Report) → (run_numbers w).refusal ≡ refusal_in w
unfolding run_numbers refusal_in
run_tells (kept k) = refl
run_tells (wrote (ended e n) new) = refl

-- of a call that only reads

unfoldable unread_in : {A : Type 0} → Outcome A → ℕ
unread_in (refused k) = k
unread_in (got a m) = 0

tells_read : {A : Type 0} (o : Outcome A) {n : ℕ} → ((k : ℕ) → o ≡ refused k → InTable last_number k) → n ≡ unread_in o → TellsRead o n
unfolding unread_in
tells_read (refused k) {n} table e =
    let h = table k refl in
    record {
      zero = ((λ z. absurd (omega arith)), (λ x. absurd (let z : ◌≡◌ {A = ℕ} 0 1 = cc x.2 in omega arith)));
      number = λ d. ((omega arith, omega arith), ap refused (sym e));
    }
tells_read (got a m) table e = record { zero = ((λ z. (a, m, refl)), (λ x. e)); number = λ d. absurd (d e) }

partners_tells : (o : Outcome Tally) → (partners_numbers o).refusal ≡ unread_in o
unfolding partners_numbers unread_in
partners_tells (refused k) = refl
partners_tells (got t m) = refl

weight_tells : (o : Outcome ℕ) → (weight_numbers o).refusal ≡ unread_in o
unfolding weight_numbers unread_in
weight_tells (refused k) = refl
weight_tells (got w m) = refl

pub refusal_tells : RefusalTells
refusal_tells =
    record {
      loading = λ job out last r h. tells _ _ (load_refuses job (length out)) (ap (λ x. x.refusal) h.answers ∙ length_tells _);
      writing = λ F process out last r h. tells _ _ (write_refuses F process (length out)) (ap (λ x. x.refusal) h.answers ∙ length_tells _);
      listing = λ bytes out last r h. tells _ _ (list_refuses bytes (length out)) (ap (λ x. x.refusal) h.answers ∙ length_tells _);
      sweeping = λ bytes out last r h. tells _ _ (sweep_refuses bytes (length out)) (ap (λ x. x.refusal) h.answers ∙ length_tells _);
      partnering = λ bytes p r e. tells_read _ (partners_refuse bytes p) (ap (λ x. x.refusal) e ∙ partners_tells _);
      stepping = λ bytes p q out last r h. tells _ _ (step_refuses bytes p q (length out)) (ap (λ x. x.refusal) h.answers ∙ step_tells _);
      running = λ bytes budget out last r h. tells _ _ (run_refuses bytes budget (length out)) (ap (λ x. x.refusal) h.answers ∙ run_tells _);
      weighing = λ bytes r e. tells_read _ (weight_refuses bytes) (ap (λ x. x.refusal) e ∙ weight_tells _);
    }

-- Nobody

lowest_absent : (o : Option ℕ) → ((q : ℕ) → o ≡ some q → q < byte_limit) → (partner_number o ≡ absent) ↔ (o ≡ none)
unfolding partner_number
lowest_absent none h = ((λ e. refl), (λ e. refl))
lowest_absent (some q) h = ((λ e. absurd (omega (arith, e, h q refl))), (λ e. absurd (none-ne-some q (sym e))))

pub nobody_tells : NobodyTells
unfolding partners_numbers
nobody_tells s p r b e z = go (partners_bytes s p) refl e
  where
    go : (o : Outcome Tally) → partners_bytes s p ≡ o → r ≡ partners_numbers o → (r.lowest ≡ absent) ↔ (r.count ≡ 0)
    go (refused k) u f = absurd (let h = partners_refuse s p k u in omega (arith, h.0, ap (λ x. x.refusal) f, z))
    go (got t m) u f =
        let l = lowest_absent t.lowest (partners_fit s p m t b u).1 in
        let n = (partners_tell s p m t u).4.nobody in (
          (λ x. ap (λ y. y.count) f ∙ n.1 (l.0 (sym (ap (λ y. y.lowest) f) ∙ x))),
          (λ x. ap (λ y. y.lowest) f ∙ l.1 (n.0 (sym (ap (λ y. y.count) f) ∙ x))),
        )

-- The ending

pub ending_tells : EndingTells
unfolding ending_number
ending_tells bytes t budget room n blocked b f = (
  ((λ z. refl), (λ e. refl)),
  ((λ z. absurd (omega arith)), (λ e. absurd (let z : ◌≡◌ {A = ℕ} 0 1 = cc in omega arith))),
  λ k. ((λ e. absurd (let z : ◌≡◌ {A = ℕ} 0 1 = cc in omega arith)), (λ h. absurd (omega (arith, h.0, h.1)))),
)
ending_tells bytes t budget room n spent b f = (
  ((λ z. absurd (omega arith)), (λ e. absurd (let z : ◌≡◌ {A = ℕ} 0 1 = cc in omega arith))),
  ((λ z. refl), (λ e. refl)),
  λ k. ((λ e. absurd (let z : ◌≡◌ {A = ℕ} 0 1 = cc in omega arith)), (λ h. absurd (omega (arith, h.0, h.1)))),
)
ending_tells bytes t budget room n (limit j) b f =
    let l = (limit_is_next_step bytes t budget room n j b f).6 in
    let m = cause_number l.1 in (
      ((λ z. absurd (omega (arith, l.0))), (λ e. absurd (let z : ◌≡◌ {A = ℕ} 0 1 = cc in omega arith))),
      ((λ z. absurd (omega (arith, l.0))), (λ e. absurd (let z : ◌≡◌ {A = ℕ} 0 1 = cc in omega arith))),
      λ k. ((λ e. let i : j ≡ k = cc in (i, omega (arith, l.0), omega arith)), (λ h. ap limit h.0)),
    )

-- Lists of calls of `cabinet_step`

module _ (r : StepAnswer) where
  read_by : Bool → Reply
  read_by b = pick b (acceptance r.rule r.length) (refusal r.refusal)

  read_refused : r.refusal ≢ 0 → reply_read r ≡ refusal r.refusal
  unfolding reply_read read_by
  read_refused d = ap read_by (ne_eqb r.refusal 0 d)

  read_accepted : r.refusal ≡ 0 → reply_read r ≡ acceptance r.rule r.length
  unfolding reply_read read_by
  read_accepted e = ap read_by (eq-eqb r.refusal 0 e)

read_numbers : (w : Written ℕ ℕ) → ((k : ℕ) → w ≡ kept k → InTable last_number k) → reply_read (step_numbers w) ≡ reply_of w
unfolding step_numbers reply_of
read_numbers (kept k) table = let h = table k refl in read_refused _ (λ e. omega arith)
read_numbers (wrote n new) table = read_accepted _ refl

pub step_meets_contract : StepMeetsContract
step_meets_contract present place partner out last r h =
    record { answers = ap reply_read h.answers ∙ read_numbers (step_bytes present place partner (length out)) (step_refuses present place partner (length out)); leaves = h.leaves }

plays_from_c : {s t : List ℕ} {cs : List Call} {os : List Observation} {n : ℕ} → PlaysFromC s cs os t n → Plays s cs os t n
plays_from_c no_call = plain_no_call
plays_from_c {s} (refused_call {out = out} {last = last} {p = p} {q = q} {r = r} h d rest) =
    plain_refused (subst (λ x. StepContract s p q out x last) (read_refused r d) (step_meets_contract s p q out last r h)) (plays_from_c rest)
plays_from_c {s} (accepted_call {out = out} {last = last} {p = p} {q = q} {r = r} h e rest) =
    plain_accepted (subst (λ x. StepContract s p q out x last) (read_accepted r e) (step_meets_contract s p q out last r h)) (plays_from_c rest)

pub lists_of_calls_from_c : ListsOfCallsFromC
lists_of_calls_from_c s S m e i cs os t n r = lists_of_calls s S m e i cs os t n (plays_from_c r)
