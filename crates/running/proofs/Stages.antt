-- Where a run stands between two turns: the state present, and the run that is left; and what one turn more makes of it.
use mathlib.Core.Path.{◌≡◌, refl, sym, ap, ◌∙◌}
use mathlib.Core.List.{List, ◌++◌, append_assoc}
use Prim.Native.Nat.{ℕ, zero, suc, ◌+◌, ◌-◌, ◌≤◌, ◌<◌}
use native.Mathlib.Omega.{arith}
use native.Mathlib.Nat.{sub-zero}
use lib.ListN.{length, take, drop, length-append, length-drop}
use lib.Seq.{length-take-le, take_at}
use Rattle.machine.specs.Limits.{byte_limit}
use Rattle.machine.specs.Elements.{State}
use Rattle.buffers.specs.Buffers.{Written, kept, wrote, buffer_after, Answered}
use Rattle.buffers.proofs.Writing.{length_kept}
use Rattle.std.specs.Prelude.{Some, None}
use Rattle.refusals.specs.declared.Refusal.{Refusal}
use Rattle.advancing.specs.declared.Ending.{Ending}
use Rattle.advancing.specs.Answers.{ending_of, Present}
use Rattle.running.specs.declared.Progress.{Progress}
use Rattle.running.specs.declared.Finished.{Finished}
use Rattle.runs.specs.Runs.{Ending as Ended, Ran, ran, counted, run_from}
use Rattle.runs.specs.Turns.{Moved, turn}
use Rattle.runs.proofs.Turning.{turned, halts, follows}
use Rattle.running.specs.Answers.{record_after, Played}

-- A run that took so many steps before
unfoldable pub counted_by : ℕ → Ran → Ran
counted_by zero r = r
counted_by (suc n) r = counted (counted_by n r)

counted_end : (n : ℕ) (e : Ended) (T : State) → counted_by n (ran e 0 T) ≡ ran e n T
unfolding counted_by counted
counted_end zero e T = refl
counted_end (suc n) e T = ap counted (counted_end n e T)

counted_more : (n : ℕ) (r : Ran) → counted_by n (counted r) ≡ counted_by (suc n) r
unfolding counted_by
counted_more zero r = refl
counted_more (suc n) r = ap counted (counted_more n r)

counted_none : (r : Ran) → counted_by 0 r ≡ r
unfolding counted_by
counted_none r = refl

-- Where a run stands

pub record Stands (room budget : ℕ) (S : State) (r : Progress) (present : List ℕ) : Type 0 where
  pub at : State
  pub here : Present (take r.length present) at
  pub runs : run_from room budget S ≡ counted_by r.count (run_from room (budget - r.count) at)

pub first_stage : (room budget size : ℕ) (S : State) (present : List ℕ) → Present (take size present) S → Stands room budget S (record { count = 0; ending = None; length = size }) present
first_stage room budget size S present p =
    record { at = S; here = p; runs = sym (counted_none (run_from room (budget - 0) S) ∙ ap (λ (n : ℕ). run_from room n S) (sub-zero budget)) }

-- A turn after which it goes on: the bytes that it wrote, and where the run stands once they are present.
pub record Onward (room budget : ℕ) (S : State) (r : Progress) (next : List ℕ) (r' : Progress) (after : List ℕ) : Type 0 where
  pub new : List ℕ
  pub wrote : after ≡ new ++ drop (length new) next
  pub long : r'.length ≡ length new
  pub small : length new ≤ byte_limit
  pub fits : length new ≤ room
  pub count : r'.count ≡ r.count + 1
  pub less : r.count < budget
  pub stands : (present : List ℕ) → take (length new) present ≡ new → Stands room budget S r' present

module _ {room budget : ℕ} {S : State} {r : Progress} {present : List ℕ} (s : Stands room budget S r present) where
  abbrev pub here_turn : Written Ended Moved
  here_turn = turn room (budget - r.count) s.at

  -- a record that tells how the run ended
  abbrev pub finished : Progress → Ending Refusal → Finished Refusal
  finished r' e = record { ending = e; steps = r'.count; length = r'.length }

  pub ended_stage : {next after : List ℕ} {r' : Progress} (e : Ending Refusal) → Answered (record_after r) here_turn next r' after → r'.ending ≡ Some e → r.length ≤ room → r.length ≤ length present
      → Played room budget S (finished r' e) present
  unfolding record_after
  ended_stage {r' = r'} e t g h k = go here_turn refl t.answers
    where
      go : (x : Written Ended Moved) → here_turn ≡ x → r' ≡ record_after r x → Played room budget S (finished r' e) present
      go (wrote move new) u f = absurd (let n : r'.ending ≡ None = ap (λ (y : Progress). y.ending) f in let z : ◌≡◌ {A = ℕ} 0 1 = cc in omega arith)
      go (kept d) u f =
          let n : r'.ending ≡ Some (ending_of d) = ap (λ (y : Progress). y.ending) f in
          let m : e ≡ ending_of d = cc in
          rw f (record {
            end = d;
            reached = s.at;
            runs = s.runs ∙ ap (counted_by r.count) (halts (turned room (budget - r.count) s.at) u) ∙ counted_end r.count d s.at;
            ends = m;
            holds = s.here.spelled;
            long = sym (length-take-le r.length present k) ∙ ap length s.here.spelled;
            fits = h;
          })

  pub next_stage : {next after : List ℕ} {r' : Progress} → Answered (record_after r) here_turn next r' after → r'.ending ≡ None → Onward room budget S r next r' after
  unfolding record_after buffer_after
  next_stage {next} {after} {r'} t g = go here_turn refl t.answers t.leaves
    where
      go : (x : Written Ended Moved) → here_turn ≡ x → r' ≡ record_after r x → after ≡ buffer_after x next → Onward room budget S r next r' after
      go (kept e) u f l = absurd (let n : r'.ending ≡ Some (ending_of e) = ap (λ (y : Progress). y.ending) f in let z : ◌≡◌ {A = ℕ} 0 1 = cc in omega arith)
      go (wrote move new) u f l =
          let v = follows (turned room (budget - r.count) s.at) u in
          let n : r'.length ≡ length new = ap (λ (y : Progress). y.length) f in
          let m : r'.count ≡ r.count + 1 = ap (λ (y : Progress). y.count) f in
          let k : budget - r.count - 1 ≡ budget - r'.count = omega arith in
          let j : suc r.count ≡ r'.count = omega arith in
          record {
            new = new;
            wrote = l;
            long = n;
            small = v.small;
            fits = v.fits;
            count = m;
            less = omega (arith, v.less);
            stands = λ present' e. record {
              at = v.after;
              here =
                  record {
                    spelled = ap (λ (j : ℕ). take j present') n ∙ e ∙ v.bytes;
                    admitted = v.admitted s.here.admitted;
                    short = rw (n, e) v.small;
                  };
              runs =
                  s.runs
                  ∙ ap (counted_by r.count) v.runs
                  ∙ counted_more r.count (run_from room (budget - r.count - 1) v.after)
                  ∙ ap (λ (j : ℕ). counted_by (suc r.count) (run_from room j v.after)) k
                  ∙ ap (λ (j : ℕ). counted_by j (run_from room (budget - r'.count) v.after)) j;
            };
          }

-- The buffers

-- what was written to the front of a part, read from the whole
pub part_written : (new next after : List ℕ) (room n : ℕ) → after ≡ new ++ drop (length new) (take room next) → n ≡ length new → take n (after ++ drop room next) ≡ new
part_written new next after room n e q =
    ap (λ (l : List ℕ). take n (l ++ drop room next)) e
    ∙ ap (take n) (append_assoc new (drop (length new) (take room next)) (drop room next))
    ∙ take_at new (drop (length new) (take room next) ++ drop room next) n (sym q)

-- a part that was lent and has come back is as long as it was
pub part_length : (new next after : List ℕ) (room : ℕ) → after ≡ new ++ drop (length new) (take room next) → length new ≤ room → room ≤ length next → length (after ++ drop room next) ≡ length next
part_length new next after room e h k =
    omega
    (arith, length-append after (drop room next), length_kept new (take room next) after (omega (arith, length-take-le room next k)) e, length-take-le room next k, length-drop room next)
