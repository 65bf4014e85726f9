-- The numbers of what the calls below answer have two bytes at most, and those that refuse are in document 01's table.
use mathlib.Core.Path.{◌≡◌, refl, sym, subst}
use mathlib.Core.List.{List}
use Prim.Native.Nat.{ℕ, ◌<◌}
use native.Mathlib.Omega.{arith}
use lib.ListN.{length}
use Rattle.std.specs.Prelude.{Result, Ok, Err}
use Rattle.machine.specs.Elements.{State, state}
use Rattle.machine.specs.Limits.{listing_nesting_limit, byte_limit}
use Rattle.machine.specs.Lowest.{able}
use Rattle.refusals.specs.declared.Refusal.{Refusal}
use Rattle.format.specs.Spelling.{word_limit}
use Rattle.format.specs.Reading.{Outcome, refused, got}
use Rattle.format.specs.Theorems.{Bytes}
use Rattle.states.specs.Reading.{read_within}
use Rattle.buffers.specs.Buffers.{Written, kept, wrote, written_answer}
use Rattle.buffers.proofs.Answers.{Within, fitting_within}
use Rattle.listing.specs.Listing.{list_bytes, list_read, words}
use Rattle.partnering.specs.Partnering.{partners_bytes}
use Rattle.partnering.specs.Answers.{partners_answer}
use Rattle.partnering.specs.declared.PartnerCount.{PartnerCount}
use Rattle.partnering.proofs.Theorems.{answer_small}
use Rattle.calls.specs.Steps.{step_bytes}
use Rattle.calls.specs.Calls.{reply_of}
use Rattle.calls.proofs.Results.{step_result}
use Rattle.performing.specs.Performing.{reply_in}
use Rattle.performing.specs.declared.Step.{Step}
use Rattle.runs.specs.Runs.{run_bytes}
use Rattle.running.specs.Answers.{run_answer}
use Rattle.running.specs.declared.Finished.{Finished}
use Rattle.running.proofs.Done.{ran_done}
use Rattle.weighing.specs.Weighing.{weigh, weight_answer}
use Rattle.weighing.proofs.Weighing.{weigh_small}
use Rattle.answers.specs.Small.{SmallFilled, SmallPartnered, SmallReplied, SmallRan, SmallWeighed}

-- Of a call that writes no more bytes than a state has.
pub filled_small : {A : Type 0} {r : Result ℕ Refusal} (w : Written ℕ A) → Within byte_limit w → r ≡ written_answer w → SmallFilled r
unfolding Within written_answer
filled_small (kept k) h e = subst SmallFilled (sym e) tt
filled_small (wrote a new) h e = subst SmallFilled (sym e) (omega (arith, h))

pub list_small : (bytes : List ℕ) (room : ℕ) → Within byte_limit (list_bytes bytes room)
unfolding list_bytes list_read Within
list_small bytes room = go (read_within listing_nesting_limit bytes)
  where
    go : (o : Outcome State) → Within byte_limit (list_read room o)
    go (refused k) = tt
    go (got (state F N L) n) = fitting_within byte_limit room tt (words (able 0 L))

pub partners_small : (s : List ℕ) (p : ℕ) (r : Result PartnerCount Refusal) → Bytes s → r ≡ partners_answer (partners_bytes s p) → SmallPartnered r
partners_small s p (Err x) b e = tt
partners_small s p (Ok x) b e = let h = answer_small s p x b e in ((λ q f. omega (arith, h.0 q f)), omega (arith, h.1))

pub step_small : (s : List ℕ) (p q room : ℕ) (r : Result Step Refusal) → reply_in r ≡ reply_of (step_bytes s p q room) → SmallReplied r
unfolding reply_in reply_of
step_small s p q room (Err x) e = tt
step_small s p q room (Ok x) e = go (step_bytes s p q room) refl e
  where
    go : (w : Written ℕ ℕ) → step_bytes s p q room ≡ w → reply_in (Ok x) ≡ reply_of w → x.length < word_limit
    go (kept k) f e = absurd (let z : ◌≡◌ {A = ℕ} 0 1 = cc in omega arith)
    go (wrote i new) f e = let m : x.length ≡ length new = cc in omega (arith, (step_result s p q room i new f).small)

pub run_small : (s : List ℕ) (budget room : ℕ) (r : Result (Finished Refusal) Refusal) → Bytes s → budget < word_limit → r ≡ run_answer (run_bytes s budget room) → SmallRan r
run_small s budget room (Err x) b l e = tt
run_small s budget room (Ok x) b l e = let h = ran_done budget room b e in (omega (arith, h.1, l), omega (arith, h.2))

pub weight_small : (s : List ℕ) (r : Result ℕ Refusal) → Bytes s → r ≡ weight_answer (weigh s) → SmallWeighed r
weight_small s (Err x) b e = tt
weight_small s (Ok w) b e = omega (arith, weigh_small s w b e)
