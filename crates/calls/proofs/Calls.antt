-- What the contract of the step says of a call: the plain machine's number, state and count.
use mathlib.Core.Path.{◌≡◌, refl, sym, ap, ◌∙◌, subst}
use mathlib.Core.Bool.{Bool, true, false}
use mathlib.Core.List.{List, [], ◌∷◌, ◌++◌}
use mathlib.Core.Option.{none, some}
use Prim.Native.Nat.{ℕ, suc, ◌+◌}
use native.Mathlib.Omega.{arith}
use borrow.Author.Tests.{leb-true, leb-false, lt-ltb, le-ltb}
use lib.ListN.{length, take, drop}
use lib.Seq.{take_at}
use lib.Dec.{leb}
use Rattle.machine.specs.Elements.{State}
use Rattle.machine.specs.Stepping.{Answer, refused as refused_step, accepted, step}
use Rattle.format.specs.Reading.{Outcome, refused, got}
use Rattle.machine.specs.Tests.{pick}
use Rattle.elements.specs.Spelling.{encode_state}
use Rattle.machine.specs.Limits.{byte_limit}
use Rattle.states.specs.Reading.{read_state}
use Rattle.buffers.specs.Buffers.{Written, kept, wrote, fits_in, fitting, buffer_after}
use Rattle.machine.specs.Lowest.{partner_of}
use Rattle.calls.specs.Steps.{stepped, step_read, step_bytes}
use Rattle.calls.specs.Calls.{Call, call, Reply, refusal, acceptance, reply_of, StepContract, Observation, observed, Plays, no_call, refused_call, accepted_call, plain, PlainReply, gives, plain_room, plain_step, plain_read, plain_turn, machine_after, observe, plain_run, plain_observations}
use Rattle.calls.specs.Theorems.{CallsArePlain, EveryListPlays, PlaysAgree}

-- The turn of the plain machine that a step in bytes stands for.
unfoldable turn_of : Written ℕ ℕ → List ℕ → ℕ → PlainReply
turn_of (kept k) s count = gives (some k) (plain s count)
turn_of (wrote n new) s count = gives none (plain new (suc count))

fitting_turn : (room n : ℕ) (new s : List ℕ) (count : ℕ) → plain_room room new count s ≡ turn_of (fitting byte_limit room n new) s count
unfolding plain_room turn_of fitting fits_in
fitting_turn room n new s count = go (leb (length new) byte_limit) (leb (length new) room) refl refl
  where
    go : (b c : Bool) → leb (length new) byte_limit ≡ b → leb (length new) room ≡ c → plain_room room new count s ≡ turn_of (pick (pick b c false) (wrote n new) (kept 13)) s count
    go false c q r = simp (lt-ltb byte_limit (length new) (leb-false (length new) byte_limit q))
    go true false q r = simp (le-ltb byte_limit (length new) (leb-true (length new) byte_limit q), lt-ltb room (length new) (leb-false (length new) room r))
    go true true q r = simp (le-ltb byte_limit (length new) (leb-true (length new) byte_limit q), le-ltb room (length new) (leb-true (length new) room r))

stepped_turn : (room : ℕ) (a : Answer) (s : List ℕ) (count : ℕ) → plain_step room a count s ≡ turn_of (stepped room a) s count
unfolding plain_step turn_of stepped
stepped_turn room (refused_step k) s count = refl
stepped_turn room (accepted n S) s count = fitting_turn _ n (encode_state S) s count

read_turn : (p q room : ℕ) (o : Outcome State) (s : List ℕ) (count : ℕ) → plain_read p q room o count s ≡ turn_of (step_read p q room o) s count
unfolding plain_read turn_of step_read
read_turn p q room (refused k) s count = refl
read_turn p q room (got S n) s count = stepped_turn room (step S p (partner_of q)) s count

plain_turn_law : (p q room : ℕ) (s : List ℕ) (count : ℕ) → plain_turn p q room (plain s count) ≡ turn_of (step_bytes s p q room) s count
unfolding plain_turn step_bytes
plain_turn_law p q room s count = read_turn p q room (read_state s) s count

-- What an accepting reply leaves at the front of the buffer

acceptance_wrote : (w : Written ℕ ℕ) (out after : List ℕ) (rule len : ℕ) → acceptance rule len ≡ reply_of w → after ≡ buffer_after w out → w ≡ wrote rule (take len after)
unfolding reply_of buffer_after
acceptance_wrote (kept j) out after rule len e f = absurd (let z : ◌≡◌ {A = ℕ} 0 1 = cc in omega arith)
acceptance_wrote (wrote n new) out after rule len e f =
    let r : rule ≡ n = cc in
    let l : len ≡ length new = cc in
    let t : take len after ≡ new = rw f (take_at new (drop (length new) out) len (sym l)) in
    rw (r, t)

pub accepted_step : {s out after : List ℕ} {p q rule len : ℕ} → StepContract s p q out (acceptance rule len) after → step_bytes s p q (length out) ≡ wrote rule (take len after)
accepted_step {s} {out} {after} {p} {q} {rule} {len} c = acceptance_wrote (step_bytes s p q (length out)) out after rule len c.answers c.leaves

-- The turn that a reply stands for, and what the call left in its buffer.
unfoldable turn_in : Reply → List ℕ → List ℕ → ℕ → PlainReply
turn_in (refusal k) after s count = gives (some k) (plain s count)
turn_in (acceptance rule len) after s count = gives none (plain (take len after) (suc count))

replied_turn : (w : Written ℕ ℕ) (out s : List ℕ) (count : ℕ) → turn_of w s count ≡ turn_in (reply_of w) (buffer_after w out) s count
unfolding turn_of turn_in reply_of buffer_after
replied_turn (kept k) out s count = refl
replied_turn (wrote n new) out s count = ap (λ l. gives none (plain l (suc count))) (sym (take_at new (drop (length new) out) (length new) refl))

contract_turn : {s out after : List ℕ} {p q : ℕ} {r : Reply} (count : ℕ) → StepContract s p q out r after → plain_turn p q (length out) (plain s count) ≡ turn_in r after s count
contract_turn {s} {out} {p = p} {q} count c = rw (c.answers, c.leaves) (plain_turn_law p q (length out) s count ∙ replied_turn (step_bytes s p q (length out)) out s count)

plays_plain : {s t : List ℕ} {cs : List Call} {os : List Observation} {n : ℕ} (count : ℕ) → Plays s cs os t n →
    (os ≡ plain_observations cs (plain s count)) × (plain_run cs (plain s count) ≡ plain t (count + n))
unfolding turn_in plain_observations plain_run observe machine_after
plays_plain {s} count no_call = (refl, ap (plain s) (omega arith))
plays_plain {s} count (refused_call {k = k} c r) =
    let h = plays_plain count r in
    let e = contract_turn count c in
    (rw e (ap (λ os. observed (some k) s ∷ os) h.0), rw e h.1)
plays_plain {t = t} count (accepted_call {after = after} {len = len} {n = n} c r) =
    let h = plays_plain (suc count) r in
    let e = contract_turn count c in
    let m : suc count + n ≡ count + suc n = omega arith in
    (rw e (ap (λ os. observed none (take len after) ∷ os) h.0), rw e (h.1 ∙ ap (plain t) m))

pub calls_are_plain : CallsArePlain
calls_are_plain s cs os t n r = let h = plays_plain 0 r in (h.0, h.1 ∙ ap (plain t) (omega arith))

-- Every list of calls plays

pub kept_plays : {s t : List ℕ} {p q k n : ℕ} {cs : List Call} {os : List Observation} (out : List ℕ) → step_bytes s p q (length out) ≡ kept k → Plays s cs os t n →
    Plays s (call p q out ∷ cs) (observed (some k) s ∷ os) t n
unfolding reply_of buffer_after
kept_plays out e r = refused_call {out = out} {after = out} (record { answers = sym (ap reply_of e); leaves = sym (ap (λ w. buffer_after w out) e) }) r

-- The buffer after an accepted call.
abbrev pub filled : (new out : List ℕ) → List ℕ
filled new out = new ++ drop (length new) out

pub wrote_plays : {s t : List ℕ} {p q rule n : ℕ} {cs : List Call} {os : List Observation} (new out : List ℕ) → step_bytes s p q (length out) ≡ wrote rule new → Plays new cs os t n →
    Plays s (call p q out ∷ cs) (observed none (take (length new) (filled new out)) ∷ os) t (suc n)
unfolding reply_of buffer_after
wrote_plays {t = t} {n = n} {cs = cs} {os = os} new out e r =
    accepted_call (record { answers = sym (ap reply_of e); leaves = sym (ap (λ w. buffer_after w out) e) })
    (subst (λ x. Plays x cs os t n) (sym (take_at new (drop (length new) out) (length new) refl)) r)

abbrev Playable : (s : List ℕ) (cs : List Call) → Type 0
Playable s cs = (os : List Observation) × (t : List ℕ) × (n : ℕ) × Plays s cs os t n

call_plays : (s out : List ℕ) (p q : ℕ) (cs : List Call) → ((s' : List ℕ) → Playable s' cs) → Playable s (call p q out ∷ cs)
call_plays s out p q cs more = go (step_bytes s p q (length out)) refl
  where
    go : (w : Written ℕ ℕ) → step_bytes s p q (length out) ≡ w → Playable s (call p q out ∷ cs)
    go (kept k) e = let h = more s in (observed (some k) s ∷ h.0, h.1, h.2, kept_plays out e h.3)
    go (wrote rule new) e = let h = more new in (observed none (take (length new) (filled new out)) ∷ h.0, h.1, suc h.2, wrote_plays new out e h.3)

pub every_list_plays : EveryListPlays
every_list_plays s [] = ([], s, 0, no_call)
every_list_plays s (call p q out ∷ cs) = call_plays s out p q cs (λ s'. every_list_plays s' cs)

pub plays_agree : PlaysAgree
plays_agree s cs os os' t t' n n' r r' =
    let h = calls_are_plain s cs os t n r in
    let h' = calls_are_plain s cs os' t' n' r' in
    let e : plain t n ≡ plain t' n' = sym h.1 ∙ h'.1 in
    (h.0 ∙ sym h'.0, cc, cc)
