-- Lists of step calls, and document 01's plain machine.
use Rattle.std.specs.Prelude.{◌≡◌, List, [], ◌∷◌, ℕ, suc, length, take, ltb}
use Rattle.std.proofs.Math.Option.{Option, none, some}
use Rattle.machine.specs.Elements.{State}
use Rattle.machine.specs.Stepping.{Answer, refused as refused_step, accepted, step}
use Rattle.format.specs.Reading.{Outcome, refused, got}
use Rattle.machine.specs.Tests.{pick}
use Rattle.elements.specs.Spelling.{encode_state}
use Rattle.machine.specs.Limits.{byte_limit}
use Rattle.states.specs.Reading.{read_state}
use Rattle.machine.specs.Lowest.{partner_of}
use Rattle.buffers.specs.Buffers.{Written, kept, wrote, buffer_after}
use Rattle.calls.specs.Steps.{step_bytes}

-- A call: the chosen place and partner, and the output buffer, of any length and contents.
pub data Call : Type 0 where
  call : (place partner : ℕ) (out : List ℕ) → Call

-- What a call answers: a number, or a rule and how many bytes were written.
pub data Reply : Type 0 where
  refusal : ℕ → Reply
  acceptance : (rule length : ℕ) → Reply

unfoldable pub reply_of : Written ℕ ℕ → Reply
reply_of (kept k) = refusal k
reply_of (wrote n new) = acceptance n (length new)

-- The contract of the step: its reply, and what it leaves in the output buffer, from the bytes of the present state and the call.
pub record StepContract (present : List ℕ) (place partner : ℕ) (out : List ℕ) (reply : Reply) (after : List ℕ) : Type 0 where
  pub answers : reply ≡ reply_of (step_bytes present place partner (length out))
  pub leaves : after ≡ buffer_after (step_bytes present place partner (length out)) out

-- What is compared after a call: its number, or that there is none, and the present state.
pub data Observation : Type 0 where
  observed : Option ℕ → List ℕ → Observation

-- A list of calls played from the bytes of a state: each is lent the present state; if it is accepted, what it wrote at the front of its
-- buffer is the present state for the next; if it is refused, the present state stays. With what is observed after each call, the state
-- reached and the count of accepted calls.
pub data Plays : List ℕ → List Call → List Observation → List ℕ → ℕ → Type 0 where
  no_call : {s : List ℕ} → Plays s [] [] s 0
  refused_call : {s t out after : List ℕ} {p q k n : ℕ} {cs : List Call} {os : List Observation} →
      StepContract s p q out (refusal k) after → Plays s cs os t n →
      Plays s (call p q out ∷ cs) (observed (some k) s ∷ os) t n
  accepted_call : {s t out after : List ℕ} {p q rule len n : ℕ} {cs : List Call} {os : List Observation} →
      StepContract s p q out (acceptance rule len) after → Plays (take len after) cs os t n →
      Plays s (call p q out ∷ cs) (observed none (take len after) ∷ os) t (suc n)

-- The plain machine: a state's bytes, and a count.
pub data Plain : Type 0 where
  plain : List ℕ → ℕ → Plain

-- What it answers to a call, and what it is then.
pub data PlainReply : Type 0 where
  gives : Option ℕ → Plain → PlainReply

-- Where the table has no number, the state becomes what the rule makes of the place and the count rises by 1; otherwise both stay.
unfoldable pub plain_room : ℕ → List ℕ → ℕ → List ℕ → PlainReply
plain_room room new count s =
    pick (ltb byte_limit (length new)) (gives (some 13) (plain s count))
    (pick (ltb room (length new)) (gives (some 13) (plain s count))
    (gives none (plain new (suc count))))

unfoldable pub plain_step : ℕ → Answer → ℕ → List ℕ → PlainReply
plain_step room (refused_step k) count s = gives (some k) (plain s count)
plain_step room (accepted n S) count s = plain_room room (encode_state S) count s

unfoldable pub plain_read : ℕ → ℕ → ℕ → Outcome State → ℕ → List ℕ → PlainReply
plain_read p q room (refused k) count s = gives (some k) (plain s count)
plain_read p q room (got S n) count s = plain_step room (step S p (partner_of q)) count s

-- It sees its state and each call's choice and buffer length, and nothing else.
unfoldable pub plain_turn : ℕ → ℕ → ℕ → Plain → PlainReply
plain_turn p q room (plain s count) = plain_read p q room (read_state s) count s

unfoldable pub machine_after : PlainReply → Plain
machine_after (gives k m) = m

unfoldable pub observe : PlainReply → Observation
observe (gives k (plain s n)) = observed k s

unfoldable pub plain_run : List Call → Plain → Plain
plain_run [] m = m
plain_run (call p q out ∷ cs) m = plain_run cs (machine_after (plain_turn p q (length out) m))

unfoldable pub plain_observations : List Call → Plain → List Observation
plain_observations [] m = []
plain_observations (call p q out ∷ cs) m =
    observe (plain_turn p q (length out) m) ∷ plain_observations cs (machine_after (plain_turn p q (length out) m))
