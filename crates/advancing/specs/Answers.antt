-- What the code of a turn answers, and the bytes that it works on.
use Rattle.std.specs.Prelude.{◌≡◌, Bool, true, false, List, ℕ, ◌≤◌, length, Result, Ok, Err}
use Rattle.machine.specs.Limits.{byte_limit}
use Rattle.machine.specs.Elements.{State}
use Rattle.machine.specs.Questions.{told_of}
use Rattle.elements.specs.Spelling.{encode_state}
use Rattle.buffers.specs.Buffers.{Written, kept, wrote}
use Rattle.states.specs.Theorems.{Admitted}
use Rattle.runs.specs.Runs.{Ending as Ended, blocked, spent, limit}
use Rattle.runs.specs.Turns.{Moved, moves}
use Rattle.refusals.specs.Refusals.{refusal}
use Rattle.machine.specs.Lowest.{partner_of}
use Rattle.format.specs.Answers.{coded}
use Rattle.refusals.specs.declared.Refusal.{Refusal}
use Rattle.advancing.specs.declared.Ending.{Ending}
use Rattle.advancing.specs.declared.Ending.TheVariants.{Blocked, Spent, Limit}
use Rattle.advancing.specs.declared.Turn.{Turn}

unfoldable pub ending_of : Ended → Ending Refusal
ending_of blocked = Blocked
ending_of spent = Spent
ending_of (limit k) = Limit (refusal k)

-- Where the partners are not counted, 1 stands for any number of them.
unfoldable pub turn_answer : (once : Bool) → Written Ended Moved → Result Turn (Ending Refusal)
turn_answer once (kept e) = Err (ending_of e)
turn_answer once (wrote (moves p q rule n) new) =
    Ok (record { place = p; other = coded (partner_of q); rule = rule; partners = told_of once n; length = length new })

-- What is left of the budget, as far as a turn depends on it: nothing, or something.
unfoldable pub left_of : (spent : Bool) → ℕ
left_of true = 0
left_of false = 1

-- The bytes of an admitted state.
pub record Present (s : List ℕ) (S : State) : Type 0 where
  pub spelled : s ≡ encode_state S
  pub admitted : Admitted S
  pub short : length s ≤ byte_limit

pub record SpellsAdmitted (s : List ℕ) : Type 0 where
  pub tree : State
  pub present : Present s tree
