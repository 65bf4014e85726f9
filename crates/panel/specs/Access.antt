-- A write to the front panel: what it makes of the record and of the two buffers that are lent with it (document 02, request 2). A read and a
-- look at the line leave all three; what they answer is in `registers`.
use Rattle.std.specs.Prelude.{List, ◌++◌, ℕ, min, ltb, eqb, length, take, drop}
use Rattle.machine.specs.Tests.{pick}
use Rattle.buffers.specs.Buffers.{Written, kept, wrote}
use Rattle.format.specs.Reading.{Outcome, refused, got, word_at}
use Rattle.weighing.specs.Weighing.{weigh}
use Rattle.calls.specs.Steps.{step_bytes}
use Rattle.registers.specs.declared.Panel.{Panel}
use Rattle.registers.specs.Registers.{store_of, refused_of, accepted_of, acknowledged_of}

-- The panel, with what the state's buffer and the second buffer hold.
pub data Held : Type 0 where
  held : (panel : Panel) (state spare : List ℕ) → Held

-- The place and the partner as the registers stand, pairs with the most significant byte first.
abbrev pub place_in : Panel → ℕ
place_in p = word_at p.registers 4

abbrev pub partner_in : Panel → ℕ
partner_in p = word_at p.registers 6

-- The step that is asked for, of the front of the state's buffer. It is refused with 2 where the length that the panel keeps is past the end of
-- that buffer; 13 goes by the shorter of the two.
unfoldable pub asked : Held → Written ℕ ℕ
asked (held p s t) =
    pick (ltb (length s) p.length) (kept 2) (step_bytes (take p.length s) (place_in p) (partner_in p) (min (length s) (length t)))

-- The weight of a result, which is an accepted state.
unfoldable pub result_weight : Outcome ℕ → ℕ
result_weight (refused k) = 0
result_weight (got w n) = w

-- What is made of its answer. A refusal leaves both buffers; a result stands at the front of both, and every byte behind it is as it was.
unfoldable pub answered : Written ℕ ℕ → Held → Held
answered (kept k) (held p s t) = held (refused_of k p) s t
answered (wrote rule new) (held p s t) =
    held (accepted_of rule (length new) (result_weight (weigh new)) p) (new ++ drop (length new) s) (new ++ drop (length new) t)

-- What changes the record alone leaves both buffers.
unfoldable pub on_panel : (Panel → Panel) → Held → Held
on_panel f (held p s t) = held (f p) s t

-- A command: 1 step, 2 acknowledge; every other value does nothing.
unfoldable pub obey_of : ℕ → Held → Held
obey_of v h = pick (eqb v 1) (answered (asked h) h) (pick (eqb v 2) (on_panel acknowledged_of h) h)

-- A write: the command is register 0.
unfoldable pub write_of : ℕ → ℕ → Held → Held
write_of a v h = pick (eqb a 0) (obey_of v h) (on_panel (store_of a v) h)
