-- The registers that the rules of request 2 make of the accesses and of what the calls answered, said without the bytes of the record.
use Rattle.std.specs.Prelude.{Bool, true, false, List, [], ◌∷◌, ℕ, ◌+◌, ◌*◌, ◌/◌, ◌%◌, eqb, get_or}
use Rattle.machine.specs.Tests.{pick, ◌and◌, ◌or◌}
use Rattle.buffers.specs.Buffers.{Written, kept, wrote}
use Rattle.weighing.specs.Weighing.{weigh}
use Rattle.panel.specs.Access.{result_weight}
use Rattle.accesses.specs.Accesses.{Access, writes, reads, looks, Keyed, keyed, Command, step, acknowledge, nothing, command_of}

-- What the steps tell: the three flags, the number of the last refusal, and the last rule with the weight of its result.
pub record Told : Type 0 where
  pub blocked : Bool
  pub done : Bool
  pub refused : Bool
  pub refusal : ℕ
  pub rule : ℕ
  pub weight : ℕ

abbrev pub nothing_told : Told
nothing_told = record { blocked = false; done = false; refused = false; refusal = 0; rule = 0; weight = 0 }

-- By the answer to a step. All is blocked where the result weighs nothing.
unfoldable pub told_by : Written ℕ ℕ → Told → Told
told_by (kept k) x = record { blocked = x.blocked; done = false; refused = true; refusal = k; rule = x.rule; weight = x.weight }
told_by (wrote rule new) x =
    record {
      blocked = eqb (result_weight (weigh new)) 0;
      done = true;
      refused = false;
      refusal = x.refusal;
      rule = rule;
      weight = result_weight (weigh new);
    }

abbrev pub acknowledged : Told → Told
acknowledged x = record { blocked = x.blocked; done = false; refused = false; refusal = x.refusal; rule = x.rule; weight = x.weight }

-- By a command, where the answers to the steps are still to come.
unfoldable pub told_at : Command → List (Written ℕ ℕ) → Told → Told
told_at step [] x = x
told_at step (w ∷ ws) x = told_by w x
told_at acknowledge ws x = acknowledged x
told_at nothing ws x = x

-- The answers that come after it.
unfoldable pub rest_at : Command → List (Written ℕ ℕ) → List (Written ℕ ℕ)
rest_at step [] = []
rest_at step (w ∷ ws) = ws
rest_at acknowledge ws = ws
rest_at nothing ws = ws

unfoldable pub told_after : List Access → List (Written ℕ ℕ) → Told → Told
told_after [] ws x = x
told_after (writes a v spare ∷ xs) ws x = told_after xs (rest_at (command_of a v) ws) (told_at (command_of a v) ws x)
told_after (reads a ∷ xs) ws x = told_after xs ws x
told_after (looks ∷ xs) ws x = told_after xs ws x

unfoldable pub keyed_after : List Access → Keyed → Keyed
keyed_after [] k = k
keyed_after (writes a v spare ∷ xs) k = keyed_after xs (keyed a v k)
keyed_after (reads a ∷ xs) k = keyed_after xs k
keyed_after (looks ∷ xs) k = keyed_after xs k

-- As bytes

abbrev pub bit : Bool → ℕ
bit b = pick b 1 0

abbrev pub flags_of : Told → ℕ
flags_of x = bit x.blocked + (2 * bit x.done + 4 * bit x.refused)

-- The sixteen registers in their order.
abbrev pub spelled : Keyed → Told → List ℕ
spelled k x =
    0 ∷ flags_of x ∷ k.enable ∷ x.refusal ∷ k.place_high ∷ k.place_low ∷ k.partner_high ∷ k.partner_low
    ∷ x.rule ∷ x.weight / 256 ∷ x.weight % 256 ∷ 0 ∷ 0 ∷ 0 ∷ 0 ∷ 0 ∷ []

-- The line: one of the three flags is set and enabled.
unfoldable pub line_at : Keyed → Told → ℕ
line_at k x =
    bit (x.blocked and eqb (k.enable % 2) 1 or x.done and eqb (k.enable / 2 % 2) 1 or x.refused and eqb (k.enable / 4 % 2) 1)

-- What is read: a register, or 0 past the last of them; the line.
unfoldable pub seen_in : List Access → List (Written ℕ ℕ) → Keyed → Told → List ℕ
seen_in [] ws k x = []
seen_in (writes a v spare ∷ xs) ws k x = seen_in xs (rest_at (command_of a v) ws) (keyed a v k) (told_at (command_of a v) ws x)
seen_in (reads a ∷ xs) ws k x = get_or (spelled k x) a 0 ∷ seen_in xs ws k x
seen_in (looks ∷ xs) ws k x = line_at k x ∷ seen_in xs ws k x
