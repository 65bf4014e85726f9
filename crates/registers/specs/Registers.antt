-- The record of the front panel: what a start, a read and a write make of it, and what the end of a step does (document 02, request 2).
-- The registers are 0 command, 1 flags, 2 interrupt enable, 3 last refusal, 4 and 5 place, 6 and 7 partner, 8 last rule, 9 and 10 the weight
-- of its result, pairs with the most significant byte first. Of the flags bit 0 is all blocked, bit 1 step done, bit 2 refused.
use Rattle.std.specs.Prelude.{Bool, true, false, [], ◌∷◌, ℕ, ◌/◌, ◌%◌, ltb, eqb, get_or, set}
use Rattle.std.specs.Int.Bits.{bit_and, bit_or}
use Rattle.machine.specs.Tests.{pick}
use Rattle.registers.specs.declared.Panel.{Panel}

abbrev pub register : Panel → ℕ → ℕ
register p i = get_or p.registers i 0

-- A start sets the length of the state, and every register to 0.
abbrev pub start_of : ℕ → Panel
start_of n = record { length = n; registers = 0 ∷ 0 ∷ 0 ∷ 0 ∷ 0 ∷ 0 ∷ 0 ∷ 0 ∷ 0 ∷ 0 ∷ 0 ∷ 0 ∷ 0 ∷ 0 ∷ 0 ∷ 0 ∷ [] }

-- The command, 11 to 15 and every address past them read 0.
unfoldable pub read_of : ℕ → Panel → ℕ
read_of a p = pick (ltb a 1) 0 (pick (ltb 10 a) 0 (register p a))

-- The interrupt line is high, 1, while a flag and its enable bit are both set.
unfoldable pub line_of : Panel → ℕ
line_of p = pick (eqb (bit_and (register p 1) (register p 2)) 0) 0 1

-- Beside the command only the interrupt enable, the place and the partner take writes; any other write does nothing.
unfoldable pub takes_write : ℕ → Bool
takes_write a = pick (eqb a 2) true (pick (ltb a 4) false (ltb a 8))

unfoldable pub store_of : ℕ → ℕ → Panel → Panel
store_of a v p = pick (takes_write a) (record { length = p.length; registers = set p.registers a v }) p

-- A refused step sets bit 2 of the flags, clears bit 1 and renews the last refusal.
abbrev pub refused_of : ℕ → Panel → Panel
refused_of k p = record { length = p.length; registers = set (set p.registers 1 (bit_or (bit_and (register p 1) 0xF9) 4)) 3 k }

-- An accepted step sets bit 1, clears bit 2, renews bit 0 by the weight of its result, and renews rule, weight and length.
unfoldable pub done_bits : ℕ → ℕ
done_bits w = pick (eqb w 0) 3 2

abbrev pub accepted_of : (rule length weight : ℕ) → Panel → Panel
accepted_of rule n w p =
    record { length = n; registers = set (set (set (set p.registers 1 (bit_or (bit_and (register p 1) 0xF8) (done_bits w))) 8 rule) 9 (w / 256)) 10 (w % 256) }

-- Acknowledge clears bits 1 and 2.
abbrev pub acknowledged_of : Panel → Panel
acknowledged_of p = record { length = p.length; registers = set p.registers 1 (bit_and (register p 1) 0xF9) }
