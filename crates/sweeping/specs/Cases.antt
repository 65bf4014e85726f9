-- Worked sweeps in bytes, one table that is checked by computation; on trees: removals.
use Rattle.std.specs.Prelude.{◌≡◌, List, [], ◌∷◌, ℕ}
use Rattle.machine.specs.Elements.{empty, state}
use Rattle.machine.specs.Cases.{boxes}
use Rattle.elements.specs.Spelling.{encode_state}
use Rattle.buffers.specs.Buffers.{Written, kept, wrote}
use Rattle.sweeping.specs.Sweeping.{sweep_bytes}

pub data Case : Type 0 where
  sweeps : (bytes : List ℕ) (room : ℕ) → Written ℕ (Unit {0}) → Case

unfoldable pub AllSweep : List Case → Type 0
AllSweep [] = Unit {0}
AllSweep (sweeps bytes room w ∷ cases) = (sweep_bytes bytes room ≡ w) × AllSweep cases

-- A cabinet 0 that holds a box with these two bytes as its name, where F is 1 and N is 2.
unfoldable pub boxed : ℕ → List ℕ
boxed n = 0x11 ∷ 0x00 ∷ 0x0E ∷ 0x00 ∷ 0x01 ∷ 0x00 ∷ 0x02 ∷ 0x40 ∷ 0x00 ∷ 0x07 ∷ 0x00 ∷ 0x00 ∷ 0x41 ∷ 0x00 ∷ 0x02 ∷ 0x00 ∷ n ∷ []

-- The cabinet by itself; N stays.
unfoldable pub cleared : List ℕ
cleared = 0x11 ∷ 0x00 ∷ 0x09 ∷ 0x00 ∷ 0x01 ∷ 0x00 ∷ 0x02 ∷ 0x40 ∷ 0x00 ∷ 0x02 ∷ 0x00 ∷ 0x00 ∷ []

-- Two boxes in one another, 40 around 41, where F is 0: both go.
unfoldable pub nested : List ℕ
nested = 0x11 ∷ 0x00 ∷ 0x0E ∷ 0x00 ∷ 0x00 ∷ 0x00 ∷ 0x02 ∷ 0x40 ∷ 0x00 ∷ 0x07 ∷ 0x00 ∷ 0x00 ∷ 0x41 ∷ 0x00 ∷ 0x02 ∷ 0x00 ∷ 0x01 ∷ []

-- An empty box 0, and behind a release on channel 1 an ambient of that name.
unfoldable pub awaited : List ℕ
awaited =
    0x11 ∷ 0x00 ∷ 0x1C ∷ 0x00 ∷ 0x00 ∷ 0x00 ∷ 0x02 ∷ 0x40 ∷ 0x00 ∷ 0x02 ∷ 0x00 ∷ 0x00
    ∷ 0x42 ∷ 0x00 ∷ 0x10 ∷ 0x24 ∷ 0x00 ∷ 0x0D ∷ 0x37 ∷ 0x00 ∷ 0x02 ∷ 0x00 ∷ 0x01 ∷ 0x23 ∷ 0x00 ∷ 0x05 ∷ 0x00 ∷ 0x00 ∷ 0x20 ∷ 0x00 ∷ 0x00 ∷ []

unfoldable pub table : List Case
table =
    sweeps (boxed 1) 17 (wrote tt cleared)
    -- the result alone has to fit
    ∷ sweeps (boxed 1) 12 (wrote tt cleared)
    ∷ sweeps (boxed 1) 11 (kept 13)
    -- a free name stays
    ∷ sweeps (boxed 0) 17 (wrote tt (boxed 0))
    ∷ sweeps cleared 12 (wrote tt cleared)
    ∷ sweeps nested 17 (wrote tt (0x11 ∷ 0x00 ∷ 0x04 ∷ 0x00 ∷ 0x00 ∷ 0x00 ∷ 0x02 ∷ []))
    ∷ sweeps awaited 31 (wrote tt awaited)
    -- a state that is no state
    ∷ sweeps [] 17 (kept 2)
    -- boxes eight deep, and nine
    ∷ sweeps (encode_state (state 1 1 (boxes 8 empty))) 47 (wrote tt (encode_state (state 1 1 (boxes 8 empty))))
    ∷ sweeps (encode_state (state 1 1 (boxes 9 empty))) 52 (kept 5)
    ∷ []

-- Every case of the table holds.
abbrev pub TableSweeps : Type 0
TableSweeps = AllSweep table
