-- A worked list of accesses: from a start over a state of two null processes, in a buffer with three bytes behind it.
use Rattle.std.specs.Prelude.{◌≡◌, List, [], ◌∷◌, ℕ}
use Rattle.buffers.specs.Buffers.{Written, kept, wrote}
use Rattle.cases.specs.Examples.{bare_state, empty_state}
use Rattle.accesses.specs.Accesses.{Access, writes, reads, looks, nothing_keyed, answers_from}
use Rattle.accesses.specs.Registers.{nothing_told, told_after, keyed_after, spelled, seen_in}
use Rattle.accesses.specs.Theorems.{calls_asked}

unfoldable pub buffer : List ℕ
buffer =
    0x11 ∷ 0x00 ∷ 0x10 ∷ 0x00 ∷ 0x00 ∷ 0x00 ∷ 0x00 ∷ 0x42 ∷ 0x00 ∷ 0x03 ∷ 0x20 ∷ 0x00 ∷ 0x00 ∷ 0x42 ∷ 0x00 ∷ 0x03 ∷ 0x20 ∷ 0x00 ∷ 0x00
    ∷ 0xA0 ∷ 0xA1 ∷ 0xA2 ∷ []

-- A second buffer for the first result, which has thirteen bytes, and one with a byte less.
unfoldable pub enough : List ℕ
enough = 0 ∷ 0 ∷ 0 ∷ 0 ∷ 0 ∷ 0 ∷ 0 ∷ 0 ∷ 0 ∷ 0 ∷ 0 ∷ 0 ∷ 0 ∷ []

unfoldable pub too_short : List ℕ
too_short = 0 ∷ 0 ∷ 0 ∷ 0 ∷ 0 ∷ 0 ∷ 0 ∷ 0 ∷ 0 ∷ 0 ∷ 0 ∷ 0 ∷ []

unfoldable pub session : List Access
session =
    -- the line for steps done and refused, and no partner
    writes 2 0x06 [] ∷ writes 6 0xFF [] ∷ writes 7 0xFF []
    -- refused
    ∷ writes 0 1 too_short ∷ reads 1 ∷ reads 3 ∷ looks
    -- accepted, and acknowledged
    ∷ writes 0 1 enough ∷ reads 1 ∷ reads 8 ∷ reads 10 ∷ looks
    ∷ writes 0 2 [] ∷ reads 1 ∷ looks
    -- accepted: all blocked
    ∷ writes 0 1 enough ∷ reads 1 ∷ reads 10
    -- refused at the place 3, and acknowledged
    ∷ writes 5 3 [] ∷ writes 0 1 enough ∷ reads 1 ∷ reads 3
    ∷ writes 0 2 [] ∷ reads 1 ∷ looks
    -- nothing comes of these
    ∷ writes 8 9 [] ∷ writes 0 3 [] ∷ reads 0 ∷ reads 8 ∷ reads 16 ∷ []

abbrev pub session_answers : List (Written ℕ ℕ)
session_answers = answers_from 19 buffer (calls_asked buffer session)

-- What the calls answer, the registers at the end, and what is read, in the lines of the list.
abbrev pub SessionHolds : Type 0
SessionHolds =
    (session_answers ≡ kept 13 ∷ wrote 31 bare_state ∷ wrote 31 empty_state ∷ kept 8 ∷ [])
    × (spelled (keyed_after session nothing_keyed) (told_after session session_answers nothing_told)
    ≡ 0 ∷ 1 ∷ 0x06 ∷ 8 ∷ 0 ∷ 3 ∷ 0xFF ∷ 0xFF ∷ 31 ∷ 0 ∷ 0 ∷ 0 ∷ 0 ∷ 0 ∷ 0 ∷ 0 ∷ [])
    × (seen_in session session_answers nothing_keyed nothing_told
    ≡ 4 ∷ 13 ∷ 1
    ∷ 2 ∷ 31 ∷ 1 ∷ 1
    ∷ 0 ∷ 0
    ∷ 3 ∷ 0
    ∷ 5 ∷ 8
    ∷ 1 ∷ 0
    ∷ 0 ∷ 31 ∷ 0 ∷ [])
