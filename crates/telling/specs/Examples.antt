-- The session that document 01 prints, of adapter and deck, with the number of partners on each line of a step and in the cabinet (document 02, requests 3 and 4).
use Rattle.std.specs.Prelude.{◌≡◌, List, [], ◌∷◌, ℕ}
use Rattle.telling.specs.Sessions.{session_text}

unfoldable pub adapter_and_deck : List ℕ
adapter_and_deck =
    0x10 ∷ 0x00 ∷ 0x27 ∷ 0x00 ∷ 0x03 ∷ 0x21 ∷ 0x00 ∷ 0x22 ∷ 0x23 ∷ 0x00 ∷ 0x0F ∷ 0x00 ∷ 0x00 ∷ 0x24 ∷
    0x00 ∷ 0x0A ∷ 0x34 ∷ 0x00 ∷ 0x04 ∷ 0x00 ∷ 0x01 ∷ 0x00 ∷ 0x02 ∷ 0x20 ∷ 0x00 ∷ 0x00 ∷ 0x23 ∷ 0x00 ∷
    0x0D ∷ 0x00 ∷ 0x01 ∷ 0x24 ∷ 0x00 ∷ 0x08 ∷ 0x36 ∷ 0x00 ∷ 0x02 ∷ 0x00 ∷ 0x02 ∷ 0x20 ∷ 0x00 ∷ 0x00 ∷ []

unfoldable pub printed : List ℕ
printed =
    49 ∷ 32 ∷ 45 ∷ 32 ∷ 51 ∷ 50 ∷ 32 ∷ 48 ∷ 10 ∷  -- 1 - 32 0
    49 ∷ 32 ∷ 45 ∷ 32 ∷ 51 ∷ 52 ∷ 32 ∷ 48 ∷ 10 ∷  -- 1 - 34 0
    50 ∷ 32 ∷ 45 ∷ 32 ∷ 52 ∷ 51 ∷ 32 ∷ 48 ∷ 10 ∷  -- 2 - 43 0
    49 ∷ 32 ∷ 45 ∷ 32 ∷ 50 ∷ 57 ∷ 32 ∷ 48 ∷ 10 ∷  -- 1 - 29 0
    51 ∷ 32 ∷ 45 ∷ 32 ∷ 51 ∷ 52 ∷ 32 ∷ 48 ∷ 10 ∷  -- 3 - 34 0
    52 ∷ 32 ∷ 50 ∷ 32 ∷ 52 ∷ 48 ∷ 32 ∷ 49 ∷ 10 ∷  -- 4 2 40 1
    50 ∷ 32 ∷ 45 ∷ 32 ∷ 51 ∷ 49 ∷ 32 ∷ 48 ∷ 10 ∷  -- 2 - 31 0
    51 ∷ 32 ∷ 45 ∷ 32 ∷ 51 ∷ 49 ∷ 32 ∷ 48 ∷ 10 ∷  -- 3 - 31 0
    50 ∷ 32 ∷ 45 ∷ 32 ∷ 50 ∷ 57 ∷ 32 ∷ 48 ∷ 10 ∷  -- 2 - 29 0
    49 ∷ 32 ∷ 45 ∷ 32 ∷ 50 ∷ 57 ∷ 32 ∷ 48 ∷ 10 ∷  -- 1 - 29 0
    48 ∷ 32 ∷ 45 ∷ 32 ∷ 50 ∷ 57 ∷ 32 ∷ 48 ∷ 10 ∷  -- 0 - 29 0
    98 ∷ 108 ∷ 111 ∷ 99 ∷ 107 ∷ 101 ∷ 100 ∷ 32 ∷ 49 ∷ 49 ∷ 32 ∷ 48 ∷ 10 ∷  -- blocked 11 0
    []

abbrev pub DocumentSession : Type 0
DocumentSession = session_text adapter_and_deck ≡ printed
