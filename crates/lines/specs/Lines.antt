-- The lines that the program prints (document 01, "Examples on the line"), as ASCII codes.
use Rattle.std.specs.Prelude.{List, [], ◌∷◌, ◌++◌, ℕ, zero, suc, ◌/◌, ◌%◌, ltb, eqb}
use Rattle.machine.specs.Limits.{absent}
use Rattle.io.specs.Digits.{hex_digit_ascii}
use Rattle.machine.specs.Tests.{pick}
use Rattle.runs.specs.Runs.{Ending, blocked, spent, limit}
use Rattle.runs.specs.Turns.{Moved, moves}

-- The decimal digits of a number, the most significant first, by at most so many divisions.
unfoldable pub digits_by : (divisions : ℕ) → ℕ → List ℕ
digits_by zero n = hex_digit_ascii n ∷ []
digits_by (suc d) n = pick (ltb n 10) (hex_digit_ascii n ∷ []) (digits_by d (n / 10) ++ (hex_digit_ascii (n % 10) ∷ []))

-- A number needs fewer divisions than it counts.
unfoldable pub decimal : ℕ → List ℕ
decimal n = digits_by n n

abbrev pub space : List ℕ
space = 32 ∷ []

abbrev pub line_feed : List ℕ
line_feed = 10 ∷ []

-- A number behind a space.
unfoldable pub next_field : ℕ → List ℕ
next_field n = space ++ decimal n

-- The partner's place, or - for none.
unfoldable pub partner_text : ℕ → List ℕ
partner_text q = pick (eqb q absent) (45 ∷ []) (decimal q)

-- The line of a step: its place, its partner's place or -, its rule, and how many partners the place had to choose from (document 02, request 3).
unfoldable pub step_line : Moved → List ℕ
step_line (moves p q rule n) = ((((decimal p ++ space) ++ partner_text q) ++ next_field rule) ++ next_field n) ++ line_feed

-- blocked, spent or the number
unfoldable pub ending_text : Ending → List ℕ
ending_text blocked = 98 ∷ 108 ∷ 111 ∷ 99 ∷ 107 ∷ 101 ∷ 100 ∷ []
ending_text spent = 115 ∷ 112 ∷ 101 ∷ 110 ∷ 116 ∷ []
ending_text (limit k) = decimal k

-- The last line: the ending, the steps, the final weight.
unfoldable pub last_line : Ending → (steps weight : ℕ) → List ℕ
last_line e n w = ((ending_text e ++ next_field n) ++ next_field w) ++ line_feed

-- The only line of a job that is refused.
unfoldable pub refusal_line : ℕ → List ℕ
refusal_line k = decimal k ++ line_feed

-- No line has more bytes: four numbers of at most twenty digits.
abbrev pub line_limit : ℕ
line_limit = 84
