-- Inner contracts: sets of free names in words.
use Rattle.std.specs.Prelude.{Bool, false, List, ℕ, ◌+◌, ◌/◌, ◌%◌, ◌^◌, ltb, eqb, get_or, set, Option, None, Some}
use Rattle.machine.specs.Limits.{free_name_limit}
use Rattle.machine.specs.Tests.{pick}

-- A set has a bit for each free name: n is bit n / 16 of word n % 16.

abbrev pub set_words : ℕ
set_words = free_name_limit / 64

unfoldable pub holds_name : List ℕ → ℕ → Bool
holds_name names n = pick (ltb n free_name_limit) (eqb (get_or names (n % set_words) 0 / 2 ^ (n / set_words) % 2) 1) false

unfoldable pub with_name : List ℕ → ℕ → List ℕ
with_name names n = pick (ltb n free_name_limit) (pick (holds_name names n) names (set names (n % set_words) (get_or names (n % set_words) 0 + 2 ^ (n / set_words)))) names

-- The same of a name, if there is one.

unfoldable pub holds_given : List ℕ → Option ℕ → Bool
holds_given names None = false
holds_given names (Some n) = holds_name names n

unfoldable pub with_given : List ℕ → Option ℕ → List ℕ
with_given names None = names
with_given names (Some n) = with_name names n
