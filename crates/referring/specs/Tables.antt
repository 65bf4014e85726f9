-- The table of the names that stand in a list, which the code fills: an entry for each name.
use Rattle.std.specs.Prelude.{List, [], ◌∷◌, ℕ, zero, suc, get_or, set}

-- One more than none is 1, and one more than any is 2: whether a name stands once is all that is asked.
unfoldable pub more : ℕ → ℕ
more zero = 1
more (suc k) = 2

-- The table with these names counted in it.
unfoldable pub counted : List ℕ → List ℕ → List ℕ
counted [] table = table
counted (n ∷ ns) table = counted ns (set table n (more (get_or table n 0)))
