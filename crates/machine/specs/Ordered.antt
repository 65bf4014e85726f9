-- Lists of numbers: what is among them, that they ascend, and the first.
use Rattle.std.specs.Prelude.{Bool, true, false, List, [], ◌∷◌, ℕ, suc, ◌≤◌, eqb}
use Rattle.std.proofs.Math.Option.{Option, none, some}
pub use Rattle.calculus.specs.Names.{Among}

unfoldable pub member : ℕ → List ℕ → Bool
member k [] = false
member k (n ∷ ns) = elim (eqb k n) [ true ↦ true | false ↦ member k ns ]

unfoldable pub AscendingFrom : ℕ → List ℕ → Type 0
AscendingFrom k [] = Unit {0}
AscendingFrom k (n ∷ ns) = (k ≤ n) × AscendingFrom (suc n) ns

-- The first of ascending numbers.
unfoldable pub lowest : List ℕ → Option ℕ
lowest [] = none
lowest (n ∷ ns) = some n
