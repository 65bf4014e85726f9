-- Two bytes, and a field: what is written piece by piece.
use Rattle.std.specs.Prelude.{List, [], ◌∷◌, ◌++◌, ℕ, ◌/◌, ◌%◌, length}

-- Two bytes, the most significant first.
unfoldable pub word : ℕ → List ℕ
word v = v / 256 ∷ v % 256 ∷ []

-- A tag, the length of the body in two bytes, the body.
unfoldable pub field : ℕ → List ℕ → List ℕ
field tag body = tag ∷ word (length body) ++ body
