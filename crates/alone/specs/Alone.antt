-- The move of an element by itself.
use Rattle.std.specs.Prelude.{true, ℕ, None}
use Rattle.planning.specs.declared.Move.{Move}

-- The element stands at an offset from the first byte of the state. The name for the variable of a restriction is the next unused one, in the two bytes from 5 on, in front of the root list; other elements take no name, from 7 on.
unfoldable pub alone_move : (rule names length at sent : ℕ) → Move
alone_move rule N n at sent =
    record { rule = rule; names = N; length = n; plan = record { first = at; second = None; cut = None; after = None; block = true; sent = sent; past = 7 } }
