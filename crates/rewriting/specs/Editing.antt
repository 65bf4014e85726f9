-- What a step writes: the root list with one or two elements turned, and an ambient taken out and set down elsewhere.
use Rattle.std.specs.Prelude.{◌≡◌, Bool, true, false, List, ℕ, ◌+◌, ltb, eqb, Option, Some, None}
use Rattle.std.specs.Option.{option_eq}
use Rattle.std.proofs.Math.Option.{some}
use Rattle.calculus.specs.Processes.{Reference, Action, Process, action}
use Rattle.machine.specs.Elements.{unblocked, Elements, empty, ambient_then, process_then, blocked_then, Element, ambient_element, process_element, blocked_element, ◌then◌, only, Position, element_at}
use Rattle.machine.specs.Tests.{◌and◌, ◌or◌, pick}
use Rattle.turning.specs.Turning.{turned, Suited}
use Rattle.rewriting.specs.declared.Plan.{Plan}
use Rattle.places.specs.Offsets.{width, offset}

-- One of a plan's offsets, where there is one, is this offset.
abbrev pub stands_at : Option ℕ → ℕ → Bool
stands_at p o = option_eq eqb p (Some o)

-- The element at this offset is turned.
unfoldable pub marked : Plan → ℕ → Bool
marked k o = eqb o k.first or stands_at k.second o

unfoldable pub between : ℕ → ℕ → ℕ → Bool
between low m high = ltb low m and ltb m high

-- One of a plan's offsets, where there is one, lies between two others.
unfoldable pub lies_between : ℕ → Option ℕ → ℕ → Bool
lies_between low None high = false
lies_between low (Some m) high = between low m high

-- An element that is turned stands inside the ambient from `low` to `high`.
unfoldable pub holds : Plan → ℕ → ℕ → Bool
holds k low high = between low k.first high or lies_between low k.second high

-- An ambient that is not turned; A is what becomes of its contents. What acts stands in unblocked ambients, and where two meet both become unblocked.
unfoldable pub ambient_at : Plan → ℕ → Element → Element → Elements
ambient_at k o E held = pick (stands_at k.cut o) empty (pick (holds k o (o + width E)) (only held) (only E))

-- A blocked action that is not turned; in a moved ambient it is unblocked.
unfoldable pub blocked_at : Bool → Action → Process → Elements
blocked_at unblocks α P = pick unblocks (only (process_element (action α P))) (only (blocked_element α P))

-- What is set down behind the element at this offset.
unfoldable pub behind_at : Plan → Elements → ℕ → Elements
behind_at k Z o = pick (stands_at k.after o) Z empty

-- The list that starts at the offset o, with Z set down; `unblocks` at the top level of a moved ambient.
unfoldable pub edit : Plan → List Reference → Elements → Bool → ℕ → Elements → Elements
edit k ns Z w o empty = empty
edit k ns Z w o (ambient_then s a A C) =
    pick (marked k o) (turned k.block ns (ambient_element s a A))
    (ambient_at k o (ambient_element s a A) (ambient_element unblocked a (edit k ns Z false (o + 5) A)))
    then (behind_at k Z o then edit k ns Z w (o + width (ambient_element s a A)) C)
edit k ns Z w o (process_then P C) =
    pick (marked k o) (turned k.block ns (process_element P)) (only (process_element P))
    then (behind_at k Z o then edit k ns Z w (o + width (process_element P)) C)
edit k ns Z w o (blocked_then α P C) =
    pick (marked k o) (turned k.block ns (blocked_element α P)) (blocked_at w α P)
    then (behind_at k Z o then edit k ns Z w (o + width (blocked_element α P)) C)

-- The moved ambient as it is set down: a is its name, A its contents, o its offset.
unfoldable pub carried : Plan → List Reference → Elements → ℕ → Element → Element
carried k ns Z o (ambient_element s a A) = ambient_element unblocked a (edit k ns Z true (o + 5) A)
carried k ns Z o (process_element P) = process_element P
carried k ns Z o (blocked_element α P) = blocked_element α P

-- Of a list that starts at the offset o: every element that is turned has names for its variables.
abbrev pub Suits : Plan → List Reference → ℕ → Elements → Type 0
Suits k ns o L = (π : Position) (E : Element) → element_at L π ≡ some E → marked k (offset o L π) ≡ true → Suited k.block ns E
