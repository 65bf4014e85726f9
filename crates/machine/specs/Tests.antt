-- Tests of truth values, references and lists.
use Rattle.std.specs.Prelude.{Bool, true, false, ℕ, leb, eqb}
use Rattle.calculus.specs.Processes.{Reference, name, variable}
use Rattle.machine.specs.Limits.{state_depth_limit}
use Rattle.machine.specs.Elements.{unblocked, blocked, Elements, empty, ambient_then, process_then, blocked_then, process_depth, nesting}

infixr 6 ◌and◌
infixr 5 ◌or◌
abbrev pub ◌and◌ : Bool → Bool → Bool
true and b = b
false and b = false

abbrev pub ◌or◌ : Bool → Bool → Bool
true or b = true
false or b = b

unfoldable pub same : Reference → Reference → Bool
same (name n) (name m) = eqb n m
same (name n) (variable j) = false
same (variable i) (name m) = false
same (variable i) (variable j) = eqb i j

unfoldable pub all_blocked : Elements → Bool
all_blocked empty = true
all_blocked (ambient_then unblocked a A C) = false
all_blocked (ambient_then blocked a A C) = all_blocked A and all_blocked C
all_blocked (process_then P C) = false
all_blocked (blocked_then α P C) = all_blocked C

-- The limits of depth and nesting.
unfoldable pub fits : ℕ → Elements → Bool
fits nest L = leb (process_depth L) state_depth_limit and leb (nesting L) nest

-- One of two values, by a test.
abbrev pub pick : {A : Type 0} → Bool → A → A → A
pick true a b = a
pick false a b = b
