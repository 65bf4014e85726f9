-- The names in use in a list, and decoding without restrictions of names that are not in use.
use Rattle.std.specs.Prelude.{List, [], ◌++◌, ℕ, zero, suc, ◌+◌, ◌-◌}
use Rattle.calculus.specs.Processes.{Process, restriction, rename, close}
use Rattle.calculus.specs.Names.{names_of_reference, names_of_action, names_of_process}
use Rattle.machine.specs.Elements.{Elements, empty, ambient_then, process_then, blocked_then, State, state, decode, restrict}
use Rattle.machine.specs.Ordered.{member}
use Rattle.machine.specs.Tests.{pick}

-- The names of a list, each as often as it stands there, in the order of the bytes.
unfoldable pub names : Elements → List ℕ
names empty = []
names (ambient_then s a A C) = names_of_reference a ++ names A ++ names C
names (process_then P C) = names_of_process P ++ names C
names (blocked_then α P C) = names_of_action α ++ names_of_process P ++ names C

-- A state decoded without the restriction of the name n: the restrictions of F to n - 1, around those of n + 1 to N - 1.
unfoldable pub decode_without : ℕ → State → Process
decode_without n (state F N L) = restrict F (n - F) (restrict (suc n) (N - suc n) (decode L))

-- The restrictions of those of the d names from F on that stand in a list of names, the newest innermost.
unfoldable pub restrict_used : List ℕ → ℕ → ℕ → Process → Process
restrict_used ns F zero P = P
restrict_used ns F (suc d) P = restrict_used ns F d (pick (member (F + d) ns) (restriction (rename (close (F + d)) P)) P)

-- A state decoded under the restrictions of the names in use alone.
unfoldable pub decode_used : State → Process
decode_used (state F N L) = restrict_used (names L) F (N - F) (decode L)
