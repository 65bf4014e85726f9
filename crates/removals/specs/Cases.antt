-- Worked states and what they are swept to, one table that is checked by computation.
use Rattle.std.specs.Prelude.{◌≡◌, List, [], ◌∷◌}
use Rattle.calculus.specs.Processes.{name, variable, sibling_output, internal_input, accept, null, restriction, ambient, action, replication}
use Rattle.machine.specs.Elements.{unblocked, blocked, empty, ambient_then, process_then, blocked_then, State, state}
use Rattle.removals.specs.Sweeping.{sweep_state}

pub data Case : Type 0 where
  sweeps : State → State → Case

unfoldable pub AllSweep : List Case → Type 0
AllSweep [] = Unit {0}
AllSweep (sweeps S S' ∷ cases) = (sweep_state S ≡ S') × AllSweep cases

unfoldable pub table : List Case
table =
    -- an empty ambient, 40 or 41, goes; F and N stay
    sweeps (state 1 3 (ambient_then unblocked (name 1) empty (ambient_then blocked (name 2) empty empty))) (state 1 3 empty)
    -- empty ambients in one another, 40 and 41, all go in the one pass; what stands beside them stays
    ∷ sweeps
    (state 1 5
    (ambient_then unblocked (name 1) (ambient_then unblocked (name 2) (ambient_then blocked (name 3) empty empty) (ambient_then blocked (name 4) empty empty))
    (process_then (ambient (name 0) null) empty)))
    (state 1 5 (process_then (ambient (name 0) null) empty))
    -- a name below F stays, and so does the ambient around it; the one inside it goes
    ∷ sweeps
    (state 2 4 (ambient_then unblocked (name 3) (ambient_then unblocked (name 1) (ambient_then blocked (name 2) empty empty) empty) empty))
    (state 2 4 (ambient_then unblocked (name 3) (ambient_then unblocked (name 1) empty empty) empty))
    -- a name that stands behind an action stays, behind a blocked one and in a replication too
    ∷ sweeps
    (state 1 5
    (ambient_then unblocked (name 2) empty
    (ambient_then blocked (name 3) empty
    (ambient_then blocked (name 4) empty
    (process_then (action (accept (name 0)) (ambient (name 2) null))
    (blocked_then (accept (name 0)) (action (sibling_output (name 3) (name 0) (name 0 ∷ [])) null)
    (process_then (replication (accept (name 0)) (ambient (name 4) null)) empty)))))))
    (state 1 5
    (ambient_then unblocked (name 2) empty
    (ambient_then blocked (name 3) empty
    (ambient_then blocked (name 4) empty
    (process_then (action (accept (name 0)) (ambient (name 2) null))
    (blocked_then (accept (name 0)) (action (sibling_output (name 3) (name 0) (name 0 ∷ [])) null)
    (process_then (replication (accept (name 0)) (ambient (name 4) null)) empty)))))))
    -- a name that stands as what is sent stays
    ∷ sweeps
    (state 1 2 (ambient_then unblocked (name 1) empty (process_then (action (sibling_output (name 0) (name 0) (name 1 ∷ [])) null) empty)))
    (state 1 2 (ambient_then unblocked (name 1) empty (process_then (action (sibling_output (name 0) (name 0) (name 1 ∷ [])) null) empty)))
    -- two empty ambients of one name stay, beside each other and in one another
    ∷ sweeps
    (state 1 2 (ambient_then unblocked (name 1) empty (ambient_then blocked (name 1) empty empty)))
    (state 1 2 (ambient_then unblocked (name 1) empty (ambient_then blocked (name 1) empty empty)))
    ∷ sweeps
    (state 1 2 (ambient_then unblocked (name 1) (ambient_then unblocked (name 1) empty empty) empty))
    (state 1 2 (ambient_then unblocked (name 1) (ambient_then unblocked (name 1) empty empty) empty))
    -- the contents of a 41 go, and then the 41 itself, whatever the order of the numbers
    ∷ sweeps
    (state 0 4 (ambient_then blocked (name 0) (ambient_then blocked (name 3) empty (blocked_then (accept (name 1)) null empty)) (ambient_then blocked (name 2) empty empty)))
    (state 0 4 (ambient_then blocked (name 0) (blocked_then (accept (name 1)) null empty) empty))
    -- variables are no names, and an ambient that holds a process is not empty
    ∷ sweeps
    (state 1 3 (ambient_then unblocked (name 1) empty (ambient_then unblocked (name 2) (process_then null empty) (process_then (restriction (ambient (variable 0) (action (internal_input (name 0) 1) (ambient (variable 1) null)))) empty))))
    (state 1 3 (ambient_then unblocked (name 2) (process_then null empty) (process_then (restriction (ambient (variable 0) (action (internal_input (name 0) 1) (ambient (variable 1) null)))) empty)))
    ∷ []

-- Every case of the table holds.
abbrev pub TableSweeps : Type 0
TableSweeps = AllSweep table
