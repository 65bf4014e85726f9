-- Which actions and processes the format spells.
use Rattle.std.specs.Prelude.{ℕ, ◌≤◌, length}
use Rattle.calculus.specs.Processes.{Action, sibling_output, parent_output, internal_input, external_input, enter, leave, accept, release, Process, null, parallel, restriction, ambient, action, replication}
use Rattle.machine.specs.Limits.{name_limit, count_limit}
use Rattle.machine.specs.Validity.{ActionScoped, ProcessScoped}

-- The counts of names handed over, and of variables bound, that are spelled.
abbrev pub CountSpelled : ℕ → Type 0
CountSpelled k = k ≤ count_limit

unfoldable pub CountedAction : Action → Type 0
CountedAction (sibling_output a x ns) = CountSpelled (length ns)
CountedAction (parent_output x ns) = CountSpelled (length ns)
CountedAction (internal_input x k) = CountSpelled k
CountedAction (external_input x k) = CountSpelled k
CountedAction (enter a x) = Unit {0}
CountedAction (leave x) = Unit {0}
CountedAction (accept x) = Unit {0}
CountedAction (release x) = Unit {0}

unfoldable pub Counted : Process → Type 0
Counted null = Unit {0}
Counted (parallel P Q) = Counted P × Counted Q
Counted (restriction P) = Counted P
Counted (ambient a P) = Counted P
Counted (action α P) = CountedAction α × Counted P
Counted (replication α P) = CountedAction α × Counted P

-- Under so many binders: every reference is one that can be spelled, and so is every count.

abbrev pub SpellableAction : ℕ → Action → Type 0
SpellableAction around α = ActionScoped name_limit around α × CountedAction α

abbrev pub Spellable : ℕ → Process → Type 0
Spellable around P = ProcessScoped name_limit around P × Counted P
