-- The names that stand in a process.
use mathlib.Core.List.{List, [], ◌∷◌, ◌++◌, Memᴰ}
use Rattle.std.specs.Prelude.{ℕ}
use Rattle.calculus.specs.Processes.{Reference, name, variable, Action, sibling_output, parent_output, internal_input, external_input, enter, leave, accept, release, Process, null, parallel, restriction, ambient, action, replication}

abbrev pub Among : {A : Type 0} → A → List A → Type 0
Among a all = Memᴰ a all

-- Each as often as it stands there, in the order of the format: of an action the target, the channel, what it carries, then the
-- process after it; of an ambient its name, then its contents.

unfoldable pub names_of_reference : Reference → List ℕ
names_of_reference (name n) = n ∷ []
names_of_reference (variable i) = []

unfoldable pub names_of_all : List Reference → List ℕ
names_of_all [] = []
names_of_all (r ∷ rs) = names_of_reference r ++ names_of_all rs

unfoldable pub names_of_action : Action → List ℕ
names_of_action (sibling_output a x ns) = names_of_reference a ++ names_of_reference x ++ names_of_all ns
names_of_action (parent_output x ns) = names_of_reference x ++ names_of_all ns
names_of_action (internal_input x k) = names_of_reference x
names_of_action (external_input x k) = names_of_reference x
names_of_action (enter a x) = names_of_reference a ++ names_of_reference x
names_of_action (leave x) = names_of_reference x
names_of_action (accept x) = names_of_reference x
names_of_action (release x) = names_of_reference x

unfoldable pub names_of_process : Process → List ℕ
names_of_process null = []
names_of_process (parallel P Q) = names_of_process P ++ names_of_process Q
names_of_process (restriction P) = names_of_process P
names_of_process (ambient a P) = names_of_reference a ++ names_of_process P
names_of_process (action α P) = names_of_action α ++ names_of_process P
names_of_process (replication α P) = names_of_action α ++ names_of_process P
