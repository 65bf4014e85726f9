-- How a process uses names, as boxes and as channels (document 02, request 7: "a free name is written both as an ambient's name or target (tag 23, or the a of 30, 34, 38) and as the x of any action").
use Rattle.std.specs.Prelude.{Bool, false, List, [], ◌∷◌, ◌++◌, ℕ}
use Rattle.calculus.specs.Processes.{Reference, Action, sibling_output, parent_output, internal_input, external_input, enter, leave, accept, release, Process, null, parallel, restriction, ambient, action, replication}
use Rattle.calculus.specs.Names.{Among, names_of_all}
use Rattle.machine.specs.Limits.{cabinet_name}
use Rattle.machine.specs.Kinds.{channel}
use Rattle.machine.specs.Ordered.{member}
use Rattle.machine.specs.Tests.{◌or◌}

pub data Use : Type 0 where
  as_box as_channel : Use

-- The a of an action that has one.
unfoldable pub targets : Action → List Reference
targets (sibling_output a x ns) = a ∷ []
targets (parent_output x ns) = []
targets (internal_input x k) = []
targets (external_input x k) = []
targets (enter a x) = a ∷ []
targets (leave x) = []
targets (accept x) = []
targets (release x) = []

-- What is written for a use. Names that are sent are written for neither.

unfoldable pub of_ambient : Use → Reference → List Reference
of_ambient as_box a = a ∷ []
of_ambient as_channel a = []

unfoldable pub of_action : Use → Action → List Reference
of_action as_box α = targets α
of_action as_channel α = channel α ∷ []

-- The names written for a use in a process. A reference through a variable is no name.
unfoldable pub written : Use → Process → List ℕ
written u null = []
written u (parallel P Q) = written u P ++ written u Q
written u (restriction P) = written u P
written u (ambient a P) = names_of_all (of_ambient u a) ++ written u P
written u (action α P) = names_of_all (of_action u α) ++ written u P
written u (replication α P) = names_of_all (of_action u α) ++ written u P

-- "Name 0, the cabinet's, always counts as an ambient's."
unfoldable pub used : Use → Process → List ℕ
used as_box P = cabinet_name ∷ written as_box P
used as_channel P = written as_channel P

abbrev pub UsedAsBox : ℕ → Process → Type 0
UsedAsBox n P = Among n (used as_box P)

abbrev pub UsedAsChannel : ℕ → Process → Type 0
UsedAsChannel n P = Among n (used as_channel P)

-- Whether a number of one list stands in another.
unfoldable pub shared : List ℕ → List ℕ → Bool
shared [] ms = false
shared (n ∷ ns) ms = member n ms or shared ns ms

-- Whether some name is used as both.
unfoldable pub mixed : Process → Bool
mixed P = shared (used as_channel P) (used as_box P)
