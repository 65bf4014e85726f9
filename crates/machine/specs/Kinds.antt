-- The table of the eight kinds of actions: the rule, the side, what must agree, the kind that answers and where it stands.
use Rattle.std.specs.Prelude.{Bool, true, false, ℕ, suc, eqb, length}
use Rattle.std.proofs.Math.Option.{Option, none, some}
use Rattle.calculus.specs.Processes.{Reference, Action, sibling_output, parent_output, internal_input, external_input, enter, leave, accept, release}
use Rattle.calculus.specs.Redexes.{Kind, sibling_outputs, parent_outputs, internal_inputs, external_inputs, enters, leaves, accepts, releases}
use Rattle.machine.specs.Tests.{◌and◌, same}

-- The rule by which an action meets a blocked partner. The partner of a sender or mover goes by the next number.
unfoldable pub rule_of : Action → ℕ
rule_of (sibling_output a x ns) = 35
rule_of (external_input x k) = 36
rule_of (parent_output x ns) = 37
rule_of (internal_input x k) = 38
rule_of (enter a x) = 39
rule_of (accept x) = 40
rule_of (leave x) = 41
rule_of (release x) = 42

pub data Side : Type 0 where
  sender receiver : Side

unfoldable pub side_of : Action → Side
side_of (sibling_output a x ns) = sender
side_of (external_input x k) = receiver
side_of (parent_output x ns) = sender
side_of (internal_input x k) = receiver
side_of (enter a x) = sender
side_of (accept x) = receiver
side_of (leave x) = sender
side_of (release x) = receiver

unfoldable pub channel : Action → Reference
channel (sibling_output a x ns) = x
channel (parent_output x ns) = x
channel (internal_input x k) = x
channel (external_input x k) = x
channel (enter a x) = x
channel (leave x) = x
channel (accept x) = x
channel (release x) = x

-- How many names are handed over or taken.
unfoldable pub count : Action → ℕ
count (sibling_output a x ns) = length ns
count (parent_output x ns) = length ns
count (internal_input x k) = k
count (external_input x k) = k
count (enter a x) = 0
count (leave x) = 0
count (accept x) = 0
count (release x) = 0

-- The action β answers the sender or mover α: kind, channel and count agree.
unfoldable pub agree : Action → Action → Bool
agree α β = eqb (rule_of β) (suc (rule_of α)) and (same (channel α) (channel β) and eqb (count α) (count β))

-- The search for an answer

-- The eight kinds, in the order of their tags.
unfoldable pub kind_of : Action → Kind
kind_of (sibling_output a x ns) = sibling_outputs
kind_of (parent_output x ns) = parent_outputs
kind_of (internal_input x k) = internal_inputs
kind_of (external_input x k) = external_inputs
kind_of (enter a x) = enters
kind_of (leave x) = leaves
kind_of (accept x) = accepts
kind_of (release x) = releases

unfoldable pub kind_number : Kind → ℕ
kind_number sibling_outputs = 0
kind_number parent_outputs = 1
kind_number internal_inputs = 2
kind_number external_inputs = 3
kind_number enters = 4
kind_number leaves = 5
kind_number accepts = 6
kind_number releases = 7

-- The kind that answers, as rules 19 to 22 pair them.
unfoldable pub answering : Kind → Kind
answering sibling_outputs = external_inputs
answering external_inputs = sibling_outputs
answering parent_outputs = internal_inputs
answering internal_inputs = parent_outputs
answering enters = accepts
answering accepts = enters
answering leaves = releases
answering releases = leaves

-- Where the answer to an action stands.
pub data Standing : Type 0 where
  sibling : Standing  -- directly in an ambient beside the one that holds the action
  outside : Standing  -- directly in the list around that ambient
  child : Standing  -- directly in an ambient beside the action

unfoldable pub standing_of : Kind → Standing
standing_of sibling_outputs = sibling
standing_of external_inputs = sibling
standing_of enters = sibling
standing_of accepts = sibling
standing_of parent_outputs = outside
standing_of leaves = outside
standing_of internal_inputs = child
standing_of releases = child

-- The two meet only if an ambient is around both.
unfoldable pub inside_only : Kind → Bool
inside_only sibling_outputs = false
inside_only external_inputs = false
inside_only parent_outputs = false
inside_only internal_inputs = false
inside_only enters = false
inside_only accepts = false
inside_only leaves = true
inside_only releases = true

-- The answer names the ambient that holds the action.
unfoldable pub names_holder : Kind → Bool
names_holder sibling_outputs = false
names_holder external_inputs = true
names_holder parent_outputs = false
names_holder internal_inputs = false
names_holder enters = false
names_holder accepts = true
names_holder leaves = false
names_holder releases = false

-- The ambient to which an action is directed.
unfoldable pub target : Action → Option Reference
target (sibling_output a x ns) = some a
target (parent_output x ns) = none
target (internal_input x k) = none
target (external_input x k) = none
target (enter a x) = some a
target (leave x) = none
target (accept x) = none
target (release x) = none
