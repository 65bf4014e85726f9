-- Names by their numbers, and the scope of a channel.
use Rattle.calculus.specs.Processes.{Action, sibling_output, parent_output, internal_input, external_input, enter, leave, accept, release}
use Rattle.machine.specs.Kinds.{channel}
use Rattle.machine.specs.Limits.{name_limit}
use Rattle.machine.specs.Validity.{ReferenceScoped, ActionScoped}

pub channel_scoped : (α : Action) → ActionScoped name_limit 0 α → ReferenceScoped name_limit 0 (channel α)
unfolding ActionScoped channel
channel_scoped (sibling_output a x ns) h = h.1
channel_scoped (parent_output x ns) h = h.0
channel_scoped (internal_input x k) h = h
channel_scoped (external_input x k) h = h
channel_scoped (enter a x) h = h.1
channel_scoped (leave x) h = h
channel_scoped (accept x) h = h
channel_scoped (release x) h = h
