-- What the code answers, from what the definitions over lists say.
use Rattle.std.specs.Prelude.{Bool, true, false}
use Rattle.machine.specs.Elements.{Status, unblocked, blocked}

-- The status of the ambient around: the code has a flag for it.
abbrev pub status_of : Bool → Status
status_of true = blocked
status_of false = unblocked
