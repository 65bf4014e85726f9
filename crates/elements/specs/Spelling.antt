-- How elements, jobs and states are spelled (document 01, "How jobs and states are spelled").
use Rattle.std.specs.Prelude.{List, [], ◌∷◌, ◌++◌, ℕ, ◌+◌}
use Rattle.calculus.specs.Processes.{Process, binders}
use Rattle.machine.specs.Limits.{name_limit}
use Rattle.machine.specs.Validity.{ReferenceScoped}
use Rattle.machine.specs.Elements.{Status, unblocked, blocked, Elements, empty, ambient_then, process_then, blocked_then, State, state}
use Rattle.buffers.specs.Words.{word, field}
use Rattle.format.specs.Spelling.{encode_reference, encode_action, encode}
use Rattle.format.specs.Spellable.{CountedAction, Counted, SpellableAction, Spellable}

unfoldable pub ambient_tag : Status → ℕ
ambient_tag unblocked = 0x40
ambient_tag blocked = 0x41

unfoldable pub encode_elements : Elements → List ℕ
encode_elements empty = []
encode_elements (ambient_then s a A C) = field (ambient_tag s) (encode_reference a ++ encode_elements A) ++ encode_elements C
encode_elements (process_then P C) = field 0x42 (encode P) ++ encode_elements C
encode_elements (blocked_then α P C) = field 0x43 (encode_action α ++ encode P) ++ encode_elements C

-- A job: the count F of free names, and a process.
pub data Job : Type 0 where
  job : ℕ → Process → Job

unfoldable pub encode_job : Job → List ℕ
encode_job (job F P) = field 0x10 (word F ++ encode P)

unfoldable pub encode_state : State → List ℕ
encode_state (state F N L) = field 0x11 (word F ++ word N ++ encode_elements L)

-- What stands before n bytes of elements in a state: the header, F and N.
unfoldable pub state_front : (F N n : ℕ) → List ℕ
state_front F N n = ((0x11 ∷ word (4 + n)) ++ word F) ++ word N

-- Every reference and every count can be spelled, with no binder around.
unfoldable pub SpellableElements : Elements → Type 0
SpellableElements empty = Unit {0}
SpellableElements (ambient_then s a A C) = ReferenceScoped name_limit 0 a × SpellableElements A × SpellableElements C
SpellableElements (process_then P C) = Spellable 0 P × SpellableElements C
SpellableElements (blocked_then α P C) = SpellableAction 0 α × Spellable (binders α + 0) P × SpellableElements C

-- The counts alone, of which valid states say nothing.

unfoldable pub CountedElements : Elements → Type 0
CountedElements empty = Unit {0}
CountedElements (ambient_then s a A C) = CountedElements A × CountedElements C
CountedElements (process_then P C) = Counted P × CountedElements C
CountedElements (blocked_then α P C) = CountedAction α × Counted P × CountedElements C

unfoldable pub CountedState : State → Type 0
CountedState (state F N L) = CountedElements L
