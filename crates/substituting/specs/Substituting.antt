-- Bytes in which names are to stand for variables, and the bytes of the names.
use Rattle.std.specs.Prelude.{◌≡◌, List, ℕ, ◌+◌, ◌≤◌, length}
use Rattle.calculus.specs.Processes.{Reference, Process}
use Rattle.machine.specs.Limits.{name_limit}
use Rattle.machine.specs.Validity.{AllScoped}
use Rattle.format.specs.Spelling.{first_variable, encode_references, encode}
use Rattle.format.specs.Spellable.{Spellable}

-- Names, in two bytes each.
pub record SpellsNames (s : List ℕ) (ns : List Reference) : Type 0 where
  pub spelled : s ≡ encode_references ns
  pub scoped : AllScoped name_limit 0 ns

-- References under a number of binders and as many more as there are names.
pub record Referring (s names : List ℕ) (binders : ℕ) : Type 0 where
  pub handed : List Reference
  pub named : SpellsNames names handed
  pub references : List Reference
  pub spelled : s ≡ encode_references references
  pub scoped : AllScoped name_limit (length handed + binders) references
  pub short : length handed + binders ≤ first_variable

-- A process under a number of binders and as many more as there are names.
pub record Receiving (s names : List ℕ) (binders : ℕ) : Type 0 where
  pub handed : List Reference
  pub named : SpellsNames names handed
  pub process : Process
  pub spelled : s ≡ encode process
  pub spellable : Spellable (length handed + binders) process
  pub short : length handed + binders + length s ≤ first_variable
