-- What is proved of the uses of names, as a named type.
use Rattle.std.specs.Prelude.{◌≡◌, true, ◌↔◌, ℕ}
use Rattle.calculus.specs.Processes.{Process}
use Rattle.uses.specs.Uses.{UsedAsBox, UsedAsChannel, mixed}

-- A name with both uses.
pub record BothUses (P : Process) : Type 0 where
  pub number : ℕ
  pub box : UsedAsBox number P
  pub channel : UsedAsChannel number P

-- The test finds one exactly where there is one.
abbrev pub MixedHasBoth : Type 0
MixedHasBoth = (P : Process) → (mixed P ≡ true) ↔ BothUses P
