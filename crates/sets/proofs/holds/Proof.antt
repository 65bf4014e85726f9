-- `holds`: the bit of the name.
use native.Mathlib.Omega.{arith}
use Rattle.sets.proofs.Sets.{held_as}
use Rattle.sets.proofs.holds.Statement.{statement}
use Rattle.sets.proofs.holds.Tie as tie

pub holds_spec : {M : Type 1} → statement M
holds_spec =
    tie.close
    (tie.spec (λ c. record { fits = omega (arith, c.requires) }) (λ c. omega (arith, c.requires)) (λ c. omega (arith, c.requires)) (λ c. held_as _ _ c.requires.1))
