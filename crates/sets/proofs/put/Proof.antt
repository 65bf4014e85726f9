-- `put`: a bit more, where it is not set.
use mathlib.Core.Path.{◌≡◌, sym, ◌∙◌}
use mathlib.Core.Bool.{false}
use Prim.Native.Nat.{◌%◌}
use native.Mathlib.Omega.{arith}
use borrow.Author.Rules.{rules}
use Rattle.sets.specs.Sets.{set_words, holds_name}
use Rattle.sets.proofs.Sets.{put_room, put_done, put_held}
use Rattle.sets.proofs.put.Statement.{statement}
use Rattle.sets.proofs.put.Tie as tie

-- the name is not in the set
new : (c : tie.After-slice_known-then-not-holds-1) → holds_name c.args.names.now c.args.name ≡ false
new c = sym c.holds.ensures ∙ c.if-not-holds.true

pub put_spec : {M : Type 1} → statement M
put_spec =
    tie.close
    (tie.spec
    (λ c κs. search rules)
    (λ c. record { fits = omega (arith, c.requires) })
    (λ c. omega (arith, c.requires))
    (λ c. omega (arith, c.requires))
    (λ c. record { fits = put_room _ _ c.requires.1 (new c) (omega (arith, c.slice_known-then-not-holds-1.given (c.args.name % set_words))) })
    (λ c. record { fits = omega (arith, c.requires) })
    (λ c. omega (arith, c.requires))
    (λ c. search rules)
    (λ c. put_done _ _ c.requires.1 (new c))
    (λ c. search rules)
    (λ c. put_held _ _ c.requires.1 (sym c.holds.ensures ∙ c.if-not-holds.false)))
