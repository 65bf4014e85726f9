-- The proof of `span_of`.
use borrow.Author.Rules.{rules}
use Prim.Native.Nat.{◌<◌}
use native.Mathlib.Omega.{arith}
use lib.ListN.{length}
use Rattle.searching.proofs.Lists.{root_span, inner_span, list_before}
use Rattle.searching.proofs.asking.span_of.Statement.{statement}
use Rattle.searching.proofs.asking.span_of.Tie as tie

-- the ambient stands in the list
before : (c : tie.Else-level-eq0) → c.args.ambient < length c.args.list.now
before c = let t = c.requires in list_before t.spells.spelled t.stands c.if-level-eq0.false

pub span_of_spec : {M : Type 1} → statement M
span_of_spec =
    tie.close
    (tie.spec
    (λ c L B e h. root_span e h c.if-level-eq0.true)
    (λ c. omega (arith, before c))
    (λ c. omega (arith, before c))
    (λ c. omega (arith, before c))
    (λ c. omega (arith, before c.before, c.requires.short))
    (λ c κs. search rules)
    (λ c. omega arith)
    (λ c. omega (arith, before c.before.before, c.requires.short))
    (λ c L B e h. inner_span e h c.if-level-eq0.false _ c.word.ensures.0))
