-- The answers for `is_opened`: by the tag, the ambient to leave out, and the name.
use mathlib.Core.Path.{refl, sym, ◌∙◌}
use mathlib.Core.Bool.{false≢true}
use native.Mathlib.Omega.{arith}
use Prim.Native.Nat.{◌<◌}
use lib.ListN.{get_or}
use Rattle.elements.proofs.Views.{first, as_ambient}
use Rattle.tallying.proofs.Wants.{opens_none, opens_skipped, opens_any, opens_named}
use Rattle.looking.proofs.is_opened.Goals as goal

pub returns-then-list-gt65 : goal.returns-then-list-gt65
returns-then-list-gt65 c = (λ n E C k m p. opens_none n _ _ E C p.spelled c.if-list-gt65.true, λ z. absurd (false≢true z))

pub returns-then-eq : goal.returns-then-eq
returns-then-eq c = (λ n E C k m p. opens_skipped n _ _ E (sym c.eq.ensures ∙ c.if-eq.true), λ z. absurd (false≢true z))

-- an ambient has a name
pub word_within-requires : goal.word_within-requires
word_within-requires c =
    let l = c.requires.spelled_list in
    let s = c.args.list.now in
    let h = c.requires.list_nonzero in
    let t : get_or s 0 0 < 0x42 = omega (arith, c.if-list-gt65.false) in
    omega (arith, (as_ambient l.tree s _ l.spelled refl h t).long, (first l.tree s _ l.spelled refl h).within)

pub returns-in-None : goal.returns-in-None
returns-in-None c = (
  λ n E C k m p. opens_any n _ _ E C p c.if-list-gt65.false (sym c.eq.ensures ∙ c.if-eq.false) (sym c.in-None.is ∙ k),
  λ z. omega (arith, c.if-list-gt65.false),
)

pub returns-in-Some : goal.returns-in-Some
returns-in-Some c = (
  λ n E C k m p.
      opens_named n _ _ E C p c.if-list-gt65.false (sym c.eq.ensures ∙ c.if-eq.false) _ (sym c.in-Some.is ∙ k) m _ c.word_within.ensures.0,
  λ z. omega (arith, c.if-list-gt65.false),
)
