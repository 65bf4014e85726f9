-- The answers for `is_such`: the count, and the ambient that it has to go to, if it has to.
use mathlib.Core.Path.{◌∙◌}
use borrow.Author.Tests.{ne_eqb}
use Rattle.tallying.proofs.Wants.{agrees_not, agrees_any, agrees_target}
use Rattle.tallying.proofs.matching.is_such.Goals as goal

pub returns-then-is_none : goal.returns-then-is_none
returns-then-is_none c = c.if-is_none.true ∙ agrees_any _ _ c.if-want-action.true c.if-is_none.ensures

pub returns-else-is_none : goal.returns-else-is_none
returns-else-is_none c = c.eq.ensures ∙ agrees_target _ _ c.if-want-action.true c.if-is_none.ensures

pub returns-else-want-action : goal.returns-else-want-action
returns-else-want-action c = ne_eqb _ _ c.if-want-action.false ∙ agrees_not _ _ c.if-want-action.false
