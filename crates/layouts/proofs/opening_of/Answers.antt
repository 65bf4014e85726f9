-- The answers for `opening_of`: by the form that its tag has.
use mathlib.Core.Path.{sym, ◌∙◌}
use native.Mathlib.Omega.{arith}
use Rattle.layouts.proofs.Openings.{is_bare, is_naming, is_acting, answered, opening_long, opened_bare, opened_naming, whole_action, opened_acting}
use Rattle.layouts.proofs.opening_of.Goals as goal

pub bounds-s-0 : goal.bounds-s-0
bounds-s-0 c = let p = c.requires in omega (arith, opening_long p.opening _ p.rest p.spelled)

pub opened_action-requires : goal.opened_action-requires
opened_action-requires c =
    let p = c.requires in whole_action p.opening _ p.rest p.spelled (is_acting _ (answered p.opening _ p.rest p.spelled _ (sym c.in-Acting.is ∙ c.form_of.ensures)))

pub returns-in-Bare : goal.returns-in-Bare
returns-in-Bare c o rest e = opened_bare o (is_bare _ (answered o _ rest e _ (sym c.in-Bare.is ∙ c.form_of.ensures))) _ c.opened_to.ensures

pub returns-in-Naming : goal.returns-in-Naming
returns-in-Naming c o rest e = opened_naming o (is_naming _ (answered o _ rest e _ (sym c.in-Naming.is ∙ c.form_of.ensures))) _ c.opened_to-in-Naming.ensures

pub returns-in-Acting : goal.returns-in-Acting
returns-in-Acting c o rest e = opened_acting o _ rest e (is_acting _ (answered o _ rest e _ (sym c.in-Acting.is ∙ c.form_of.ensures))) _ c.opened_action.ensures.0
