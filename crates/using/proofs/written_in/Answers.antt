-- The answers for `written_in`: by the form of the opening.
use mathlib.Core.Path.{sym, ◌∙◌}
use native.Mathlib.Omega.{arith}
use Rattle.layouts.proofs.Openings.{is_bare, is_naming, is_acting, answered, opening_long}
use Rattle.using.proofs.Openings.{bare_written, name_within, name_written, channel_within, action_written}
use Rattle.using.proofs.written_in.Goals as goal

pub bounds-s-0 : goal.bounds-s-0
bounds-s-0 c = let p = c.requires in omega (arith, opening_long p.opening _ p.rest p.spelled)

pub word_within-requires : goal.word_within-requires
word_within-requires c =
    let p = c.requires in name_within p.opening _ p.rest p.spelled (is_naming _ (answered p.opening _ p.rest p.spelled _ (sym c.in-Naming.is ∙ c.form_of.ensures)))

pub target_before-requires : goal.target_before-requires
target_before-requires c =
    let p = c.requires in
    let w =
    channel_within _ p.rest _ p.opening p.spelled (is_acting _ (answered p.opening _ p.rest p.spelled _ (sym c.in-Acting.is ∙ c.form_of.ensures)))
    (c.opening_of-opened.ensures p.opening p.rest p.spelled) in
    omega (arith, w)

pub word_within-requires-in-Acting : goal.word_within-requires-in-Acting
word_within-requires-in-Acting c =
    let p = c.requires in
    (channel_within _ p.rest _ p.opening p.spelled (is_acting _ (answered p.opening _ p.rest p.spelled _ (sym c.in-Acting.is ∙ c.form_of.ensures)))
    (c.opening_of-opened.ensures p.opening p.rest p.spelled)).1

pub returns-in-Bare : goal.returns-in-Bare
returns-in-Bare c o rest e = bare_written o (is_bare _ (answered o _ rest e _ (sym c.in-Bare.is ∙ c.form_of.ensures)))

pub returns-in-Naming : goal.returns-in-Naming
returns-in-Naming c o rest e = name_written o _ rest e (is_naming _ (answered o _ rest e _ (sym c.in-Naming.is ∙ c.form_of.ensures))) _ c.word_within.ensures.0

pub returns-in-Acting : goal.returns-in-Acting
returns-in-Acting c o rest e =
    action_written _ rest _ o e (is_acting _ (answered o _ rest e _ (sym c.in-Acting.is ∙ c.form_of.ensures))) (c.opening_of-opened.ensures o rest e) _ _ c.target_before.ensures
    c.word_within-in-Acting.ensures.0
