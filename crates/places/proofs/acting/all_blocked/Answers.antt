use Rattle.std.proofs.Common.{rules, tests, ◌∙◌}
use Rattle.std.proofs.lemmas.Iterator.Search.{all_from_yields_List}
use Rattle.elements.proofs.Each.{given_spellings}
use Rattle.places.proofs.Able.{has_blocked_tag, blocked_tags}
use Rattle.places.proofs.acting.all_blocked.Goals as goal

pub returns : goal.returns
unfolding has_blocked_tag
returns c A e k =
    all_from_yields_List has_blocked_tag c.all.new.self _ _ c.all.ensures.ran (given_spellings A c.elements_of.result (c.elements_of.ensures ∙ e)) (λ x b q k. search (rules, tests))
    ∙ blocked_tags A k
