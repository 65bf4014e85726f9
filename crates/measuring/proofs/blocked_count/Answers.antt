use Rattle.std.proofs.Common.{◌≡◌, ◌==◌, ◌<◌, rules, arith, length, ◌∙◌}
use Rattle.std.specs.Prelude.{filter}
use Rattle.std.proofs.lemmas.Iterator.Consumers.{count_from_yields_List, YieldsList-from_filter}
use lib.ListN.{get_or}
use Rattle.machine.specs.Elements.{Elements}
use Rattle.elements.specs.Spelling.{encode_elements}
use Rattle.elements.proofs.Each.{spellings, given_spellings}
use Rattle.measuring.proofs.Measures.{blocked_spellings, blocked_actions_small}
use Rattle.measuring.proofs.blocked_count.Goals as goal

pub count-requires-clause-can : goal.count-requires-clause-can
count-requires-clause-can c =
    (rw (c.filter.ensures.source, c.elements_of.ensures) c.requires, tt, record { at = λ xs t q x u y f g. let l : 0 < length x.now = omega (arith, g.long) in search rules })

counted : (c : goal.After-count) (A : Elements) → c.args.list.now ≡ encode_elements A → c.count.result ≡ length (filter (λ x. get_or x 0 0 == 0x43) (spellings A))
counted c A e =
    count_from_yields_List _ _ c.count.ensures.ran
    (YieldsList-from_filter _ (λ x. get_or x 0 0 == 0x43) (given_spellings A _ (rw (c.filter.ensures.source, c.elements_of.ensures) e)) (search rules) (λ x b q k. search rules))

pub returns : goal.returns
returns c =
    let l = c.requires in
    (λ A e. counted c A e ∙ blocked_spellings A, rw l.spelled (omega (arith, counted c l.tree l.spelled, blocked_spellings l.tree, blocked_actions_small l.tree)))
