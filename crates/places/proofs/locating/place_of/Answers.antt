use Rattle.std.proofs.Common.{rules, tests, ltb, refl, sym, ◌∙◌}
use Rattle.std.proofs.lemmas.Iterator.Consumers.{count_from_yields_List}
use Rattle.std.proofs.lemmas.Iterator.Search.{YieldsList-from_take_while}
use Rattle.machine.specs.Elements.{place}
use Rattle.places.proofs.Walking.{found_counted}
use Rattle.places.specs.Offsets.{place_offset}
use Rattle.places.proofs.Lowest.{place_offset_law}
use Rattle.places.proofs.Places.{given_offsets, before_offset}
use Rattle.places.proofs.locating.place_of.Goals as goal

pub returns : goal.returns
unfolding place_offset
returns c A π E e f o =
    count_from_yields_List _ _ c.count.ensures.ran
    (YieldsList-from_take_while _ (λ x. ltb x c.args.at) (given_offsets A _ (rw c.take_while.ensures.source (c.places_of.ensures.0 ∙ e)) (rw c.take_while.ensures.source c.places_of.ensures.1)) c.take_while.ensures.closure c.take_while.ensures.done (λ x b q k. search (rules, tests)))
    ∙ before_offset _ 0 A refl _ _ (sym (found_counted 0 A (place A π)) ∙ place_offset_law A π E _ f o)
