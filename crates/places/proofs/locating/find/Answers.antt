use Rattle.std.proofs.Common.{rules, sym, ◌∙◌}
use Rattle.std.proofs.lemmas.Iterator.Consumers.{nth_from_yields_List}
use Rattle.places.specs.Offsets.{place_offset}
use Rattle.places.proofs.Walking.{found_counted}
use Rattle.places.proofs.Places.{given_offsets, offset_given}
use Rattle.places.proofs.locating.find.Goals as goal

pub returns : goal.returns
unfolding place_offset
returns c A e =
    let z = nth_from_yields_List _ c.nth.new.self _ c.nth.ensures.ran (given_offsets A _ (c.places_of.ensures.0 ∙ e) c.places_of.ensures.1) in
    offset_given _ _ c.map.ensures.cases (λ x y k. search rules) ∙ z ∙ sym (found_counted 0 A c.args.place)
