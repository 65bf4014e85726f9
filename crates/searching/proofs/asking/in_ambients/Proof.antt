-- The proof of `in_ambients`.
use mathlib.Core.Path.{ap, ◌∙◌}
use Prim.Native.Nat.{ℕ}
use Rattle.machine.specs.Questions.{untold, tally_among}
use Rattle.places.specs.Offsets.{by_bytes, meant}
use Rattle.tallying.specs.Numbers.{question_of}
use Rattle.searching.proofs.Lists.{span_start, span_spells, enclosed_within, enclosed_list}
use Rattle.searching.proofs.asking.in_ambients.Statement.{statement}
use Rattle.searching.proofs.asking.in_ambients.Tie as tie

counted : tie.Need-returns
counted c w n L B k e m p h =
    let z = c.span_of-span.ensures L B p.spelled h in
    let b = c.args in
    c.tally_among.ensures w n B k e m (span_spells h z p) ∙ ap (λ (j : ℕ). tally_among by_bytes (question_of b.question) w n (meant b.skip) j untold B) (span_start h z)

pub in_ambients_spec : {M : Type 1} → statement M
in_ambients_spec =
    tie.close
    (tie.spec
    (λ c κs. c.requires)
    (λ c. (enclosed_within c.requires c.span_of-span.result c.span_of-span.ensures).0)
    (λ c. (enclosed_within c.requires c.span_of-span.result c.span_of-span.ensures).0)
    (λ c. (enclosed_within c.requires c.span_of-span.result c.span_of-span.ensures).1)
    (λ c κs. enclosed_list c.requires c.span_of-span.result c.span_of-span.ensures)
    counted)
