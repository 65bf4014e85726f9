-- The proof of `directly`.
use mathlib.Core.Path.{ap, ◌∙◌}
use Prim.Native.Nat.{ℕ}
use Rattle.machine.specs.Questions.{untold, tally_in}
use Rattle.places.specs.Offsets.{by_bytes}
use Rattle.tallying.specs.Numbers.{question_of}
use Rattle.searching.proofs.Lists.{span_start, span_spells, enclosed_within, enclosed_list}
use Rattle.searching.proofs.asking.directly.Statement.{statement}
use Rattle.searching.proofs.asking.directly.Tie as tie

counted : tie.Need-returns
counted c w L B k p h =
    let z = c.span_of-span.ensures L B p.spelled h in
    let b = c.args in
    c.tally_in.ensures w B k (span_spells h z p) ∙ ap (λ (j : ℕ). tally_in by_bytes (question_of b.question) w j untold B) (span_start h z)

pub directly_spec : {M : Type 1} → statement M
directly_spec =
    tie.close
    (tie.spec
    (λ c κs. c.requires)
    (λ c. (enclosed_within c.requires c.span_of-span.result c.span_of-span.ensures).0)
    (λ c. (enclosed_within c.requires c.span_of-span.result c.span_of-span.ensures).0)
    (λ c. (enclosed_within c.requires c.span_of-span.result c.span_of-span.ensures).1)
    (λ c κs. enclosed_list c.requires c.span_of-span.result c.span_of-span.ensures)
    counted)
