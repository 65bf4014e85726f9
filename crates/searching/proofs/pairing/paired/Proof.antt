-- The proof of `paired`.
use mathlib.Core.Path.{◌∙◌}
use native.Mathlib.Omega.{arith}
use Rattle.machine.proofs.Pairs.{pairs_asked}
use Rattle.elements.proofs.Searching.{tree_spelled}
use Rattle.places.specs.Offsets.{by_bytes}
use Rattle.places.proofs.Offsets.{bytes_number}
use Rattle.searching.proofs.Walks.{root_walked}
use Rattle.searching.proofs.pairing.paired.Statement.{statement}
use Rattle.searching.proofs.pairing.paired.Tie as tie

required : tie.Need-pairs_from-requires
required c κs =
    let l = c.requires.0 in
    record { tree = l.tree; spells = tree_spelled l; short = c.requires.1; frames = _; inner = _; shallow = omega arith; walked = root_walked l.spelled }

pub paired_spec : {M : Type 1} → statement M
paired_spec =
    tie.close
    (tie.spec
    required
    (λ c L p. c.pairs_from.ensures L _ L p (root_walked p.spelled) ∙ pairs_asked by_bytes bytes_number L))
