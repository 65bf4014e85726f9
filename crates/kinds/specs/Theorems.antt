-- What is proved of the table, as a named type.
use Rattle.std.specs.Prelude.{◌≡◌, ◌<◌}
use Rattle.calculus.specs.Redexes.{Kind}
use Rattle.machine.specs.Kinds.{kind_number, answering, standing_of}
use Rattle.kinds.specs.Kinds.{standing_number, reference_count, directed_of, kind_byte, answer_in, standing_in, references_in, directed_in}

-- The byte of each of the eight kinds is one, and says of the kind what the table says.
abbrev pub PackedKinds : Type 0
PackedKinds = (k : Kind) → (kind_byte k < 256) × (answer_in (kind_byte k) ≡ kind_number (answering k)) × (standing_in (kind_byte k) ≡ standing_number (standing_of k))
    × (references_in (kind_byte k) ≡ reference_count k) × (directed_in (kind_byte k) ≡ directed_of k)
