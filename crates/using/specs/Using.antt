-- Inner contracts: the uses in the opening of a field.
use Rattle.std.specs.Prelude.{List, [], ◌∷◌, ℕ, Option, None, Some}
use Rattle.calculus.specs.Processes.{Reference}
use Rattle.format.specs.Spelling.{reference_number}
use Rattle.layouts.specs.Openings.{Opening, alone, named, whole, opened_of}
use Rattle.uses.specs.Uses.{Use, as_box, as_channel, of_ambient, of_action}
use Rattle.using.specs.declared.Written.{Written}

-- What is written for a use in an opening: one reference, or none.
unfoldable pub of_opening : Use → Opening → List Reference
of_opening u (alone tag len f) = []
of_opening u (named tag len f a) = of_ambient u a
of_opening u (whole α) = of_action u α

-- The number of that reference, if there is one.
unfoldable pub number_of : List Reference → Option ℕ
number_of [] = None
number_of (r ∷ rs) = Some (reference_number r)

abbrev pub written_in : Opening → Written
written_in o = record { boxed = number_of (of_opening as_box o); channel = number_of (of_opening as_channel o); end = (opened_of o).end }
