-- How processes and actions are spelled in bytes (document 01, "How jobs and states are spelled"; document 02, request 1).
use Rattle.buffers.specs.Words.{word, field}
use Rattle.std.specs.Prelude.{List, [], ◌∷◌, ◌++◌, ℕ, ◌+◌}
use Rattle.calculus.specs.Processes.{Reference, name, variable, Action, Process, null, parallel, restriction, ambient, action, replication}
use Rattle.format.specs.Kinds.{action_tag, spelled_count, address_of, handed}

-- The number of the innermost variable; names are below `name_limit`.
abbrev pub first_variable : ℕ
first_variable = 32768

-- Two bytes spell the numbers below this.
abbrev pub word_limit : ℕ
word_limit = 65536

-- The number that spells a reference.
unfoldable pub reference_number : Reference → ℕ
reference_number (name n) = n
reference_number (variable i) = first_variable + i

unfoldable pub encode_reference : Reference → List ℕ
encode_reference r = word (reference_number r)

unfoldable pub encode_references : List Reference → List ℕ
encode_references [] = []
encode_references (r ∷ rs) = encode_reference r ++ encode_references rs

unfoldable pub encode_action : Action → List ℕ
encode_action α = field (action_tag α) (encode_references (address_of α) ++ (spelled_count α ++ encode_references (handed α)))

unfoldable pub encode : Process → List ℕ
encode null = field 0x20 []
encode (parallel P Q) = field 0x21 (encode P ++ encode Q)
encode (restriction P) = field 0x22 (encode P)
encode (ambient a P) = field 0x23 (encode_reference a ++ encode P)
encode (action α P) = field 0x24 (encode_action α ++ encode P)
encode (replication α P) = field 0x25 (encode_action α ++ encode P)
