-- The causes of refusals 8 to 13 of a step, and the three limits among them.
use Rattle.std.specs.Prelude.{◌⊎◌, ℕ, ◌≤◌, ◌<◌, length}
use Rattle.std.proofs.Math.Option.{Option}
use Rattle.machine.specs.Limits.{byte_limit}
use Rattle.machine.specs.Elements.{State}
use Rattle.machine.specs.Rules.{Step}
use Rattle.machine.specs.Causes.{Cause8, Cause9, Cause10, Cause11, Cause12, FitsState}
use Rattle.elements.specs.Spelling.{encode_state}

-- The result keeps the limits of depth and nesting, and is longer than 32,768 bytes or than the output buffer.
unfoldable pub Cause13 : (room : ℕ) → State → ℕ → Option ℕ → Type 0
Cause13 room S p q =
    (n : ℕ) × (S' : State) × Step S p q n S' × FitsState S' × ((byte_limit < length (encode_state S')) ⊎ (room < length (encode_state S')))

-- A cause of the refusal with this number.
pub data Cause (room : ℕ) (S : State) (p : ℕ) (q : Option ℕ) : ℕ → Type 0 where
  cause8 : Cause8 S p q → Cause room S p q 8
  cause9 : Cause9 S p q → Cause room S p q 9
  cause10 : Cause10 S p q → Cause room S p q 10
  cause11 : Cause11 S p q → Cause room S p q 11
  cause12 : Cause12 S p q → Cause room S p q 12
  cause13 : Cause13 room S p q → Cause room S p q 13

-- One of the three limits, 11, 12 and 13, with its cause.
abbrev pub Limited : (room : ℕ) → State → ℕ → Option ℕ → ℕ → Type 0
Limited room S p q k = (11 ≤ k) × Cause room S p q k
