-- What is proved of removing empty ambients and of sweeping on trees, each statement a named type; the proofs are in proofs/.
use Rattle.std.specs.Prelude.{◌≡◌, ◌⊎◌, ◌↔◌, ◌≢◌, ℕ, suc, ◌≤◌}
use Rattle.calculus.specs.Names.{Among}
use Rattle.calculus.specs.Reduction.{◌≅◌, Irreducible}
use Rattle.machine.specs.Elements.{Elements, State, state, size, decode_state, weight, weight_state}
use Rattle.machine.specs.IllFormed.{WellFormed}
use Rattle.machine.specs.Names.{names}
use Rattle.machine.specs.Validity.{Scoped, Valid}
use Rattle.removals.specs.Removal.{Without, Removes, Reaches, Finished}
use Rattle.removals.specs.Sweeping.{occurrences, sweep, sweep_state}

-- One removal

-- That the name stands nowhere in what is left says that it stands once in the list: as the name of the ambient.
abbrev pub RemovedOnce : Type 0
RemovedOnce = (n : ℕ) (L L' : Elements) → Without n L L' → (¬ Among n (names L')) ↔ (occurrences n (names L) ≡ 1)

-- Every other name stands as often as before.
abbrev pub OthersStay : Type 0
OthersStay = (n m : ℕ) (L L' : Elements) → Without n L L' → m ≢ n → occurrences m (names L') ≡ occurrences m (names L)

-- Removals end: each takes one element.
abbrev pub RemovalShrinks : Type 0
RemovalShrinks = (F : ℕ) (L L' : Elements) → Removes F L L' → size L ≡ suc (size L')

-- A restricted empty ambient is null (rule 6), wherever it stands.
abbrev pub RemovalCongruent : Type 0
RemovalCongruent = (F N : ℕ) (L L' : Elements) → Scoped N L → Removes F L L' → decode_state (state F N L) ≅ decode_state (state F N L')

-- Sweeping

-- The result is reached by removals, and none is left.
abbrev pub SweepReached : Type 0
SweepReached = (F : ℕ) (L : Elements) → Reaches F L (sweep F L)

abbrev pub SweepFinished : Type 0
SweepFinished = (F : ℕ) (L : Elements) → Finished F (sweep F L)

-- Removals in any order can be continued to the same result, and end nowhere else.
abbrev pub SweepContinues : Type 0
SweepContinues = (F : ℕ) (L K : Elements) → Reaches F L K → Reaches F K (sweep F L)

abbrev pub SweepAnyOrder : Type 0
SweepAnyOrder = (F : ℕ) (L K : Elements) → Reaches F L K → Finished F K → K ≡ sweep F L

-- Exactly where none is left, sweeping changes nothing; so sweeping again changes nothing.
abbrev pub SweepUnchanged : Type 0
SweepUnchanged = (F : ℕ) (L : Elements) → Finished F L ↔ (sweep F L ≡ L)

abbrev pub SweepAgain : Type 0
SweepAgain = (S : State) → sweep_state (sweep_state S) ≡ sweep_state S

-- What is kept

-- By removals, as many as there are.
pub record Kept (F N : ℕ) (L K : Elements) : Type 0 where
  pub congruent : Scoped N L → decode_state (state F N L) ≅ decode_state (state F N K)
  pub valid : Valid (state F N L) → Valid (state F N K)
  pub well_formed : WellFormed (state F N L) → WellFormed (state F N K)
  pub weights : weight K ≤ weight L
  pub sizes : size K ≤ size L
  pub irreducible : Scoped N L → Irreducible (decode_state (state F N L)) ↔ Irreducible (decode_state (state F N K))

abbrev pub RemovalsKeep : Type 0
RemovalsKeep = (F N : ℕ) (L K : Elements) → Reaches F L K → Kept F N L K

-- A name stands as often as before, or it is F or above, stood once and stands no more.
abbrev pub NamesLeft : Type 0
NamesLeft = (F : ℕ) (L K : Elements) → Reaches F L K → (n : ℕ) →
    (occurrences n (names K) ≡ occurrences n (names L)) ⊎ ((F ≤ n) × (occurrences n (names L) ≡ 1) × (occurrences n (names K) ≡ 0))

-- By sweeping.
abbrev pub SweepCongruent : Type 0
SweepCongruent = (S : State) → Valid S → decode_state S ≅ decode_state (sweep_state S)

abbrev pub SweepValid : Type 0
SweepValid = (S : State) → Valid S → WellFormed S → Valid (sweep_state S) × WellFormed (sweep_state S)

abbrev pub SweepWeighs : Type 0
SweepWeighs = (S : State) → weight_state (sweep_state S) ≤ weight_state S

abbrev pub SweepIrreducible : Type 0
SweepIrreducible = (S : State) → Valid S → Irreducible (decode_state S) ↔ Irreducible (decode_state (sweep_state S))
