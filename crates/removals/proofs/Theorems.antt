-- The proofs of the statements in specs/Theorems.antt.
use mathlib.Core.Path.{ap}
use Prim.Native.Nat.{ℕ}
use native.Mathlib.Omega.{arith}
use Rattle.calculus.specs.Reduction.{◌≅◌, reflexive, symmetric, transitive}
use Rattle.machine.specs.Elements.{Elements, state, decode_state, weight_state}
use Rattle.machine.specs.IllFormed.{WellFormed}
use Rattle.machine.specs.Limits.{nesting_limit}
use Rattle.machine.specs.Validity.{Scoped, ValidWithin}
use Rattle.machine.proofs.Theorems.{still_irreducible}
use Rattle.removals.specs.Removal.{Removes, Reaches, done, remove}
use Rattle.removals.specs.Sweeping.{sweep, sweep_state}
use Rattle.removals.specs.Theorems.{RemovedOnce, OthersStay, RemovalShrinks, RemovalCongruent, SweepReached, SweepFinished, SweepContinues, SweepAnyOrder, SweepUnchanged, SweepAgain, Kept, RemovalsKeep, NamesLeft, SweepCongruent, SweepValid, SweepWeighs, SweepIrreducible}
use Rattle.removals.proofs.Removal.{removed_once_law, others_stay_law, without_size, without_congruent}
use Rattle.removals.proofs.Sweeping.{sweep_reached_law, sweep_finished_law, sweep_continues_law, sweep_any_order_law, finished_unchanged, unchanged_finished, sweep_again_law, reaches_names}
use Rattle.removals.proofs.Kept.{without_scoped, without_valid, without_well_formed, without_weight}

-- One removal

pub removed_once : RemovedOnce
removed_once = removed_once_law

pub others_stay : OthersStay
others_stay = others_stay_law

pub removal_shrinks : RemovalShrinks
removal_shrinks F L L' r = without_size r.without

pub removal_congruent : RemovalCongruent
removal_congruent F N L L' h r = without_congruent F N r.removed r.restricted h r.without r.nowhere_else

-- Sweeping

pub sweep_reached : SweepReached
sweep_reached = sweep_reached_law

pub sweep_finished : SweepFinished
sweep_finished = sweep_finished_law

pub sweep_continues : SweepContinues
sweep_continues = sweep_continues_law

pub sweep_any_order : SweepAnyOrder
sweep_any_order = sweep_any_order_law

pub sweep_unchanged : SweepUnchanged
sweep_unchanged F L = (finished_unchanged F L, unchanged_finished F L)

pub sweep_again : SweepAgain
unfolding sweep_state
sweep_again (state F N L) = ap (state F N) (sweep_again_law F L)

-- What is kept

kept_itself : (F N : ℕ) (L : Elements) → Kept F N L L
kept_itself F N L = record { congruent = λ h. reflexive; valid = λ v. v; well_formed = λ w. w; weights = omega arith; sizes = omega arith; irreducible = λ h. (λ i. i, λ i. i) }

kept_further : (F N : ℕ) (L L' K : Elements) → Removes F L L' → Kept F N L' K → Kept F N L K
unfolding ValidWithin WellFormed
kept_further F N L L' K r k =
    let w = r.without in
    let c : Scoped N L → decode_state (state F N L) ≅ decode_state (state F N K) =
    λ h. transitive (removal_congruent F N L L' h r) (k.congruent (without_scoped N r.removed w h)) in
    record {
      congruent = c;
      valid = λ v. k.valid (without_valid nesting_limit F N w v);
      well_formed = λ f. k.well_formed (without_well_formed w f);
      weights = omega (arith, without_weight w, k.weights);
      sizes = omega (arith, without_size w, k.sizes);
      irreducible = λ h. (still_irreducible (c h), still_irreducible (symmetric (c h)));
    }

reaches_kept : {F : ℕ} (N : ℕ) {L K : Elements} → Reaches F L K → Kept F N L K
reaches_kept {F} N {L} done = kept_itself F N L
reaches_kept {F} N {L} {K} (remove {L' = L'} r t) = kept_further F N L L' K r (reaches_kept N t)

pub removals_keep : RemovalsKeep
removals_keep F N L K t = reaches_kept N t

pub names_left : NamesLeft
names_left F L K t n = reaches_names t n

swept : (F N : ℕ) (L : Elements) → Kept F N L (sweep F L)
swept F N L = reaches_kept N (sweep_reached_law F L)

pub sweep_congruent : SweepCongruent
unfolding sweep_state ValidWithin
sweep_congruent (state F N L) v = (swept F N L).congruent v.scoped

pub sweep_valid : SweepValid
unfolding sweep_state
sweep_valid (state F N L) v w = ((swept F N L).valid v, (swept F N L).well_formed w)

pub sweep_weighs : SweepWeighs
unfolding sweep_state weight_state
sweep_weighs (state F N L) = (swept F N L).weights

pub sweep_irreducible : SweepIrreducible
unfolding sweep_state ValidWithin
sweep_irreducible (state F N L) v = (swept F N L).irreducible v.scoped
