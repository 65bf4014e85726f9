-- What a removal keeps: scopes, blocked contents, depth, nesting, no blocked pair; and it does not raise the weight.
use Prim.Native.Nat.{ℕ, ◌≤◌}
use native.Mathlib.Omega.{arith}
use Rattle.calculus.specs.Processes.{name, null, ambient, action}
use Rattle.machine.specs.Elements.{unblocked, blocked, Elements, AllBlocked, process_depth, nesting, weight}
use Rattle.machine.specs.IllFormed.{IllFormed}
use Rattle.machine.specs.Validity.{Scoped, Graded, Fits, ValidState}
use Rattle.machine.proofs.BlockedPairs.{decode_blocked}
use Rattle.machine.proofs.WellFormed.{NoMore, no_more_reflexive, no_more_parallel, no_more_right, no_more_ambient, no_more_well_formed}
use Rattle.removals.specs.Removal.{Without, gone, within, behind_ambient, behind_process, behind_blocked}

-- Valid

pub without_scoped : (N n : ℕ) {L L' : Elements} → Without n L L' → Scoped N L → Scoped N L'
unfolding Scoped
without_scoped N n gone h = h.2
without_scoped N n (within w) h = (h.0, without_scoped N n w h.1, h.2)
without_scoped N n (behind_ambient w) h = (h.0, h.1, without_scoped N n w h.2)
without_scoped N n (behind_process w) h = (h.0, without_scoped N n w h.1)
without_scoped N n (behind_blocked w) h = (h.0, h.1, without_scoped N n w h.2)

without_blocked : {n : ℕ} {L L' : Elements} → Without n L L' → AllBlocked L → AllBlocked L'
unfolding AllBlocked
without_blocked (gone {s = unblocked}) h = absurd h
without_blocked (gone {s = blocked}) h = h.1
without_blocked (within {s = unblocked} w) h = absurd h
without_blocked (within {s = blocked} w) h = (without_blocked w h.0, h.1)
without_blocked (behind_ambient {s = unblocked} w) h = absurd h
without_blocked (behind_ambient {s = blocked} w) h = (h.0, without_blocked w h.1)
without_blocked (behind_process w) h = absurd h
without_blocked (behind_blocked w) h = without_blocked w h

without_graded : {n : ℕ} {L L' : Elements} → Without n L L' → Graded L → Graded L'
unfolding Graded
without_graded (gone {s = unblocked}) h = h.1
without_graded (gone {s = blocked}) h = h.1
without_graded (within {s = unblocked} w) h = (without_graded w h.0, h.1)
without_graded (within {s = blocked} w) h = (without_blocked w h.0, h.1)
without_graded (behind_ambient {s = unblocked} w) h = (h.0, without_graded w h.1)
without_graded (behind_ambient {s = blocked} w) h = (h.0, without_graded w h.1)
without_graded (behind_process w) h = without_graded w h
without_graded (behind_blocked w) h = without_graded w h

without_depth : {n : ℕ} {L L' : Elements} → Without n L L' → process_depth L' ≤ process_depth L
unfolding process_depth
without_depth gone = omega arith
without_depth (within w) = omega (arith, without_depth w)
without_depth (behind_ambient w) = omega (arith, without_depth w)
without_depth (behind_process w) = omega (arith, without_depth w)
without_depth (behind_blocked w) = omega (arith, without_depth w)

without_nesting : {n : ℕ} {L L' : Elements} → Without n L L' → nesting L' ≤ nesting L
unfolding nesting
without_nesting gone = omega arith
without_nesting (within w) = omega (arith, without_nesting w)
without_nesting (behind_ambient w) = omega (arith, without_nesting w)
without_nesting (behind_process w) = without_nesting w
without_nesting (behind_blocked w) = without_nesting w

without_fits : {n : ℕ} (nest : ℕ) {L L' : Elements} → Without n L L' → Fits nest L → Fits nest L'
without_fits nest w f = record { shallow = omega (arith, without_depth w, f.shallow); nested = omega (arith, without_nesting w, f.nested) }

pub without_valid : {n : ℕ} (nest F N : ℕ) {L L' : Elements} → Without n L L' → ValidState nest F N L → ValidState nest F N L'
without_valid {n} nest F N w v = record {
  few_free = v.few_free;
  free_below = v.free_below;
  few_names = v.few_names;
  scoped = without_scoped N n w v.scoped;
  graded = without_graded w v.graded;
  fits = without_fits nest w v.fits;
}

-- No blocked pair: what is left shows no more and has no more redexes

without_no_more : {n : ℕ} {L L' : Elements} → Without n L L' → NoMore (decode_blocked L') (decode_blocked L)
unfolding decode_blocked
without_no_more {n} (gone {C = C}) = no_more_right (ambient (name n) null) (decode_blocked C)
without_no_more (within {a = a} {C = C} w) = no_more_parallel (no_more_ambient a (without_no_more w)) (no_more_reflexive (decode_blocked C))
without_no_more (behind_ambient {a = a} {A = A} w) = no_more_parallel (no_more_reflexive (ambient a (decode_blocked A))) (without_no_more w)
without_no_more (behind_process w) = without_no_more w
without_no_more (behind_blocked {α = α} {P = P} w) = no_more_parallel (no_more_reflexive (action α P)) (without_no_more w)

pub without_well_formed : {n : ℕ} {L L' : Elements} → Without n L L' → ¬ IllFormed L → ¬ IllFormed L'
without_well_formed {L = L} {L' = L'} w = no_more_well_formed L L' (without_no_more w)

-- Weight

pub without_weight : {n : ℕ} {L L' : Elements} → Without n L L' → weight L' ≤ weight L
unfolding weight
without_weight (gone {s = unblocked}) = omega arith
without_weight (gone {s = blocked}) = omega arith
without_weight (within {s = unblocked} w) = omega (arith, without_weight w)
without_weight (within {s = blocked} w) = omega arith
without_weight (behind_ambient {s = unblocked} w) = omega (arith, without_weight w)
without_weight (behind_ambient {s = blocked} w) = without_weight w
without_weight (behind_process w) = omega (arith, without_weight w)
without_weight (behind_blocked w) = without_weight w
