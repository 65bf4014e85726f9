-- Which steps break the limits of depth and nesting.
use mathlib.Core.Path.{◌≡◌, refl, sym, ◌∙◌, ap, ap₂}
use mathlib.Core.Bool.{Bool, true, false}
use mathlib.Core.List.{List}
use mathlib.Core.Option.{some}
use Prim.Native.Nat.{ℕ, suc, ◌+◌, ◌-◌, ◌*◌, ◌≤◌, max}
use native.Mathlib.Nat.{mul-zero, mul-suc}
use native.Mathlib.Omega.{arith}
use borrow.Author.Tests.{leb-true, leb-false, le-leb, eqb-true, eqb-false}
use lib.Dec.{leb, eqb}
use lib.ListN.{length}
use Rattle.calculus.specs.Processes.{Reference, Action, sibling_output, parent_output, internal_input, external_input, enter, leave, accept, release, Process, null, parallel, restriction, ambient, action, replication, binders, Renaming, lift, lift_by, rename, receive}
use Rattle.machine.specs.Limits.{state_depth_limit}
use Rattle.machine.specs.Elements.{Status, unblocked, blocked, Elements, empty, ambient_then, process_then, blocked_then, Element, ambient_element, process_element, blocked_element, ◌before◌, ◌then◌, only, standing, Position, into, Has, element_at, unblock, depth, process_depth, nesting}
use Rattle.machine.specs.Rules.{Replace, replaced, kept, ReplaceBoth, replaced_left, replaced_right, kept_both, directly, rule27, Meets, rules35_36, rules37_38, rules39_40, rules41_42}
use Rattle.machine.specs.Tests.{◌and◌, fits, pick}
use Rattle.machine.specs.Positions.{replace_at}
use Rattle.machine.specs.Validity.{Fits}
use Rattle.machine.proofs.Lists.{replace_has, replace_both_both}
use Rattle.machine.proofs.Places.{has_element_at, anywhere_element_at}
use Rattle.machine.proofs.Meeting.{both_left, meeting_acts}
use Rattle.places.specs.Offsets.{spot_of}
use Rattle.turning.specs.Turning.{given, turned}
use Rattle.places.proofs.Offsets.{level_direct, level_into}
use Rattle.planning.proofs.Holders.{holder}
use Rattle.planning.proofs.Lengths.{Exchanged, exchanged}

-- Tests

leb_same : (a b m : ℕ) → (a ≤ m → b ≤ m) → (b ≤ m → a ≤ m) → leb a m ≡ leb b m
leb_same a b m f g = go (leb b m) refl
  where
    go : (t : Bool) → leb b m ≡ t → leb a m ≡ leb b m
    go true e = le-leb a m (g (leb-true b m e)) ∙ sym e
    go false e = refused (leb a m) refl
      where
        refused : (t : Bool) → leb a m ≡ t → leb a m ≡ leb b m
        refused true d = absurd (let l = f (leb-true a m d) in omega (arith, leb-false b m e))
        refused false d = d ∙ sym e

and_left : {a b c : Bool} → a ≡ c → b ≡ true → a and b ≡ c
and_left {a = true} e h = h ∙ e
and_left {a = false} e h = e

and_right : {a b c : Bool} → a ≡ true → b ≡ c → a and b ≡ c
and_right e h = rw (e, h)

-- Elements by themselves

pub depth_ambient : (s : Status) (a : Reference) (A : Elements) → process_depth (only (ambient_element s a A)) ≡ process_depth A
unfolding process_depth ◌before◌
depth_ambient s a A = omega arith

pub depth_process : (P : Process) → process_depth (only (process_element P)) ≡ depth P
unfolding process_depth ◌before◌
depth_process P = omega arith

pub depth_blocked : (α : Action) (P : Process) → process_depth (only (blocked_element α P)) ≡ suc (depth P)
unfolding process_depth ◌before◌
depth_blocked α P = omega arith

depth_standing : (s : Status) (α : Action) (P : Process) → process_depth (only (standing s α P)) ≡ suc (depth P)
unfolding standing depth
depth_standing unblocked α P = depth_process (action α P)
depth_standing blocked α P = depth_blocked α P

pub nesting_ambient : (s : Status) (a : Reference) (A : Elements) → nesting (only (ambient_element s a A)) ≡ suc (nesting A)
unfolding nesting ◌before◌
nesting_ambient s a A = omega arith

pub nesting_process : (P : Process) → nesting (only (process_element P)) ≡ 0
unfolding nesting ◌before◌
nesting_process P = refl

pub nesting_blocked : (α : Action) (P : Process) → nesting (only (blocked_element α P)) ≡ 0
unfolding nesting ◌before◌
nesting_blocked α P = refl

nesting_standing : (s : Status) (α : Action) (P : Process) → nesting (only (standing s α P)) ≡ 0
unfolding standing
nesting_standing unblocked α P = nesting_process (action α P)
nesting_standing blocked α P = nesting_blocked α P

-- renaming keeps the depth
pub depth_rename : (σ : Renaming) (P : Process) → depth (rename σ P) ≡ depth P
unfolding depth rename
depth_rename σ null = refl
depth_rename σ (parallel P Q) = ap₂ (λ x y. suc (max x y)) (depth_rename σ P) (depth_rename σ Q)
depth_rename σ (restriction P) = ap suc (depth_rename (lift σ) P)
depth_rename σ (ambient a P) = ap suc (depth_rename σ P)
depth_rename σ (action α P) = ap suc (depth_rename (lift_by (binders α) σ) P)
depth_rename σ (replication α P) = ap suc (depth_rename (lift_by (binders α) σ) P)

-- unblocking keeps both
unblock_depth : (L : Elements) → process_depth (unblock L) ≡ process_depth L
unfolding process_depth depth unblock
unblock_depth empty = refl
unblock_depth (ambient_then s a A C) = ap (max (process_depth A)) (unblock_depth C)
unblock_depth (process_then P C) = ap (max (depth P)) (unblock_depth C)
unblock_depth (blocked_then α P C) = ap (max (suc (depth P))) (unblock_depth C)

unblock_nesting : (L : Elements) → nesting (unblock L) ≡ nesting L
unfolding nesting unblock
unblock_nesting empty = refl
unblock_nesting (ambient_then s a A C) = ap (max (suc (nesting A))) (unblock_nesting C)
unblock_nesting (process_then P C) = unblock_nesting C
unblock_nesting (blocked_then α P C) = unblock_nesting C

-- Measures of a list that are the greatest of its elements' measures, k more for each ambient around: depth, with 0, and nesting, with 1.

record Measure (k : ℕ) (μ : Elements → ℕ) : Type 0 where
  nothing : μ empty ≡ 0
  greatest : (E : Element) (C : Elements) → μ (E before C) ≡ max (μ (only E)) (μ C)
  around : (s : Status) (a : Reference) (A : Elements) → μ (only (ambient_element s a A)) ≡ k + μ A
  behind : (s : Status) (α : Action) (P : Process) → μ (only (process_element P)) ≤ μ (only (standing s α P))
  blocking : (α : Action) (P : Process) → μ (only (blocked_element α P)) ≤ μ (only (process_element (action α P)))
  parted : (P Q : Process) → max (μ (only (process_element P))) (μ (only (process_element Q))) ≤ μ (only (process_element (parallel P Q)))
  restricted : (P : Process) → μ (only (process_element P)) ≤ μ (only (process_element (restriction P)))
  renamed : (σ : Renaming) (P : Process) → μ (only (process_element (rename σ P))) ≡ μ (only (process_element P))
  unblocking : (L : Elements) → μ (unblock L) ≡ μ L

depth_greatest : (E : Element) (C : Elements) → process_depth (E before C) ≡ max (process_depth (only E)) (process_depth C)
unfolding process_depth ◌before◌
depth_greatest (ambient_element s a A) C = omega arith
depth_greatest (process_element P) C = omega arith
depth_greatest (blocked_element α P) C = omega arith

depth_measure : Measure 0 process_depth
unfolding depth
depth_measure =
    record {
      nothing = unfold process_depth in refl;
      greatest = depth_greatest;
      around = λ s a A. omega (arith, depth_ambient s a A);
      behind = λ s α P. omega (arith, depth_process P, depth_standing s α P);
      blocking = λ α P. omega (arith, depth_blocked α P, depth_process (action α P));
      parted = λ P Q. omega (arith, depth_process P, depth_process Q, depth_process (parallel P Q));
      restricted = λ P. omega (arith, depth_process P, depth_process (restriction P));
      renamed = λ σ P. omega (arith, depth_process P, depth_process (rename σ P), depth_rename σ P);
      unblocking = unblock_depth;
    }

nesting_greatest : (E : Element) (C : Elements) → nesting (E before C) ≡ max (nesting (only E)) (nesting C)
unfolding nesting ◌before◌
nesting_greatest (ambient_element s a A) C = omega arith
nesting_greatest (process_element P) C = omega arith
nesting_greatest (blocked_element α P) C = omega arith

nesting_measure : Measure 1 nesting
nesting_measure =
    record {
      nothing = unfold nesting in refl;
      greatest = nesting_greatest;
      around = λ s a A. omega (arith, nesting_ambient s a A);
      behind = λ s α P. omega (arith, nesting_process P);
      blocking = λ α P. omega (arith, nesting_blocked α P);
      parted = λ P Q. omega (arith, nesting_process P, nesting_process Q);
      restricted = λ P. omega (arith, nesting_process P);
      renamed = λ σ P. omega (arith, nesting_process P, nesting_process (rename σ P));
      unblocking = unblock_nesting;
    }

-- How many ambients are around an element

rise_direct : (k : ℕ) {E : Element} {L : Elements} {p : Position} → Has E p L → k * (spot_of L p).level ≡ 0
rise_direct k h = ap (λ l. k * l) (level_direct h) ∙ mul-zero k

rise_into : (k : ℕ) {L A : Elements} {u : Status} {a : Reference} {p : Position} {E : Element} (π : Position) → Has (ambient_element u a A) p L → element_at A π ≡ some E →
    k * (spot_of L (into p π)).level ≡ k * (spot_of A π).level + k
rise_into k {A = A} π h e = ap (λ l. k * l) (level_into π h e) ∙ mul-suc k (spot_of A π).level

module _ {k : ℕ} {μ : Elements → ℕ} (M : Measure k μ) where
  measure_then : (X C : Elements) → μ (X then C) ≡ max (μ X) (μ C)
  unfolding ◌before◌ ◌then◌
  measure_then empty C = omega (arith, M.nothing)
  measure_then (ambient_then s a A X) C =
      omega (arith, M.greatest (ambient_element s a A) X, M.greatest (ambient_element s a A) (X then C), measure_then X C)
  measure_then (process_then P X) C = omega (arith, M.greatest (process_element P) X, M.greatest (process_element P) (X then C), measure_then X C)
  measure_then (blocked_then α P X) C = omega (arith, M.greatest (blocked_element α P) X, M.greatest (blocked_element α P) (X then C), measure_then X C)

  -- what is taken out of a list and what is put in
  replace_measure : {E : Element} {X L L' : Elements} {p : Position} → Replace E X p L L' → (μ (only E) ≤ μ L) × (μ X ≤ μ L') × (μ L' ≤ max (μ L) (μ X))
  replace_measure {E} {X} (replaced C) = omega (arith, M.greatest E C, measure_then X C)
  replace_measure (kept D {C = C} {C' = C'} r) = omega (arith, M.greatest D C, M.greatest D C', replace_measure r)

  replace_same : {E : Element} {X L L' : Elements} {p : Position} → Replace E X p L L' → μ X ≡ μ (only E) → μ L' ≡ μ L
  replace_same {E} {X} (replaced C) e = omega (arith, M.greatest E C, measure_then X C)
  replace_same (kept D {C = C} {C' = C'} r) e = omega (arith, M.greatest D C, M.greatest D C', replace_same r e)

  replace_both_measure : {E D : Element} {X Y L L' : Elements} {p q : Position} → ReplaceBoth E X D Y p q L L' →
      (μ (only E) ≤ μ L) × (μ (only D) ≤ μ L) × (μ Y ≤ μ L') × (μ L' ≤ max (μ L) (max (μ X) (μ Y)))
  replace_both_measure {E} {X = X} (replaced_left {C = C} {C' = C'} r) = omega (arith, M.greatest E C, measure_then X C', replace_measure r)
  replace_both_measure {D = D} {Y = Y} (replaced_right {C = C} {C' = C'} r) = omega (arith, M.greatest D C, measure_then Y C', replace_measure r)
  replace_both_measure (kept_both H {C = C} {C' = C'} r) = omega (arith, M.greatest H C, M.greatest H C', replace_both_measure r)

  -- one element exchanged, at any depth
  exchanged_measure : {E : Element} {X L L' : Elements} {π : Position} → Exchanged E X π L L' →
      (k * (spot_of L π).level + μ (only E) ≤ μ L) × (k * (spot_of L π).level + μ X ≤ μ L') × (μ L' ≤ max (μ L) (k * (spot_of L π).level + μ X))
  exchanged_measure (directly c r) = omega (arith, ap (λ (F : Element). μ (only F)) c.from, ap μ c.to, rise_direct k (replace_has r), replace_measure r)
  exchanged_measure (rule27 {s = s} {a = a} {A = A} {A' = A'} {π = π} c r) =
      omega (arith, exchanged_measure c, M.around s a A, M.around s a A', rise_into k π (replace_has r) (anywhere_element_at c).3, replace_measure r)

  -- Two actions that meet

  continued : (s : Status) (α : Action) (P : Process) {i : Position} {A A' : Elements} → Replace (standing s α P) (only (process_element P)) i A A' → μ A' ≤ μ A
  continued s α P r = omega (arith, replace_measure r, M.behind s α P)

  received : (σ : Renaming) (s : Status) (α : Action) (P : Process) → μ (only (process_element (rename σ P))) ≤ μ (only (standing s α P))
  received σ s α P = omega (arith, M.renamed σ P, M.behind s α P)

  -- only an ambient that enters another can come deeper
  meets_above : {s t : Status} {n : ℕ} {σ ρ : Position} {L L' : Elements} (w : Meets s t n σ ρ L L') (m : ℕ) → μ L ≤ m →
      (n ≡ 39 → k * (spot_of L σ).level + k + μ (holder w).inside ≤ m) → μ L' ≤ m
  unfolding holder
  meets_above {s} {t} (rules35_36 x ns P Q {u = u} {v = v} {a = a} {b = b} {A = A} {A' = A'} {B = B} {B' = B'} r r' w) m h f =
      omega (
        arith,
        replace_both_measure w,
        continued s (sibling_output b x ns) P r,
        replace_measure r',
        received (receive ns) t (external_input x (length ns)) Q,
        M.around u a A,
        M.around unblocked a A',
        M.around v b B,
        M.around unblocked b B',
      )
  meets_above {s} {t} (rules37_38 x ns P Q {u = u} {a = a} {A = A} {A' = A'} r w) m h f =
      omega (
        arith,
        replace_both_measure w,
        continued s (parent_output x ns) P r,
        received (receive ns) t (internal_input x (length ns)) Q,
        M.around u a A,
        M.around unblocked a A',
      )
  meets_above {s} {t} (rules39_40 x P Q {v = v} {a = a} {b = b} {A' = A'} {B = B} {B' = B'} {i = i} r r' w) m h f =
      omega (
        arith,
        f refl,
        rise_into k i (both_left (replace_both_both w)) (has_element_at (replace_has r)),
        rise_direct k (replace_has r),
        replace_both_measure w,
        continued s (enter b x) P r,
        replace_measure r',
        M.behind t (accept x) Q,
        M.greatest (process_element Q) (only (ambient_element unblocked a (unblock A'))),
        M.nothing,
        M.unblocking A',
        M.around unblocked a (unblock A'),
        M.around v b B,
        M.around unblocked b B',
      )
  meets_above {s} {t} (rules41_42 x P Q {u = u} {v = v} {a = a} {b = b} {A = A} {A' = A'} {B = B} {B' = B'} r w z) m h f =
      omega (
        arith,
        replace_measure z,
        replace_both_measure w,
        continued s (leave x) P r,
        M.behind t (release x) Q,
        M.greatest (ambient_element unblocked b B') (only (ambient_element unblocked a (unblock A'))),
        M.nothing,
        M.unblocking A',
        M.around u a A,
        M.around unblocked a (unblock A'),
        M.around v b B,
        M.around unblocked b B',
      )
  meets_above {n = n} (Meets.rule27 {u = u} {a = a} {A = A} {A' = A'} {σ = σ} w r) m h f =
      let g = replace_measure r in
      let a₁ = M.around u a A in
      let a₂ = M.around u a A' in
      let i = rise_into k σ (replace_has r) (meeting_acts w).4 in
      let low : μ A ≤ m - k = omega arith in
      let deep : n ≡ 39 → k * (spot_of A σ).level + k + μ (holder w).inside ≤ m - k = λ e. omega (arith, f e) in
      omega (arith, meets_above w (m - k) low deep)

-- what enters another ambient is as nested as before
entered_nesting : {s t : Status} {n : ℕ} {σ ρ : Position} {L L' : Elements} (w : Meets s t n σ ρ L L') → n ≡ 39 →
    (spot_of L σ).level + suc (nesting (holder w).inside) ≤ nesting L'
unfolding holder
entered_nesting (rules35_36 x ns P Q r r' w) e = absurd (omega arith)
entered_nesting (rules37_38 x ns P Q r w) e = absurd (omega arith)
entered_nesting {s} (rules39_40 x P Q {a = a} {b = b} {A' = A'} {B' = B'} {i = i} r r' w) e =
    let M = nesting_measure in
    omega (
      arith,
      level_into i (both_left (replace_both_both w)) (has_element_at (replace_has r)),
      level_direct (replace_has r),
      replace_same M r (nesting_process P ∙ sym (nesting_standing s (enter b x) P)),
      unblock_nesting A',
      nesting_ambient unblocked a (unblock A'),
      nesting_greatest (process_element Q) (only (ambient_element unblocked a (unblock A'))),
      replace_measure M r',
      nesting_ambient unblocked b B',
      replace_both_measure M w,
    )
entered_nesting (rules41_42 x P Q r w z) e = absurd (omega arith)
entered_nesting (Meets.rule27 {u = u} {a = a} {A' = A'} {σ = σ} w r) e =
    omega (arith, entered_nesting w e, level_into σ (replace_has r) (meeting_acts w).4, nesting_ambient u a A', replace_measure nesting_measure r)

-- When the result fits

pub fits_one : (nest : ℕ) (L : Elements) (π : Position) (E : Element) (X : Elements) → element_at L π ≡ some E → Fits nest L →
    fits nest (replace_at L π X) ≡ (leb (process_depth X) state_depth_limit and leb ((spot_of L π).level + nesting X) nest)
unfolding fits
fits_one nest L π E X e f =
    let c = exchanged L π E X e in
    let shallow = f.shallow in
    let nested = f.nested in
    let d = exchanged_measure depth_measure c in
    let n = exchanged_measure nesting_measure c in
    ap₂ (λ a b. a and b)
    (leb_same (process_depth (replace_at L π X)) (process_depth X) state_depth_limit (λ h. omega arith) (λ h. omega arith))
    (leb_same (nesting (replace_at L π X)) ((spot_of L π).level + nesting X) nest (λ h. omega arith) (λ h. omega arith))

meets_shallow : {nest : ℕ} {s t : Status} {n : ℕ} {σ ρ : Position} {L L' : Elements} → Meets s t n σ ρ L L' → Fits nest L → process_depth L' ≤ state_depth_limit
meets_shallow {L = L} w f =
    let q = holder w in
    let b = exchanged_measure depth_measure (exchanged L q.position (ambient_element q.status q.called q.inside) empty q.stands) in
    let h = f.shallow in
    meets_above depth_measure w state_depth_limit h (λ e. omega (arith, depth_ambient q.status q.called q.inside))

pub fits_meets : {nest : ℕ} {s t : Status} {n : ℕ} {σ ρ : Position} {L L' : Elements} (w : Meets s t n σ ρ L L') → Fits nest L →
    fits nest L' ≡ pick (eqb n 39) (leb ((spot_of L σ).level + suc (nesting (holder w).inside)) nest) true
unfolding fits
fits_meets {nest = nest} {n = n} {σ = σ} {L = L} {L' = L'} w f = go (eqb n 39) refl
  where
    reached : ℕ
    reached = (spot_of L σ).level + suc (nesting (holder w).inside)

    nested : (n ≡ 39 → reached ≤ nest) → nesting L' ≤ nest
    nested g = meets_above nesting_measure w nest f.nested (λ e. omega (arith, g e))

    shallow : leb (process_depth L') state_depth_limit ≡ true
    shallow = le-leb (process_depth L') state_depth_limit (meets_shallow w f)

    go : (b : Bool) → eqb n 39 ≡ b → leb (process_depth L') state_depth_limit and leb (nesting L') nest ≡ pick (eqb n 39) (leb reached nest) true
    go true e =
        let d = eqb-true n 39 e in
        rw (e, shallow) (leb_same (nesting L') reached nest (λ h. omega (arith, entered_nesting w d)) (λ h. nested (λ c. h)))
    go false e = rw (e, shallow) (le-leb (nesting L') nest (nested (λ c. absurd (eqb-false n 39 e c))))

-- An element that turns

-- What it turns into is neither deeper nor more nested, unless it is a replication or a process that is an ambient.
abbrev pub NoDeeper : Element → Type 0
NoDeeper (ambient_element s a A) = Unit {0}
NoDeeper (process_element null) = Unit {0}
NoDeeper (process_element (parallel P Q)) = Unit {0}
NoDeeper (process_element (restriction P)) = Unit {0}
NoDeeper (process_element (ambient a P)) = ⊥
NoDeeper (process_element (action α P)) = Unit {0}
NoDeeper (process_element (replication α P)) = ⊥
NoDeeper (blocked_element α P) = Unit {0}

module _ {k : ℕ} {μ : Elements → ℕ} (M : Measure k μ) where
  given_measure : (ns : List Reference) (α : Action) (P : Process) → μ (only (process_element (given ns α P))) ≡ μ (only (process_element P))
  unfolding given
  given_measure ns α P = go (eqb (binders α) 0)
    where
      go : (b : Bool) → μ (only (process_element (pick b P (rename (receive ns) P)))) ≡ μ (only (process_element P))
      go true = refl
      go false = M.renamed (receive ns) P

  turned_measure : (b : Bool) (ns : List Reference) (E : Element) → NoDeeper E → μ (turned b ns E) ≤ μ (only E)
  unfolding turned standing
  turned_measure b ns (ambient_element s a A) h = omega (arith, M.around s a A, M.around blocked a A)
  turned_measure b ns (process_element null) h = omega (arith, M.nothing)
  turned_measure b ns (process_element (parallel P Q)) h = omega (arith, M.greatest (process_element P) (only (process_element Q)), M.parted P Q)
  turned_measure b ns (process_element (restriction P)) h = omega (arith, M.renamed (receive ns) P, M.restricted P)
  turned_measure b ns (process_element (ambient a P)) h = absurd h
  turned_measure true ns (process_element (action α P)) h = M.blocking α P
  turned_measure false ns (process_element (action α P)) h = omega (arith, given_measure ns α P, M.behind unblocked α P)
  turned_measure b ns (process_element (replication α P)) h = absurd h
  turned_measure b ns (blocked_element α P) h = omega (arith, given_measure ns α P, M.behind blocked α P)

module _ {nest : ℕ} (L : Elements) (π : Position) (f : Fits nest L) where
  -- what stands at π is within the limits
  within_depth : (E : Element) → element_at L π ≡ some E → process_depth (only E) ≤ state_depth_limit
  within_depth E e = let h = f.shallow in omega (arith, exchanged_measure depth_measure (exchanged L π E empty e))

  pub within_nesting : (E : Element) → element_at L π ≡ some E → (spot_of L π).level + nesting (only E) ≤ nest
  within_nesting E e = let h = f.nested in omega (arith, exchanged_measure nesting_measure (exchanged L π E empty e))

  pub fits_turned : (b : Bool) (ns : List Reference) (E : Element) → element_at L π ≡ some E → NoDeeper E → fits nest (replace_at L π (turned b ns E)) ≡ true
  fits_turned b ns E e h =
      let d : process_depth (turned b ns E) ≤ state_depth_limit = omega (arith, turned_measure depth_measure b ns E h, within_depth E e) in
      let k : (spot_of L π).level + nesting (turned b ns E) ≤ nest = omega (arith, turned_measure nesting_measure b ns E h, within_nesting E e) in
      fits_one nest L π E (turned b ns E) e f ∙ and_right (le-leb (process_depth (turned b ns E)) state_depth_limit d) (le-leb ((spot_of L π).level + nesting (turned b ns E)) nest k)

  pub fits_replication : (b : Bool) (ns : List Reference) (α : Action) (P : Process) → element_at L π ≡ some (process_element (replication α P)) →
      fits nest (replace_at L π (turned b ns (process_element (replication α P)))) ≡ leb (3 + depth P) state_depth_limit
  unfolding turned depth
  fits_replication b ns α P e =
      let E = process_element (replication α P) in
      let Q = action α (parallel P (replication α P)) in
      let d : depth Q ≡ 3 + depth P = omega arith in
      let k : (spot_of L π).level + nesting (only (process_element Q)) ≤ nest =
      omega (arith, within_nesting E e, nesting_process Q, nesting_process (replication α P)) in
      fits_one nest L π E (only (process_element Q)) e f
      ∙ and_left (ap (λ x. leb x state_depth_limit) (depth_process Q ∙ d)) (le-leb ((spot_of L π).level + nesting (only (process_element Q))) nest k)

  pub fits_process_ambient : (b : Bool) (ns : List Reference) (a : Reference) (P : Process) → element_at L π ≡ some (process_element (ambient a P)) →
      fits nest (replace_at L π (turned b ns (process_element (ambient a P)))) ≡ leb (suc (spot_of L π).level) nest
  unfolding turned depth
  fits_process_ambient b ns a P e =
      let E = process_element (ambient a P) in
      let A = only (process_element P) in
      let X = only (ambient_element unblocked a A) in
      let d : process_depth X ≤ state_depth_limit =
      omega (arith, within_depth E e, depth_process (ambient a P), depth_ambient unblocked a A, depth_process P) in
      let k : (spot_of L π).level + nesting X ≡ suc (spot_of L π).level = omega (arith, nesting_ambient unblocked a A, nesting_process P) in
      fits_one nest L π E X e f ∙ and_right (le-leb (process_depth X) state_depth_limit d) (ap (λ x. leb x nest) k)
