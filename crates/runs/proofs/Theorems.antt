-- The proofs of the statements in specs/Theorems.antt.
use mathlib.Core.Path.{◌≡◌, refl, sym, ap, ◌∙◌, subst}
use mathlib.Core.Logic.{◌≢◌}
use mathlib.Core.List.{List}
use mathlib.Core.Option.{Option, none, some}
use Prim.Native.Nat.{ℕ, zero, suc, ◌+◌, ◌≤◌, ◌<◌}
use native.Mathlib.Omega.{arith}
use lib.ListN.{length}
use Rattle.calculus.specs.Reduction.{Irreducible}
use Rattle.machine.specs.Limits.{byte_limit, nesting_limit}
use Rattle.machine.specs.Elements.{State, state, decode_state, weight_state}
use Rattle.machine.specs.Lowest.{partner_number, place_in, partner_in, number_in}
use Rattle.machine.specs.Stepping.{step}
use Rattle.machine.specs.Validity.{Valid}
use Rattle.machine.proofs.Theorems.{weight_zero}
use Rattle.format.specs.Reading.{got}
use Rattle.elements.specs.Spelling.{encode_state}
use Rattle.buffers.specs.Buffers.{Written, kept, wrote}
use Rattle.states.specs.Reading.{read_state}
use Rattle.states.specs.Theorems.{Admitted}
use Rattle.states.proofs.Whole.{state_whole_law, accepted_parsed}
use Rattle.states.proofs.Theorems.{read_admitted, admitted_reads}
use Rattle.calls.specs.Steps.{stepped, step_bytes}
use Rattle.calls.specs.Causes.{Limited}
use Rattle.calls.proofs.Causes.{at_limit}
use Rattle.calls.proofs.Theorems.{read_spells, got_state, refused_call_by_cause}
use Rattle.runs.specs.Runs.{Ending, blocked, spent, limit}
use Rattle.runs.specs.Turns.{moves, moved_at, turn_at, turn}
use Rattle.runs.specs.Theorems.{RunByTurns, MovesLowest, RunIsPlay, SpentIsBudget, WithinBudget, BlockedIsWeightless, LimitIsNextStep, IrreducibleRun}
use Rattle.runs.proofs.Courses.{finished, turns_admitted, turns_short, turns_weight}
use Rattle.runs.proofs.Places.{none_weightless, chosen_acts, chosen_free, partner_meant}
use Rattle.runs.proofs.Playing.{chosen_step, Played, turns_played}
use Rattle.runs.proofs.Turning.{Able, EndsAt, turned, halts, follows}

-- The turns

pub run_by_turns : RunByTurns
run_by_turns room budget S =
    (λ e u. halts (turned room budget S) u, λ p q rule k new u. let h = follows (turned room budget S) u in (h.less, h.after, h.bytes, h.runs))

moved_wrote : (p' q' k' : ℕ) (w : Written ℕ ℕ) {p q rule k : ℕ} {new : List ℕ} → moved_at p' q' k' w ≡ wrote (moves p q rule k) new → (p' ≡ p) × (q' ≡ q) × (k' ≡ k) × (w ≡ wrote rule new)
unfolding moved_at
moved_wrote p' q' k' (kept j) e = absurd (let z : ◌≡◌ {A = ℕ} 0 1 = cc in omega arith)
moved_wrote p' q' k' (wrote rule' new') e = (cc, cc, cc, cc)

moves_lowest_law : (room budget : ℕ) (S : State) (o : Option ℕ) {p q rule k : ℕ} {new : List ℕ} → turn_at room budget o S ≡ wrote (moves p q rule k) new →
    (o ≡ some p) × (q ≡ partner_number (partner_in S p)) × (k ≡ number_in S p) × (stepped room (step S p (partner_in S p)) ≡ wrote rule new)
unfolding turn_at
moves_lowest_law room budget S none e = absurd (let z : ◌≡◌ {A = ℕ} 0 1 = cc in omega arith)
moves_lowest_law room zero S (some p') e = absurd (let z : ◌≡◌ {A = ℕ} 0 1 = cc in omega arith)
moves_lowest_law room (suc b) S (some p') {p} {q} {rule} {k} {new} e =
    let m = moved_wrote p' _ _ (stepped room (step S p' (partner_in S p'))) e in
    subst (λ x. (some p' ≡ some x) × (q ≡ partner_number (partner_in S x)) × (k ≡ number_in S x) × (stepped room (step S x (partner_in S x)) ≡ wrote rule new)) m.0 (refl, sym m.1, sym m.2, m.3)

pub moves_lowest : MovesLowest
unfolding turn
moves_lowest room budget S p q rule k new e = moves_lowest_law room budget S (place_in S) e

-- The budget

spent_budget : (room budget n : ℕ) (T : State) → EndsAt room spent budget n T → n ≡ budget
unfolding EndsAt
spent_budget room budget n T h = h.0

pub spent_is_budget : SpentIsBudget
spent_is_budget s t budget room n f = let r = finished s t budget room n spent f in spent_budget room budget n r.reached r.course.ends

pub within_budget : WithinBudget
within_budget s t budget room n e f = (finished s t budget room n e f).course.within

-- Where a run ends

able_heavy : (T : State) → Valid T → Able T → weight_state T ≢ 0
able_heavy T v a w = (weight_zero T v).0 w a.0 (chosen_acts T a.0 v a.1)

ends_weight : (room : ℕ) (e : Ending) (budget n : ℕ) (T : State) → Valid T → EndsAt room e budget n T → (e ≡ blocked → weight_state T ≡ 0) × (weight_state T ≡ 0 → e ≡ blocked)
unfolding EndsAt
ends_weight room blocked budget n T v h = (λ q. none_weightless T v h, λ w. refl)
ends_weight room spent budget n T v h = (λ q. absurd (let z : ◌≡◌ {A = ℕ} 0 1 = cc in omega arith), λ w. absurd (able_heavy T v h.1 w))
ends_weight room (limit k) budget n T v h = (λ q. absurd (let z : ◌≡◌ {A = ℕ} 0 1 = cc in omega arith), λ w. absurd (able_heavy T v h.1 w))

read_within_law : (bytes : List ℕ) (S : State) (m : ℕ) → read_state bytes ≡ got S m → length bytes ≤ byte_limit
read_within_law bytes (state F N L) m e = (state_whole_law nesting_limit bytes (state F N L) m ((accepted_parsed bytes F N L m).0 e).0).within

-- bytes that spell an admitted state are read as no other
read_same : (t : List ℕ) (T T' : State) (m : ℕ) → read_state t ≡ got T m → t ≡ encode_state T' → Admitted T' → T' ≡ T
read_same t T T' m e b a =
    let w : length (encode_state T') ≤ byte_limit = rw b at (read_within_law t T m e) in
    got_state (sym (admitted_reads T' a w) ∙ ap read_state (sym b) ∙ e)

pub blocked_is_weightless : BlockedIsWeightless
blocked_is_weightless s t T budget room n e f g =
    let r = finished s t budget room n e f in
    let a = turns_admitted r.course.turns (read_admitted s r.start r.size r.read) in
    let h = read_same t T r.reached (length t) g r.bytes a in
    subst (λ X. (e ≡ blocked → weight_state X ≡ 0) × (weight_state X ≡ 0 → e ≡ blocked)) h (ends_weight room e budget n r.reached a.valid r.course.ends)

pub limit_is_next_step : LimitIsNextStep
unfolding EndsAt
limit_is_next_step s t budget room n k b f =
    let r = finished s t budget room n (limit k) f in
    let h = read_spells b r.read in
    let T = r.reached in
    let a = turns_admitted r.course.turns h.1 in
    let l = turns_short r.course.turns (rw h.0 at h.2) in
    let ends = r.course.ends in
    let p = ends.1.0 in
    let q = partner_number (partner_in T p) in
    let e = chosen_step T p room a l ∙ ends.2 in
    let c = ((refused_call_by_cause (encode_state T) T (length (encode_state T)) p q room k (admitted_reads T a l)).0 e).0 in
    subst (λ x. (U : State) × (i : ℕ) × (n < budget) × (read_state x ≡ got U (length x)) × (place_in U ≡ some i) × (step_bytes x i (partner_number (partner_in U i)) room ≡ kept k) × Limited room U i (partner_in U i) k)
    (sym r.bytes)
    (T, p, ends.0, admitted_reads T a l, ends.1.1, e, at_limit (chosen_free T p a.valid ends.1.1) (rw (partner_meant T p l) at c))

-- Irreducible states

weighed_out : (room : ℕ) (e : Ending) (budget n : ℕ) (S T : State) → Valid T → EndsAt room e budget n T → n + weight_state T ≡ weight_state S → weight_state S ≤ budget → ((k : ℕ) → e ≢ limit k) →
    (e ≡ blocked) × (n ≡ weight_state S)
unfolding EndsAt
weighed_out room blocked budget n S T v h l u f = (refl, omega (arith, none_weightless T v h))
weighed_out room spent budget n S T v h l u f = absurd (able_heavy T v h.1 (omega (arith, h.0)))
weighed_out room (limit k) budget n S T v h l u f = absurd (f k refl)

pub irreducible_run : IrreducibleRun
irreducible_run s t S m budget room n e q i u f g =
    let r = finished s t budget room n e f in
    let same : r.start ≡ S = got_state (sym r.read ∙ q) in
    let a = read_admitted s r.start r.size r.read in
    let l = turns_weight r.course.turns a (subst (λ X. Irreducible (decode_state X)) (sym same) i) in
    weighed_out room e budget n S r.reached (turns_admitted r.course.turns a).valid r.course.ends (l ∙ ap weight_state same) u g

-- A run is a list of calls

pub run_is_play : RunIsPlay
run_is_play s out budget n e t b f =
    let r = finished s t budget (length out) n e f in
    let h = read_spells b r.read in
    let p = turns_played out r.course.turns h.1 (rw h.0 at h.2) in
    subst (λ y. Played (length out) s y n) (sym r.bytes) (subst (λ y. Played (length out) y (encode_state r.reached) n) (sym h.0) p)
