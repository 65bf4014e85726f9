-- Demands 2 and 3 in bytes.
use mathlib.Core.Path.{◌≡◌, refl, sym, ap, ◌∙◌, subst}
use mathlib.Core.Logic.{◌⊎◌, inl, inr}
use mathlib.Core.List.{List}
use mathlib.Core.Option.{Option, none, some}
use Prim.Native.Nat.{ℕ, suc, ◌+◌, ◌≤◌}
use native.Mathlib.Omega.{arith}
use lib.ListN.{length, take}
use Rattle.calculus.specs.Reduction.{Irreducible}
use Rattle.machine.specs.Elements.{State, state, decode_state, weight_state}
use Rattle.machine.specs.Rules.{Step}
use Rattle.machine.specs.Causes.{Cause8, Cause9, Cause10}
use Rattle.machine.specs.Theorems.{CanActAt, NoPartner}
use Rattle.machine.specs.Stepping.{Answer, accepted, step}
use Rattle.machine.proofs.Stepping.{accepted_is_step}
use Rattle.machine.proofs.Theorems.{meeting_reduces, others_congruent, steps_stay_valid, weight_falls, weight_left, blocked_irreducible, irreducible_no_partner, irreducible_kept}
use Rattle.format.specs.Reading.{got}
use Rattle.format.specs.Theorems.{Bytes}
use Rattle.elements.specs.Spelling.{encode_state}
use Rattle.machine.specs.Limits.{byte_limit, absent}
use Rattle.states.specs.Reading.{read_state}
use Rattle.buffers.specs.Buffers.{Written, kept, wrote}
use Rattle.states.specs.Theorems.{Admitted}
use Rattle.states.proofs.Theorems.{read_admitted, admitted_reads, state_whole, state_spelling}
use Rattle.machine.specs.Lowest.{partner_of}
use Rattle.calls.specs.Steps.{stepped, step_read, step_bytes}
use Rattle.calls.specs.Causes.{Limited}
use Rattle.calls.specs.Calls.{Call, Observation, Plays, no_call, refused_call, accepted_call}
use Rattle.calls.specs.Theorems.{AcceptedCallIsRule, RuleIsAccepted, RefusedCallByCause, Decoded, AcceptedCallDecodes, AllBlockedIsIrreducible, ListsOfCalls}
use Rattle.elements.proofs.Spellable.{step_counted}
use Rattle.calls.proofs.Causes.{Decided, refused_by, accepted_as, decided, decided_cause, decided_number, at_limit, rule_free, rule_only}
use Rattle.calls.proofs.Calls.{accepted_step, calls_are_plain}

-- Bytes that spell an admitted state

abbrev pub StateBytes : List ℕ → State → Type 0
StateBytes s S = (s ≡ encode_state S) × Admitted S × (length s ≤ byte_limit)

pub read_spells : {s : List ℕ} {S : State} {m : ℕ} → Bytes s → read_state s ≡ got S m → StateBytes s S
read_spells {s} {S} {m} b e = (state_spelling s S b).0 (e ∙ ap (got S) (state_whole s S m e))

-- What a written step says of the tree

-- a step that fits its buffer was accepted on the tree, and its bytes spell the state after it
abbrev WrittenFrom : ℕ → Answer → List ℕ → Type 0
WrittenFrom n a new = (S' : State) × (a ≡ accepted n S') × (new ≡ encode_state S') × (length new ≤ byte_limit)

written_as : {room n p : ℕ} {q : Option ℕ} {S : State} {w : Written ℕ ℕ} {new : List ℕ} → Decided room S p q w → w ≡ wrote n new → WrittenFrom n (step S p q) new
written_as (refused_by c f) e = absurd (let z : ◌≡◌ {A = ℕ} 0 1 = cc in omega arith)
written_as {n = n} {new = new} (accepted_as {n = k} {S'} h w f) e =
    let l : encode_state S' ≡ new = cc in
    let r : k ≡ n = cc in
    (S', h ∙ ap (λ j. accepted j S') r, sym l, rw (← l) w)

pub read_step : (bytes : List ℕ) (S : State) (m p q room : ℕ) → read_state bytes ≡ got S m → step_bytes bytes p q room ≡ stepped room (step S p (partner_of q))
unfolding step_bytes step_read
read_step bytes S m p q room e = rw e

decided_bytes : (bytes : List ℕ) (S : State) (m p q room : ℕ) → read_state bytes ≡ got S m → Decided room S p (partner_of q) (step_bytes bytes p q room)
decided_bytes bytes S m p q room e = rw (read_step bytes S m p q room e) (decided room S p (partner_of q))

written : (bytes : List ℕ) (S : State) (m p q room n : ℕ) (new : List ℕ) → read_state bytes ≡ got S m → step_bytes bytes p q room ≡ wrote n new →
    WrittenFrom n (step S p (partner_of q)) new
written bytes S m p q room n new e f = written_as (decided_bytes bytes S m p q room e) f

-- an accepted step of an admitted state reads back
pub step_admitted : (S : State) (p : ℕ) (q : Option ℕ) (n : ℕ) (S' : State) → Admitted S → step S p q ≡ accepted n S' → Admitted S'
step_admitted S p q n S' a e =
    let v = steps_stay_valid S p q n S' a.valid a.well_formed e in
    record { valid = v.0; well_formed = v.1; counted = step_counted ((accepted_is_step S p q n S').0 e).0 a.counted }

reads_new : (S : State) (p : ℕ) (q : Option ℕ) (n : ℕ) (S' : State) (new : List ℕ) → Admitted S → step S p q ≡ accepted n S' → new ≡ encode_state S' → length new ≤ byte_limit →
    read_state new ≡ got S' (length new)
reads_new S p q n S' new a e l w = rw l (admitted_reads S' (step_admitted S p q n S' a e) (rw l at w))

-- Demand 2

pub accepted_call_is_rule : AcceptedCallIsRule
accepted_call_is_rule bytes S m p q room n new e f =
    let t = written bytes S m p q room n new e f in
    (t.0, ((accepted_is_step S p (partner_of q) n t.0).0 t.1).0, reads_new S p (partner_of q) n t.0 new (read_admitted bytes S m e) t.1 t.2 t.3)

pub rule_is_accepted : RuleIsAccepted
rule_is_accepted bytes S m p q room n S' e s = go (step_bytes bytes p q room) refl (decided_bytes bytes S m p q room e)
  where
    go : (w : Written ℕ ℕ) → step_bytes bytes p q room ≡ w → Decided room S p (partner_of q) w →
        ((new : List ℕ) × (step_bytes bytes p q room ≡ wrote n new) × (read_state new ≡ got S' (length new)))
        ⊎ ((k : ℕ) × (step_bytes bytes p q room ≡ kept k) × Limited room S p (partner_of q) k)
    go w f (refused_by {k} c h) = inr (k, f, at_limit (rule_free s) c)
    go w f (accepted_as {n = k} {S' = T} h l i) =
        let same = rule_only s h in
        inl (
          encode_state T,
          f ∙ ap (λ j. wrote j (encode_state T)) same.0,
          reads_new S p (partner_of q) n S' (encode_state T) (read_admitted bytes S m e) (h ∙ ap (λ j. accepted j T) same.0 ∙ ap (accepted n) same.1) (ap encode_state same.1) l,
        )

pub refused_call_by_cause : RefusedCallByCause
refused_call_by_cause bytes S m p q room k e =
    let d = decided_bytes bytes S m p q room e in
    (decided_cause d, λ c. decided_number d c.0 c.1)

pub got_state : {S T : State} {m n : ℕ} → got S m ≡ got T n → S ≡ T
got_state e = cc

step_decodes : (S S' : State) (p n : ℕ) (q : Option ℕ) → Admitted S → Step S p q n S' → Decoded q S S'
unfolding Decoded
step_decodes S S' p n none a s = others_congruent S p n S' a.valid s
step_decodes S S' p n (some q) a s = meeting_reduces S p q n S' s

pub accepted_call_decodes : AcceptedCallDecodes
accepted_call_decodes bytes S m p q room n new S' e f g =
    let t = accepted_call_is_rule bytes S m p q room n new e f in
    subst (Decoded (partner_of q) S) (got_state (sym t.2 ∙ g)) (step_decodes S t.0 p n (partner_of q) (read_admitted bytes S m e) t.1)

-- Demand 3

pub all_blocked_is_irreducible : AllBlockedIsIrreducible
all_blocked_is_irreducible bytes S m e w = let a = read_admitted bytes S m e in blocked_irreducible S a.valid a.well_formed w

-- the state reached from an irreducible one
record Reached (S : State) (t : List ℕ) (n : ℕ) : Type 0 where
  pub state : State
  pub accepted : read_state t ≡ got state (length t)
  pub irreducible : Irreducible (decode_state state)
  pub law : n + weight_state state ≡ weight_state S

-- an accepted call from an irreducible state had no partner: the weight falls by 1
pub irreducible_step : (S S' : State) (p n : ℕ) (q : Option ℕ) → Admitted S → Irreducible (decode_state S) → step S p q ≡ accepted n S' →
    (weight_state S ≡ suc (weight_state S')) × Irreducible (decode_state S')
unfolding Irreducible
irreducible_step S S' p n none a i e =
    (weight_falls S p n S' a.valid ((accepted_is_step S p none n S').0 e).0, irreducible_kept S p none n S' a.valid i e)
irreducible_step S S' p n (some q) a i e = absurd (i (decode_state S') (meeting_reduces S p q n S' ((accepted_is_step S p (some q) n S').0 e).0))

plays_reach : {s t : List ℕ} {cs : List Call} {os : List Observation} {n : ℕ} → Plays s cs os t n → (S : State) (m : ℕ) → read_state s ≡ got S m → Irreducible (decode_state S) → Reached S t n
plays_reach {s} no_call S m e i = record { state = S; accepted = e ∙ ap (got S) (state_whole s S m e); irreducible = i; law = omega arith }
plays_reach (refused_call c r) S m e i = plays_reach r S m e i
plays_reach {s} (accepted_call {out = out} {after = after} {p = p} {q = q} {rule = rule} {len = len} c r) S m e i =
    let w = written s S m p q (length out) rule (take len after) e (accepted_step c) in
    let a = read_admitted s S m e in
    let f = irreducible_step S w.0 p rule (partner_of q) a i w.1 in
    let h = plays_reach r w.0 (length (take len after)) (reads_new S p (partner_of q) rule w.0 (take len after) a w.1 w.2 w.3) f.1 in
    record { state = h.state; accepted = h.accepted; irreducible = h.irreducible; law = omega (arith, h.law, f.0) }

no_partner : partner_of absent ≡ none
unfolding partner_of
no_partner = refl

-- an irreducible state: a place that can act, chosen without a partner
irreducible_free : (S : State) (p : ℕ) → Irreducible (decode_state S) → CanActAt S p → ¬ Cause8 S p none × ¬ Cause9 S p none × ¬ Cause10 S p none
unfolding Cause8 Cause9 Cause10 CanActAt NoPartner
irreducible_free (state F N L) p i c = ((λ f. f c), (λ f. f), λ f. irreducible_no_partner (state F N L) i p f.0 f.1)

reached_goes_on : (t : List ℕ) (T : State) (m p room : ℕ) → read_state t ≡ got T m → Irreducible (decode_state T) → CanActAt T p →
    ((rule : ℕ) × (new : List ℕ) × (step_bytes t p absent room ≡ wrote rule new)) ⊎ ((k : ℕ) × (step_bytes t p absent room ≡ kept k) × Limited room T p none k)
reached_goes_on t T m p room e i c = go (step_bytes t p absent room) refl (rw no_partner at (decided_bytes t T m p absent room e))
  where
    go : (w : Written ℕ ℕ) → step_bytes t p absent room ≡ w → Decided room T p none w →
        ((rule : ℕ) × (new : List ℕ) × (step_bytes t p absent room ≡ wrote rule new)) ⊎ ((k : ℕ) × (step_bytes t p absent room ≡ kept k) × Limited room T p none k)
    go w f (refused_by {k} d h) = inr (k, f, at_limit (irreducible_free T p i c) d)
    go w f (accepted_as {n} {S'} h l g) = inl (n, encode_state S', f)

pub lists_of_calls : ListsOfCalls
lists_of_calls s S m e i cs os t n r =
    let h = plays_reach r S m e i in
    let w = calls_are_plain s cs os t n r in
    let a = read_admitted t h.state (length t) h.accepted in
    let l : n + weight_state h.state ≡ weight_state S = h.law in
    record {
      observations = w.0;
      machine = w.1;
      reached = h.state;
      accepted = h.accepted;
      law = l;
      most = omega arith;
      blocked = ((λ z. omega arith), (λ z. omega arith));
      able = λ z. weight_left h.state a.valid z;
      going_on = λ p room c. reached_goes_on t h.state (length t) p room h.accepted h.irreducible c;
    }
