-- One turn on the bytes of an admitted state: what the choice and the move may ask of them, and what the answer and the buffer are after it.
use mathlib.Core.Path.{◌≡◌, refl, sym, ap, ◌∙◌, subst}
use mathlib.Core.Bool.{Bool, true, false}
use mathlib.Core.List.{List}
use mathlib.Core.Option.{Option, none, some}
use Prim.Native.Nat.{ℕ, suc, ◌-◌, ◌≤◌}
use native.Mathlib.Omega.{arith}
use borrow.Author.Tests.{eqb-true, eqb-false}
use lib.ListN.{length}
use lib.Dec.{eqb}
use Rattle.machine.specs.Limits.{byte_limit, nesting_limit}
use Rattle.machine.specs.Elements.{Elements, State, state}
use Rattle.machine.specs.Stepping.{Answer, refused, step}
use Rattle.format.specs.Reading.{word_at}
use Rattle.elements.specs.Spelling.{encode_state}
use Rattle.elements.proofs.States.{state_names}
use Rattle.buffers.specs.Buffers.{Written, kept, wrote, buffer_after, fitting, Answered}
use Rattle.buffers.proofs.Answers.{answered_kept, answered_as}
use Rattle.buffers.proofs.Parts.{from}
use Rattle.planning.specs.declared.Move.{Move}
use Rattle.std.specs.Prelude.{Option as CodeOption, Some, None, Result, Ok, Err}
use Rattle.refusals.specs.declared.Refusal.{Refusal}
use Rattle.refusals.specs.Refusals.{number, refusal as refusal_of}
use Rattle.refusals.proofs.Theorems.{each_has_its_number}
use Rattle.selecting.specs.declared.Next.{Next}
use Rattle.places.specs.Offsets.{coded}
use Rattle.calls.specs.Steps.{stepped}
use Rattle.calls.specs.Calls.{Reply, refusal, acceptance, reply_of}
use Rattle.calls.proofs.Theorems.{StateBytes}
use Rattle.planning.specs.Choices.{Admitting, Drawn, Taken, ChoiceOf, Chooses}
use Rattle.selecting.specs.Selecting.{LowestOf}
use Rattle.machine.specs.Lowest.{partner_number, partner_of, place_in, partner_in, number_in}
use Rattle.machine.specs.Questions.{told_of}
use Rattle.renewing.specs.Renewing.{SpellsState}
use Rattle.performing.specs.declared.Step.{Step}
use Rattle.performing.specs.Performing.{reply_in, Performing}
use Rattle.renewing.proofs.Renewing.{state_parts}
use Rattle.performing.proofs.Moves.{state_spells, admitting, choosing, performing, performed}
use Rattle.advancing.specs.declared.Ending.{Ending}
use Rattle.advancing.specs.declared.Ending.TheVariants.{Blocked, Spent, Limit}
use Rattle.advancing.specs.declared.Turn.{Turn}
use Rattle.runs.proofs.Places.{partner_meant}
use Rattle.runs.specs.Runs.{blocked, spent, limit}
use Rattle.runs.specs.Turns.{moved_at, turn_at, turn}
use Rattle.advancing.specs.Answers.{left_of, ending_of, turn_answer, Present}

-- What the bytes of an admitted state hold

module _ {s : List ℕ} {F N : ℕ} {L : Elements} (p : Present s (state F N L)) where
  present_bytes : StateBytes s (state F N L)
  present_bytes = (p.spelled, p.admitted, p.short)

  present_names : word_at s 5 ≡ N
  present_names = ap (λ (l : List ℕ). word_at l 5) p.spelled ∙ state_names F N L

pub present_long : {s : List ℕ} (S : State) → Present s S → 7 ≤ length s
present_long (state F N L) p = omega (arith, (state_parts (state_spells (present_bytes p))).long)

-- The choice

pub present_chooses : {s : List ℕ} (S : State) {names : ℕ} → Present s S → names ≡ word_at s 5 → Chooses nesting_limit (from s 7) names
present_chooses (state F N L) p e = rw (e ∙ present_names p) (choosing (present_bytes p))

-- what was chosen in the root list
abbrev Chosen : List ℕ → ℕ → (once : Bool) → CodeOption Next → Type 0
Chosen s names once r = (F : ℕ) (L : Elements) → Admitting nesting_limit (from s 7) F names L → LowestOf nesting_limit F names L once r

turn_steps : (room : ℕ) (S : State) (b : Bool) (p : ℕ) → b ≡ false → place_in S ≡ some p →
    turn room (left_of b) S ≡ moved_at p (partner_number (partner_in S p)) (number_in S p) (stepped room (step S p (partner_in S p)))
unfolding turn turn_at left_of
turn_steps room S b p z e = rw (z, e)

-- Each end of a turn

module _ {s : List ℕ} {names : ℕ} (once : Bool) (e : names ≡ word_at s 5) where
  chosen_as : {x x' : CodeOption Next} {F N : ℕ} {L : Elements} → x ≡ x' → Present s (state F N L) → Chosen s names once x → LowestOf nesting_limit F N L once x'
  chosen_as {F = F} {N} {L} u p c = subst (LowestOf nesting_limit F N L once) u ((rw (e ∙ present_names p) at c) F L (admitting (present_bytes p)))

  module _ (out : List ℕ) where
    pub turned_blocked : (left : ℕ) {x : CodeOption Next} → x ≡ None → Chosen s names once x → (S : State) → Present s S → Answered (turn_answer once) (turn (length out) left S) out (Err Blocked) out
    unfolding LowestOf turn_answer ending_of turn turn_at
    turned_blocked left u c (state F N L) h = answered_kept (turn_answer once) blocked out (rw (chosen_as u h c))

    pub turned_spent : {b : Bool} {x : CodeOption Next} {n : Next} → b ≡ true → x ≡ Some n → Chosen s names once x → (S : State) → Present s S → Answered (turn_answer once) (turn (length out) (left_of b) S) out (Err Spent) out
    unfolding LowestOf turn_answer ending_of turn turn_at left_of
    turned_spent z u c (state F N L) h = answered_kept (turn_answer once) spent out (rw (z, (chosen_as u h c).0))

    pub turned_limit : {b : Bool} {x : CodeOption Next} {n : Next} {y : Refusal} → b ≡ false → x ≡ Some n → n.choice ≡ Err y → Chosen s names once x → (S : State) → Present s S
        → Answered (turn_answer once) (turn (length out) (left_of b) S) out (Err (Limit y)) out
    unfolding LowestOf ChoiceOf turn_answer ending_of moved_at stepped
    turned_limit {b} {n = n} {y} z u v c (state F N L) h =
        let t = chosen_as u h c in
        let q = partner_in (state F N L) n.place in
        let k : step (state F N L) n.place q ≡ refused (number y) = rw v at t.3 in
        subst (λ (x : Refusal). Answered (turn_answer once) (turn (length out) (left_of b) (state F N L)) out (Err (Limit x)) out) (each_has_its_number.own y)
        (answered_kept (turn_answer once) (limit (number y)) out
        (turn_steps (length out) (state F N L) b n.place z t.0 ∙ ap (λ (a : Answer). moved_at n.place (partner_number q) (number_in (state F N L) n.place) (stepped (length out) a)) k))

-- The move

-- the answer to a reply, and to what was performed
unfoldable pub replied : Next → Reply → Result Turn (Ending Refusal)
replied n (refusal k) = Err (Limit (refusal_of k))
replied n (acceptance rule m) = Ok (record { place = n.place; other = n.other; rule = rule; partners = n.partners; length = m })

abbrev pub performed_by : Next → Result Step Refusal → Result Turn (Ending Refusal)
performed_by n (Err x) = Err (Limit x)
performed_by n (Ok s) = Ok (record { place = n.place; other = n.other; rule = s.rule; partners = n.partners; length = s.length })

replied_in : (n : Next) (r : Result Step Refusal) → replied n (reply_in r) ≡ performed_by n r
unfolding replied reply_in
replied_in n (Err x) = ap (λ (y : Refusal). Err (Limit y)) (each_has_its_number.own x)
replied_in n (Ok s) = refl

replied_stepped : (once : Bool) (n : Next) (q k : ℕ) → n.other ≡ coded (partner_of q) → n.partners ≡ told_of once k → (w : Written ℕ ℕ) {out last : List ℕ} {r : Reply} → Answered reply_of w out r last →
    Answered (turn_answer once) (moved_at n.place q k w) out (replied n r) last
unfolding replied reply_of turn_answer moved_at ending_of buffer_after
replied_stepped once n q k e f (kept j) h = record { answers = ap (replied n) h.answers; leaves = h.leaves }
replied_stepped once n q k e f (wrote rule new) h =
    let made : CodeOption ℕ → ℕ → Result Turn (Ending Refusal) = λ o m. Ok (record { place = n.place; other = o; rule = rule; partners = m; length = length new }) in
    record { answers = ap (replied n) h.answers ∙ (λ i. made (e i) (f i)); leaves = h.leaves }

module _ {s : List ℕ} {names : ℕ} (once : Bool) (e : names ≡ word_at s 5) {x : CodeOption Next} {n : Next} {m : Move} (u : x ≡ Some n) (v : n.choice ≡ Ok m) (c : Chosen s names once x) where
  taken_in : {F N : ℕ} {L : Elements} → Present s (state F N L) →
      (place_in (state F N L) ≡ some n.place) × (n.other ≡ coded (partner_in (state F N L) n.place)) × (n.partners ≡ told_of once (number_in (state F N L) n.place))
      × Taken nesting_limit F N L n.place (partner_in (state F N L) n.place) m
  unfolding LowestOf ChoiceOf
  taken_in h = let t = chosen_as once e u h c in (t.0, t.1, t.2, rw v at t.3)

  pub present_performs : (S : State) → Present s S → Performing s m
  present_performs (state F N L) h = performing (present_bytes h) (taken_in h).3

  pub turned_performed : (out : List ℕ) (r : Result Step Refusal) {last : List ℕ} → ((F N : ℕ) (L L' : Elements) → SpellsState s F N L → Drawn F N L m L'
      → Answered reply_of (fitting byte_limit (length out) m.rule (encode_state (state F m.names L'))) out (reply_in r) last)
      → {b : Bool} → b ≡ false → (S : State) → Present s S → Answered (turn_answer once) (turn (length out) (left_of b) S) out (performed_by n r) last
  turned_performed out r {last} f {b} z (state F N L) h =
      let t = taken_in h in
      let o : partner_of (partner_number (partner_in (state F N L) n.place)) ≡ partner_in (state F N L) n.place = partner_meant (state F N L) n.place (rw (← h.spelled) h.short) in
      answered_as (turn_answer once) (turn_steps (length out) (state F N L) b n.place z t.0)
      (subst (λ (a : Result Turn (Ending Refusal)). Answered (turn_answer once) (moved_at n.place (partner_number (partner_in (state F N L) n.place)) (number_in (state F N L) n.place) (stepped (length out) (step (state F N L) n.place (partner_in (state F N L) n.place)))) out a last)
      (replied_in n r) (replied_stepped once n _ _ (t.1 ∙ ap coded (sym o)) t.2 _ (performed (present_bytes h) t.3 f)))

-- The budget

-- a turn depends on no more of the budget than whether it is spent
same_turn : (room n : ℕ) (o : Option ℕ) (S : State) → turn_at room 1 o S ≡ turn_at room (suc n) o S
unfolding turn_at
same_turn room n none S = refl
same_turn room n (some p) S = refl

turn_left : (room count budget : ℕ) (S : State) → count ≤ budget → turn room (left_of (eqb count budget)) S ≡ turn room (budget - count) S
unfolding turn left_of
turn_left room count budget S h = go (eqb count budget) refl
  where
    go : (b : Bool) → eqb count budget ≡ b → turn room (left_of b) S ≡ turn room (budget - count) S
    go true q = let e : budget - count ≡ 0 = omega (arith, eqb-true count budget q) in rw e
    go false q = let e : budget - count ≡ suc (budget - count - 1) = omega (arith, eqb-false count budget q) in rw e (same_turn room (budget - count - 1) (place_in S) S)

pub turned_left : (once : Bool) {count budget : ℕ} → count ≤ budget → (S : State) {out last : List ℕ} {x : Result Turn (Ending Refusal)} → Answered (turn_answer once) (turn (length out) (left_of (eqb count budget)) S) out x last →
    Answered (turn_answer once) (turn (length out) (budget - count) S) out x last
turned_left once {count} {budget} b S {out} h = answered_as (turn_answer once) (sym (turn_left (length out) count budget S b)) h
