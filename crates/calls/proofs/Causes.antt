-- The answer of a step in bytes, with its cause: the first that holds decides.
use mathlib.Core.Path.{◌≡◌, refl, sym, ap, ◌∙◌, subst}
use mathlib.Core.Logic.{◌⊎◌, inl, inr, ⊎_elim, ⊎_map}
use mathlib.Core.List.{List}
use mathlib.Core.Option.{Option}
use Prim.Native.Nat.{ℕ, ◌≤◌, ◌<◌}
use native.Mathlib.Decide.{dec_le}
use native.Mathlib.Omega.{arith}
use lib.ListN.{length}
use Rattle.machine.specs.Limits.{byte_limit, nesting_limit}
use Rattle.machine.specs.Elements.{State, state}
use Rattle.machine.specs.Rules.{Step}
use Rattle.machine.specs.Causes.{Cause8, Cause9, Cause10, Cause11, Cause12, FitsState}
use Rattle.machine.specs.Stepping.{Answer, refused as refused_step, accepted, step}
use Rattle.machine.proofs.Stepping.{Judged, by8, by9, by10, by11, by12, by_step, judge, accepted_is_step, refusals_caused, step_is_accepted}
use Rattle.elements.specs.Spelling.{encode_state}
use Rattle.buffers.specs.Buffers.{Written, kept, wrote, fitting}
use Rattle.buffers.proofs.Answers.{Fits, fitting_cases, fitting_is}
use Rattle.calls.specs.Steps.{stepped}
use Rattle.calls.specs.Causes.{Cause13, Cause, cause8, cause9, cause10, cause11, cause12, cause13, Limited}

-- Longer than the limit of bytes, or than the buffer.
abbrev Long : (room : ℕ) → List ℕ → Type 0
Long room new = (byte_limit < length new) ⊎ (room < length new)

fitting_long : (room n : ℕ) (new : List ℕ) → fitting byte_limit room n new ≡ kept 13 → Long room new
fitting_long room n new e = go (dec_le (length new) byte_limit) (dec_le (length new) room)
  where
    go : Dec (length new ≤ byte_limit) → Dec (length new ≤ room) → Long room new
    go (no h) d = inl (omega arith)
    go (yes h) (no i) = inr (omega arith)
    go (yes h) (yes i) = absurd (let f = sym (fitting_is byte_limit room n new h i) ∙ e in let z : ◌≡◌ {A = ℕ} 0 1 = cc in omega arith)

module _ (room : ℕ) (S : State) (p : ℕ) (q : Option ℕ) where
  -- No cause of a lower number holds.
  abbrev pub NoEarlier : ℕ → Type 0
  NoEarlier k = (j : ℕ) → j < k → ¬ Cause room S p q j

  no_earlier : {k : ℕ} → (8 < k → ¬ Cause8 S p q) → (9 < k → ¬ Cause9 S p q) → (10 < k → ¬ Cause10 S p q) → (11 < k → ¬ Cause11 S p q) → (12 < k → ¬ Cause12 S p q) →
      (13 < k → ¬ Cause13 room S p q) → NoEarlier k
  no_earlier no8 no9 no10 no11 no12 no13 j l (cause8 c) = no8 l c
  no_earlier no8 no9 no10 no11 no12 no13 j l (cause9 c) = no9 l c
  no_earlier no8 no9 no10 no11 no12 no13 j l (cause10 c) = no10 l c
  no_earlier no8 no9 no10 no11 no12 no13 j l (cause11 c) = no11 l c
  no_earlier no8 no9 no10 no11 no12 no13 j l (cause12 c) = no12 l c
  no_earlier no8 no9 no10 no11 no12 no13 j l (cause13 c) = no13 l c

  -- What a step comes to: refused with the first cause that holds, or accepted where none does.
  pub data Decided : Written ℕ ℕ → Type 0 where
    refused_by : {k : ℕ} → Cause room S p q k → NoEarlier k → Decided (kept k)
    accepted_as : {n : ℕ} {S' : State} → step S p q ≡ accepted n S' → length (encode_state S') ≤ byte_limit → NoEarlier 14 → Decided (wrote n (encode_state S'))

  -- where a step is accepted, neither 12 nor 13 has a cause: its result is the only one
  accepted_fits : {n : ℕ} {S' : State} → step S p q ≡ accepted n S' → ¬ Cause8 S p q → ¬ Cause9 S p q → ¬ Cause10 S p q → ¬ Cause11 S p q → ¬ Cause12 S p q
  accepted_fits e no8 no9 no10 no11 c =
      let f = (refusals_caused S p q).refused12.1 (no8, no9, no10, no11, c) in absurd (let z : ◌≡◌ {A = ℕ} 0 1 = cc in omega arith)

  accepted_short : {n : ℕ} {S' : State} → step S p q ≡ accepted n S' → ¬ Cause11 S p q → length (encode_state S') ≤ byte_limit → length (encode_state S') ≤ room → ¬ Cause13 room S p q
  unfolding Cause13
  accepted_short {n} {S'} e no11 w v c =
      let f = (accepted_is_step S p q c.0 c.1).1 (c.2, no11, c.3) in
      let same : c.1 ≡ S' = cc in
      let l = ap (λ X. length (encode_state X)) same in
      ⊎_elim (λ h. omega arith) (λ h. omega arith) c.4

  decide : (a : Answer) → step S p q ≡ a → Judged nesting_limit S p q a → Decided (stepped room a)
  unfolding stepped Cause12 Cause13 FitsState
  decide a e (by8 c) = refused_by (cause8 c) (no_earlier (λ l. omega arith) (λ l. omega arith) (λ l. omega arith) (λ l. omega arith) (λ l. omega arith) (λ l. omega arith))
  decide a e (by9 no8 c) = refused_by (cause9 c) (no_earlier (λ l. no8) (λ l. omega arith) (λ l. omega arith) (λ l. omega arith) (λ l. omega arith) (λ l. omega arith))
  decide a e (by10 no8 no9 c) = refused_by (cause10 c) (no_earlier (λ l. no8) (λ l. no9) (λ l. omega arith) (λ l. omega arith) (λ l. omega arith) (λ l. omega arith))
  decide a e (by11 no8 no9 no10 c) = refused_by (cause11 c) (no_earlier (λ l. no8) (λ l. no9) (λ l. no10) (λ l. omega arith) (λ l. omega arith) (λ l. omega arith))
  decide a e (by12 {n} {F} {N} {L'} no8 no9 no10 no11 s f) =
      refused_by (cause12 (n, state F N L', s, f)) (no_earlier (λ l. no8) (λ l. no9) (λ l. no10) (λ l. no11) (λ l. omega arith) (λ l. omega arith))
  decide a e (by_step {n} {F} {N} {L'} no8 no9 no10 no11 s f) = go (fitting_cases byte_limit room n (encode_state (state F N L')))
    where
      no12 : ¬ Cause12 S p q
      no12 = accepted_fits e no8 no9 no10 no11

      go : Fits byte_limit room n (encode_state (state F N L')) → Decided (fitting byte_limit room n (encode_state (state F N L')))
      go (inl h) = rw h.0 (accepted_as e h.1 (no_earlier (λ l. no8) (λ l. no9) (λ l. no10) (λ l. no11) (λ l. no12) (λ l. accepted_short e no11 h.1 h.2)))
      go (inr h) =
          rw h (refused_by (cause13 (n, state F N L', s, f, fitting_long room n (encode_state (state F N L')) h)) (no_earlier (λ l. no8) (λ l. no9) (λ l. no10) (λ l. no11) (λ l. no12) (λ l. omega arith)))

  pub decided : Decided (stepped room (step S p q))
  decided = decide (step S p q) refl (judge nesting_limit S p q)

pub cause_number : {room : ℕ} {S : State} {p : ℕ} {q : Option ℕ} {k : ℕ} → Cause room S p q k → (8 ≤ k) × (k ≤ 13)
cause_number (cause8 c) = (omega arith, omega arith)
cause_number (cause9 c) = (omega arith, omega arith)
cause_number (cause10 c) = (omega arith, omega arith)
cause_number (cause11 c) = (omega arith, omega arith)
cause_number (cause12 c) = (omega arith, omega arith)
cause_number (cause13 c) = (omega arith, omega arith)

-- the first cause that holds is the number
pub decided_number : {room p : ℕ} {q : Option ℕ} {S : State} {k : ℕ} {w : Written ℕ ℕ} → Decided room S p q w → Cause room S p q k → NoEarlier room S p q k → w ≡ kept k
decided_number {k = k} (refused_by {k = j} d g) c f = ap kept (go (dec_le j k) (dec_le k j))
  where
    go : Dec (j ≤ k) → Dec (k ≤ j) → j ≡ k
    go (yes a) (yes b) = omega arith
    go (no a) b = absurd (g k (omega arith) c)
    go (yes a) (no b) = absurd (f j (omega arith) d)
decided_number {k = k} (accepted_as h l g) c f = absurd (g k (omega (arith, (cause_number c).1)) c)

pub decided_cause : {room p : ℕ} {q : Option ℕ} {S : State} {k : ℕ} {w : Written ℕ ℕ} → Decided room S p q w → w ≡ kept k → Cause room S p q k × NoEarlier room S p q k
decided_cause {room} {p} {q} {S} {k} (refused_by {k = j} d g) e = let same : j ≡ k = cc in subst (λ i. Cause room S p q i × NoEarlier room S p q i) same (d, g)
decided_cause (accepted_as h l g) e = absurd (let z : ◌≡◌ {A = ℕ} 0 1 = cc in omega arith)

-- Where no cause of 8, 9 or 10 holds, a refusal is one of the three limits.
pub at_limit : {room : ℕ} {S : State} {p : ℕ} {q : Option ℕ} {k : ℕ} → ¬ Cause8 S p q × ¬ Cause9 S p q × ¬ Cause10 S p q → Cause room S p q k → Limited room S p q k
at_limit free (cause8 c) = absurd (free.0 c)
at_limit free (cause9 c) = absurd (free.1 c)
at_limit free (cause10 c) = absurd (free.2 c)
at_limit free (cause11 c) = (omega arith, cause11 c)
at_limit free (cause12 c) = (omega arith, cause12 c)
at_limit free (cause13 c) = (omega arith, cause13 c)

module _ {S : State} {p : ℕ} {q : Option ℕ} {n : ℕ} {S' : State} (s : Step S p q n S') where
  rule_answers : (step S p q ≡ accepted n S') ⊎ ((k : ℕ) × (11 ≤ k) × (step S p q ≡ refused_step k))
  rule_answers = ⊎_map (λ e. e) (⊎_elim (λ e. (11, omega arith, e.0)) (λ e. (12, omega arith, e.0))) (step_is_accepted S p q n S' s)

  rule_refused : (k : ℕ) → step S p q ≡ refused_step k → 11 ≤ k
  rule_refused k e = ⊎_elim (λ f. absurd (let z : ◌≡◌ {A = ℕ} 0 1 = cc f in omega arith)) (λ f. let z : k ≡ f.0 = cc f.2 in omega (arith, f.1)) rule_answers

  -- none of these holds where a rule applies
  pub rule_free : ¬ Cause8 S p q × ¬ Cause9 S p q × ¬ Cause10 S p q
  rule_free =
      let r = refusals_caused S p q in
      let no8 : ¬ Cause8 S p q = λ c. omega (arith, rule_refused 8 (r.refused8.1 c)) in
      let no9 : ¬ Cause9 S p q = λ c. omega (arith, rule_refused 9 (r.refused9.1 (no8, c))) in
      (no8, no9, λ c. omega (arith, rule_refused 10 (r.refused10.1 (no8, no9, c))))

  -- and what is accepted is that rule
  pub rule_only : {k : ℕ} {T : State} → step S p q ≡ accepted k T → (k ≡ n) × (T ≡ S')
  rule_only {k} {T} e = ⊎_elim (λ f. (cc f, cc f)) (λ f. absurd (let z : ◌≡◌ {A = ℕ} 0 1 = cc f.2 in omega arith)) rule_answers
