-- A run by its turns: a turn that ends it, and a turn after which it goes on; and how much room a run needs.
use mathlib.Core.Path.{◌≡◌, refl, sym, ap, ◌∙◌, fun_ext}
use mathlib.Core.Logic.{◌⊎◌, inl, inr}
use mathlib.Core.Bool.{Bool, true, false}
use mathlib.Core.List.{List}
use mathlib.Core.Option.{Option, none, some}
use Prim.Native.Nat.{ℕ, zero, suc, ◌-◌, ◌≤◌, ◌<◌}
use native.Mathlib.Omega.{arith}
use borrow.Author.Tests.{le-leb, leb-true}
use lib.ListN.{length}
use lib.Dec.{leb}
use Rattle.machine.specs.Limits.{byte_limit}
use Rattle.machine.specs.Elements.{State}
use Rattle.machine.specs.Lowest.{partner_number, place_in, partner_in}
use Rattle.machine.specs.Tests.{pick}
use Rattle.machine.specs.Stepping.{Answer, refused, accepted, step}
use Rattle.elements.specs.Spelling.{encode_state}
use Rattle.buffers.specs.Buffers.{Written, kept, wrote, fits_in, fitting}
use Rattle.buffers.proofs.Answers.{fits_within}
use Rattle.states.specs.Theorems.{Admitted}
use Rattle.calls.specs.Steps.{stepped}
use Rattle.calls.proofs.Theorems.{step_admitted}
use Rattle.runs.specs.Runs.{Ending, blocked, spent, limit, Ran, ran, counted, going_on, after_step, ends, run_from}
use Rattle.runs.specs.Turns.{Moved, moves, moved_at, turn_at, turn}

-- Some place can act.
abbrev pub Able : State → Type 0
Able T = (p : ℕ) × (place_in T ≡ some p)

-- What an ending says of the state reached after n turns.
unfoldable pub EndsAt : (room : ℕ) → Ending → (budget n : ℕ) → State → Type 0
EndsAt room blocked budget n T = place_in T ≡ none
EndsAt room spent budget n T = (n ≡ budget) × Able T
EndsAt room (limit k) budget n T = (n < budget) × (a : Able T) × (stepped room (step T a.0 (partner_in T a.0)) ≡ kept k)

-- A turn and the run from it: both end there, or the run goes on from the state after the turn.
pub data Turned (room left : ℕ) (S : State) : Written Ending Moved → Ran → Type 0 where
  over : (e : Ending) → EndsAt room e left 0 S → Turned room left S (kept e) (ran e 0 S)
  goes : {p q rule n : ℕ} {S' : State} → 0 < left → place_in S ≡ some p → step S p (partner_in S p) ≡ accepted rule S' →
      length (encode_state S') ≤ byte_limit → length (encode_state S') ≤ room →
      Turned room left S (wrote (moves p q rule n) (encode_state S')) (counted (run_from room (left - 1) S'))

step_turned : (room left : ℕ) (S : State) (p q k : ℕ) → 0 < left → place_in S ≡ some p → (a : Answer) → step S p (partner_in S p) ≡ a →
    Turned room left S (moved_at p q k (stepped room a)) (after_step room a S (run_from room (left - 1)))
unfolding EndsAt moved_at stepped fitting after_step going_on
step_turned room left S p q k l c (refused j) f = over (limit j) (l, (p, c), ap (stepped room) f)
step_turned room left S p q k l c (accepted n S') f = go (fits_in byte_limit room (length (encode_state S'))) refl
  where
    go : (x : Bool) → fits_in byte_limit room (length (encode_state S')) ≡ x → Turned room left S (moved_at p q k (pick {A = Written ℕ ℕ} x (wrote n (encode_state S')) (kept 13)))
        (going_on (pick {A = Written ℕ State} x (wrote S' (encode_state S')) (kept 13)) S (run_from room (left - 1)))
    go true g = let w = fits_within byte_limit room (length (encode_state S')) g in goes l c f w.0 w.1
    go false g = over (limit 13) (l, (p, c), ap (stepped room) f ∙ rw g)

last_turned : (room : ℕ) (S : State) (o : Option ℕ) → place_in S ≡ o → Turned room zero S (turn_at room zero o S) (ends room zero o S (ran spent 0))
unfolding EndsAt turn_at ends
last_turned room S none c = over blocked c
last_turned room S (some p) c = over spent (refl, (p, c))

next_turned : (room b : ℕ) (S : State) (o : Option ℕ) → place_in S ≡ o → Turned room (suc b) S (turn_at room (suc b) o S) (ends room (suc b) o S (run_from room (suc b - 1)))
unfolding EndsAt turn_at ends
next_turned room b S none c = over blocked c
next_turned room b S (some p) c = step_turned room (suc b) S p (partner_number (partner_in S p)) _ (omega arith) c (step S p (partner_in S p)) refl

pub turned : (room left : ℕ) (S : State) → Turned room left S (turn room left S) (run_from room left S)
unfolding turn run_from
turned room zero S = last_turned room S (place_in S) refl
turned room (suc b) S = let e : suc b - 1 ≡ b = omega arith in rw e at (next_turned room b S (place_in S) refl)

-- A turn that ends the run
pub halts : {room left : ℕ} {S : State} {e : Ending} {t : Written Ending Moved} {r : Ran} → Turned room left S t r → t ≡ kept e → r ≡ ran e 0 S
halts (over e h) q = cc
halts (goes l c f w v) q = absurd (let z : ◌≡◌ {A = ℕ} 0 1 = cc in omega arith)

-- A turn after which it goes on

pub record Follows (room left : ℕ) (S : State) (new : List ℕ) (r : Ran) : Type 0 where
  pub less : 0 < left
  pub after : State
  pub bytes : new ≡ encode_state after
  pub admitted : Admitted S → Admitted after
  pub small : length new ≤ byte_limit
  pub fits : length new ≤ room
  pub runs : r ≡ counted (run_from room (left - 1) after)

pub follows : {room left : ℕ} {S : State} {move : Moved} {new : List ℕ} {t : Written Ending Moved} {r : Ran} → Turned room left S t r → t ≡ wrote move new → Follows room left S new r
follows (over e h) q = absurd (let z : ◌≡◌ {A = ℕ} 0 1 = cc in omega arith)
follows {S = S} {new = new} (goes {p} {rule = rule} {S'} l c f w v) q =
    let b : encode_state S' ≡ new = cc in
    record {
      less = l;
      after = S';
      bytes = sym b;
      admitted = λ a. step_admitted S p (partner_in S p) rule S' a f;
      small = rw (← b) w;
      fits = rw (← b) v;
      runs = refl;
    }

-- A buffer of 32,768 bytes holds what any longer one holds

module _ (room : ℕ) (h : byte_limit ≤ room) where
  same_test : (n : ℕ) → fits_in byte_limit byte_limit n ≡ fits_in byte_limit room n
  unfolding fits_in
  same_test n = go (leb n byte_limit) refl
    where
      go : (b : Bool) → leb n byte_limit ≡ b → pick b (leb n byte_limit) false ≡ pick b (leb n room) false
      go true q = q ∙ sym (le-leb n room (omega (arith, leb-true n byte_limit q)))
      go false q = refl

  after_room : (S : State) (more : State → Ran) (a : Answer) → after_step byte_limit a S more ≡ after_step room a S more
  unfolding after_step fitting
  after_room S more (refused k) = refl
  after_room S more (accepted n S') = rw (same_test (length (encode_state S')))

  ends_room : (b : ℕ) (S : State) (more : State → Ran) (o : Option ℕ) → ends byte_limit b o S more ≡ ends room b o S more
  unfolding ends
  ends_room b S more none = refl
  ends_room zero S more (some p) = refl
  ends_room (suc b) S more (some p) = after_room S more (step S p (partner_in S p))

  run_room : (b : ℕ) (S : State) → run_from byte_limit b S ≡ run_from room b S
  unfolding run_from
  run_room zero S = ends_room zero S (ran spent 0) (place_in S)
  run_room (suc b) S = rw (← fun_ext (run_room b)) (ends_room (suc b) S (run_from byte_limit b) (place_in S))

pub lesser_room : (n room b : ℕ) (S : State) → n ≤ room → (n ≡ byte_limit) ⊎ (n ≡ room) → run_from n b S ≡ run_from room b S
lesser_room n room b S h (inl e) = ap (λ (m : ℕ). run_from m b S) e ∙ run_room room (omega arith) b S
lesser_room n room b S h (inr e) = ap (λ (m : ℕ). run_from m b S) e
