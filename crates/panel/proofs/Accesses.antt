-- What the definitions of a write come to in each case of the code.
use mathlib.Core.Path.{◌≡◌, refl, sym, ap, ap₂, subst, ◌∙◌}
use mathlib.Core.Bool.{Bool, true, false}
use mathlib.Core.Logic.{◌⊎◌, inl, inr}
use mathlib.Core.List.{List, ◌++◌, append_assoc}
use Prim.Native.Nat.{ℕ, ◌+◌, ◌≤◌, ◌<◌, min}
use native.Mathlib.Omega.{arith}
use lib.Dec.{ltb}
use lib.ListN.{length, take, drop, length-append, take-append-drop}
use lib.Seq.{length-take-le, drop-append-le, take-append_seam}
use borrow.Author.Tests.{lt-ltb, le-ltb}
use Rattle.machine.specs.Limits.{byte_limit}
use Rattle.machine.specs.Tests.{pick}
use Rattle.buffers.specs.Buffers.{Written, kept, wrote, buffer_after, Answered, overlay}
use Rattle.buffers.proofs.Writing.{overlaid}
use Rattle.format.specs.Reading.{Outcome, refused, got}
use Rattle.weighing.specs.Weighing.{weigh, weight_answer}
use Rattle.states.specs.Reading.{Accepted}
use Rattle.std.specs.Prelude.{Result, Ok, Err}
use Rattle.refusals.specs.declared.Refusal.{Refusal}
use Rattle.refusals.specs.declared.Refusal.TheVariants.{CutShort}
use Rattle.refusals.specs.Refusals.{number}
use Rattle.calls.specs.Steps.{step_bytes}
use Rattle.calls.proofs.Results.{Result as StepResult, step_result}
use Rattle.calls.specs.Calls.{Reply, refusal, acceptance, reply_of, StepContract}
use Rattle.performing.specs.declared.Step.{Step}
use Rattle.performing.specs.Performing.{reply_in}
use Rattle.registers.specs.declared.Panel.{Panel}
use Rattle.registers.specs.Registers.{refused_of, accepted_of}
use Rattle.panel.specs.Access.{held, place_in, partner_in, asked, result_weight, answered}

-- The step that is asked for

least_is : (m n r : ℕ) → (r ≤ m) × (r ≤ n) × ((r ≡ m) ⊎ (r ≡ n)) → r ≡ min m n
least_is m n r (h, k, inl e) = omega (arith, h, k, e)
least_is m n r (h, k, inr e) = omega (arith, h, k, e)

-- a part at the front that was lent, and what the answer left in it
front_back : (room : ℕ) (w : Written ℕ ℕ) (t : List ℕ) → room ≤ length t → ((rule : ℕ) (new : List ℕ) → w ≡ wrote rule new → length new ≤ room) → buffer_after w (take room t) ++ drop room t ≡ buffer_after w t
unfolding buffer_after
front_back room (kept k) t h f = take-append-drop room t
front_back room (wrote rule new) t h f =
    let i : length new ≤ length (take room t) = omega (arith, f rule new refl, length-take-le room t h) in
    append_assoc new (drop (length new) (take room t)) (drop room t)
    ∙ ap (λ (l : List ℕ). new ++ l) (sym (drop-append-le (length new) (take room t) (drop room t) i) ∙ ap (drop (length new)) (take-append-drop room t))

pub asked_past : (p : Panel) (s t : List ℕ) → length s < p.length → Answered reply_of (asked (held p s t)) t (reply_in (Err CutShort)) t
unfolding asked reply_in reply_of buffer_after
asked_past p s t h = record { answers = simp (lt-ltb _ _ h); leaves = simp (lt-ltb _ _ h) }

asked_is : (p : Panel) (s t : List ℕ) → p.length ≤ length s → asked (held p s t) ≡ step_bytes (take p.length s) (place_in p) (partner_in p) (min (length s) (length t))
unfolding asked
asked_is p s t h =
    ap (λ (b : Bool). pick {A = Written ℕ ℕ} b (kept 2) (step_bytes (take p.length s) (place_in p) (partner_in p) (min (length s) (length t)))) (le-ltb _ _ h)

pub asked_step : (p : Panel) (s t : List ℕ) (place partner room : ℕ) (r : Result Step Refusal) (after : List ℕ) → p.length ≤ length s
    → (room ≤ length s) × (room ≤ length t) × ((room ≡ length s) ⊎ (room ≡ length t)) → place ≡ place_in p → partner ≡ partner_in p
    → StepContract (take p.length s) place partner (take room t) (reply_in r) after
    → Answered reply_of (asked (held p s t)) t (reply_in r) (after ++ drop room t)
asked_step p s t place partner room r after h l e f c =
    let w : Written ℕ ℕ = step_bytes (take p.length s) place partner room in
    let m : length (take room t) ≡ room = length-take-le room t l.1 in
    let q : step_bytes (take p.length s) place partner (length (take room t)) ≡ w = ap (step_bytes (take p.length s) place partner) m in
    let a : asked (held p s t) ≡ w =
    asked_is p s t h ∙ ap₂ (λ (x y : ℕ). step_bytes (take p.length s) x y (min (length s) (length t))) (sym e) (sym f)
    ∙ ap (step_bytes (take p.length s) place partner) (sym (least_is _ _ room l)) in
    record {
      answers = c.answers ∙ ap reply_of (q ∙ sym a);
      leaves =
          ap (λ (x : List ℕ). x ++ drop room t) (c.leaves ∙ ap (λ (x : Written ℕ ℕ). buffer_after x (take room t)) q)
          ∙ front_back room w t l.1 (λ rule new g. (step_result (take p.length s) place partner room rule new g).fits)
          ∙ ap (λ (x : Written ℕ ℕ). buffer_after x t) (sym a);
    }

-- its result
pub asked_result : (p : Panel) (s t : List ℕ) (rule : ℕ) (new : List ℕ) → asked (held p s t) ≡ wrote rule new → StepResult (min (length s) (length t)) new
unfolding asked
asked_result p s t rule new e = go (ltb (length s) p.length) e
  where
    go : (b : Bool) → pick b (kept 2) (step_bytes (take p.length s) (place_in p) (partner_in p) (min (length s) (length t))) ≡ wrote rule new → StepResult (min (length s) (length t)) new
    go true f = absurd (let z : ◌≡◌ {A = ℕ} 0 1 = cc in omega arith)
    go false f = step_result (take p.length s) (place_in p) (partner_in p) (min (length s) (length t)) rule new f

-- Its answer

refused_at : (w : Written ℕ ℕ) (p q : Panel) (s t after : List ℕ) (x : Refusal) → Answered reply_of w t (reply_in (Err x)) after → q ≡ refused_of (number x) p → held q s after ≡ answered w (held p s t)
unfolding answered reply_in reply_of buffer_after
refused_at (kept j) p q s t after x c e =
    let f : number x ≡ j = let g : ◌≡◌ {A = Reply} (refusal (number x)) (refusal j) = c.answers in cc in
    ap₂ (λ (y : Panel) (z : List ℕ). held y s z) (e ∙ ap (λ (i : ℕ). refused_of i p) f) c.leaves
refused_at (wrote n new) p q s t after x c e =
    absurd (let g : ◌≡◌ {A = Reply} (refusal (number x)) (acceptance n (length new)) = c.answers in let z : ◌≡◌ {A = ℕ} 0 1 = cc in omega arith)

pub step_refused : (p q : Panel) (s t after : List ℕ) (r : Result Step Refusal) (x : Refusal) → Answered reply_of (asked (held p s t)) t (reply_in r) after → r ≡ Err x → q ≡ refused_of (number x) p
    → held q s after ≡ answered (asked (held p s t)) (held p s t)
step_refused p q s t after r x c f e = refused_at _ p q s t after x (subst (λ (y : Result Step Refusal). Answered reply_of (asked (held p s t)) t (reply_in y) after) f c) e

-- An accepted step: its result, at the front of the second buffer.
pub record Taken (w : Written ℕ ℕ) (s t : List ℕ) (rule n : ℕ) (after : List ℕ) : Type 0 where
  pub new : List ℕ
  pub becoming : w ≡ wrote rule new
  pub counted : n ≡ length new
  pub front : take n after ≡ new
  pub leaves : after ≡ new ++ drop (length new) t
  pub stands : n ≤ length after
  pub within : length new ≤ length s
  pub small : n ≤ byte_limit
  pub reads : Accepted (take n after)

taken_at : (w : Written ℕ ℕ) (s t after : List ℕ) (rule n : ℕ) → ((j : ℕ) (new : List ℕ) → w ≡ wrote j new → StepResult (min (length s) (length t)) new)
    → Answered reply_of w t (reply_in (Ok (record { rule = rule; length = n }))) after → Taken w s t rule n after
unfolding reply_in reply_of buffer_after
taken_at (kept j) s t after rule n f c =
    absurd (let g : ◌≡◌ {A = Reply} (acceptance rule n) (refusal j) = c.answers in let z : ◌≡◌ {A = ℕ} 0 1 = cc in omega arith)
taken_at (wrote j new) s t after rule n f c =
    let g : ◌≡◌ {A = Reply} (acceptance rule n) (acceptance j (length new)) = c.answers in
    let e : n ≡ length new = cc in
    let i : j ≡ rule = cc in
    let h : StepResult (min (length s) (length t)) new = f j new refl in
    let m : length after ≡ length new + length (drop (length new) t) = ap (λ (x : List ℕ). length x) c.leaves ∙ length-append new (drop (length new) t) in
    let v : take n after ≡ new = ap₂ (λ (x : ℕ) (y : List ℕ). take x y) e c.leaves ∙ take-append_seam new (drop (length new) t) in
    record {
      new = new;
      becoming = ap (λ (x : ℕ). wrote x new) i;
      counted = e;
      front = v;
      leaves = c.leaves;
      stands = omega (arith, e, m);
      within = omega (arith, h.fits);
      small = omega (arith, e, h.small);
      reads = subst Accepted (sym v) h.reads;
    }

pub taken : (p : Panel) (s t after : List ℕ) (r : Result Step Refusal) (x : Step) → Answered reply_of (asked (held p s t)) t (reply_in r) after → r ≡ Ok x
    → Taken (asked (held p s t)) s t x.rule x.length after
taken p s t after r x c f =
    taken_at _ s t after x.rule x.length (asked_result p s t) (subst (λ (y : Result Step Refusal). Answered reply_of (asked (held p s t)) t (reply_in y) after) f c)

weighs : (o : Outcome ℕ) (w : ℕ) → Ok w ≡ weight_answer o → w ≡ result_weight o
unfolding weight_answer result_weight
weighs (refused k) w e = absurd (let z : ◌≡◌ {A = ℕ} 0 1 = cc in omega arith)
weighs (got v n) w e = cc

held_is : {p q : Panel} {s s' t t' : List ℕ} → p ≡ q → s ≡ s' → t ≡ t' → held p s t ≡ held q s' t'
held_is {q = q} {s' = s'} {t = t} e f g = ap₂ (λ (x : Panel) (y : List ℕ). held x y t) e f ∙ ap (λ (z : List ℕ). held q s' z) g

pub step_accepted : (p q : Panel) (s t after state : List ℕ) (rule n weight : ℕ) → Taken (asked (held p s t)) s t rule n after
    → state ≡ overlay (take n after) s → Ok weight ≡ weight_answer (weigh (take n after)) → q ≡ accepted_of rule n weight p
    → held q state after ≡ answered (asked (held p s t)) (held p s t)
unfolding answered
step_accepted p q s t after state rule n weight w c v e =
    let z : answered (asked (held p s t)) (held p s t) ≡ held (accepted_of rule (length w.new) (result_weight (weigh w.new)) p) (w.new ++ drop (length w.new) s) (w.new ++ drop (length w.new) t) =
    ap (λ (x : Written ℕ ℕ). answered x (held p s t)) w.becoming in
    held_is
    (e ∙ ap₂ (λ (m j : ℕ). accepted_of rule m j p) w.counted (weighs (weigh (take n after)) weight v ∙ ap (λ (x : List ℕ). result_weight (weigh x)) w.front))
    (c ∙ ap (λ (x : List ℕ). overlay x s) w.front ∙ overlaid w.new s w.within)
    w.leaves ∙ sym z
