-- Accesses one after another: what stays true of the panel and of the state's buffer.
use mathlib.Core.Path.{◌≡◌, refl, sym, ap₂, subst, ◌∙◌}
use mathlib.Core.Bool.{Bool, true, false, false≢true}
use mathlib.Core.List.{List, [], ◌∷◌, ◌++◌}
use Prim.Native.Nat.{ℕ, zero, suc, ◌≤◌}
use native.Mathlib.Omega.{arith}
use lib.Dec.{ltb}
use lib.ListN.{length, take, drop, length-take}
use lib.Seq.{take-append_seam}
use borrow.Author.Tests.{le-ltb, ne_eqb}
use Rattle.machine.specs.Tests.{pick}
use Rattle.buffers.specs.Buffers.{Written, kept, wrote}
use Rattle.buffers.proofs.Writing.{length_kept}
use Rattle.calls.specs.Steps.{step_bytes}
use Rattle.calls.specs.Calls.{Call, call}
use Rattle.registers.specs.declared.Panel.{Panel}
use Rattle.registers.specs.Registers.{takes_write, store_of, refused_of, acknowledged_of}
use Rattle.panel.specs.Access.{Held, held, asked, answered, on_panel, obey_of, write_of}
use Rattle.panel.proofs.Accesses.{asked_result}
use Rattle.accesses.specs.Accesses.{Access, writes, Accessed, no_access, written, read, looked, Keyed, keyed, nothing, command_of, call_of, calling, calls_of, present_after}
use Rattle.accesses.specs.Registers.{Told, told_by, acknowledged, told_at, rest_at, told_after, keyed_after, spelled, seen_in}
use Rattle.accesses.proofs.Registers.{read_is, line_is, acknowledged_is, refused_is, accepted_is, store_is}

-- What a write does

-- A step, an acknowledge, or no more than a store.
data Order : ℕ → ℕ → Type 0 where
  stepping : Order 0 1
  acknowledging : Order 0 2
  storing : (a v : ℕ) → command_of a v ≡ nothing → ((h : Held) → write_of a v h ≡ on_panel (store_of a v) h) → Order a v

idle : (v : ℕ) (h : Held) → h ≡ on_panel (store_of 0 v) h
unfolding on_panel store_of takes_write
idle v (held p s t) = refl

other : (v : ℕ) → (v ≡ 1 → ⊥) → (v ≡ 2 → ⊥) → Order 0 v
unfolding command_of write_of obey_of
other v f g = storing 0 v (rw (ne_eqb v 1 f, ne_eqb v 2 g)) (λ h. rw (ne_eqb v 1 f, ne_eqb v 2 g) (idle v h))

order : (a v : ℕ) → Order a v
unfolding command_of write_of
order zero zero = other 0 (λ e. omega arith) (λ e. omega arith)
order zero (suc zero) = stepping
order zero (suc (suc zero)) = acknowledging
order zero (suc (suc (suc v))) = other (suc (suc (suc v))) (λ e. omega arith) (λ e. omega arith)
order (suc a) v = let e = ne_eqb (suc a) 0 (λ f. omega arith) in storing (suc a) v (rw e) (λ h. rw e)

-- What the calls answer over the bytes of a state: 2 where the length is past the end of the buffer.
unfoldable pub answer : Bool → List ℕ → Call → Written ℕ ℕ
answer past bytes (call p q out) = pick past (kept 2) (step_bytes bytes p q (length out))

unfoldable pub answers : Bool → List ℕ → List Call → List (Written ℕ ℕ)
answers past bytes [] = []
answers past bytes (c ∷ cs) = answer past bytes c ∷ answers past (present_after (answer past bytes c) bytes) cs

-- The bytes of the state after them.
unfoldable pub reached : List ℕ → List (Written ℕ ℕ) → List ℕ
reached bytes [] = bytes
reached bytes (w ∷ ws) = reached (present_after w bytes) ws

accepted_within : (past : Bool) (bytes : List ℕ) (c : Call) {rule : ℕ} {new : List ℕ} → answer past bytes c ≡ wrote rule new → past ≡ false
unfolding answer
accepted_within true bytes (call p q out) e = absurd (let z : ◌≡◌ {A = ℕ} 0 1 = cc in omega arith)
accepted_within false bytes c e = refl

abbrev panel_in : Held → Panel
panel_in (held p s t) = p

abbrev state_in : Held → List ℕ
state_in (held p s t) = s

-- From a start with this length over this buffer; whether the length is past its end.
module _ (start : ℕ) (buffer : List ℕ) (past : Bool) where
  -- The bytes of the state, what is keyed and what is told, as a panel and the buffer have them.
  pub record Stage (bytes : List ℕ) (k : Keyed) (x : Told) (p : Panel) (s : List ℕ) : Type 0 where
    pub faced : p.registers ≡ spelled k x
    pub front : take p.length s ≡ bytes
    pub long : length s ≡ length buffer
    pub test : ltb (length buffer) p.length ≡ past
    pub fixed : past ≡ true → (p.length ≡ start) × (s ≡ buffer)

  abbrev StageIn : List ℕ → Keyed → Told → Held → Type 0
  StageIn bytes k x h = Stage bytes k x (panel_in h) (state_in h)

  abbrev answers_to : List ℕ → Keyed → List Access → List (Written ℕ ℕ)
  answers_to bytes k xs = answers past bytes (calls_of (length buffer) k xs)

  -- What is to be shown of accesses from such a stage.
  abbrev pub Follows : List ℕ → Keyed → Told → List Access → List ℕ → Panel → List ℕ → Type 0
  Follows bytes k x xs seen q last =
      Stage (reached bytes (answers_to bytes k xs)) (keyed_after xs k) (told_after xs (answers_to bytes k xs) x) q last
      × (seen ≡ seen_in xs (answers_to bytes k xs) k x)

  abbrev Goes : List Access → List ℕ → Panel → List ℕ → Held → Type 0
  Goes xs seen q last h = (bytes : List ℕ) (k : Keyed) (x : Told) → StageIn bytes k x h → Follows bytes k x xs seen q last

  -- a write at a stage, with the second buffer
  module _ {p : Panel} {s bytes : List ℕ} {k : Keyed} {x : Told} (t : List ℕ) (g : Stage bytes k x p s) where
    -- the step that is asked for is the call
    asked_is : asked (held p s t) ≡ answer past bytes (call_of (length buffer) k t)
    unfolding asked answer
    asked_is = rw (g.long, g.test, g.front, g.faced, length-take (length buffer) t) refl

    -- with other registers alone
    refaced : (k' : Keyed) (x' : Told) (rs : List ℕ) → rs ≡ spelled k' x' → Stage bytes k' x' (record { length = p.length; registers = rs }) s
    refaced k' x' rs e = record { faced = e; front = g.front; long = g.long; test = g.test; fixed = g.fixed }

    answered_stage : (w : Written ℕ ℕ) → asked (held p s t) ≡ w → StageIn (present_after w bytes) k (told_by w x) (answered w (held p s t))
    unfolding present_after answered
    answered_stage (kept j) e = refaced k (told_by (kept j) x) (refused_of j p).registers (refused_is p k x g.faced j)
    answered_stage (wrote rule new) e =
        let r = asked_result p s t rule new e in
        let n = accepted_within past bytes (call_of (length buffer) k t) (sym asked_is ∙ e) in
        let h : length new ≤ length s = omega (arith, r.fits) in
        record {
          faced = accepted_is p k x g.faced rule (length new) new;
          front = take-append_seam new (drop (length new) s);
          long = length_kept new s (new ++ drop (length new) s) h refl ∙ g.long;
          test = le-ltb (length buffer) (length new) (omega (arith, g.long)) ∙ sym n;
          fixed = λ f. absurd (false≢true (sym n ∙ f));
        }

    step_stage : (w : Written ℕ ℕ) → asked (held p s t) ≡ w → StageIn (present_after w bytes) k (told_by w x) (answered (asked (held p s t)) (held p s t))
    step_stage w e = rw e (answered_stage w e)

    after_write : {a v : ℕ} {q : Panel} {last : List ℕ} {seen : List ℕ} (xs : List Access) → Order a v
        → Goes xs seen q last (write_of a v (held p s t)) → Follows bytes k x (writes a v t ∷ xs) seen q last
    unfolding calls_of calling command_of told_after keyed_after seen_in rest_at told_at answers reached write_of obey_of on_panel
    after_write xs stepping rest = rest _ _ _ (step_stage (answer past bytes (call_of (length buffer) k t)) asked_is)
    after_write xs acknowledging rest = rest _ _ _ (refaced k (acknowledged x) (acknowledged_of p).registers (acknowledged_is p k x g.faced))
    after_write xs (storing a v e f) rest =
        rw e ((rw (f, store_is p k x g.faced a v) at rest) _ _ _ (refaced (keyed a v k) x (spelled (keyed a v k) x) refl))

  pub follows : {p q : Panel} {s last bytes : List ℕ} {k : Keyed} {x : Told} {xs : List Access} {seen : List ℕ} → Stage bytes k x p s → Accessed p s xs seen q last
      → Follows bytes k x xs seen q last
  unfolding calls_of told_after keyed_after seen_in answers reached
  follows g no_access = (g, refl)
  follows {q = q} {last = last} g (written {t = t} {a = a} {v = v} {xs = xs} {seen = seen} e l) =
      after_write t g xs (order a v) (subst (Goes xs seen q last) e (λ bytes k x h. follows h l))
  follows {p} {k = k} {x = x} g (read {a = a} e l) = let h = follows g l in (h.0, ap₂ ◌∷◌ (e ∙ read_is p k x g.faced a) h.1)
  follows {p} {k = k} {x = x} g (looked e l) = let h = follows g l in (h.0, ap₂ ◌∷◌ (e ∙ line_is p k x g.faced) h.1)
