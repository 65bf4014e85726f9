-- What is promised of lists of accesses.
use mathlib.Core.Path.{◌≡◌, refl, ap, ◌∙◌}
use mathlib.Core.Bool.{Bool, true, false}
use mathlib.Core.List.{List, [], ◌∷◌}
use Prim.Native.Nat.{ℕ, suc}
use native.Mathlib.Omega.{arith}
use lib.Dec.{ltb}
use lib.ListN.{length, take, drop}
use lib.Seq.{take-append_seam}
use borrow.Author.Tests.{lt-ltb, le-ltb, ltb-false}
use Rattle.machine.specs.Tests.{pick}
use Rattle.buffers.specs.Buffers.{Written, kept, wrote}
use Rattle.calls.specs.Steps.{step_bytes}
use Rattle.calls.specs.Calls.{Call, call, Plays, no_call}
use Rattle.calls.proofs.Calls.{kept_plays, wrote_plays}
use Rattle.calls.proofs.Theorems.{lists_of_calls}
use Rattle.registers.specs.declared.Panel.{Panel}
use Rattle.registers.specs.Registers.{start_of, read_of, line_of}
use Rattle.panel.specs.Access.{Held, held, write_of}
use Rattle.accesses.specs.Accesses.{Access, writes, reads, looks, Accessed, no_access, written, read, looked, nothing_keyed, present_after, answers_of, all_two, answers_from}
use Rattle.accesses.specs.Registers.{nothing_told}
use Rattle.accesses.specs.Theorems.{EveryListIsAccessed, calls_asked, RegistersFollow, observed_of, StateFollows, PastTheEnd, PanelPromised}
use Rattle.accesses.proofs.Accesses.{answer, answers, reached, Follows, follows}

-- Every list

abbrev Made : Panel → List ℕ → List Access → Type 0
Made p s xs = (seen : List ℕ) × (q : Panel) × (last : List ℕ) × Accessed p s xs seen q last

write_made : {p : Panel} {s t : List ℕ} {a v : ℕ} {xs : List Access} (h : Held) → h ≡ write_of a v (held p s t) → ((q : Panel) (s' : List ℕ) → Made q s' xs) → Made p s (writes a v t ∷ xs)
write_made (held q s' t') e more = let z = more q s' in (z.0, z.1, z.2, written e z.3)

pub every_list_is_accessed : EveryListIsAccessed
every_list_is_accessed p s [] = ([], p, s, no_access)
every_list_is_accessed p s (writes a v t ∷ xs) = write_made (write_of a v (held p s t)) refl (λ q s'. every_list_is_accessed q s' xs)
every_list_is_accessed p s (reads a ∷ xs) = let z = every_list_is_accessed p s xs in (read_of a p ∷ z.0, z.1, z.2, read refl z.3)
every_list_is_accessed p s (looks ∷ xs) = let z = every_list_is_accessed p s xs in (line_of p ∷ z.0, z.1, z.2, looked refl z.3)

-- The answers

answers_are : (past : Bool) (bytes : List ℕ) (cs : List Call) → answers past bytes cs ≡ pick past (all_two cs) (answers_of bytes cs)
unfolding answers answer all_two answers_of present_after
answers_are true bytes [] = refl
answers_are false bytes [] = refl
answers_are true bytes (call p q out ∷ cs) = ap (λ (ws : List (Written ℕ ℕ)). kept 2 ∷ ws) (answers_are true bytes cs)
answers_are false bytes (call p q out ∷ cs) =
    ap (λ (ws : List (Written ℕ ℕ)). step_bytes bytes p q (length out) ∷ ws) (answers_are false (present_after (step_bytes bytes p q (length out)) bytes) cs)

-- a list of calls plays with them
abbrev Answered : List ℕ → List Call → List (Written ℕ ℕ) → Type 0
Answered bytes cs ws = (n : ℕ) × Plays bytes cs (observed_of bytes ws) (reached bytes ws) n

call_answered : (bytes out : List ℕ) (p q : ℕ) (cs : List Call) (w : Written ℕ ℕ) → step_bytes bytes p q (length out) ≡ w
    → ((b : List ℕ) → Answered b cs (answers_of b cs)) → Answered bytes (call p q out ∷ cs) (w ∷ answers_of (present_after w bytes) cs)
unfolding present_after observed_of reached
call_answered bytes out p q cs (kept k) e more = let h = more bytes in (h.0, kept_plays out e h.1)
call_answered bytes out p q cs (wrote rule new) e more =
    let h = more new in (suc h.0, rw (take-append_seam new (drop (length new) out)) at (wrote_plays new out e h.1))

answers_play : (bytes : List ℕ) (cs : List Call) → Answered bytes cs (answers_of bytes cs)
unfolding answers_of observed_of reached
answers_play bytes [] = (0, no_call)
answers_play bytes (call p q out ∷ cs) = call_answered bytes out p q cs (step_bytes bytes p q (length out)) refl (λ b. answers_play b cs)

-- A start

started : (n : ℕ) (s : List ℕ) {xs : List Access} {seen : List ℕ} {q : Panel} {last : List ℕ} → Accessed (start_of n) s xs seen q last
    → Follows n s (ltb (length s) n) (take n s) nothing_keyed nothing_told xs seen q last
started n s a = follows n s (ltb (length s) n) (record { faced = refl; long = refl; test = refl; front = refl; fixed = λ e. (refl, refl) }) a

pub registers_follow : RegistersFollow
unfolding answers_from
registers_follow n s xs seen q last a =
    let h = started n s a in
    let e = answers_are (ltb (length s) n) (take n s) (calls_asked s xs) in
    (rw (← e) h.0.faced, rw (← e) h.1)

pub state_follows : StateFollows
state_follows n s xs seen q last a w =
    let h = (started n s a).0 in
    let e = le-ltb (length s) n w in
    let f = answers_are false (take n s) (calls_asked s xs) in
    let play = answers_play (take n s) (calls_asked s xs) in
    record {
      observations = observed_of (take n s) (answers_of (take n s) (calls_asked s xs));
      count = play.0;
      plays = rw (h.front, e, f) play.1;
      answered = refl;
      stands = omega (arith, ltb-false (length s) q.length (h.test ∙ e), h.long);
      lasting = h.long;
    }

pub past_the_end : PastTheEnd
past_the_end n s xs seen q last a w = (started n s a).0.fixed (lt-ltb (length s) n w)

pub panel_promised : PanelPromised
panel_promised n s xs seen q last a w S m e i =
    let h = state_follows n s xs seen q last a w in
    (h.observations, h.count, lists_of_calls (take n s) S m e i (calls_asked s xs) h.observations (take q.length last) h.count h.plays)
