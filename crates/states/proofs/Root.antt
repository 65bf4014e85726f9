-- From an accepted parse to the root list: what the public readers learn before they search or weigh it.
use mathlib.Core.Path.{◌≡◌, refl, sym, ap, ◌∙◌}
use mathlib.Core.Bool.{Bool, true, false}
use mathlib.Core.List.{List}
use Prim.Native.Nat.{ℕ, ◌≤◌, ◌<◌}
use native.Mathlib.Omega.{arith}
use lib.ListN.{length}
use Rattle.machine.specs.Limits.{nesting_limit, byte_limit}
use Rattle.machine.specs.Elements.{Elements, State, state}
use Rattle.machine.specs.Pairs.{blocked_pair}
use Rattle.format.specs.Reading.{Outcome, refused, got}
use Rattle.format.specs.Theorems.{Bytes}
use Rattle.format.specs.Spelling.{word_limit}
use Rattle.elements.specs.Spelling.{encode_elements, encode_state}
use Rattle.states.specs.Reading.{parse_state, unpaired, read_within, read_state}
use Rattle.elements.specs.Spelled.{Spells, SpelledList}
use Rattle.elements.proofs.Searching.{listed}
use Rattle.buffers.proofs.Parts.{part_all, length_part, from}
use Rattle.states.specs.Answers.{state_answer}
use Rattle.std.specs.Prelude.{Result, Ok, Err}
use Rattle.refusals.specs.declared.Refusal.{Refusal}
use Rattle.refusals.specs.declared.Refusal.TheVariants.{BlockedPair}
use Rattle.refusals.specs.Refusals.{refusal}
use Rattle.states.specs.declared.Names.{Names}
use Rattle.states.proofs.Whole.{read_parsed}
use Rattle.states.proofs.Spelled.{state_spelled}
use Rattle.states.proofs.Accepted.{AcceptedState, accepted_state}
use Rattle.states.proofs.InScope.{ParsedState, Parsed, parsed_valid, state_parsed}

abbrev names_of : ℕ → ℕ → Names
names_of F N = record { free = F; next = N }

-- an answer with names is a state that was read
named : (o : Outcome State) (F N : ℕ) → Ok (record { free = F; next = N }) ≡ state_answer o → (L : Elements) × (n : ℕ) × (o ≡ got (state F N L) n)
unfolding state_answer
named (refused k) F N e = absurd (let z : ◌≡◌ {A = ℕ} 0 1 = cc in omega arith)
named (got (state F' N' L) n) F N e =
    let q : record { free = F; next = N } ≡ names_of F' N' = cc in
    let f : F ≡ F' = ap (λ (x : Names). x.free) q in
    let m : N ≡ N' = ap (λ (x : Names). x.next) q in
    (L, n, rw (f, m))

pub unnamed : (o : Outcome State) (x : Refusal) → Err x ≡ state_answer o → (k : ℕ) × (o ≡ refused k) × (x ≡ refusal k)
unfolding state_answer
unnamed (refused k) x e = (k, refl, cc)
unnamed (got (state F N L) n) x e = absurd (let z : ◌≡◌ {A = ℕ} 0 1 = cc in omega arith)

pub record Root (s : List ℕ) (F N : ℕ) : Type 0 where
  pub tree : Elements
  pub count : ℕ
  pub accepted : AcceptedState s tree

abbrev root_of_law : (nest : ℕ) (s : List ℕ) (F N : ℕ) (L : Elements) (n : ℕ) → Bytes s → parse_state nest s ≡ got (state F N L) n → Root s F N
root_of_law nest s F N L n h e = record { tree = L; count = n; accepted = accepted_state nest s F N L n e h }

pub root_long : {s : List ℕ} {F N : ℕ} → Root s F N → 7 ≤ length s
root_long r = r.accepted.long

-- the part from 7 on, as the code has it
pub root_bytes : {s : List ℕ} {F N : ℕ} (r : Root s F N) → from s 7 ≡ encode_elements r.tree
root_bytes {s} r = part_all 7 s ∙ r.accepted.root

pub root_spells : {s : List ℕ} {F N : ℕ} (r : Root s F N) → Spells (from s 7) r.tree
root_spells r = record { spelled = root_bytes r; spellable = r.accepted.spellable }

pub root_short : {s : List ℕ} {F N : ℕ} → Root s F N → length (from s 7) < byte_limit
root_short {s} r = omega (arith, r.accepted.within, r.accepted.long, length_part 7 s)

pub root_list_law : {s : List ℕ} {F N : ℕ} → Root s F N → SpelledList (from s 7)
root_list_law r = listed (root_spells r) (omega (arith, root_short r))

-- a state that was parsed with a limit of nesting: 7, or the names

pub record ParsedRoot (nest : ℕ) (s : List ℕ) (F N : ℕ) : Type 0 where
  pub root : Root s F N
  pub parsed : parse_state nest s ≡ got (state F N root.tree) root.count

pub parsed_root : (nest : ℕ) (s : List ℕ) (F N : ℕ) → Bytes s → Ok (record { free = F; next = N }) ≡ state_answer (parse_state nest s) → ParsedRoot nest s F N
parsed_root nest s F N h e = let t = named (parse_state nest s) F N e in record { root = root_of_law nest s F N t.0 t.1 h t.2; parsed = t.2 }

pub parsed_names : (nest : ℕ) (s : List ℕ) (n : Names) {r : Result Names Refusal} → Bytes s → r ≡ Ok n → r ≡ state_answer (parse_state nest s) → ParsedRoot nest s n.free n.next
parsed_names nest s n h q e = parsed_root nest s _ _ h (sym q ∙ e)

pub parse_refused : (nest : ℕ) (s : List ℕ) (x : Refusal) → Err x ≡ state_answer (parse_state nest s) → Err x ≡ state_answer (read_within nest s)
unfolding read_within unpaired state_answer
parse_refused nest s x e = go (unnamed (parse_state nest s) x e)
  where
    go : (k : ℕ) × (parse_state nest s ≡ refused k) × (x ≡ refusal k) → Err x ≡ state_answer (read_within nest s)
    go (k, q, h) = rw (q, h)

module _ {nest : ℕ} {s : List ℕ} {F N : ℕ} (r : ParsedRoot nest s F N) (b : Bool) (e : b ≡ blocked_pair r.root.tree) where
  pub root_paired : b ≡ true → Err BlockedPair ≡ state_answer (read_within nest s)
  unfolding read_within unpaired state_answer refusal
  root_paired t = rw r.parsed (rw (← e) (rw t))

  pub root_unpaired : b ≡ false → Ok (record { free = F; next = N }) ≡ state_answer (read_within nest s)
  unfolding read_within unpaired state_answer
  root_unpaired t = rw r.parsed (rw (← e) (rw t))

-- a state that was read with a limit of nesting

pub record RootWithin (nest : ℕ) (s : List ℕ) (F N : ℕ) : Type 0 where
  pub root : Root s F N
  pub read : read_within nest s ≡ got (state F N root.tree) root.count

pub root_within : (nest : ℕ) (s : List ℕ) (F N : ℕ) → Bytes s → Ok (record { free = F; next = N }) ≡ state_answer (read_within nest s) → RootWithin nest s F N
root_within nest s F N h e =
    let t = named (read_within nest s) F N e in
    record { root = root_of_law nest s F N t.0 t.1 h ((read_parsed nest s F N t.0 t.1).0 t.2).0; read = t.2 }

pub root_spelled : {nest : ℕ} {s : List ℕ} {F N : ℕ} (r : RootWithin nest s F N) → Bytes s → s ≡ encode_state (state F N r.root.tree)
root_spelled {nest} {s} {F} {N} r h = state_spelled nest s _ _ h ((read_parsed nest s F N r.root.tree r.root.count).0 r.read).0

-- F and N have two bytes
pub root_few : {nest : ℕ} {s : List ℕ} {F N : ℕ} → RootWithin nest s F N → (F < word_limit) × (N < word_limit)
unfolding Parsed
root_few {nest} {s} {F} {N} r =
    let p : ParsedState nest F N r.root.tree = state_parsed nest s _ _ ((read_parsed nest s F N r.root.tree r.root.count).0 r.read).0 in
    let v = ((parsed_valid nest F N r.root.tree).0 p).0 in
    (omega (arith, v.few_free), omega (arith, v.few_names))

abbrev pub ReadRoot : List ℕ → ℕ → ℕ → Type 0
ReadRoot s F N = RootWithin nesting_limit s F N

pub read_root : (s : List ℕ) (F N : ℕ) → Bytes s → Ok (record { free = F; next = N }) ≡ state_answer (read_state s) → ReadRoot s F N
read_root = root_within nesting_limit

pub read_names : (s : List ℕ) (n : Names) {r : Result Names Refusal} → Bytes s → r ≡ Ok n → r ≡ state_answer (read_state s) → ReadRoot s n.free n.next
read_names s n h q e = read_root s _ _ h (sym q ∙ e)
