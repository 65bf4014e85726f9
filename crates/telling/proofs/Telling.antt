-- A session between its calls: how it begins, what a turn makes of it, and how a piece ends.
use mathlib.Core.Path.{◌≡◌, refl, sym, ap, ◌∙◌}
use mathlib.Core.Bool.{false}
use mathlib.Core.List.{List, [], ◌++◌, append_assoc, append-nil}
use Prim.Native.Nat.{ℕ, ◌+◌, ◌*◌, ◌-◌, ◌≤◌, ◌<◌}
use native.Mathlib.Omega.{arith}
use lib.ListN.{length, take, drop}
use lib.Seq.{take_at, length-take-le}
use lib.Dec.{eqb}
use Rattle.machine.specs.Limits.{byte_limit}
use Rattle.machine.specs.Elements.{State}
use Rattle.machine.specs.Questions.{told_of}
use Rattle.elements.specs.Spelling.{job}
use Rattle.buffers.specs.Buffers.{Written, kept, wrote, buffer_after, overlay, Answered, written_answer, Left}
use Rattle.std.specs.Prelude.{Result, Ok, Err}
use Rattle.refusals.specs.declared.Refusal.{Refusal}
use Rattle.refusals.specs.Refusals.{number, refusal}
use Rattle.refusals.proofs.Theorems.{of_number}
use Rattle.refusing.proofs.Theorems.{load_refuses, of_calls}
use Rattle.buffers.proofs.Appending.{nothing_yet}
use Rattle.buffers.proofs.Writing.{length_kept}
use Rattle.loaded.specs.Loading.{loaded, load}
use Rattle.loaded.proofs.Theorems.{loaded_job}
use Rattle.weighing.specs.Weighing.{weigh}
use Rattle.runs.specs.Runs.{Ending as Ended}
use Rattle.runs.specs.Turns.{Moved, moves, turn}
use Rattle.runs.proofs.Turning.{turned, follows}
use Rattle.advancing.specs.Answers.{ending_of, turn_answer, left_of, Present, SpellsAdmitted}
use Rattle.advancing.specs.declared.Ending.{Ending}
use Rattle.advancing.specs.declared.Turn.{Turn}
use Rattle.machine.specs.Lowest.{partner_of}
use Rattle.places.specs.Offsets.{coded}
use Rattle.lines.specs.Endings.{ended_by}
use Rattle.lines.proofs.Appending.{ended_back}
use Rattle.refusing.proofs.Limits.{turn_meets}
use Rattle.advancing.proofs.Admitting.{took_admitted, copied_present}
use Rattle.advancing.proofs.Turning.{turned_left}
use Rattle.lines.specs.Lines.{step_line, last_line, refusal_line, line_limit}
use Rattle.telling.specs.Sessions.{step_budget, weight_in, run_text, loaded_text, session_text}
use Rattle.telling.specs.Pieces.{text_left, lines_left, StandsAt, Stands, Begun, Told}
use Rattle.telling.specs.declared.Session.TheVariants.{Refused, Running, Over}
use Rattle.lines.proofs.Appending.{Appends}
use Rattle.telling.proofs.Texts.{text_ends, text_goes}

-- The begin

-- the state of a job is an admitted one
pub loaded_present : (bytes new : List ℕ) (u : Unit {0}) → load bytes byte_limit ≡ wrote u new → SpellsAdmitted new
loaded_present bytes new u e =
    let l = loaded_job bytes byte_limit new u e in
    record { tree = loaded (job l.free l.process); present = record { spelled = l.written; admitted = l.admits; short = l.within } }

module _ (bytes present last : List ℕ) (h : length present ≡ byte_limit) where
  pub begun_refused : (x : Refusal) → Answered written_answer (load bytes (length present)) present (Err x) last → Begun bytes (Refused (number x)) last
  unfolding Stands text_left session_text loaded_text written_answer
  begun_refused x a = record { stands = tt; tells = go (load bytes byte_limit) refl (rw h at a.answers) }
    where
      go : (w : Written ℕ (Unit {0})) → load bytes byte_limit ≡ w → Err x ≡ written_answer w → refusal_line (number x) ≡ loaded_text w
      go (kept k) q e = let i : x ≡ refusal k = cc in ap refusal_line (ap number i ∙ of_number k (load_refuses bytes byte_limit k q))
      go (wrote u new) q e = absurd (let z : ◌≡◌ {A = ℕ} 0 1 = cc in omega arith)

  pub begun_loaded : (n : ℕ) → Answered written_answer (load bytes (length present)) present (Ok n) last → Begun bytes (Running 0 n) last
  unfolding Stands text_left session_text loaded_text written_answer buffer_after
  begun_loaded n a = go (load bytes byte_limit) refl (rw h at a.answers) (rw h at a.leaves)
    where
      go : (w : Written ℕ (Unit {0})) → load bytes byte_limit ≡ w → Ok n ≡ written_answer w → last ≡ buffer_after w present → Begun bytes (Running 0 n) last
      go (kept k) q e f = absurd (let z : ◌≡◌ {A = ℕ} 0 1 = cc in omega arith)
      go (wrote u new) q e f =
          let m : n ≡ length new = cc in
          let front : take n last ≡ new = ap (take n) f ∙ take_at new (drop (length new) present) n (sym m) in
          let s = loaded_present bytes new u q in
          let w : n ≤ byte_limit = omega (arith, s.present.short) in
          record {
            stands = record { admitted = rw front s; within = w; long = length_kept new present last (omega (arith, s.present.short)) f ∙ h; count = omega arith };
            tells = ap (run_text 0 step_budget) front ∙ sym (ap loaded_text q);
          }

-- A turn

abbrev turn_of : (p q rule k : ℕ) → List ℕ → Turn
turn_of p q rule k new = record { place = p; other = coded (partner_of q); rule = rule; partners = k; length = length new }

over_ends : (t : Written Ended Moved) {out last : List ℕ} {r : Result Turn (Ending Refusal)} {x : Ending Refusal} → Answered (turn_answer false) t out r last → r ≡ Err x → (e : Ended) × (t ≡ kept e) × (x ≡ ending_of e)
unfolding turn_answer
over_ends (kept e) {x = x} a u = let f = a.answers in let q : x ≡ ending_of e = cc in (e, refl, q)
over_ends (wrote (moves p q rule k) new) a u = absurd (let f = a.answers in let z : ◌≡◌ {A = ℕ} 0 1 = cc in omega arith)

-- what is known of a turn that was taken
pub record Took (t : Written Ended Moved) (x : Turn) (out last : List ℕ) : Type 0 where
  pub partner : ℕ
  pub other : x.other ≡ coded (partner_of partner)
  pub new : List ℕ
  pub wrote_move : t ≡ wrote (moves x.place partner x.rule x.partners) new
  pub long : x.length ≡ length new
  pub leaves : last ≡ new ++ drop (length new) out

took_wrote : (t : Written Ended Moved) {out last : List ℕ} {r : Result Turn (Ending Refusal)} {x : Turn} → Answered (turn_answer false) t out r last → r ≡ Ok x → Took t x out last
unfolding turn_answer told_of buffer_after
took_wrote (kept e) a u = absurd (let f = a.answers in let z : ◌≡◌ {A = ℕ} 0 1 = cc in omega arith)
took_wrote (wrote (moves p q rule k) new) {x = x} a u =
    let f = a.answers in
    let y : x ≡ turn_of p q rule k new = cc in
    record { partner = q; other = ap (λ (y : Turn). y.other) y; new = new; wrote_move = rw y; long = ap (λ (y : Turn). y.length) y; leaves = a.leaves }

-- what a turn answers to the bytes of the present state, after so many steps, with a buffer for the next one
abbrev pub Turned : (s next : List ℕ) (taken : ℕ) → Result Turn (Ending Refusal) → List ℕ → Type 0
Turned s next taken r last = (S : State) → Present s S → Answered (turn_answer false) (turn (length next) (left_of (eqb taken step_budget)) S) next r last

-- a turn after which it goes on
pub record Goes (taken : ℕ) (s : List ℕ) (move : Moved) (n : ℕ) (last : List ℕ) : Type 0 where
  pub state : SpellsAdmitted (take n last)
  pub held : n ≤ length last
  pub less : taken < step_budget
  pub text : run_text taken (step_budget - taken) s ≡ step_line move ++ run_text (taken + 1) (step_budget - (taken + 1)) (take n last)

module _ {taken end : ℕ} {present next last : List ℕ} {r : Result Turn (Ending Refusal)} (g : StandsAt taken end present) (h : length next ≡ byte_limit) (f : Turned (take end present) next taken r last) where
  here : Answered (turn_answer false) (turn byte_limit (step_budget - taken) g.admitted.tree) next r last
  here = rw h at (turned_left false g.count g.admitted.tree (f g.admitted.tree g.admitted.present))

  pub turn_ends : {x : Ending Refusal} → r ≡ Err x → run_text taken (step_budget - taken) (take end present) ≡ last_line (ended_by number x) taken (weight_in (weigh (take end present)))
  turn_ends {x} u =
      let t = over_ends _ here u in
      let back : t.0 ≡ ended_by number x = sym (ap (ended_by number) t.2 ∙ ended_back t.0 (λ k q. of_calls (turn_meets byte_limit (step_budget - taken) g.admitted.tree k (t.1 ∙ ap kept q)))) in
      text_ends taken (step_budget - taken) g.admitted.present t.1 ∙ ap (λ (e : Ended). last_line e taken (weight_in (weigh (take end present)))) back

  pub partner_in : {x : Turn} → r ≡ Ok x → ℕ
  partner_in u = (took_wrote _ here u).partner

  pub other_is : {x : Turn} (u : r ≡ Ok x) → x.other ≡ coded (partner_of (partner_in u))
  unfolding partner_in
  other_is u = (took_wrote _ here u).other

  pub turn_goes : {x : Turn} (u : r ≡ Ok x) → Goes taken (take end present) (moves x.place (partner_in u) x.rule x.partners) x.length last
  unfolding partner_in
  turn_goes {x} u =
      let t = took_wrote _ here u in
      let a = took_admitted false (left_of (eqb taken step_budget)) g.admitted f u in
      let front : t.new ≡ take x.length last = sym (ap (take x.length) t.leaves ∙ take_at t.new (drop (length t.new) next) x.length (sym t.long)) in
      let i : step_budget - taken - 1 ≡ step_budget - (taken + 1) = omega arith in
      let move = moves x.place t.partner x.rule x.partners in
      record {
        state = a.0;
        held = a.1;
        less = omega (arith, (follows (turned byte_limit (step_budget - taken) g.admitted.tree) t.wrote_move).less);
        text =
            text_goes taken (step_budget - taken) g.admitted.present t.wrote_move
            ∙ ap (λ (m : ℕ). step_line move ++ run_text (taken + 1) m t.new) i
            ∙ ap (λ (s : List ℕ). step_line move ++ run_text (taken + 1) (step_budget - (taken + 1)) s) front;
      }

told_more : {all rest : List ℕ} (a b more : List ℕ) → all ≡ a ++ rest → rest ≡ b ++ more → all ≡ (a ++ b) ++ more
told_more a b more e f = e ∙ ap (λ (l : List ℕ). a ++ l) f ∙ sym (append_assoc a b more)

-- Between two lines of a piece: what is told of it so far, and what was to come at first

pub record Telling (steps size : ℕ) (first before : List ℕ) (taken end at : ℕ) (present text : List ℕ) : Type 0 where
  pub told : List ℕ
  pub fills : Left told before text at
  pub tells : run_text steps (step_budget - steps) (take size first) ≡ told ++ run_text taken (step_budget - taken) (take end present)
  pub stands : StandsAt taken end present
  pub since : steps ≤ taken
  pub lines : at ≤ line_limit * (taken - steps)

pub nothing_told_law : {steps size : ℕ} {present : List ℕ} (text : List ℕ) → StandsAt steps size present → Telling steps size present text steps size 0 present text
nothing_told_law text g = record { told = []; fills = nothing_yet text; tells = refl; stands = g; since = omega arith; lines = omega arith }

module _ {steps size : ℕ} {first before : List ℕ} {taken end at : ℕ} {present text : List ℕ} (g : Telling steps size first before taken end at present text) where
  pub line_told : {move : Moved} {n m : ℕ} {last present' filled : List ℕ} → Goes taken (take end present) move n last → present' ≡ overlay (take n last) present →
      Appends text at (step_line move) filled m → m ≤ at + line_limit → Telling steps size first before (taken + 1) n m present' filled
  line_told {move} {n} {last = last} {present'} v c f b =
      let e : length (take n last) ≡ n = length-take-le n last v.held in
      let p = copied_present present v.state.present g.stands.long c in
      let h : Present (take n present') v.state.tree = rw e at p.0 in
      let same : take n last ≡ take n present' = v.state.present.spelled ∙ sym h.spelled in
      record {
        told = g.told ++ step_line move;
        fills = f g.told before g.fills;
        tells = told_more g.told (step_line move) _ g.tells (v.text ∙ ap (λ (s : List ℕ). step_line move ++ run_text (taken + 1) (step_budget - (taken + 1)) s) same);
        stands = record { admitted = record { tree = v.state.tree; present = h }; within = omega (arith, v.state.present.short); long = p.1; count = omega (arith, v.less) };
        since = omega (arith, g.since);
        lines = omega (arith, g.since, g.lines);
      }

  pub piece_full : length text ≡ length before → line_limit ≤ length before → length text - at < line_limit → Told (Running steps size) first before (record { session = Running taken end; length = at }) present text
  unfolding text_left lines_left Stands
  piece_full l h k = record { bytes = g.told; fills = g.fills; tells = g.tells; stands = g.stands; fewer = omega (arith, g.lines, g.stands.count); full = λ n. omega arith }

  pub piece_last : (e : Ended) {n : ℕ} {filled : List ℕ} → run_text taken (step_budget - taken) (take end present) ≡ last_line e taken (weight_in (weigh (take end present))) →
      Appends text at (last_line e taken (weight_in (weigh (take end present)))) filled n → Told (Running steps size) first before (record { session = Over; length = n }) present filled
  unfolding text_left lines_left Stands
  piece_last e u f =
      let line = last_line e taken (weight_in (weigh (take end present))) in
      record { bytes = g.told ++ line; fills = f g.told before g.fills; tells = told_more g.told line [] g.tells (u ∙ sym (append-nil line)); stands = tt; fewer = omega arith; full = λ n. absurd (omega arith) }

-- A refusal, and nothing more

pub refusal_told : {k n : ℕ} {present text filled : List ℕ} → Appends text 0 (refusal_line k) filled n → Told (Refused k) present text (record { session = Over; length = n }) present filled
unfolding text_left lines_left Stands
refusal_told {k} {text = text} f = record { bytes = refusal_line k; fills = f [] text (nothing_yet text); tells = sym (append-nil (refusal_line k)); stands = tt; fewer = omega arith; full = λ n. absurd (omega arith) }

pub over_told : {present text : List ℕ} → Told Over present text (record { session = Over; length = 0 }) present text
unfolding text_left lines_left Stands
over_told {text = text} = record { bytes = []; fills = nothing_yet text; tells = refl; stands = tt; fewer = omega arith; full = λ n. absurd (omega arith) }
