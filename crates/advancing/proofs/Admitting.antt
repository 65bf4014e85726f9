-- Which bytes are those of an admitted state: those that were read, those that a turn wrote, and a copy of such bytes.
use mathlib.Core.Path.{◌≡◌, refl, sym, ap, ◌∙◌}
use mathlib.Core.Bool.{Bool}
use mathlib.Core.List.{List}
use Prim.Native.Nat.{ℕ, ◌≤◌}
use native.Mathlib.Omega.{arith}
use lib.ListN.{length, take, drop, length-append}
use lib.Seq.{take_at}
use Rattle.machine.specs.Limits.{byte_limit}
use Rattle.machine.specs.Elements.{State}
use Rattle.format.specs.Reading.{got}
use Rattle.format.specs.Theorems.{Bytes}
use Rattle.states.specs.Reading.{read_state}
use Rattle.machine.specs.Lowest.{partner_of}
use Rattle.machine.specs.Questions.{told_of}
use Rattle.places.specs.Offsets.{coded}
use Rattle.advancing.specs.declared.Turn.{Turn}
use Rattle.refusals.specs.declared.Refusal.{Refusal}
use Rattle.advancing.specs.declared.Ending.{Ending}
use Rattle.std.specs.Prelude.{Result, Ok}
use Rattle.buffers.specs.Buffers.{Written, kept, wrote, buffer_after, overlay, Answered}
use Rattle.buffers.proofs.Writing.{overlaid, length_kept}
use Rattle.runs.specs.Runs.{Ending as Ended}
use Rattle.runs.specs.Turns.{Moved, moves, turn}
use Rattle.calls.proofs.Theorems.{read_spells}
use Rattle.runs.proofs.Turning.{turned, follows}
use Rattle.advancing.specs.Answers.{turn_answer, Present, SpellsAdmitted}

pub read_present : {s : List ℕ} {S : State} {m : ℕ} → Bytes s → read_state s ≡ got S m → Present s S
read_present b e = let h = read_spells b e in record { spelled = h.0; admitted = h.1; short = h.2 }

-- a turn that was taken wrote the bytes of another
pub took_admitted : (once : Bool) {s out last : List ℕ} (left : ℕ) {r : Result Turn (Ending Refusal)} {x : Turn} → SpellsAdmitted s → ((S : State) → Present s S → Answered (turn_answer once) (turn (length out) left S) out r last) → r ≡ Ok x →
    SpellsAdmitted (take x.length last) × (x.length ≤ length last)
unfolding turn_answer buffer_after
took_admitted once {s} {out} {last} left {r} {x} a f e = let h = f a.tree a.present in go (turn (length out) left a.tree) refl h.answers h.leaves
  where
    go : (t : Written Ended Moved) → turn (length out) left a.tree ≡ t → r ≡ turn_answer once t → last ≡ buffer_after t out → SpellsAdmitted (take x.length last) × (x.length ≤ length last)
    go (kept d) u g l = absurd (let z : ◌≡◌ {A = ℕ} 0 1 = cc in omega arith)
    go (wrote (moves p' q' rule' k') new) u g l =
        let w = follows (turned (length out) left a.tree) u in
        let y : x ≡ record { place = p'; other = coded (partner_of q'); rule = rule'; partners = told_of once k'; length = length new } = cc in
        let i : x.length ≡ length new = ap (λ (z : Turn). z.length) y in
        let j : take x.length last ≡ new = ap (take x.length) l ∙ take_at new (drop (length new) out) x.length (sym i) in (
          record {
            tree = w.after;
            present = record { spelled = j ∙ w.bytes; admitted = w.admitted a.present.admitted; short = rw j w.small };
          },
          omega (arith, i, ap length l, length-append new (drop (length new) out)),
        )

-- a copy to the front of the buffer for the present state
pub copied_front : (new present last : List ℕ) → length new ≤ length present → last ≡ overlay new present → take (length new) last ≡ new
copied_front new present last h e = ap (take (length new)) (e ∙ overlaid new present h) ∙ take_at new (drop (length new) present) (length new) refl

pub copied_length : (new present last : List ℕ) → length new ≤ length present → last ≡ overlay new present → length last ≡ length present
copied_length new present last h e = length_kept new present last h (e ∙ overlaid new present h)

pub copied_present : {new : List ℕ} {S : State} (old : List ℕ) {last : List ℕ} → Present new S → length old ≡ byte_limit → last ≡ overlay new old → Present (take (length new) last) S × (length last ≡ byte_limit)
copied_present {new} old {last} p h e =
    let w : length new ≤ length old = omega (arith, p.short) in
    (rw (copied_front new old last w e) p, copied_length new old last w e ∙ h)
