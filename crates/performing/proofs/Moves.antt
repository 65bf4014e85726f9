-- What performing a move leaves, and the bytes of a state in which a move was taken.
use mathlib.Core.Path.{◌≡◌, sym, ap, ◌∙◌, subst}
use mathlib.Core.Bool.{true, false}
use mathlib.Core.List.{List}
use mathlib.Core.Option.{Option}
use Prim.Native.Nat.{ℕ, ◌≤◌}
use native.Mathlib.Omega.{arith}
use lib.ListN.{length}
use Rattle.machine.specs.Limits.{byte_limit, nesting_limit}
use Rattle.machine.specs.Elements.{Elements, state}
use Rattle.machine.specs.Stepping.{step}
use Rattle.machine.specs.Validity.{ValidWithin}
use Rattle.machine.proofs.Theorems.{steps_stay_valid}
use Rattle.elements.specs.Spelling.{encode_state, CountedState}
use Rattle.elements.proofs.Spellable.{spellable_elements}
use Rattle.buffers.specs.Buffers.{fits_in, fitting, Answered, Left}
use Rattle.buffers.proofs.Answers.{answered_as, answered_full, answered_fits}
use Rattle.buffers.proofs.Parts.{length_part, from}
use Rattle.planning.specs.declared.Move.{Move}
use Rattle.std.specs.Prelude.{Ok, Err}
use Rattle.refusals.specs.declared.Refusal.TheVariants.{NoRoom}
use Rattle.calls.specs.Steps.{stepped}
use Rattle.calls.specs.Calls.{Reply, reply_of}
use Rattle.calls.proofs.Theorems.{StateBytes}
use Rattle.substituting.specs.Substituting.{SpellsNames}
use Rattle.planning.specs.Choices.{Admitting, names_in, Drawn, Taken, Chooses}
use Rattle.renewing.specs.Renewing.{SpellsState}
use Rattle.performing.specs.Performing.{reply_in, Performing}
use Rattle.elements.proofs.States.{state_length}
use Rattle.renewing.proofs.Renewing.{state_parts, root_spelled}

-- A move that is performed, or refused with 13

module _ (rule : ℕ) (new out : List ℕ) {n : ℕ} (e : n ≡ length new) where
  pub full : fits_in byte_limit (length out) n ≡ false → Answered reply_of (fitting byte_limit (length out) rule new) out (reply_in (Err NoRoom)) out
  unfolding reply_in reply_of
  full f = answered_full reply_of byte_limit rule new out e f

  pub done : {last : List ℕ} {r : ℕ} → fits_in byte_limit (length out) n ≡ true → Left new out last r → Answered reply_of (fitting byte_limit (length out) rule new) out (reply_in (Ok (record { rule = rule; length = n }))) last
  unfolding reply_in reply_of
  done f l = rw e (answered_fits reply_of byte_limit rule new out e f l.written)

pub drawn_long : {F N : ℕ} {L L' : Elements} {m : Move} (F' N' : ℕ) → Drawn F N L m L' → m.length ≡ length (encode_state (state F' N' L'))
drawn_long {L' = L'} F' N' d = d.measured ∙ sym (state_length F' N' L')

-- the names that are put for variables, in the bytes of the state
module _ {s : List ℕ} {F N : ℕ} {L L' : Elements} {m : Move} (p : SpellsState s F N L) (d : Drawn F N L m L') where
  pub drawn_ends : m.plan.past ≤ length s
  drawn_ends = omega (arith, d.naming.ends, (state_parts p).long)

  pub drawn_named : SpellsNames (names_in m.plan s) d.handed
  drawn_named = subst (λ (l : List ℕ). SpellsNames (names_in m.plan l) d.handed) (sym p.spelled) d.naming.named

-- The bytes of an admitted state, and a move that was taken in it

module _ {s : List ℕ} {F N : ℕ} {L : Elements} (h : StateBytes s (state F N L)) where
  pub state_spells : SpellsState s F N L
  unfolding ValidWithin CountedState
  state_spells = let v = h.1.valid in record { spelled = h.0; spellable = spellable_elements N v.few_names L v.scoped h.1.counted }

  pub admitting : Admitting nesting_limit (from s 7) F N L
  unfolding ValidWithin
  admitting = record { spells = root_spelled state_spells; valid = h.1.valid; short = omega (arith, length_part 7 s, h.2) }

  pub choosing : Chooses nesting_limit (from s 7) N
  choosing = record { free = F; tree = L; admitting = admitting }

  module _ {p : ℕ} {q : Option ℕ} {m : Move} (t : Taken nesting_limit F N L p q m) where
    pub performing : Performing s m
    unfolding ValidWithin
    performing =
        record {
          free = F;
          names = N;
          tree = L;
          spells = state_spells;
          short = h.2;
          result = t.result;
          drawn = t.drawn;
          few = (steps_stay_valid (state F N L) p q m.rule (state F m.names t.result) h.1.valid h.1.well_formed t.steps).0.few_names;
        }

    pub performed : {out last : List ℕ} {r : Reply} → ((F' N' : ℕ) (L L' : Elements) → SpellsState s F' N' L → Drawn F' N' L m L'
        → Answered reply_of (fitting byte_limit (length out) m.rule (encode_state (state F' m.names L'))) out r last)
        → Answered reply_of (stepped (length out) (step (state F N L) p q)) out r last
    unfolding stepped
    performed {out} f = answered_as reply_of (ap (stepped (length out)) t.steps) (f F N L t.result state_spells t.drawn)
