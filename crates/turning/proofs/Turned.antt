-- The process behind an action, as it is written where the action meets another.
use mathlib.Core.Path.{◌≡◌, refl, sym, ap, ◌∙◌}
use mathlib.Core.Bool.{Bool, true, false}
use mathlib.Core.List.{List, ◌++◌, append-nil}
use Prim.Native.Nat.{ℕ, ◌+◌, ◌-◌, ◌≤◌, ◌<◌}
use native.Mathlib.Nat.{add-zero}
use native.Mathlib.Omega.{arith}
use lib.ListN.{length, take, drop, length-append}
use lib.Dec.{eqb}
use lib.Seq.{drop_at}
use borrow.Author.Tests.{ne_eqb}
use Rattle.calculus.specs.Processes.{Reference, Action, Process, binders, rename, receive}
use Rattle.machine.specs.Limits.{byte_limit}
use Rattle.machine.specs.Elements.{Elements, process_element, ◌before◌, only}
use Rattle.machine.specs.Tests.{pick}
use Rattle.buffers.specs.Words.{word, field}
use Rattle.buffers.specs.Buffers.{Left}
use Rattle.buffers.proofs.Parts.{length_field, part_all, length_part, part_length, from}
use Rattle.buffers.proofs.Appending.{left_is}
use Rattle.format.specs.Spelling.{word_limit, encode_action, encode}
use Rattle.format.specs.Spellable.{CountedAction, Spellable}
use Rattle.format.specs.Reading.{word_at}
use Rattle.layouts.specs.Layouts.{SpelledAction}
use Rattle.layouts.proofs.Layouts.{action_ends}
use Rattle.format.proofs.Actions.{binders_few}
use Rattle.format.proofs.Spellable.{spellable_action}
use Rattle.layouts.proofs.Laying.{length_rename}
use Rattle.elements.specs.Spelling.{encode_elements}
use Rattle.substituting.specs.Substituting.{SpellsNames, Receiving}
use Rattle.turning.specs.Turning.{given, Takes}
use Rattle.turning.specs.Parts.{SpellsAction, Meeting}

-- The process is as it is behind an action that binds nothing, and has the names in it behind another

pub given_none : (ns : List Reference) (α : Action) (P : Process) → binders α ≡ 0 → given ns α P ≡ P
unfolding given
given_none ns α P h = rw h

pub given_bound : (ns : List Reference) (α : Action) (P : Process) → ¬ (binders α ≡ 0) → given ns α P ≡ rename (receive ns) P
unfolding given
given_bound ns α P h = rw (ne_eqb (binders α) 0 h)

pub length_given : (ns : List Reference) (α : Action) (P : Process) → length (encode (given ns α P)) ≡ length (encode P)
unfolding given
length_given ns α P = go (eqb (binders α) 0)
  where
    go : (t : Bool) → length (encode (pick t P (rename (receive ns) P))) ≡ length (encode P)
    go true = refl
    go false = length_rename (receive ns) P

-- under no binder more
pub under_none : (n : ℕ) (P : Process) → Spellable n P → Spellable (n + 0) P
under_none n P h = rw add-zero h

-- one process by itself
pub only_process : (P : Process) → field 0x42 (encode P) ≡ encode_elements (only (process_element P))
unfolding encode_elements ◌before◌
only_process P = sym (append-nil (field 0x42 (encode P)))

-- a field's body is what is behind its header
pub body_behind : {s : List ℕ} (tag : ℕ) (body : List ℕ) → s ≡ field tag body → from s 3 ≡ body
unfolding field word
body_behind {s = s} tag body e = part_all 3 s ∙ ap (drop 3) e

-- An action and the process behind it, from the fourth byte on, names for what the action binds, and what stands for the two.
pub record Meets (s : List ℕ) (ns : List Reference) (L : Elements) : Type 0 where
  pub doing : Action
  pub process : Process
  pub spells : SpellsAction (from s 3) doing process
  pub takes : Takes ns doing
  pub new : L ≡ only (process_element (given ns doing process))

-- there is room for the process where there is room for what it becomes
pub meets_requires : {s names : List ℕ} {ns : List Reference} {room : ℕ} {L : Elements} → SpellsNames names ns → Meets s ns L → length (encode_elements L) ≤ room → length s < byte_limit
    → Meeting (from s 3) names room
meets_requires {s = s} {ns = ns} n v f h =
    let P = given ns v.doing v.process in
    let e = ap (λ (K : Elements). length (encode_elements K)) v.new in
    record {
      handed = ns;
      named = n;
      doing = v.doing;
      process = v.process;
      spells = v.spells;
      takes = v.takes;
      fits = omega (arith, f, e, ap length (only_process P), length_field 0x42 (encode P), length_given ns v.doing v.process);
      short = omega (arith, h, part_length (length s - 3) 3 s);
    }

-- The bytes of an action and a process, with what they say

module _ (s : List ℕ) (len : ℕ) (k : len ≡ word_at s 1) where
  abbrev part : List ℕ
  part = take (length s - (3 + len)) (drop (3 + len) s)

  -- the process stands behind the action
  behind : (α : Action) (P : Process) → SpellsAction s α P → (3 + len ≤ length s) × (part ≡ encode P)
  behind α P v =
      let e = action_ends α s (encode P) v.spelled len k in (
        omega (arith, e, ap length v.spelled, length-append (encode_action α) (encode P)),
        part_all (3 + len) s ∙ ap (drop (3 + len)) v.spelled ∙ drop_at (encode_action α) (encode P) (3 + len) (sym e),
      )

  module _ {names : List ℕ} {room : ℕ} (p : Meeting s names room) where
    pub meeting_within : 3 + len ≤ length s
    meeting_within = (behind p.doing p.process p.spells).0

    pub meeting_room : (3 + length part ≤ room) × (length part < word_limit)
    meeting_room =
        let e : length part ≡ length (encode p.process) = ap length (behind p.doing p.process p.spells).1 in
        let m = part_length (length s - (3 + len)) (3 + len) s in
        (omega (arith, p.fits), omega (arith, p.short))

  module _ (bound : ℕ) (b : (α : Action) (rest : List ℕ) → s ≡ encode_action α ++ rest → bound ≡ binders α) (ns : List Reference) (α : Action) (P : Process) (v : SpellsAction s α P) (t : Takes ns α) where
    counted : CountedAction α
    counted = (spellable_action 0 α P v.spellable).0.1

    binds : bound ≡ binders α
    binds = b α (encode P) v.spelled

    taken : ¬ (bound ≡ 0) → length ns ≡ binders α
    taken h = t (λ e. h (binds ∙ e))

    under : ¬ (bound ≡ 0) → Spellable (length ns) P
    under h = rw (taken h, ← add-zero (binders α)) (spellable_action 0 α P v.spellable).1

    pub receiving : {names : List ℕ} → SpellsNames names ns → ¬ (bound ≡ 0) → length s < byte_limit → Receiving part names 0
    receiving n h l = record {
      handed = ns;
      named = n;
      process = P;
      spelled = (behind α P v).1;
      spellable = under_none (length ns) P (under h);
      short = omega (arith, taken h, binders_few α counted, length_part (3 + len) s, (behind α P v).0);
    }

    module _ {old last : List ℕ} {m : ℕ} where
      pub met_input : ¬ (bound ≡ 0)
          → ((Q : Process) → part ≡ encode Q → Spellable (length ns) Q → Left (field 0x42 (encode (rename (receive ns) Q))) old last m)
          → Left (encode_elements (only (process_element (given ns α P)))) old last m
      met_input h g =
          left_is (only_process (rename (receive ns) P) ∙ ap (λ (Q : Process). encode_elements (only (process_element Q))) (sym (given_bound ns α P (λ e. h (binds ∙ e)))))
          (g P (behind α P v).1 (under h))

      pub met_other : bound ≡ 0 → Left (field 0x42 part) old last m → Left (encode_elements (only (process_element (given ns α P)))) old last m
      met_other h l =
          left_is (ap (field 0x42) (behind α P v).1 ∙ only_process P ∙ ap (λ (Q : Process). encode_elements (only (process_element Q))) (sym (given_none ns α P (sym binds ∙ h)))) l

-- the bytes begin with an action
pub meeting_action : {s names : List ℕ} {room : ℕ} → Meeting s names room → SpelledAction s
meeting_action p = record { doing = p.doing; rest = encode p.process; spelled = p.spells.spelled }
