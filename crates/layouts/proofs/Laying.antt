-- Where the parts of a process stand, and that renaming changes the bytes of its references alone.
use mathlib.Core.Path.{◌≡◌, refl, sym, ap, ◌∙◌, subst}
use mathlib.Core.List.{List, [], ◌∷◌, ◌++◌, append_assoc, append-nil}
use Prim.Native.Nat.{ℕ, suc, ◌+◌, ◌/◌, ◌%◌, ◌≤◌, ◌<◌}
use native.Mathlib.Nat.{zero-add, suc-add}
use native.Mathlib.Omega.{arith}
use lib.ListN.{length, drop, get_or, length-append}
use Rattle.calculus.specs.Processes.{Reference, Action, sibling_output, parent_output, internal_input, external_input, enter, leave, accept, release, Process, null, parallel, restriction, ambient, action, replication, binders, Renaming, lift, lift_by, rename_all, rename_action, rename}
use Rattle.calculus.proofs.Renaming.{length_rename_all}
use Rattle.machine.specs.Elements.{depth}
use Rattle.machine.specs.Validity.{AllScoped, ActionScoped, ProcessScoped}
use Rattle.machine.specs.Kinds.{count, kind_of}
use Rattle.format.specs.Kinds.{action_tag, spelled_count, address_of, handed}
use Rattle.buffers.specs.Words.{word, field}
use Rattle.format.specs.Spelling.{encode_reference, encode_references, encode_action, encode}
use Rattle.format.specs.Spellable.{CountedAction, Counted}
use Rattle.layouts.specs.Layouts.{SpelledAction, Laid}
use Rattle.layouts.specs.Openings.{whole, first_of, between_of, second_of, opened_of}
use Rattle.layouts.specs.declared.Opened.{Opened}
use Rattle.format.proofs.Actions.{scoped_is, binders_few}
use Rattle.buffers.proofs.Parts.{length_field}
use Rattle.format.proofs.Readback.{length_reference, length_references}

-- Renaming keeps every length

pub references_kept : (ρ : Renaming) (rs : List Reference) → length (encode_references (rename_all ρ rs)) ≡ length (encode_references rs)
references_kept ρ rs = omega (arith, length_references (rename_all ρ rs), length_references rs, length_rename_all ρ rs)

pub action_renamed : (ρ : Renaming) (α : Action)
    → encode_action (rename_action ρ α) ≡ field (action_tag α) (encode_references (rename_all ρ (address_of α)) ++ (spelled_count α ++ encode_references (rename_all ρ (handed α))))
unfolding encode_action rename_action rename_all action_tag kind_of count address_of handed
action_renamed ρ (sibling_output a x ns) = rw (length_rename_all ρ ns)
action_renamed ρ (parent_output x ns) = rw (length_rename_all ρ ns)
action_renamed ρ (internal_input x k) = refl
action_renamed ρ (external_input x k) = refl
action_renamed ρ (enter a x) = refl
action_renamed ρ (leave x) = refl
action_renamed ρ (accept x) = refl
action_renamed ρ (release x) = refl

-- the references of an action with its count between them, and the same renamed

abbrev action_body : Action → List ℕ
action_body α = encode_references (address_of α) ++ (spelled_count α ++ encode_references (handed α))

abbrev renamed_body : Renaming → Action → List ℕ
renamed_body ρ α = encode_references (rename_all ρ (address_of α)) ++ (spelled_count α ++ encode_references (rename_all ρ (handed α)))

body_kept : (ρ : Renaming) (α : Action) → length (renamed_body ρ α) ≡ length (action_body α)
body_kept ρ α =
    omega (
      arith,
      length-append (encode_references (address_of α)) (spelled_count α ++ encode_references (handed α)),
      length-append (spelled_count α) (encode_references (handed α)),
      length-append (encode_references (rename_all ρ (address_of α))) (spelled_count α ++ encode_references (rename_all ρ (handed α))),
      length-append (spelled_count α) (encode_references (rename_all ρ (handed α))),
      references_kept ρ (address_of α),
      references_kept ρ (handed α),
    )

-- and with what is behind them
three_parts : (A C H P : List ℕ) → (A ++ (C ++ H)) ++ P ≡ A ++ (C ++ (H ++ P))
three_parts A C H P = append_assoc A (C ++ H) P ∙ ap (λ (l : List ℕ). A ++ l) (append_assoc C H P)

pub action_kept : (ρ : Renaming) (α : Action) → length (encode_action (rename_action ρ α)) ≡ length (encode_action α)
unfolding encode_action
action_kept ρ α =
    let k = action_tag α in
    ap length (action_renamed ρ α) ∙ length_field k (renamed_body ρ α) ∙ ap (λ (n : ℕ). 3 + n) (body_kept ρ α) ∙ sym (length_field k (action_body α))

pub length_rename : (ρ : Renaming) (P : Process) → length (encode (rename ρ P)) ≡ length (encode P)
unfolding encode rename field word
length_rename ρ null = refl
length_rename ρ (parallel P Q) =
    omega (arith, length_rename ρ P, length_rename ρ Q, length-append (encode P) (encode Q), length-append (encode (rename ρ P)) (encode (rename ρ Q)))
length_rename ρ (restriction P) = omega (arith, length_rename (lift ρ) P)
length_rename ρ (ambient a P) =
    omega (arith, length_rename ρ P, length_reference a, length_reference (ρ a), length-append (encode_reference a) (encode P), length-append (encode_reference (ρ a)) (encode (rename ρ P)))
length_rename ρ (action α P) =
    omega (arith, action_kept ρ α, length_rename (lift_by (binders α) ρ) P, length-append (encode_action α) (encode P), length-append (encode_action (rename_action ρ α)) (encode (rename (lift_by (binders α) ρ) P)))
length_rename ρ (replication α P) =
    omega (arith, action_kept ρ α, length_rename (lift_by (binders α) ρ) P, length-append (encode_action α) (encode P), length-append (encode_action (rename_action ρ α)) (encode (rename (lift_by (binders α) ρ) P)))

-- fields with bodies of one length differ in the bodies alone
pub headed : (tag : ℕ) (b c : List ℕ) → length c ≡ length b → field tag c ≡ (tag ∷ length b / 256 ∷ length b % 256 ∷ []) ++ c
unfolding field word
headed tag b c e = ap (λ (n : ℕ). tag ∷ n / 256 ∷ n % 256 ∷ c) e

-- the same of a field that begins with a field
twice_headed : (tag k : ℕ) (R Y Q Z : List ℕ) → length Q ≡ length R → length Z ≡ length Y
    → field tag (field k Q ++ Z)
    ≡ (tag ∷ length (field k R ++ Y) / 256 ∷ length (field k R ++ Y) % 256 ∷ k ∷ length R / 256 ∷ length R % 256 ∷ []) ++ (Q ++ Z)
unfolding field word
twice_headed tag k R Y Q Z e f =
    let l : length (field k Q ++ Z) ≡ length (field k R ++ Y) = omega (arith, length-append Q Z, length-append R Y) in
    ap (λ (n : ℕ). tag ∷ n / 256 ∷ n % 256 ∷ k ∷ length Q / 256 ∷ length Q % 256 ∷ (Q ++ Z)) l
    ∙ ap (λ (n : ℕ). tag ∷ length (field k R ++ Y) / 256 ∷ length (field k R ++ Y) % 256 ∷ k ∷ n / 256 ∷ n % 256 ∷ (Q ++ Z)) e

-- How each process lies

pub process_long : (P : Process) → 3 ≤ length (encode P)
unfolding encode field word
process_long null = omega arith
process_long (parallel P Q) = omega arith
process_long (restriction P) = omega arith
process_long (ambient a P) = omega arith
process_long (action α P) = omega arith
process_long (replication α P) = omega arith

pub restriction_of : (P : Process) → Counted P → get_or (encode P) 0 0 ≡ 0x22 → Laid (encode P) P 3 3 3 3 1
unfolding encode rename field word ProcessScoped Counted AllScoped encode_references rename_all lift_by depth
restriction_of null u h = absurd (omega arith)
restriction_of (parallel P Q) u h = absurd (omega arith)
restriction_of (restriction P) u h = record {
  front = 0x22 ∷ length (encode P) / 256 ∷ length (encode P) % 256 ∷ [];
  first = [];
  between = [];
  second = [];
  after = P;
  bytes = refl;
  starts = refl;
  halves = refl;
  resumes = refl;
  ends = refl;
  long = omega arith;
  few = omega arith;
  scoped_references = λ N d i. (tt, tt);
  scoped_after = λ N d i. rw (suc-add, zero-add) i;
  counted = u;
  deep = refl;
  renamed = λ ρ. headed 0x22 (encode P) (encode (rename (lift ρ) P)) (length_rename (lift ρ) P);
}
restriction_of (ambient a P) u h = absurd (omega arith)
restriction_of (action α P) u h = absurd (omega arith)
restriction_of (replication α P) u h = absurd (omega arith)

pub ambient_of : (P : Process) → Counted P → get_or (encode P) 0 0 ≡ 0x23 → Laid (encode P) P 3 5 5 5 0
unfolding encode rename field word ProcessScoped Counted AllScoped encode_references rename_all lift_by depth
ambient_of null u h = absurd (omega arith)
ambient_of (parallel P Q) u h = absurd (omega arith)
ambient_of (restriction P) u h = absurd (omega arith)
ambient_of (ambient a P) u h =
    let b = encode_reference a ++ encode P in
    record {
      front = 0x23 ∷ length b / 256 ∷ length b % 256 ∷ [];
      first = a ∷ [];
      between = [];
      second = [];
      after = P;
      bytes = ap (λ (l : List ℕ). (0x23 ∷ length b / 256 ∷ length b % 256 ∷ []) ++ (l ++ encode P)) (sym (append-nil (encode_reference a)));
      starts = refl;
      halves = omega (arith, length_references (a ∷ []));
      resumes = refl;
      ends = refl;
      long = omega arith;
      few = omega arith;
      scoped_references = λ N d i. ((i.0, tt), tt);
      scoped_after = λ N d i. rw zero-add i.1;
      counted = u;
      deep = refl;
      renamed = λ ρ.
          headed 0x23 b (encode_reference (ρ a) ++ encode (rename ρ P))
          (omega (arith, length-append (encode_reference a) (encode P), length-append (encode_reference (ρ a)) (encode (rename ρ P)), length_reference a, length_reference (ρ a), length_rename ρ P))
          ∙ ap (λ (l : List ℕ). (0x23 ∷ length b / 256 ∷ length b % 256 ∷ []) ++ (l ++ encode (rename ρ P))) (sym (append-nil (encode_reference (ρ a))));
    }
ambient_of (action α P) u h = absurd (omega arith)
ambient_of (replication α P) u h = absurd (omega arith)

-- an action, or a replication, Q
module _ (tag : ℕ) (Q : Process) (α : Action) (P : Process) (e : encode Q ≡ field tag (encode_action α ++ encode P))
    (f : (ρ : Renaming) → encode (rename ρ Q) ≡ field tag (encode_action (rename_action ρ α) ++ encode (rename (lift_by (binders α) ρ) P)))
    (g : (N d : ℕ) → ProcessScoped N d Q → ActionScoped N d α × ProcessScoped N (binders α + d) P) (y : depth Q ≡ suc (depth P)) where
  acting_of : (r : Opened) (bound : ℕ) → r ≡ opened_of (whole α) → bound ≡ binders α → CountedAction α → Counted P
      → Laid (encode Q) Q 6 (3 + r.middle) (3 + r.next) (3 + r.end) bound
  unfolding encode_action first_of between_of second_of
  acting_of r bound o j u v =
      let m = ap (λ (x : Opened). x.middle) o in
      let n = ap (λ (x : Opened). x.next) o in
      let i = ap (λ (x : Opened). x.end) o in
      let k = action_tag α in
      let R = action_body α in
      let l = length (field k R ++ encode P) in
      let H = tag ∷ l / 256 ∷ l % 256 ∷ k ∷ length R / 256 ∷ length R % 256 ∷ [] in
      record {
        front = H;
        first = address_of α;
        between = spelled_count α;
        second = handed α;
        after = P;
        bytes =
            e ∙ twice_headed tag k R (encode P) R (encode P) refl refl
            ∙ ap (λ (x : List ℕ). H ++ x) (three_parts (encode_references (address_of α)) (spelled_count α) (encode_references (handed α)) (encode P));
        starts = refl;
        halves = omega (arith, m);
        resumes = omega (arith, m, n);
        ends = omega (arith, n, i);
        long = omega arith;
        few = omega (arith, j, binders_few α u);
        scoped_references = λ N d s. (scoped_is N d α).0 (g N d s).0;
        scoped_after = λ N d s. subst (λ (m : ℕ). ProcessScoped N (m + d) P) (sym j) (g N d s).1;
        counted = v;
        deep = y;
        renamed = λ ρ.
            f ρ ∙ ap (λ (x : List ℕ). field tag (x ++ encode (rename (lift_by (binders α) ρ) P))) (action_renamed ρ α)
            ∙ twice_headed tag k R (encode P) (renamed_body ρ α) (encode (rename (lift_by (binders α) ρ) P)) (body_kept ρ α) (length_rename (lift_by (binders α) ρ) P)
            ∙ ap (λ (x : List ℕ). H ++ x)
            (three_parts (encode_references (rename_all ρ (address_of α))) (spelled_count α) (encode_references (rename_all ρ (handed α))) (encode (rename (lift_by (binders α) ρ) P)))
            ∙ ap (λ (m : ℕ). H ++ (encode_references (rename_all ρ (address_of α)) ++ (spelled_count α ++ (encode_references (rename_all ρ (handed α)) ++ encode (rename (lift_by m ρ) P))))) (sym j);
      }

pub other_of : (P : Process) (r : Opened) (bound : ℕ)
    → ((α : Action) (rest : List ℕ) → drop 3 (encode P) ≡ encode_action α ++ rest → (r ≡ opened_of (whole α)) × (bound ≡ binders α))
    → Counted P → 0x23 < get_or (encode P) 0 0 → Laid (encode P) P 6 (3 + r.middle) (3 + r.next) (3 + r.end) bound
unfolding encode rename field word ProcessScoped Counted depth
other_of null r b i u h = absurd (omega arith)
other_of (parallel P Q) r b i u h = absurd (omega arith)
other_of (restriction P) r b i u h = absurd (omega arith)
other_of (ambient a P) r b i u h = absurd (omega arith)
other_of (action α P) r b i u h = let t = i α (encode P) refl in acting_of 0x24 (action α P) α P refl (λ ρ. refl) (λ N d s. s) refl r b t.0 t.1 u.0 u.1
other_of (replication α P) r b i u h = let t = i α (encode P) refl in acting_of 0x25 (replication α P) α P refl (λ ρ. refl) (λ N d s. s) refl r b t.0 t.1 u.0 u.1

pub action_of : (P : Process) → 0x23 < get_or (encode P) 0 0 → SpelledAction (drop 3 (encode P))
unfolding encode field word
action_of null h = absurd (omega arith)
action_of (parallel P Q) h = absurd (omega arith)
action_of (restriction P) h = absurd (omega arith)
action_of (ambient a P) h = absurd (omega arith)
action_of (action α P) h = record { doing = α; rest = encode P; spelled = refl }
action_of (replication α P) h = record { doing = α; rest = encode P; spelled = refl }
