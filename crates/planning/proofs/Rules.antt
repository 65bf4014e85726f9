-- The edits of rules 35 to 42, in the list where the two that meet stand.
use mathlib.Core.Path.{◌≡◌, refl, ap, ◌∙◌}
use mathlib.Core.Bool.{Bool, true, false}
use mathlib.Core.Logic.{inl, inr, ⊎_elim}
use mathlib.Core.List.{List}
use Prim.Native.Nat.{ℕ, ◌+◌, ◌≤◌, ◌<◌}
use native.Mathlib.Omega.{arith}
use Rattle.std.specs.Prelude.{Option, Some, None}
use Rattle.calculus.specs.Processes.{Reference, Action, Process}
use Rattle.machine.specs.Elements.{Status, unblocked, blocked, Elements, empty, Element, ambient_element, process_element, ◌before◌, ◌then◌, only, standing, Position, Both, unblock}
use Rattle.machine.specs.Rules.{Replace, ReplaceBoth}
use Rattle.machine.proofs.Lists.{only_then, replace_has, replace_both_both}
use Rattle.rewriting.specs.declared.Plan.{Plan}
use Rattle.places.specs.Offsets.{width, offset}
use Rattle.turning.specs.Turning.{given, turned}
use Rattle.rewriting.specs.Editing.{behind_at, edit, carried}
use Rattle.places.proofs.Widths.{bytes, width_ambient, width_least}
use Rattle.places.proofs.Offsets.{has_within, held_within, both_within, separate}
use Rattle.planning.proofs.Editing.{Each, each_map, Outside, outside_narrow, Among, Away, Marks, among_here, among_narrow, among_other, unblock_if, edited, placed, unmarked, marks, held_mark, nothing_behind, moved_behind, edited_turned, edited_cut, edited_held, replace_edit, both_edit, outside, in_first, in_second}
use Rattle.planning.proofs.Lengths.{bytes_ambient, bytes_before, replace_within, replace_both_within}
use Rattle.planning.proofs.Plans.{Fixed, each_of, fixed_unmarked}

-- An action that is met, in its list

met : (k : Plan) (ns : List Reference) (s : Status) (α : Action) (P : Process) → k.block ≡ false → turned k.block ns (standing s α P) ≡ only (process_element (given ns α P))
unfolding turned standing
met k ns unblocked α P e = rw e
met k ns blocked α P e = refl

placed_met : (k : Plan) (ns : List Reference) (Z : Elements) (w : Bool) (m : ℕ) (s : Status) (α : Action) (P : Process) → k.block ≡ false → Marks k m →
    placed k ns Z w m (standing s α P) ≡ only (process_element (given ns α P)) then behind_at k Z m
placed_met k ns Z w m s α P b y = ap (λ (Y : Elements). Y then behind_at k Z m) (edited_turned k ns Z w m (standing s α P) (marks k m y) ∙ met k ns s α P b)

-- An ambient at c that holds it

held_edit : (k : Plan) (ns : List Reference) (Z : Elements) (c : ℕ) (u : Status) (a : Reference) (s : Status) (α : Action) (P : Process) {X A A' : Elements} {i : Position} → Replace (standing s α P) X i A A' →
    k.block ≡ false → Marks k (offset (c + 5) A i) → Each (Among c (c + width (ambient_element u a A)) (offset (c + 5) A i) (width (standing s α P))) k →
    only (process_element (given ns α P)) then behind_at k Z (offset (c + 5) A i) ≡ X →
    placed k ns Z false c (ambient_element u a A) ≡ only (ambient_element unblocked a A')
unfolding unblock_if
held_edit k ns Z c u a s α P {A = A} {i = i} r b y e f =
    let m = offset (c + 5) A i in
    let h = held_within c u a (replace_has r) in
    let high = c + width (ambient_element u a A) in
    let v = width (standing s α P) in
    let x = each_map (among_other c high m v c (omega arith) (omega arith) (omega arith)) e in
    nothing_behind k Z c (edited k ns Z false c (ambient_element u a A)) x.after
    ∙ edited_held k ns Z false c u a A (unmarked k c x.first x.second) x.cut (held_mark k c m high (omega arith) (omega arith) y)
    ∙ ap (λ (B : Elements). only (ambient_element unblocked a B))
    (replace_edit k ns Z false (c + 5) r (each_map (among_narrow c high (c + 5) (c + 5 + bytes A) m v (omega arith) (omega arith)) e) (placed_met k ns Z false m s α P b y ∙ f))

-- nothing is set down behind the action, and its continuation is known
plain : {a : Option ℕ} (k : Plan) (Z : Elements) (m : ℕ) (P Q : Process) → k.after ≡ a → Away m a → P ≡ Q → only (process_element P) then behind_at k Z m ≡ only (process_element Q)
plain k Z m P Q a l e =
    nothing_behind k Z m (only (process_element P)) (rw a l) ∙ ap (λ R. only (process_element R)) e

-- of two separate elements of a list, neither holds an offset in the other
apart : (o : ℕ) {E D : Element} {p q : Position} {L : Elements} → Both E D p q L → (m n : ℕ) →
    (offset o L p ≤ m) × (m < offset o L p + width E) → (offset o L q ≤ n) × (n < offset o L q + width D) →
    Outside (offset o L p) (offset o L p + width E) n × Outside (offset o L q) (offset o L q + width D) m
apart o b m n x y = ⊎_elim (λ h. (inr (omega arith), inl (omega arith))) (λ h. (inl (omega arith), inr (omega arith))) (separate o b)

outside_ne : (low high m n : ℕ) → Outside low high n → low ≤ m → m < high → ¬ (m ≡ n)
outside_ne low high m n (inl h) l r = omega arith
outside_ne low high m n (inr h) l r = omega arith

-- 35 to 38: an action in an ambient, and one at n in another element of the list
hands_edit : (k : Plan) (ns : List Reference) (Z : Elements) (o n : ℕ) (s : Status) (α : Action) (P : Process) {u : Status} {a : Reference} {D : Element} {A A' Y L L' : Elements} {i p q : Position} →
    Replace (standing s α P) (only (process_element P)) i A A' → ReplaceBoth (ambient_element u a A) (only (ambient_element unblocked a A')) D Y p q L L' →
    k.block ≡ false → given ns α P ≡ P → (offset o L q ≤ n) × (n < offset o L q + width D) →
    Fixed k (offset (offset o L p + 5) A i) (Some n) None None → (Outside (offset o L q) (offset o L q + width D) (offset (offset o L p + 5) A i) → placed k ns Z false (offset o L q) D ≡ Y) →
    edit k ns Z false o L ≡ L'
unfolding unblock_if
hands_edit k ns Z o n s α P {u} {a} {A = A} {L = L} {i = i} {p = p} r x z f hn y e =
    let c = offset o L p in
    let m = offset (c + 5) A i in
    let h = both_within o (replace_both_both x) in
    let hm = held_within c u a (replace_has r) in
    let w = apart o (replace_both_both x) m n (omega arith) hn in
    both_edit k ns Z false o x
    (each_of y (in_first (omega arith) (omega arith)) (in_second (omega arith) (omega arith)) tt tt)
    (held_edit k ns Z c u a s α P r z (inl y.turns) (each_of y (among_here m (standing s α P)) (inr w.0) tt tt)
    (plain k Z m (given ns α P) P y.sets tt f))
    (e w.1)

-- 35 and 36
pub siblings_edit : (k : Plan) (ns : List Reference) (Z : Elements) (o : ℕ) (s t : Status) (α β : Action) (P Q R : Process) {u v : Status} {a b : Reference} {A A' B B' L L' : Elements} {i j p q : Position} →
    Replace (standing s α P) (only (process_element P)) i A A' → Replace (standing t β Q) (only (process_element R)) j B B' →
    ReplaceBoth (ambient_element u a A) (only (ambient_element unblocked a A')) (ambient_element v b B) (only (ambient_element unblocked b B')) p q L L' →
    k.block ≡ false → given ns α P ≡ P → given ns β Q ≡ R →
    Fixed k (offset (offset o L p + 5) A i) (Some (offset (offset o L q + 5) B j)) None None → edit k ns Z false o L ≡ L'
siblings_edit k ns Z o s t α β P Q R {v = v} {b = b} {B = B} {L = L} {j = j} {q = q} r r' x z f g y =
    let d = offset o L q in
    let n = offset (d + 5) B j in
    let h = both_within o (replace_both_both x) in
    let hn = held_within d v b (replace_has r') in
    hands_edit k ns Z o n s α P r x z f (omega arith) y (λ m.
    held_edit k ns Z d v b t β Q r' z (inr y.answers) (each_of y (inr m) (among_here n (standing t β Q)) tt tt)
    (plain k Z n (given ns β Q) R y.sets tt g))

-- 37 and 38
pub parent_edit : (k : Plan) (ns : List Reference) (Z : Elements) (o : ℕ) (s t : Status) (α β : Action) (P Q R : Process) {u : Status} {a : Reference} {A A' L L' : Elements} {i p q : Position} →
    Replace (standing s α P) (only (process_element P)) i A A' →
    ReplaceBoth (ambient_element u a A) (only (ambient_element unblocked a A')) (standing t β Q) (only (process_element R)) p q L L' →
    k.block ≡ false → given ns α P ≡ P → given ns β Q ≡ R →
    Fixed k (offset (offset o L p + 5) A i) (Some (offset o L q)) None None → edit k ns Z false o L ≡ L'
parent_edit k ns Z o s t α β P Q R {L = L} {q = q} r x z f g y =
    let n = offset o L q in
    let h = both_within o (replace_both_both x) in
    let w = width_least (standing t β Q) in
    hands_edit k ns Z o n s α P r x z f (omega arith) y (λ m.
    placed_met k ns Z false n t β Q z (inr y.answers) ∙ plain k Z n (given ns β Q) R y.sets tt g)

-- An ambient that moves

-- the list becomes L', with what is set down in it
abbrev pub Makes : Plan → List Reference → Elements → ℕ → Elements → Elements → Type 0
Makes k ns Z o L L' = (edit k ns Z false o L ≡ L') × (bytes Z ≤ bytes L')

-- what is set down, with its top level unblocked
moved_edit : (k : Plan) (ns : List Reference) (c n a : ℕ) (u : Status) (b : Reference) (s : Status) (α : Action) (P : Process) {A A' : Elements} {i : Position} → Replace (standing s α P) (only (process_element P)) i A A' →
    k.block ≡ false → given ns α P ≡ P → Fixed k (offset (c + 5) A i) (Some n) (Some c) (Some a) → Outside (c + 5) (c + 5 + bytes A) n → Outside (c + 5) (c + 5 + bytes A) a →
    only (carried k ns empty c (ambient_element u b A)) ≡ only (ambient_element unblocked b (unblock A'))
unfolding unblock_if unblock carried ◌before◌
moved_edit k ns c n a u b s α P {A = A} {i = i} r z f y on oa =
    let m = offset (c + 5) A i in
    let p = width_least (standing s α P) in
    let h = has_within (c + 5) (replace_has r) in
    ap (λ (B : Elements). only (ambient_element unblocked b B))
    (replace_edit k ns empty true (c + 5) r (each_of y (among_here m (standing s α P)) (inr on) (inr (inl (omega arith))) (inr oa))
    (placed_met k ns empty true m s α P z (inl y.turns) ∙ plain k empty m (given ns α P) P y.sets (outside_ne (c + 5) (c + 5 + bytes A) m a oa (omega arith) (omega arith)) f))

-- the place it leaves
cut_edit : (k : Plan) (ns : List Reference) (Z : Elements) (c m n a : ℕ) (u : Status) (b : Reference) (A : Elements) → Fixed k m (Some n) (Some c) (Some a) → ¬ (c ≡ m) → ¬ (c ≡ n) → ¬ (c ≡ a) →
    placed k ns Z false c (ambient_element u b A) ≡ empty
cut_edit k ns Z c m n a u b A y em en ea =
    nothing_behind k Z c (edited k ns Z false c (ambient_element u b A)) (rw y.sets ea) ∙ edited_cut k ns Z false c u b A (fixed_unmarked y em en) y.cuts

-- 39 and 40
pub enter_edit : (k : Plan) (ns : List Reference) (Z : Elements) (o : ℕ) (s t : Status) (α β : Action) (P Q : Process) {u v : Status} {a b : Reference} {A A' B B' L L' : Elements} {i j p q : Position} →
    Replace (standing s α P) (only (process_element P)) i A A' → Replace (standing t β Q) (process_element Q before only (ambient_element unblocked a (unblock A'))) j B B' →
    ReplaceBoth (ambient_element u a A) empty (ambient_element v b B) (only (ambient_element unblocked b B')) p q L L' →
    k.block ≡ false → given ns α P ≡ P → given ns β Q ≡ Q →
    Fixed k (offset (offset o L p + 5) A i) (Some (offset (offset o L q + 5) B j)) (Some (offset o L p)) (Some (offset (offset o L q + 5) B j)) →
    Z ≡ only (carried k ns empty (offset o L p) (ambient_element u a A)) → Makes k ns Z o L L'
unfolding unblock_if
enter_edit k ns Z o s t α β P Q {u} {v} {a} {b} {A} {A'} {B} {B'} {L} {L'} {i} {j} {p} {q} r r' x z f g y y' =
    let c = offset o L p in
    let d = offset o L q in
    let m = offset (c + 5) A i in
    let n = offset (d + 5) B j in
    let h = both_within o (replace_both_both x) in
    let hm = held_within c u a (replace_has r) in
    let hn = held_within d v b (replace_has r') in
    let va = width (ambient_element u a A) in
    let beside = apart o (replace_both_both x) in
    let nm = beside m n (omega arith) (omega arith) in
    let cn = beside c n (omega arith) (omega arith) in
    let away = outside_ne c (c + va) c n nm.0 (omega arith) (omega arith) in
    let deep = outside_narrow c (c + va) (c + 5) (c + 5 + bytes A) (omega arith) (omega arith) n nm.0 in
    let mover = ambient_element unblocked a (unblock A') in
    let is = y' ∙ moved_edit k ns c n n u a s α P r z f y deep deep in
    let is_within : bytes Z ≤ bytes L' = omega (arith, ap bytes is, bytes_before (process_element Q) (only mover), replace_within r', bytes_ambient unblocked b B', replace_both_within x) in (
      both_edit k ns Z false o x
          (each_of y (in_first (omega arith) (omega arith)) (in_second (omega arith) (omega arith)) (in_first (omega arith) (omega arith)) (in_second (omega arith) (omega arith)))
          (cut_edit k ns Z c m n n u a A y (omega arith) away away)
          (held_edit k ns Z d v b t β Q r' z (inr y.answers) (each_of y (inr nm.1) (among_here n (standing t β Q)) (inr cn.1) (among_here n (standing t β Q)))
          (ap (λ (Y : Elements). only (process_element (given ns β Q)) then Y) (moved_behind k Z n y.sets ∙ is)
          ∙ only_then (process_element (given ns β Q)) (only mover)
          ∙ ap (λ R. process_element R before only mover) g)),
      is_within,
    )

-- 41 and 42
pub leave_edit : (k : Plan) (ns : List Reference) (Z : Elements) (o : ℕ) (s t : Status) (α β : Action) (P Q : Process) {u v : Status} {a b : Reference} {A A' B B' L L' : Elements} {i p q j : Position} →
    Replace (standing s α P) (only (process_element P)) i A A' →
    ReplaceBoth (ambient_element u a A) empty (standing t β Q) (only (process_element Q)) p j B B' →
    Replace (ambient_element v b B) (ambient_element unblocked b B' before only (ambient_element unblocked a (unblock A'))) q L L' →
    k.block ≡ false → given ns α P ≡ P → given ns β Q ≡ Q →
    Fixed k (offset (offset (offset o L q + 5) B p + 5) A i) (Some (offset (offset o L q + 5) B j)) (Some (offset (offset o L q + 5) B p)) (Some (offset o L q)) →
    Z ≡ only (carried k ns empty (offset (offset o L q + 5) B p) (ambient_element u a A)) → Makes k ns Z o L L'
unfolding unblock_if
leave_edit k ns Z o s t α β P Q {u} {v} {a} {b} {A} {A'} {B} {B'} {L} {L'} {i} {p} {q} {j} r x r' z f g y y' =
    let d = offset o L q in
    let c = offset (d + 5) B p in
    let m = offset (c + 5) A i in
    let n = offset (d + 5) B j in
    let h = both_within (d + 5) (replace_both_both x) in
    let hm = held_within c u a (replace_has r) in
    let hd = has_within o (replace_has r') in
    let wb = width_ambient v b B in
    let pn = width_least (standing t β Q) in
    let va = width (ambient_element u a A) in
    let vb = width (ambient_element v b B) in
    let nm = (apart (d + 5) (replace_both_both x) c n (omega arith) (omega arith)).0 in
    let away = outside_ne c (c + va) c n nm (omega arith) (omega arith) in
    let deep = outside_narrow c (c + va) (c + 5) (c + 5 + bytes A) (omega arith) (omega arith) n nm in
    let inner : edit k ns Z false (d + 5) B ≡ B' =
    both_edit k ns Z false (d + 5) x
    (each_of y (in_first (omega arith) (omega arith)) (in_second (omega arith) (omega arith)) (in_first (omega arith) (omega arith)) (outside (inl (omega arith))))
    (cut_edit k ns Z c m n d u a A y (omega arith) away (omega arith))
    (placed_met k ns Z false n t β Q z (inr y.answers) ∙ plain k Z n (given ns β Q) Q y.sets (omega arith) g) in
    let mover = ambient_element unblocked a (unblock A') in
    let is = y' ∙ moved_edit k ns c n d u a s α P r z f y deep (inl (omega arith)) in
    let is_within : bytes Z ≤ bytes L' = omega (arith, ap bytes is, bytes_before (ambient_element unblocked b B') (only mover), replace_within r') in (
      replace_edit k ns Z false o r'
          (each_of y (inl (omega arith)) (inl (omega arith)) (inl (omega arith)) (inl (omega arith)))
          (ap (λ (Y : Elements). Y then behind_at k Z d)
          (edited_held k ns Z false d v b B (fixed_unmarked y (omega arith) (omega arith)) (rw y.cuts (λ e. omega arith)) (held_mark k d n (d + vb) (omega arith) (omega arith) (inr y.answers))
          ∙ ap (λ (C : Elements). only (ambient_element unblocked b C)) inner)
          ∙ ap (λ (Y : Elements). only (ambient_element unblocked b B') then Y) (moved_behind k Z d y.sets ∙ is)
          ∙ only_then (ambient_element unblocked b B') (only mover)),
      is_within,
    )
