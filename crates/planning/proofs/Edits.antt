-- What `edit` makes of a list is what the rules make of it.
use mathlib.Core.Path.{◌≡◌, refl, sym, ap, ◌∙◌, subst, fun_ext}
use mathlib.Core.Bool.{Bool, true, false, false≢true}
use mathlib.Core.Logic.{inl, ⊎_elim}
use mathlib.Core.List.{List, [], ◌∷◌}
use mathlib.Core.Option.{some, some-injective}
use Rattle.std.specs.Prelude.{Option, Some, None, IfSome}
use Prim.Native.Nat.{ℕ, ◌+◌, ◌≤◌, ◌<◌}
use native.Mathlib.Omega.{arith}
use borrow.Author.Tests.{eqb-true}
use lib.Dec.{ltb, eqb}
use lib.ListN.{length}
use Rattle.calculus.specs.Processes.{Reference, name, variable, Action, sibling_output, parent_output, internal_input, external_input, enter, leave, accept, release, Process, binders, rename, assign, reverse_onto, receive}
use Rattle.calculus.proofs.Renaming.{rename_identity_law}
use Rattle.machine.specs.Elements.{Status, unblocked, blocked, Elements, empty, Element, ambient_element, only, standing, Position, into, element_at, AllBlocked}
use Rattle.machine.specs.Rules.{Replace, Anywhere, directly, Meets, rules35_36, rules37_38, rules39_40, rules41_42}
use Rattle.machine.specs.Positions.{replace_at}
use Rattle.machine.specs.Tests.{pick}
use Rattle.machine.specs.Validity.{Graded}
use Rattle.machine.proofs.Tests.{or_true}
use Rattle.machine.proofs.search.Numbers.{numbers_differ}
use Rattle.machine.proofs.Lists.{replace_has, replace_both_both}
use Rattle.machine.proofs.Places.{element_at_at, element_at_law, has_element_at, anywhere_element_at, element_at_anywhere}
use Rattle.machine.proofs.Elementwise.{has_one}
use Rattle.machine.proofs.Graded.{ElementBlocked, ElementGraded, graded_elementwise, anywhere_active, OneActs, meets_active}
use Rattle.machine.proofs.Meeting.{both_left, both_right, same_action, meeting_acts}
use Rattle.format.specs.Spellable.{SpellableAction}
use Rattle.format.proofs.Spellable.{spellable_action}
use Rattle.elements.specs.Spelling.{SpellableElements}
use Rattle.format.specs.Kinds.{handed}
use Rattle.rewriting.specs.declared.Plan.{Plan}
use Rattle.places.specs.declared.Spot.{Spot}
use Rattle.places.specs.Offsets.{width, by_bytes, offset, spot_of}
use Rattle.turning.specs.Turning.{given, turned, Takes, Suited}
use Rattle.turning.proofs.Turned.{given_none, given_bound}
use Rattle.rewriting.specs.Editing.{stands_at, marked, edit, carried, Suits}
use Rattle.planning.specs.Plans.{cut_by, after_by, PlanOf}
use Rattle.planning.specs.Choices.{Admitting, SetDown}
use Rattle.places.proofs.Offsets.{bytes_number, offset_shift, element_at_within, has_within, offset_inward, spot_offset}
use Rattle.elements.proofs.Spellable.{ElementSpellable, spellable_elementwise}
use Rattle.places.proofs.Widths.{bytes, width_ambient, width_least}
use Rattle.planning.proofs.Editing.{Each, each_map, Among, Marks, among_here, among_wider, among_other, unblock_if, edited, unmarked, marks, held_mark, nothing_behind, edited_turned, edited_held, replace_edit}
use Rattle.planning.proofs.Holders.{holder, holder_offset, anchor}
use Rattle.planning.proofs.Plans.{Fixed, each_of, fixed_at, among_at, if_picked, set_down, sets_down}
use Rattle.planning.proofs.Lengths.{bytes_empty, bytes_ambient, replace_within}
use Rattle.planning.proofs.Rules.{Makes, siblings_edit, parent_edit, enter_edit, leave_edit}

-- An ambient around what is changed stays unblocked

opened : (s : Status) (a : Reference) (A : Elements) → ElementGraded (ambient_element s a A) → ¬ AllBlocked A → (s ≡ unblocked) × Graded A
unfolding ElementGraded
opened unblocked a A g n = (refl, g)
opened blocked a A g n = absurd (n g)

around_edit : {s : Status} {a : Reference} {A A' L L' : Elements} {p : Position} (k : Plan) (ns : List Reference) (Z : Elements) (o m : ℕ) →
    Replace (ambient_element s a A) (only (ambient_element s a A')) p L L' → Graded L → ¬ AllBlocked A →
    Each (Among o (o + bytes L) (offset o L p + 5) (bytes A)) k → Marks k m → (offset o L p + 5 ≤ m) × (m < offset o L p + 5 + bytes A) →
    (Graded A → edit k ns Z false (offset o L p + 5) A ≡ A') → edit k ns Z false o L ≡ L'
unfolding unblock_if
around_edit {s} {a} {A} {A'} {L} {L'} {p} k ns Z o m r g n e y h f =
    let c = offset o L p in
    let v = width_ambient s a A in
    let i = has_within o (replace_has r) in
    let t = opened s a A (has_one graded_elementwise (replace_has r) g) n in
    let x = each_map (among_other o (o + bytes L) (c + 5) (bytes A) c (omega arith) (omega arith) (omega arith)) e in
    replace_edit k ns Z false o r
    (each_map (among_wider o (o + bytes L) (c + 5) (bytes A) c (width (ambient_element s a A)) (omega arith) (omega arith)) e)
    (nothing_behind k Z c (edited k ns Z false c (ambient_element s a A)) x.after
    ∙ edited_held k ns Z false c s a A (unmarked k c x.first x.second) x.cut (held_mark k c m (c + width (ambient_element s a A)) (omega arith) (omega arith) y)
    ∙ ap (λ (B : Elements). only (ambient_element unblocked a B)) (f t.1) ∙ ap (λ u. only (ambient_element u a A')) (sym t.0))

-- One element

abbrev Alone : Bool → List Reference → Element → Elements → Type 0
Alone b ns E X = (X ≡ turned b ns E) × ¬ ElementBlocked E

one_edit : (k : Plan) (ns : List Reference) (Z : Elements) {π : Position} {L L' : Elements} → Anywhere (Alone k.block ns) π L L' → (o : ℕ) → Graded L →
    Fixed k (offset o L π) None None None → edit k ns Z false o L ≡ L'
unfolding unblock_if
one_edit k ns Z {L = L} (directly {E = E} {p = p} x r) o g y =
    let c = offset o L p in
    let i = has_within o (replace_has r) in
    replace_edit k ns Z false o r (each_of y (among_here c E) tt tt tt)
    (nothing_behind k Z c (edited k ns Z false c E) (rw y.sets tt) ∙ edited_turned k ns Z false c E (marks k c (inl y.turns)) ∙ sym x.0)
one_edit k ns Z {L = L} (Anywhere.rule27 {s = s} {a = a} {A = A} {A' = A'} {p = p} {π = π} d r) o g y =
    let c = offset o L p in
    let i = has_within o (replace_has r) in
    let v = width_ambient s a A in
    let t = anywhere_element_at d in
    let j = element_at_within (c + 5) A π t.0 t.3 in
    let x = width_least t.0 in
    let y' = subst (λ m. Fixed k m None None None) (offset_inward o L p π (has_element_at (replace_has r))) y in
    around_edit k ns Z o (offset (c + 5) A π) r g (anywhere_active (λ E X z. z.1) d)
    (each_of y' (inl (omega arith)) tt tt tt) (inl y'.turns) (omega arith)
    (λ h. one_edit k ns Z d (c + 5) h y')

pub edit_one : (L : Elements) (π : Position) (E : Element) (k : Plan) (ns : List Reference) → element_at L π ≡ some E → Graded L → ¬ ElementBlocked E →
    k.first ≡ offset 7 L π → k.second ≡ None → k.cut ≡ None → k.after ≡ None → edit k ns empty false 7 L ≡ replace_at L π (turned k.block ns E)
edit_one L π E k ns e h n f g c a =
    one_edit k ns empty (element_at_anywhere L π E (turned k.block ns E) e (refl, n)) 7 h (record { turns = f; answers = g; cuts = c; sets = a })

-- The names handed over

-- no names for no variables
received_nothing : (Q : Process) → rename (receive []) Q ≡ Q
unfolding receive reverse_onto assign
received_nothing Q = ap (λ σ. rename σ Q) (fun_ext (elim [ name n ↦ refl | variable i ↦ refl ])) ∙ rename_identity_law Q

received : (ns : List Reference) (α : Action) (Q : Process) → binders α ≡ length ns → given ns α Q ≡ rename (receive ns) Q
received [] α Q e = given_none [] α Q e ∙ sym (received_nothing Q)
received (n ∷ ns) α Q e = given_bound (n ∷ ns) α Q (λ z. omega (arith, z, e))

-- the sender or mover binds no variable, and the other one for each name
binds_both : {s t : Status} {n : ℕ} {σ ρ : Position} {L L' : Elements} (m : Meets s t n σ ρ L L') →
    (binders (meeting_acts m).0 ≡ 0) × (binders (meeting_acts m).1 ≡ length (handed (meeting_acts m).0))
unfolding meeting_acts binders handed
binds_both (rules35_36 x ns P Q r r' h) = (refl, refl)
binds_both (rules37_38 x ns P Q r h) = (refl, refl)
binds_both (rules39_40 x P Q r r' h) = (refl, refl)
binds_both (rules41_42 x P Q r h r') = (refl, refl)
binds_both (Meets.rule27 d r) = binds_both d

-- Two that meet, at any depth

meets_edit : {s t : Status} {n : ℕ} {σ ρ : Position} {L L' : Elements} (k : Plan) (ns : List Reference) (Z : Elements) (m : Meets s t n σ ρ L L') → OneActs s t →
    (o : ℕ) → Graded L → k.block ≡ false → ns ≡ handed (meeting_acts m).0 →
    Fixed k (offset o L σ) (Some (offset o L ρ)) (pick (ltb n 39) None (Some (offset o L (holder m).position))) (pick (ltb n 39) None (Some (offset o L (anchor m).position))) →
    Z ≡ set_down (ltb n 39) k ns (offset o L (holder m).position) (holder m) → Makes k ns Z o L L'
unfolding given binders handed meeting_acts holder anchor
meets_edit {s} {t} {L = L} k ns Z (rules35_36 x sent P Q {b = b} {i = i} {j = j} {p = p} {q = q} r r' h) one o g z e y m =
    let h' = replace_both_both h in (
      siblings_edit k ns Z o s t (sibling_output b x sent) (external_input x (length sent)) P Q (rename (receive sent) Q) r r' h z refl
          (received ns (external_input x (length sent)) Q (ap length (sym e)) ∙ ap (λ (l : List Reference). rename (receive l) Q) e)
          (fixed_at y (offset_inward o L p i (has_element_at (both_left h'))) (ap Some (offset_inward o L q j (has_element_at (both_right h')))) refl refl),
      omega (arith, ap bytes m, bytes_empty),
    )
meets_edit {s} {t} {L = L} k ns Z (rules37_38 x sent P Q {i = i} {p = p} r h) one o g z e y m =
    let h' = replace_both_both h in (
      parent_edit k ns Z o s t (parent_output x sent) (internal_input x (length sent)) P Q (rename (receive sent) Q) r h z refl
          (received ns (internal_input x (length sent)) Q (ap length (sym e)) ∙ ap (λ (l : List Reference). rename (receive l) Q) e)
          (fixed_at y (offset_inward o L p i (has_element_at (both_left h'))) refl refl refl),
      omega (arith, ap bytes m, bytes_empty),
    )
meets_edit {s} {t} {L = L} k ns Z (rules39_40 x P Q {b = b} {i = i} {j = j} {p = p} {q = q} r r' h) one o g z e y m =
    let h' = replace_both_both h in
    let d = ap Some (offset_inward o L q j (has_element_at (both_right h'))) in
    enter_edit k ns Z o s t (enter b x) (accept x) P Q r r' h z refl refl (fixed_at y (offset_inward o L p i (has_element_at (both_left h'))) d refl d) m
meets_edit {s} {t} {L = L} k ns Z (rules41_42 x P Q {u = u} {a = a} {A = A} {B = B} {i = i} {p = p} {q = q} {r = j} r h r') one o g z e y m =
    let c = has_element_at (both_left (replace_both_both h)) in
    let d = has_element_at (replace_has r') in
    leave_edit k ns Z o s t (leave x) (release x) P Q r h r' z refl refl
    (fixed_at y (offset_inward o L q (into p i) d ∙ offset_inward (offset o L q + 5) B p i c) (ap Some (offset_inward o L q j d)) (ap Some (offset_inward o L q p d)) refl)
    (m ∙ ap (λ (c : ℕ). only (carried k ns empty c (ambient_element u a A))) (offset_inward o L q p d))
meets_edit {s} {t} {n} {L = L} k ns Z (Meets.rule27 {u = u} {a = a} {A = A} {A' = A'} {p = p} {σ = σ} {ρ = ρ} d r) one o g z e y m =
    let b = has_element_at (replace_has r) in
    let c = offset o L p in
    let i = has_within o (replace_has r) in
    let v = width_ambient u a A in
    let x = meeting_acts d in
    let κ = holder d in
    let τ = anchor d in
    let set : ℕ → Option ℕ = λ m. pick (ltb n 39) None (Some m) in
    let y' = fixed_at y (offset_inward o L p σ b) (ap Some (offset_inward o L p ρ b)) (ap set (offset_inward o L p κ.position b)) (ap set (offset_inward o L p τ.position b)) in
    let hm = element_at_within (c + 5) A σ (standing s x.0 x.2) x.4 in
    let pm = width_least (standing s x.0 x.2) in
    let deeper = meets_edit k ns Z d one (c + 5) (opened u a A (has_one graded_elementwise (replace_has r) g) (meets_active one d)).1 z e y'
    (m ∙ ap (λ (c : ℕ). set_down (ltb n 39) k ns c κ) (offset_inward o L p κ.position b)) in
    let near = among_at o (o + bytes L) (c + 5) A in
    let picked = if_picked (Among o (o + bytes L) (c + 5) (bytes A)) (ltb n 39) in (
      around_edit k ns Z o (offset (c + 5) A σ) r g (meets_active one d)
          (each_of y' (near σ _ x.4) (near ρ _ x.5) (picked _ (near κ.position _ κ.stands)) (picked _ (near τ.position _ τ.stands)))
          (inl y'.turns) (omega arith)
          (λ h. deeper.0),
      omega (arith, deeper.1, bytes_ambient u a A', replace_within r),
    )

-- What stands at a position of a list, at any depth

action_spelled : (s : Status) (α : Action) (P : Process) → ElementSpellable (standing s α P) → SpellableAction 0 α
unfolding ElementSpellable standing
action_spelled unblocked α P h = (spellable_action 0 α P h).0
action_spelled blocked α P h = h.0

pub spelled_at : (L : Elements) (π : Position) (s : Status) (α : Action) (P : Process) → element_at L π ≡ some (standing s α P) → SpellableElements L → SpellableAction 0 α
unfolding ElementSpellable
spelled_at L π s α P e h = action_spelled s α P (element_at_law spellable_elementwise (λ u a A x. x.1) (element_at_at L π (standing s α P) e) h)

-- The bytes of an accepted state's root list

module _ {nest : ℕ} {s : List ℕ} {F N : ℕ} {L : Elements} (adm : Admitting nest s F N L) where
  pub bytes_spelled : length s ≡ bytes L
  bytes_spelled = ap length adm.spells.spelled

-- Names for the variables of what is turned

-- the root list starts seven bytes behind the first byte of the state
pub offset_front : (L : Elements) (π : Position) (E : Element) → element_at L π ≡ some E → 7 + offset 0 L π ≡ offset 7 L π
offset_front L π E e = sym (offset_shift 7 (element_at_at L π E e))

-- what stands at an offset has them
abbrev SuitedAt : Plan → List Reference → Elements → ℕ → Type 0
SuitedAt k ns L m = (π : Position) (E : Element) → element_at L π ≡ some E → offset 7 L π ≡ m → Suited k.block ns E

suited_at : (k : Plan) (ns : List Reference) (L : Elements) (κ : Position) (D : Element) → element_at L κ ≡ some D → Suited k.block ns D → SuitedAt k ns L (offset 7 L κ)
suited_at k ns L κ D d h π E e o =
    let z : offset 0 L π ≡ offset 0 L κ = omega (arith, o, offset_front L π E e, offset_front L κ D d) in
    subst (Suited k.block ns) (some-injective D E (sym d ∙ ap (element_at L) (sym (numbers_differ by_bytes bytes_number L π κ E D e d z)) ∙ e)) h

suited_option : (k : Plan) (ns : List Reference) (L : Elements) (p : Option ℕ) → IfSome p (SuitedAt k ns L) → (π : Position) (E : Element) → element_at L π ≡ some E → stands_at p (offset 7 L π) ≡ true → Suited k.block ns E
suited_option k ns L None f π E e m = absurd (false≢true m)
suited_option k ns L (Some q) f π E e m = f π E e (sym (eqb-true _ _ m))

suits_both : (k : Plan) (ns : List Reference) (L : Elements) → SuitedAt k ns L k.first → IfSome k.second (SuitedAt k ns L) → Suits k ns 7 L
unfolding marked
suits_both k ns L f g π E e m =
    ⊎_elim (λ h. f π E e (eqb-true _ _ h)) (λ h. suited_option k ns L k.second g π E e h) (or_true (eqb (offset 7 L π) k.first) (stands_at k.second (offset 7 L π)) m)

pub suits_one : (L : Elements) (π : Position) (E : Element) (k : Plan) (ns : List Reference) → element_at L π ≡ some E → Suited k.block ns E →
    k.first ≡ offset 7 L π → k.second ≡ None → Suits k ns 7 L
suits_one L π E k ns e h f g = suits_both k ns L (subst (SuitedAt k ns L) (sym f) (suited_at k ns L π E e h)) (rw g tt)

suited_standing : (k : Plan) (ns : List Reference) (s : Status) (α : Action) (P : Process) → k.block ≡ false → Takes ns α → Suited k.block ns (standing s α P)
unfolding Suited standing
suited_standing k ns unblocked α P e h = rw e h
suited_standing k ns blocked α P e h = h

suits_meets : {s t : Status} {n : ℕ} {σ ρ : Position} {L L' : Elements} (k : Plan) (ns : List Reference) (m : Meets s t n σ ρ L L') → k.block ≡ false → ns ≡ handed (meeting_acts m).0 →
    k.first ≡ offset 7 L σ → k.second ≡ Some (offset 7 L ρ) → Suits k ns 7 L
suits_meets {s} {t} {σ = σ} {ρ = ρ} {L = L} k ns m b e f g =
    let x = meeting_acts m in
    let i = binds_both m in
    suits_both k ns L
    (subst (SuitedAt k ns L) (sym f) (suited_at k ns L σ _ x.4 (suited_standing k ns s x.0 x.2 b (λ z. absurd (z i.0)))))
    (rw g (suited_at k ns L ρ _ x.5 (suited_standing k ns t x.1 x.3 b (λ z. ap length e ∙ sym i.1))))

pub edit_meets : {s t : Status} {n : ℕ} {σ ρ : Position} {L L' : Elements} {sender other : Spot} (α : Action) (P : Process) (k : Plan) → Meets s t n σ ρ L L' → OneActs s t → Graded L →
    element_at L σ ≡ some (standing s α P) → sender ≡ spot_of L σ → other ≡ spot_of L ρ → PlanOf n sender other k →
    Suits k (handed α) 7 L × (Z : Elements) × SetDown L k (handed α) Z × Makes k (handed α) Z 7 L L'
unfolding cut_by spot_of
edit_meets {s} {t} {n} {σ} {ρ} {L} α P k m one h e sp fo y =
    let x = meeting_acts m in
    let ns = handed α in
    let set : ℕ → Option ℕ = λ m. pick (ltb n 39) None (Some m) in
    let sent = ap handed (same_action s α x.0 P x.2 e x.4) in
    let c = y.cuts ∙ ap (cut_by n) sp ∙ ap set (ap (λ (k : ℕ). 7 + k) (holder_offset (holder m)) ∙ offset_front L (holder m).position _ (holder m).stands) in
    let f : Fixed k (offset 7 L σ) (Some (offset 7 L ρ)) (set (offset 7 L (holder m).position)) (set (offset 7 L (anchor m).position)) = record {
      turns = y.turns ∙ ap (λ (k : ℕ). 7 + k) (spot_offset L σ _ e sp) ∙ offset_front L σ _ e;
      answers = y.answers ∙ ap Some (ap (λ (k : ℕ). 7 + k) (spot_offset L ρ _ x.5 fo) ∙ offset_front L ρ _ x.5);
      cuts = c;
      sets = y.sets ∙ ap (after_by n) fo ∙ (anchor m).after 0 0 0 0 ∙ ap set (offset_front L (anchor m).position _ (anchor m).stands);
    } in (
      suits_meets k ns m y.meets sent f.turns f.answers,
      set_down (ltb n 39) k ns (offset 7 L (holder m).position) (holder m),
      sets_down (ltb n 39) k ns (holder m) c,
      meets_edit k ns _ m one 7 h y.meets sent f refl,
    )
