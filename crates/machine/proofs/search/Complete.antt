-- Each blocked action that meets another is an answer that the search finds.
use mathlib.Core.Path.{◌≡◌, refl, sym, ◌∙◌, ap, subst}
use mathlib.Core.Bool.{true}
use mathlib.Core.List.Memᴰ
use mathlib.Core.List.{map}
use mathlib.Core.Option.{Option, none, some}
use Prim.Native.Nat.{ℕ}
use lib.ListN.{length}
use Rattle.calculus.specs.Processes.{Reference, Action, sibling_output, parent_output, internal_input, external_input, enter, leave, accept, release, Process}
use Rattle.machine.specs.Elements.{Status, blocked, Elements, Element, ambient_element, blocked_element, standing, Position, here, into, Has, Both}
use Rattle.machine.specs.Rules.{Meets, rules35_36, rules37_38, rules39_40, rules41_42, rule27}
use Rattle.machine.specs.Kinds.{channel, count, kind_of, answering, standing_of, inside_only, names_holder, target}
use Rattle.machine.specs.Frames.{Frame, outermost, within, list_of, index_of, outer, holder, position_of, put, frame_by}
use Rattle.machine.specs.Answers.{aimed, called, Want, matches, holder_if, want_of, answers_in, answers_among, arena, allowed, look, look_from, seek}
use Rattle.machine.specs.Ordered.{Among}
use Rattle.machine.proofs.Lists.{whole, ahead, both_commutes, replace_has, replace_both_both}
use Rattle.machine.proofs.Meeting.{both_left, both_right, meeting_acts}
use Rattle.machine.proofs.Tests.{same_itself}
use Rattle.machine.proofs.search.Frames.{put_into, Frames, root_frames, inner_frames, put_at, frame_by_has, frame_by_into}
use Rattle.machine.proofs.search.Throughout.{direct_answers_in, held_answers_among, admits_any, admits_other}
use Rattle.machine.proofs.search.Wants.{want, itself_matches}

-- Frames of what meets

frame_held : {E : Element} {u : Status} {a : Reference} {A B : Elements} {p i : Position} (around : Position → Frame) → Has (ambient_element u a B) p A → Has E i B →
    frame_by around here A (into p i) ≡ within (around p) u a B i
unfolding ahead
frame_held {u = u} {a = a} {B = B} {p = p} {i = i} around h g = frame_by_into around i whole h ∙ frame_by_has (within (around p) u a B) whole g

as_blocked : (t : Status) (β : Action) (Q : Process) {j : Position} {B : Elements} → t ≡ blocked → Has (standing t β Q) j B → Has (blocked_element β Q) j B
unfolding standing
as_blocked t β Q {j} {B} e h = subst (λ (r : Status). Has (standing r β Q) j B) e h

held_beside : {E : Element} {v : Status} {b : Reference} {B L : Elements} {p q j : Position} {β : Action} {Q : Process} (w : Want) (n : Option Reference) →
    Both E (ambient_element v b B) p q L → Has (blocked_element β Q) j B → matches w β ≡ true → called n b ≡ true → Among (into q j) (answers_among w n (some p) L)
held_beside {b = b} {p = p} w n k h e c = held_answers_among w n (some p) (both_right k) h e (admits_other n b k ∙ c)

-- The action α at π of the list A finds what stands at κ.
abbrev pub Finds : (Position → Frame) → Elements → Position → Position → Action → Type 0
Finds around A π κ α = Among (put (around here) κ) (seek (frame_by around here A π) α)

-- A sender or mover α at σ and its partner β at ρ: each finds the other where that is blocked.
abbrev pub Partnered : (Position → Frame) → Elements → Status → Status → Position → Position → Action → Action → Type 0
Partnered around A s t σ ρ α β = (t ≡ blocked → Finds around A σ ρ α) × (s ≡ blocked → Finds around A ρ σ β)

module _ {L A : Elements} {around : Position → Frame} (w : Frames L A around) where
  has_framed : (p : Position) {D : Element} {q : Position} → Has D q A → Has D q (list_of (around p))
  has_framed p {D} {q} h = subst (λ (B : Elements). Has D q B) (sym (w.list p)) h

  both_framed : {E D : Element} {p q : Position} → Both E D p q A → Both E D (index_of (around p)) q (list_of (around p))
  both_framed {E} {D} {p} {q} k =
      subst (λ i. Both E D i q (list_of (around p))) (sym (w.index p)) (subst (λ (B : Elements). Both E D p q B) (sym (w.list p)) k)

  put_inner : (q r : Position) → put (around here) (into q r) ≡ into (position_of (around q)) r
  put_inner q r = w.put_same here q (into q r) ∙ put_into (around q) q r ∙ ap (λ z. into z r) (put_at w q)

  found_by : (π κ : Position) {μ : Position} {f : Frame} (α : Action) → frame_by around here A π ≡ f → put (around here) κ ≡ μ → Among μ (seek f α) → Finds around A π κ α
  found_by π κ α e z m = subst (λ (g : Frame). Among (put (around here) κ) (seek g α)) (sym e) (Memᴰ.cast z m)

  -- in two sibling ambients, of which α names the one that holds β
  partnered_siblings : (s t : Status) (α β : Action) (P Q : Process) {u v : Status} {a b : Reference} {B C : Elements} {i j p q : Position} →
      Both (ambient_element u a B) (ambient_element v b C) p q A → Has (standing s α P) i B → Has (standing t β Q) j C →
      ((f : Frame) → seek (within f u a B i) α ≡ map (put f) (answers_among (want (kind_of β) (channel β) (count β) none) (some b) (some (index_of f)) (list_of f))) →
      ((f : Frame) → seek (within f v b C j) β ≡ map (put f) (answers_among (want (kind_of α) (channel α) (count α) (some b)) none (some (index_of f)) (list_of f))) → aimed (some b) (target α) ≡ true →
      Partnered around A s t (into p i) (into q j) α β
  unfolding aimed called
  partnered_siblings s t α β P Q {b = b} {i = i} {j = j} {p = p} {q = q} k h g y z d = (
    λ e. found_by (into p i) (into q j) α (frame_held around (both_left k) h) (w.put_same here p (into q j))
        (rw (y (around p)) (Memᴰ.map (put (around p)) (held_beside _ (some b) (both_framed k) (as_blocked t β Q e g) (itself_matches β none refl) (same_itself b)))),
    λ e. found_by (into q j) (into p i) β (frame_held around (both_right k) g) (w.put_same here q (into p i))
        (rw (z (around q)) (Memᴰ.map (put (around q)) (held_beside _ none (both_framed (both_commutes k)) (as_blocked s α P e h) (itself_matches α (some b) d) refl))),
  )

  -- α in an ambient, and β beside that
  partnered_beside : (s t : Status) (α β : Action) (P Q : Process) {u : Status} {a : Reference} {B : Elements} {i p q : Position} →
      Both (ambient_element u a B) (standing t β Q) p q A → Has (standing s α P) i B →
      seek (within (around p) u a B i) α ≡ map (put (around p)) (answers_in (want (kind_of β) (channel β) (count β) none) (list_of (around p))) →
      seek (around q) β ≡ map (put (around q)) (answers_among (want (kind_of α) (channel α) (count α) none) none none (list_of (around q))) → Partnered around A s t (into p i) q α β
  unfolding aimed called ahead
  partnered_beside s t α β P Q {i = i} {p = p} {q = q} k h y z = (
    λ e. found_by (into p i) q α (frame_held around (both_left k) h) (w.put_same here p q)
        (rw y (Memᴰ.map (put (around p)) (direct_answers_in _ (has_framed p (as_blocked t β Q e (both_right k))) (itself_matches β none refl)))),
    λ e. found_by q (into p i) β (frame_by_has around whole (both_right k)) (w.put_same here q (into p i))
        (rw z (Memᴰ.map (put (around q)) (held_answers_among _ none none (has_framed q (both_left k)) (as_blocked s α P e h) (itself_matches α none refl) (admits_any p none _)))),
  )

  partnered_inside : {s t u : Status} {a : Reference} {B : Elements} {p : Position} (σ ρ : Position) (α β : Action) → Has (ambient_element u a B) p A →
      Partnered (within (around p) u a B) B s t σ ρ α β → Partnered around A s t (into p σ) (into p ρ) α β
  unfolding put ahead
  partnered_inside {p = p} σ ρ α β h x = (
    λ e. found_by (into p σ) (into p ρ) α (frame_by_into around σ whole h) (put_inner p ρ) (x.0 e),
    λ e. found_by (into p ρ) (into p σ) β (frame_by_into around ρ whole h) (put_inner p σ) (x.1 e),
  )

  ambient_frames : {u : Status} {a : Reference} {B : Elements} {p : Position} → Has (ambient_element u a B) p A → Frames L B (within (around p) u a B)
  ambient_frames {u} {a} {B} {p} h = inner_frames (w.framed p) (subst (λ i. Has (ambient_element u a B) i (list_of (around p))) (sym (w.index p)) (has_framed p h))

partnered_by : {L : Elements} {s : Status} {t : Status} {A A' : Elements} {around : Position → Frame} {n : ℕ} {σ ρ : Position} → Frames L A around → (m : Meets s t n σ ρ A A') →
    Partnered around A s t σ ρ (meeting_acts m).0 (meeting_acts m).1
unfolding meeting_acts seek look_from look kind_of answering standing_of inside_only names_holder want_of target holder_if holder arena outer allowed channel count aimed
partnered_by {s = s} {t = t} w (rules35_36 x ns P Q {b = b} r o k) =
    partnered_siblings w s t (sibling_output b x ns) (external_input x (length ns)) P Q (replace_both_both k) (replace_has r) (replace_has o) (λ f. refl) (λ f. refl) (same_itself b)
partnered_by {s = s} {t = t} w (rules37_38 x ns P Q r k) =
    partnered_beside w s t (parent_output x ns) (internal_input x (length ns)) P Q (replace_both_both k) (replace_has r) refl refl
partnered_by {s = s} {t = t} w (rules39_40 x P Q {b = b} r o k) =
    partnered_siblings w s t (enter b x) (accept x) P Q (replace_both_both k) (replace_has r) (replace_has o) (λ f. refl) (λ f. refl) (same_itself b)
partnered_by {s = s} {t = t} w (rules41_42 x P Q {i = i} {p = p} {r = j} r k o) =
    partnered_inside w (into p i) j (leave x) (release x) (replace_has o)
    (partnered_beside (ambient_frames w (replace_has o)) s t (leave x) (release x) P Q (replace_both_both k) (replace_has r) refl refl)
partnered_by w (rule27 {σ = σ} {ρ = ρ} m r) = partnered_inside w σ ρ (meeting_acts m).0 (meeting_acts m).1 (replace_has r) (partnered_by (ambient_frames w (replace_has r)) m)

pub meets_partnered : {s t : Status} {n : ℕ} {σ ρ : Position} {L L' : Elements} (m : Meets s t n σ ρ L L') → Partnered (outermost L) L s t σ ρ (meeting_acts m).0 (meeting_acts m).1
meets_partnered {L = L} m = partnered_by (root_frames L) m
