-- Each answer that the search finds meets the action.
use mathlib.Core.Path.{◌≡◌, sym, ◌∙◌, ap, subst}
use mathlib.Core.Bool.{true}
use mathlib.Core.List.Memᴰ
use mathlib.Core.Option.{Option, none, some}
use lib.ListN.{length}
use Rattle.calculus.specs.Processes.{Reference, Action, sibling_output, parent_output, internal_input, external_input, enter, leave, accept, release, Process}
use Rattle.calculus.specs.Redexes.{Level, plain, enclosed, sibling_outputs, parent_outputs, internal_inputs, external_inputs, enters, leaves, accepts, releases}
use Rattle.machine.specs.Elements.{Status, blocked, Elements, ambient_element, blocked_element, standing, Position, into, Has, Both, element_at}
use Rattle.machine.specs.Kinds.{Side, sender, receiver, side_of, channel, count, sibling, outside, child, kind_of, answering, standing_of, inside_only, names_holder, target}
use Rattle.machine.specs.Frames.{Frame, outermost, within, list_of, index_of, outer, holder, position_of, put}
use Rattle.machine.specs.Answers.{aimed, called, Want, matches, holder_if, want_of, answers_in, answers_among, arena, allowed, look, look_from, seek, answers}
use Rattle.machine.specs.Ordered.{Among}
use Rattle.machine.proofs.Lists.{both_commutes}
use Rattle.machine.proofs.BlockedPairs.{Pair, sibling_pair, parent_pair, enter_pair, leave_pair, has_action, both_action}
use Rattle.machine.proofs.WellFormed.{Meetable, pair_meets, enclosed_meets}
use Rattle.machine.proofs.Tests.{same_true}
use Rattle.machine.proofs.search.Frames.{put_index, put_held, Framed, at_root, in_ambient, Stands, frame_of_framed, placed, meetable_framed}
use Rattle.machine.proofs.search.Throughout.{ambient_not_standing, beside_action, has_both, has_same, answers_in_direct, Held, answers_among_held, admits_other, admitted_both}
use Rattle.machine.proofs.search.Wants.{formed, want, matches_true}

-- An action of that side and status at π meets a blocked one at κ.
abbrev pub MeetsAs : Side → Status → Position → Position → Elements → Type 0
MeetsAs sender s π κ L = Meetable s blocked π κ L
MeetsAs receiver s π κ L = Meetable blocked s κ π L

-- The two answer each other in one list; at the level enclosed they meet if that is in an ambient.
abbrev PairAs : Side → Status → Level → Position → Position → Elements → Type 0
PairAs sender s k π κ L = Pair s blocked k π κ L
PairAs receiver s k π κ L = Pair blocked s k κ π L

Encloses : Level → Frame → Type 0
Encloses plain f = Unit {0}
Encloses enclosed (outermost L i) = ⊥
Encloses enclosed (within f s a A i) = Unit {0}

pair_framed : {s t : Status} (k : Level) {L : Elements} {f : Frame} (σ ρ : Position) → Framed L f → Encloses k f → Pair s t k σ ρ (list_of f) → Meetable s t (put f σ) (put f ρ) L
unfolding Encloses list_of put
pair_framed plain σ ρ F c m = meetable_framed σ ρ F (pair_meets m)
pair_framed enclosed σ ρ (at_root i) c m = absurd c
pair_framed enclosed σ ρ (in_ambient {f = f} F h i) c m = placed (put_held f σ) (put_held f ρ) (meetable_framed (into (index_of f) σ) (into (index_of f) ρ) F (enclosed_meets h m))

pair_sound : (side : Side) (s : Status) (k : Level) {L : Elements} {f : Frame} (π κ : Position) {π' κ' : Position} → Framed L f → Encloses k f → put f π ≡ π' → put f κ ≡ κ' →
    PairAs side s k π κ (list_of f) → MeetsAs side s π' κ' L
pair_sound sender s k π κ F c e d m = placed e d (pair_framed k π κ F c m)
pair_sound receiver s k π κ F c e d m = placed d e (pair_framed k κ π F c m)

-- What the search finds meets the action, by where it looks, if all that is wanted there makes a pair with it

sound_sibling : (side : Side) (s : Status) {u : Status} {a : Reference} {A L : Elements} {g : Frame} (i κ : Position) (w : Want) (n : Option Reference) → Framed L g → Stands (ambient_element u a A) g →
    ((μ : Position) (f : Held w n (some (index_of g)) μ (list_of g)) → Both (ambient_element u a A) (ambient_element f.status f.name f.contents) (index_of g) f.around (list_of g) →
    called n f.name ≡ true → PairAs side s plain (into (index_of g) i) (into f.around f.position) (list_of g)) →
    Among κ (look_from sibling w n (some g)) → MeetsAs side s (into (position_of g) i) κ L
unfolding look_from look Encloses
sound_sibling side s {g = g} i κ w n F h pair m =
    let t = Memᴰ.of_map (put g) (answers_among w n (some (index_of g)) (list_of g)) m in
    let f = answers_among_held w n (some (index_of g)) t.0 (list_of g) t.1 in
    let d = admitted_both n f.name h f.stands f.admitted in
    pair_sound side s plain (into (index_of g) i) (into f.around f.position) F tt (put_held g i) (ap (put g) (sym f.located) ∙ t.2)
    (pair t.0 f d (sym (admits_other n f.name d) ∙ f.admitted))

sound_outside : {s u : Status} {a : Reference} {A L : Elements} {g : Frame} (k : Level) (i κ : Position) (w : Want) (n : Option Reference) → Framed L g → Encloses k g → Stands (ambient_element u a A) g →
    ((q : Position) (β : Action) (Q : Process) → Both (ambient_element u a A) (blocked_element β Q) (index_of g) q (list_of g) → matches w β ≡ true → Pair s blocked k (into (index_of g) i) q (list_of g)) →
    Among κ (look_from outside w n (some g)) → Meetable s blocked (into (position_of g) i) κ L
unfolding look_from look
sound_outside {s} {g = g} k i κ w n F c h pair m =
    let t = Memᴰ.of_map (put g) (answers_in w (list_of g)) m in
    let d = answers_in_direct w t.0 (list_of g) t.1 in
    pair_sound sender s k (into (index_of g) i) t.0 F c (put_held g i) t.2 (pair t.0 d.0 d.1 (beside_action h d.2) d.3)

sound_child : (s : Status) (α : Action) (P : Process) {L : Elements} {f : Frame} (k : Level) (κ : Position) (w : Want) (n : Option Reference) → Framed L f → Encloses k f → Stands (standing s α P) f →
    ((μ : Position) (g : Held w n none μ (list_of f)) → Both (ambient_element g.status g.name g.contents) (standing s α P) g.around (index_of f) (list_of f) →
    Pair blocked s k (into g.around g.position) (index_of f) (list_of f)) →
    Among κ (look_from child w n (some f)) → Meetable blocked s κ (position_of f) L
unfolding look_from look
sound_child s α P {f = f} k κ w n F c h pair m =
    let t = Memᴰ.of_map (put f) (answers_among w n none (list_of f)) m in
    let g = answers_among_held w n none t.0 (list_of f) t.1 in
    let d = has_both g.stands h (λ e. ambient_not_standing s g.status g.name g.contents α P (has_same g.stands h e)) in
    pair_sound receiver s k (index_of f) (into g.around g.position) F c (put_index f) (ap (put f) (sym g.located) ∙ t.2) (pair t.0 g d)

-- an answer that is held, as the action that is wanted
held_action : {n : Option Reference} {skip : Option Position} {μ : Position} {L : Elements} {w : Want} {β : Action} (f : Held w n skip μ L) → f.answer ≡ β →
    Has (standing blocked β f.process) f.position f.contents
unfolding standing
held_action f e = has_action blocked f.process e f.holds

-- Soundness

sound_framed : (s : Status) {L : Elements} (α : Action) (P : Process) {f : Frame} (κ : Position) → Framed L f → Stands (standing s α P) f → Among κ (seek f α) → MeetsAs (side_of α) s (position_of f) κ L
unfolding standing seek kind_of answering standing_of inside_only names_holder want_of target holder_if holder arena outer allowed channel count side_of called list_of index_of position_of look_from formed aimed Encloses
sound_framed s (internal_input x k) P κ F h m =
    sound_child s (internal_input x k) P plain κ (want parent_outputs x k none) none F tt h
    (λ μ f d. let r = matches_true f.answer f.wanted in parent_pair x r.handed f.process P (both_action s P (ap (internal_input x) r.counted) d) (held_action f r.formed_so)) m
sound_framed s (sibling_output c x ns) P κ (at_root i) h m = absurd (Memᴰ.not-nil m)
sound_framed s (sibling_output c x ns) P κ (in_ambient F g i) h m =
    sound_sibling sender s i κ (want external_inputs x (length ns) none) (some c) F g
    (λ μ f d y. sibling_pair x ns P f.process d (has_action s P (ap (λ b. sibling_output b x ns) (same_true c f.name y)) h) (held_action f (matches_true f.answer f.wanted).formed_so)) m
sound_framed s (external_input x k) P κ (at_root i) h m = absurd (Memᴰ.not-nil m)
sound_framed s (external_input x k) P κ (in_ambient {a = a} F g i) h m =
    sound_sibling receiver s i κ (want sibling_outputs x k (some a)) none F g
    (λ μ f d y.
    let r = matches_true f.answer f.wanted in
    let e = r.formed_so ∙ ap (λ b. sibling_output b x r.handed) (sym (same_true a r.to r.directed)) in
    sibling_pair x r.handed f.process P (both_commutes d) (held_action f e) (has_action s P (ap (external_input x) r.counted) h)) m
sound_framed s (enter c x) P κ (at_root i) h m = absurd (Memᴰ.not-nil m)
sound_framed s (enter c x) P κ (in_ambient F g i) h m =
    sound_sibling sender s i κ (want accepts x 0 none) (some c) F g
    (λ μ f d y. enter_pair x P f.process d (has_action s P (ap (λ b. enter b x) (same_true c f.name y)) h) (held_action f (matches_true f.answer f.wanted).formed_so)) m
sound_framed s (accept x) P κ (at_root i) h m = absurd (Memᴰ.not-nil m)
sound_framed s (accept x) P κ (in_ambient {a = a} F g i) h m =
    sound_sibling receiver s i κ (want enters x 0 (some a)) none F g
    (λ μ f d y.
    let r = matches_true f.answer f.wanted in
    enter_pair x f.process P (both_commutes d) (held_action f (r.formed_so ∙ ap (λ b. enter b x) (sym (same_true a r.to r.directed)))) h) m
sound_framed s (parent_output x ns) P κ (at_root i) h m = absurd (Memᴰ.not-nil m)
sound_framed s (parent_output x ns) P κ (in_ambient F g i) h m =
    sound_outside plain i κ (want internal_inputs x (length ns) none) none F tt g (λ q β Q d e. parent_pair x ns P Q (both_action blocked Q (matches_true β e).formed_so d) h) m
sound_framed s (leave x) P κ (at_root i) h m = absurd (Memᴰ.not-nil m)
sound_framed s (leave x) P κ (in_ambient (at_root j) g i) h m = absurd (Memᴰ.not-nil m)
sound_framed s (leave x) P κ (in_ambient (in_ambient F k j) g i) h m =
    sound_outside enclosed i κ (want releases x 0 none) none (in_ambient F k j) tt g (λ q β Q d e. leave_pair x P Q (both_action blocked Q (matches_true β e).formed_so d) h) m
sound_framed s (release x) P κ (at_root i) h m = absurd (Memᴰ.not-nil m)
sound_framed s (release x) P κ (in_ambient F g i) h m =
    sound_child s (release x) P enclosed κ (want leaves x 0 none) none (in_ambient F g i) tt h (λ μ f d. leave_pair x f.process P d (held_action f (matches_true f.answer f.wanted).formed_so)) m

pub answers_sound : (s : Status) (L : Elements) (π : Position) (α : Action) (P : Process) (κ : Position) → element_at L π ≡ some (standing s α P) → Among κ (answers L π α) → MeetsAs (side_of α) s π κ L
unfolding answers
answers_sound s L π α P κ e m =
    let x = frame_of_framed L π (standing s α P) e in
    subst (λ p. MeetsAs (side_of α) s p κ L) x.positioned (sound_framed s α P κ x.framed x.stands m)
