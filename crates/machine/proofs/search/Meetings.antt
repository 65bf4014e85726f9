-- The answers to an action are what it can meet; blocked pairs are blocked actions with answers.
use mathlib.Core.Path.{◌≡◌, refl, subst}
use mathlib.Core.Option.{some}
use Prim.Native.Nat.{ℕ, suc}
use Rattle.calculus.specs.Processes.{Action, Process}
use Rattle.machine.specs.Elements.{Status, unblocked, blocked, Elements, blocked_element, standing, Position, into, element_at}
use Rattle.machine.specs.Rules.{Meets, rules35_36, rules37_38, rules39_40, rules41_42, rule27, Meeting, sender_acts, receiver_acts}
use Rattle.machine.specs.IllFormed.{IllFormed, bad_ambient, bad_enter, bad_leave, bad_sibling, bad_parent}
use Rattle.machine.specs.Kinds.{Side, sender, receiver, side_of}
use Rattle.machine.specs.Frames.{put, frame_of}
use Rattle.machine.specs.Ordered.{Among}
use Rattle.machine.specs.Answers.{answers}
use Rattle.machine.specs.Search.{AnswersMeet, AnswersBlocked, PairsAnswered, SendersSuffice}
use Rattle.machine.proofs.Lists.{replace_has, replace_both_both}
use Rattle.machine.proofs.Meeting.{same_action, meeting_acts}
use Rattle.machine.proofs.BlockedPairs.{sibling_pair, parent_pair, enter_pair, leave_pair}
use Rattle.machine.proofs.WellFormed.{Meetable, meetable_inside, pair_meets, enclosed_meets}
use Rattle.machine.proofs.search.Sound.{MeetsAs, answers_sound}
use Rattle.machine.proofs.search.Complete.{meets_partnered}

-- Meetings

as_meeting : (side : Side) (L : Elements) (π κ : Position) → MeetsAs side unblocked π κ L → (n : ℕ) × (L' : Elements) × Meeting n π κ L L'
as_meeting sender L π κ m = (m.0, m.1, sender_acts m.2)
as_meeting receiver L π κ m = (suc m.0, m.1, receiver_acts m.2)

meeting_answers : {n : ℕ} {π κ : Position} {L L' : Elements} (α : Action) (P : Process) → element_at L π ≡ some (standing unblocked α P) → Meeting n π κ L L' → Among κ (answers L π α)
unfolding answers frame_of put
meeting_answers {π = π} {κ = κ} {L = L} α P e (sender_acts m) =
    let t = meeting_acts m in
    subst (λ (β : Action). Among κ (answers L π β)) (same_action unblocked t.0 α t.2 P t.4 e) ((meets_partnered m).0 refl)
meeting_answers {π = π} {κ = κ} {L = L} α P e (receiver_acts m) =
    let t = meeting_acts m in
    subst (λ (β : Action). Among κ (answers L π β)) (same_action unblocked t.1 α t.3 P t.5 e) ((meets_partnered m).1 refl)

pub answers_meet : AnswersMeet
unfolding standing
answers_meet L π α P e κ = ((λ m. as_meeting (side_of α) L π κ (answers_sound unblocked L π α P κ e m)), (λ t. meeting_answers α P e t.2))

-- Answers are blocked actions

as_blocked : (side : Side) (s : Status) (L : Elements) (π κ : Position) → MeetsAs side s π κ L → (β : Action) × (Q : Process) × (element_at L κ ≡ some (blocked_element β Q))
unfolding standing
as_blocked sender s L π κ m = let t = meeting_acts m.2 in (t.1, t.3, t.5)
as_blocked receiver s L π κ m = let t = meeting_acts m.2 in (t.0, t.2, t.4)

pub answers_blocked : AnswersBlocked
answers_blocked s L π α P e κ m = as_blocked (side_of α) s L π κ (answers_sound s L π α P κ e m)

-- Blocked pairs

abbrev Pair : Elements → Type 0
Pair L = (σ ρ : Position) × Meetable blocked blocked σ ρ L

ill_formed_pair : {L : Elements} → IllFormed L → Pair L
unfolding standing
ill_formed_pair (bad_ambient {p = p} h i) = let t = ill_formed_pair i in (into p t.0, into p t.1, meetable_inside h t.2)
ill_formed_pair (bad_enter {x = x} {P = P} {Q = Q} {p = p} {q = q} {i = i} {j = j} w h g) = (into p i, into q j, pair_meets (enter_pair x P Q w h g))
ill_formed_pair (bad_leave {x = x} {P = P} {Q = Q} {p = p} {q = q} {i = i} {r = r} g w h) = (into q (into p i), into q r, enclosed_meets g (leave_pair x P Q w h))
ill_formed_pair (bad_sibling {x = x} {ns = ns} {P = P} {Q = Q} {p = p} {q = q} {i = i} {j = j} w h g) = (into p i, into q j, pair_meets (sibling_pair x ns P Q w h g))
ill_formed_pair (bad_parent {x = x} {ns = ns} {P = P} {Q = Q} {p = p} {q = q} {i = i} w h) = (into p i, q, pair_meets (parent_pair x ns P Q w h))

meets_ill_formed : {n : ℕ} {σ ρ : Position} {L L' : Elements} → Meets blocked blocked n σ ρ L L' → IllFormed L
unfolding standing
meets_ill_formed (rules35_36 x ns P Q r o k) = bad_sibling (replace_both_both k) (replace_has r) (replace_has o)
meets_ill_formed (rules37_38 x ns P Q r k) = bad_parent (replace_both_both k) (replace_has r)
meets_ill_formed (rules39_40 x P Q r o k) = bad_enter (replace_both_both k) (replace_has r) (replace_has o)
meets_ill_formed (rules41_42 x P Q r k o) = bad_leave (replace_has o) (replace_both_both k) (replace_has r)
meets_ill_formed (rule27 m r) = bad_ambient (replace_has r) (meets_ill_formed m)

as_ill_formed : (side : Side) (L : Elements) (π κ : Position) → MeetsAs side blocked π κ L → IllFormed L
as_ill_formed sender L π κ m = meets_ill_formed m.2
as_ill_formed receiver L π κ m = meets_ill_formed m.2

answered_ill_formed : (L : Elements) (π : Position) (α : Action) (P : Process) (κ : Position) → element_at L π ≡ some (blocked_element α P) → Among κ (answers L π α) → IllFormed L
unfolding standing
answered_ill_formed L π α P κ e m = as_ill_formed (side_of α) L π κ (answers_sound blocked L π α P κ e m)

pub senders_suffice : SendersSuffice
unfolding standing answers frame_of put
senders_suffice L = (there, (λ t. answered_ill_formed L t.0 t.1 t.2 t.3 t.4 t.6))
  where
    there : IllFormed L → (π : Position) × (α : Action) × (P : Process) × (κ : Position) × (element_at L π ≡ some (blocked_element α P)) × (side_of α ≡ sender) × Among κ (answers L π α)
    there i =
        let t = ill_formed_pair i in
        let u = meeting_acts t.2.2 in
        (t.0, u.0, u.2, t.1, u.4, u.6, (meets_partnered t.2.2).0 refl)

pub pairs_answered : PairsAnswered
pairs_answered L =
    ((λ i. let t = (senders_suffice L).0 i in (t.0, t.1, t.2, t.3, t.4, t.6)), (λ t. answered_ill_formed L t.0 t.1 t.2 t.3 t.4 t.5))
