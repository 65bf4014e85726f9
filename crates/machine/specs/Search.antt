-- What is proved of the search for answers and of the questions put to it, each statement a named type; the proofs are in proofs/.
use Rattle.std.specs.Prelude.{◌≡◌, Bool, true, false, ◌↔◌, List, ◌∷◌, map, ℕ, ◌+◌, ◌<◌, ltb, length}
use Rattle.std.proofs.Math.Option.{Option, some}
use Rattle.calculus.specs.Processes.{Reference, Action, Process, action}
use Rattle.machine.specs.Ordered.{AscendingFrom, lowest, Among, member}
use Rattle.machine.specs.Elements.{Status, Elements, Element, ambient_element, process_element, blocked_element, standing, ◌before◌, Position, here, later, place, element_at}
use Rattle.machine.specs.Rules.{Meeting}
use Rattle.machine.specs.IllFormed.{IllFormed}
use Rattle.machine.specs.Tests.{◌or◌, pick}
use Rattle.machine.specs.Kinds.{sender, side_of}
use Rattle.machine.specs.Positions.{element_of}
use Rattle.machine.specs.Meetings.{partners}
use Rattle.machine.specs.Frames.{Frame, outermost, within, list_of, index_of, position_of, frame_of}
use Rattle.machine.specs.Answers.{Want, matches, answers}
use Rattle.machine.specs.Questions.{Numbering, Lawful, numbered, by_place, start_of, Question, Tally, untold, settled, note, gather, every, told_of, is_one, tally_in, looks_into, tally_among, ask, asked, pairs_from}
use Rattle.machine.specs.Pairs.{sending, blocked_pair}

-- Answers and meetings

-- The answers to an unblocked action are those that it can meet.
abbrev pub AnswersMeet : Type 0
AnswersMeet = (L : Elements) (π : Position) (α : Action) (P : Process) → element_at L π ≡ some (process_element (action α P)) →
    (κ : Position) → Among κ (answers L π α) ↔ ((n : ℕ) × (L' : Elements) × Meeting n π κ L L')

-- An answer, to an action of either status, is a blocked action.
abbrev pub AnswersBlocked : Type 0
AnswersBlocked = (s : Status) (L : Elements) (π : Position) (α : Action) (P : Process) → element_at L π ≡ some (standing s α P) →
    (κ : Position) → Among κ (answers L π α) → (β : Action) × (Q : Process) × (element_at L κ ≡ some (blocked_element β Q))

-- Blocked pairs

-- A list is ill-formed exactly if some blocked action has an answer.
abbrev pub PairsAnswered : Type 0
PairsAnswered = (L : Elements) →
    IllFormed L ↔ ((π : Position) × (α : Action) × (P : Process) × (κ : Position) × (element_at L π ≡ some (blocked_element α P)) × Among κ (answers L π α))

-- It is enough to ask the senders and movers.
abbrev pub SendersSuffice : Type 0
SendersSuffice = (L : Elements) →
    IllFormed L ↔ ((π : Position) × (α : Action) × (P : Process) × (κ : Position) × (element_at L π ≡ some (blocked_element α P)) × (side_of α ≡ sender) × Among κ (answers L π α))

-- Partners

-- The places of the answers to an action are the partners of the step's definition, ascending, each once.
abbrev pub PartnersAreAnswers : Type 0
PartnersAreAnswers = (L : Elements) (π : Position) (α : Action) (P : Process) → element_at L π ≡ some (process_element (action α P)) →
    (partners (side_of α) L π ≡ map (place L) (answers L π α)) × AscendingFrom 0 (map (place L) (answers L π α))

-- The numbers of the answers

-- Answers come in the order of their numbers, by places or by bytes.
abbrev pub AnswersAscend : Type 0
AnswersAscend = (m : Numbering) → Lawful m → (s : Status) (L : Elements) (π : Position) (α : Action) (P : Process) → element_at L π ≡ some (standing s α P) →
    AscendingFrom 0 (map (numbered m 0 L) (answers L π α))

-- No two elements have one number.
abbrev pub NumbersDiffer : Type 0
NumbersDiffer = (m : Numbering) → Lawful m → (L : Elements) (π κ : Position) (E D : Element) → element_at L π ≡ some E → element_at L κ ≡ some D →
    numbered m 0 L π ≡ numbered m 0 L κ → π ≡ κ

-- By places the numbers are document 01's places.
abbrev pub PlacesNumber : Type 0
PlacesNumber = Lawful by_place × ((L : Elements) (π : Position) → numbered by_place 0 L π ≡ place L π)

-- The loop

-- What the loop makes of a question is its reading of the list of the answers.
abbrev pub AskedIsRead : Type 0
AskedIsRead = (m : Numbering) → Lawful m → (q : Question) (s : Status) (L : Elements) (π : Position) (α : Action) (P : Process) → element_at L π ≡ some (standing s α P) →
    ask m q (frame_of L π) α ≡ gather q untold (map (numbered m 0 L) (answers L π α))

-- What one element adds to a tally, and the loop from its next element on: the invariant of a loop over bytes.
unfoldable pub told_by : Question → Want → ℕ → Tally → Element → Tally
told_by q w o t (ambient_element s a A) = t
told_by q w o t (process_element P) = t
told_by q w o t (blocked_element β Q) = pick (matches w β) (note q t o) t

unfoldable pub told_within : Numbering → Question → Want → Option Reference → Option ℕ → ℕ → Tally → Element → Tally
told_within m q w n skip o t (ambient_element s a A) = pick (looks_into skip n o a) (tally_in m q w (o + m.header) t A) t
told_within m q w n skip o t (process_element P) = t
told_within m q w n skip o t (blocked_element β Q) = t

pub record LoopsTurn (m : Numbering) (q : Question) (w : Want) (o : ℕ) (t : Tally) (E : Element) (C : Elements) : Type 0 where
  pub directly : tally_in m q w o t (E before C) ≡ tally_in m q w (o + m.width E) (told_by q w o t E) C
  pub in_ambients : (n : Option Reference) (skip : Option ℕ) →
      tally_among m q w n skip o t (E before C) ≡ tally_among m q w n skip (o + m.width E) (told_within m q w n skip o t E) C

abbrev pub LoopsStep : Type 0
LoopsStep = (m : Numbering) (q : Question) (w : Want) (o : ℕ) (t : Tally) (E : Element) (C : Elements) → LoopsTurn m q w o t E C

-- A settled question may be left at once.
pub record LoopsMayStop (m : Numbering) (q : Question) (w : Want) (t : Tally) : Type 0 where
  pub directly : (o : ℕ) (A : Elements) → tally_in m q w o t A ≡ t
  pub in_ambients : (n : Option Reference) (skip : Option ℕ) (o : ℕ) (A : Elements) → tally_among m q w n skip o t A ≡ t

abbrev pub SettledStays : Type 0
SettledStays = (m : Numbering) (q : Question) (w : Want) (t : Tally) → settled q t ≡ true → LoopsMayStop m q w t

-- The four questions

-- Is there any, and how many; which is the lowest; is this one of them. By any numbering.
pub record QuestionsAnswered (m : Numbering) (L : Elements) (π : Position) (α : Action) : Type 0 where
  pub number : (once : Bool) → (ask m (every once) (frame_of L π) α).number ≡ told_of once (length (answers L π α))
  pub least : (once : Bool) → (ask m (every once) (frame_of L π) α).lowest ≡ lowest (map (numbered m 0 L) (answers L π α))
  pub one : (k : ℕ) → ltb 0 (ask m (is_one k) (frame_of L π) α).number ≡ member k (map (numbered m 0 L) (answers L π α))

abbrev pub FourQuestions : Type 0
FourQuestions = (m : Numbering) → Lawful m → (s : Status) (L : Elements) (π : Position) (α : Action) (P : Process) → element_at L π ≡ some (standing s α P) → QuestionsAnswered m L π α

-- Whether what stands at κ is one of the answers, asked by its number.
abbrev pub OneAsked : Type 0
OneAsked = (m : Numbering) → Lawful m → (s : Status) (L : Elements) (π : Position) (α : Action) (P : Process) → element_at L π ≡ some (standing s α P) →
    (κ : Position) (D : Element) → element_at L κ ≡ some D → (ltb 0 (ask m (is_one (numbered m 0 L κ)) (frame_of L π) α).number ≡ true) ↔ Among κ (answers L π α)

-- Of an action to be executed: no answer is found exactly if it meets nothing.
abbrev pub NoneAsked : Type 0
NoneAsked = (m : Numbering) → Lawful m → (L : Elements) (π : Position) (α : Action) (P : Process) → element_at L π ≡ some (process_element (action α P)) →
    (once : Bool) → ((ask m (every once) (frame_of L π) α).number ≡ 0) ↔ ((n : ℕ) (κ : Position) (L' : Elements) → ¬ Meeting n π κ L L')

-- The lowest is what it meets, and the first of its partners.
pub record FirstMet (m : Numbering) (L : Elements) (π : Position) (α : Action) (k : ℕ) : Type 0 where
  pub at : Position
  pub numbers : numbered m 0 L at ≡ k
  pub rule : ℕ
  pub after : Elements
  pub meets : Meeting rule π at L after
  pub others : List ℕ
  pub first : partners (side_of α) L π ≡ place L at ∷ others

abbrev pub LowestAsked : Type 0
LowestAsked = (m : Numbering) → Lawful m → (L : Elements) (π : Position) (α : Action) (P : Process) → element_at L π ≡ some (process_element (action α P)) →
    (once : Bool) (k : ℕ) → (ask m (every once) (frame_of L π) α).lowest ≡ some k → FirstMet m L π α k

-- How many partners it has, and by places the first of them: one pass tells both.
pub record PartnersTold (L : Elements) (π : Position) (α : Action) : Type 0 where
  pub number : (m : Numbering) → Lawful m → (once : Bool) → (ask m (every once) (frame_of L π) α).number ≡ told_of once (length (partners (side_of α) L π))
  pub first : (once : Bool) → (ask by_place (every once) (frame_of L π) α).lowest ≡ lowest (partners (side_of α) L π)

abbrev pub PartnersCounted : Type 0
PartnersCounted = (L : Elements) (π : Position) (α : Action) (P : Process) → element_at L π ≡ some (process_element (action α P)) → PartnersTold L π α

-- What stands at κ is found exactly if it meets that.
abbrev pub MeetingAsked : Type 0
MeetingAsked = (m : Numbering) → Lawful m → (L : Elements) (π : Position) (α : Action) (P : Process) → element_at L π ≡ some (process_element (action α P)) →
    (κ : Position) (D : Element) → element_at L κ ≡ some D →
    (0 < (ask m (is_one (numbered m 0 L κ)) (frame_of L π) α).number) ↔ ((n : ℕ) × (L' : Elements) × Meeting n π κ L L')

-- The walk

-- The frame that is made on the way down to an element is around it, and numbers it.
pub record FrameStands (L : Elements) (π : Position) (E : Element) (f : Frame) : Type 0 where
  pub reaches : position_of f ≡ π
  pub stands : element_of (list_of f) (index_of f) ≡ some E
  pub numbers : (m : Numbering) → numbered m (start_of m f) (list_of f) (index_of f) ≡ numbered m 0 L π

abbrev pub FramesDownwards : Type 0
FramesDownwards = (L : Elements) (π : Position) (E : Element) → element_at L π ≡ some E → FrameStands L π E (frame_of L π)

-- The number of the next element.
abbrev pub NumbersGoOn : Type 0
NumbersGoOn = (m : Numbering) (o : ℕ) (L : Elements) (p : Position) (E : Element) → element_of L p ≡ some E → numbered m o L (later p) ≡ numbered m o L p + m.width E

-- What one element gives, and the walk from its next element on.
unfoldable pub pair_at : Numbering → Frame → Element → Bool
pair_at m f (ambient_element s a A) = pairs_from m (within f s a A) here A
pair_at m f (process_element P) = false
pair_at m f (blocked_element α P) = sending (asked m) (side_of α) f α

abbrev pub WalkSteps : Type 0
WalkSteps = (m : Numbering) (around : Position → Frame) (p : Position) (E : Element) (C : Elements) →
    pairs_from m around p (E before C) ≡ pair_at m (around p) E or pairs_from m around (later p) C

-- Asked by any numbering, the walk finds what it is defined to find.
abbrev pub PairsAsked : Type 0
PairsAsked = (m : Numbering) → Lawful m → (L : Elements) → pairs_from m (outermost L) here L ≡ blocked_pair L
