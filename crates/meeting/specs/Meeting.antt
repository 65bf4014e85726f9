-- Two actions that meet, in the bytes of an accepted state's root list: where they stand, and what their meeting comes to.
use Rattle.std.specs.Prelude.{◌≡◌, true, false, List, ℕ, suc, ◌+◌, ◌-◌, ◌≤◌, length, take, drop, Some, None, Result, Ok, Err}
use Rattle.std.proofs.Math.Option.{some}
use Rattle.calculus.specs.Processes.{Action, Process, action}
use Rattle.machine.specs.Elements.{Status, unblocked, blocked, Elements, process_element, standing, Position, place, element_at}
use Rattle.machine.specs.Rules.{Meets, Meeting}
use Rattle.machine.specs.Tests.{fits}
use Rattle.format.specs.Spelling.{encode_references, encode_action}
use Rattle.format.specs.Kinds.{handed}
use Rattle.places.specs.declared.Spot.{Spot}
use Rattle.places.specs.Offsets.{spot_of}
use Rattle.planning.specs.declared.Move.{Move}
use Rattle.refusals.specs.declared.Refusal.{Refusal}
use Rattle.refusals.specs.declared.Refusal.TheVariants.{ResultTooDeep}
use Rattle.planning.specs.Choices.{Admitting, Drawn, ChoiceOf}

-- One at a spot, and its blocked partner at another.
pub record MeetingAt (nest : ℕ) (s : List ℕ) (N : ℕ) (spot other : Spot) : Type 0 where
  pub free : ℕ
  pub tree : Elements
  pub admitting : Admitting nest s free N tree
  pub position : Position
  pub doing : Action
  pub process : Process
  pub stands : element_at tree position ≡ some (process_element (action doing process))
  pub spotted : spot ≡ spot_of tree position
  pub partner : Position
  pub rule : ℕ
  pub result : Elements
  pub meets : Meeting rule position partner tree result
  pub found : other ≡ spot_of tree partner

abbrev pub MetAt : ℕ → List ℕ → (N : ℕ) → (spot other : Spot) → Result Move Refusal → Type 0
MetAt nest s N spot other r = (F : ℕ) (L : Elements) (π : Position) (α : Action) (P : Process) (κ : Position) (n : ℕ) (L' : Elements) → Admitting nest s F N L
    → element_at L π ≡ some (process_element (action α P)) → spot ≡ spot_of L π → Meeting n π κ L L' → other ≡ spot_of L κ
    → ChoiceOf nest F N L (place L π) (some (place L κ)) r

-- The sender or mover and the other, whichever acts

-- Their statuses, the number of the pair of rules, and the rule by which the one acts.
pub data Acts : Status → Status → (number rule : ℕ) → Type 0 where
  sender_acts : {n : ℕ} → Acts unblocked blocked n n
  other_acts : {n : ℕ} → Acts blocked unblocked n (suc n)

-- They stand at two spots, and turn by a move in which nothing is set down. Its length is that of the state without the two actions and the header around the one that acts, and the names that are handed over stand where its plan says.
pub record Joining (nest : ℕ) (s : List ℕ) (F : ℕ) (L L' : Elements) (handing : Move) (sender other : Spot) : Type 0 where
  pub admitting : Admitting nest s F handing.names L
  pub sending : Status
  pub taking : Status
  pub number : ℕ
  pub acts : Acts sending taking number handing.rule
  pub source : Position
  pub target : Position
  pub meets : Meets sending taking number source target L L'
  pub output : Action
  pub input : Action
  pub left : Process
  pub right : Process
  pub sends : element_at L source ≡ some (standing sending output left)
  pub takes : element_at L target ≡ some (standing taking input right)
  pub spotted : sender ≡ spot_of L source
  pub found : other ≡ spot_of L target
  pub measured : handing.length + 3 + length (encode_action output) + length (encode_action input) ≡ 7 + length s
  pub first : handing.plan.first ≡ 7 + sender.at
  pub second : handing.plan.second ≡ Some (7 + other.at)
  pub cut : handing.plan.cut ≡ None
  pub after : handing.plan.after ≡ None
  pub block : handing.plan.block ≡ false
  pub behind : 7 ≤ handing.plan.sent
  pub starts : handing.plan.sent ≤ handing.plan.past
  pub ends : handing.plan.past ≤ 7 + length s
  pub hands : take (handing.plan.past - handing.plan.sent) (drop (handing.plan.sent - 7) s) ≡ encode_references (handed output)

pub record Joinable (nest : ℕ) (s : List ℕ) (handing : Move) (sender other : Spot) : Type 0 where
  pub free : ℕ
  pub tree : Elements
  pub result : Elements
  pub joining : Joining nest s free tree result handing sender other

-- What becomes of them: a move to L' by the rule, or 12 where L' does not fit.
unfoldable pub JoinedBy : (nest F N rule : ℕ) → Elements → Elements → Result Move Refusal → Type 0
JoinedBy nest F N rule L L' (Ok m) = (m.rule ≡ rule) × (m.names ≡ N) × (fits nest L' ≡ true) × Drawn F N L m L'
JoinedBy nest F N rule L L' (Err x) = (x ≡ ResultTooDeep) × (fits nest L' ≡ false)
