-- Where the parts of an action, and of a process, stand in the bytes that spell it.
use Rattle.std.specs.Prelude.{◌≡◌, List, ◌++◌, ℕ, suc, ◌+◌, ◌*◌, ◌≤◌, ◌<◌, length, Option as CodeOption, None, Some}
use Rattle.calculus.specs.Processes.{Reference, Action, Process, Renaming, lift_by, rename_all, rename}
use Rattle.std.proofs.Math.Option.{Option, none, some}
use Rattle.machine.specs.Elements.{depth}
use Rattle.machine.specs.Validity.{AllScoped, ProcessScoped}
use Rattle.machine.specs.Kinds.{rule_of, channel, count, answering, Standing, sibling, outside, child, standing_of, kind_of, target}
use Rattle.format.specs.Kinds.{directed_of, tag_with, spelled_count}
use Rattle.format.specs.Spelling.{word_limit, reference_number, encode_references, encode_action, encode}
use Rattle.format.specs.Spellable.{Counted}
use Rattle.layouts.specs.declared.Layout.{Layout}
use Rattle.layouts.specs.declared.Standing.{Standing as Answer}
use Rattle.layouts.specs.declared.Standing.TheVariants.{Sibling, Outside, Child}
use Rattle.layouts.specs.declared.Extent.{Extent}

-- Actions

-- Bytes that begin with the spelling of an action.
pub record SpelledAction (s : List ℕ) : Type 0 where
  pub doing : Action
  pub rest : List ℕ
  pub spelled : s ≡ encode_action doing ++ rest

-- Where an answer stands, as the code has it.
unfoldable pub standing_answer : Standing → Answer
standing_answer sibling = Sibling
standing_answer outside = Outside
standing_answer child = Child

-- The number of a reference, if there is one.
unfoldable pub name_number : Option Reference → CodeOption ℕ
name_number none = None
name_number (some a) = Some (reference_number a)

-- The number of the ambient that an action goes to, if it goes to one.
unfoldable pub target_of : Action → CodeOption ℕ
target_of α = name_number (target α)

-- What the bytes of an action say.
abbrev pub layout_of : Action → Layout
layout_of α = record {
  answer = tag_with (answering (kind_of α)) (count α);
  opposite = 3 + (3 + 2 * directed_of (answering (kind_of α)));
  standing = standing_answer (standing_of (kind_of α));
  rule = rule_of α;
  target = target_of α;
  channel = reference_number (channel α);
  count = count α;
}

-- Its rule; where the names that it hands over start, behind its header, its target, its channel and its count; and where the process behind it starts.
abbrev pub extent_of : Action → Extent
extent_of α = record { rule = rule_of α; sent = 3 + 2 * directed_of (kind_of α) + 2 + length (spelled_count α); end = length (encode_action α) }

-- Processes

-- Bytes that spell a process.
pub record SpelledProcess (s : List ℕ) : Type 0 where
  pub process : Process
  pub spelled : s ≡ encode process
  pub short : length s < word_limit

-- How a process that is neither null nor a parallel lies in s: bytes that renaming keeps, references from `start` to `middle` and from `next` to `end`, and
-- behind them a process that has `bound` binders more around it.
pub record Laid (s : List ℕ) (P : Process) (start middle next end bound : ℕ) : Type 0 where
  pub front : List ℕ
  pub first : List Reference
  pub between : List ℕ
  pub second : List Reference
  pub after : Process
  pub bytes : s ≡ front ++ (encode_references first ++ (between ++ (encode_references second ++ encode after)))
  pub starts : start ≡ length front
  pub halves : middle ≡ start + length (encode_references first)
  pub resumes : next ≡ middle + length between
  pub ends : end ≡ next + length (encode_references second)
  pub long : 3 ≤ start
  pub few : bound ≤ start
  pub scoped_references : (N d : ℕ) → ProcessScoped N d P → AllScoped N d first × AllScoped N d second
  pub scoped_after : (N d : ℕ) → ProcessScoped N d P → ProcessScoped N (bound + d) after
  pub counted : Counted after
  pub deep : depth P ≡ suc (depth after)
  pub renamed : (ρ : Renaming) → encode (rename ρ P) ≡ front ++ (encode_references (rename_all ρ first) ++ (between ++ (encode_references (rename_all ρ second) ++ encode (rename (lift_by bound ρ) after))))
