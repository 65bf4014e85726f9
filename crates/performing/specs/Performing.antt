-- Performing a move: what is known before it, and what the step answers in its own words.
use Rattle.std.specs.Prelude.{List, ℕ, ◌≤◌, length, Result, Ok, Err}
use Rattle.machine.specs.Limits.{name_limit, byte_limit}
use Rattle.machine.specs.Elements.{Elements}
use Rattle.planning.specs.declared.Move.{Move}
use Rattle.refusals.specs.declared.Refusal.{Refusal}
use Rattle.refusals.specs.Refusals.{number}
use Rattle.performing.specs.declared.Step.{Step}
use Rattle.planning.specs.Choices.{Drawn}
use Rattle.calls.specs.Calls.{Reply, refusal, acceptance}
use Rattle.renewing.specs.Renewing.{SpellsState}

unfoldable pub reply_in : Result Step Refusal → Reply
reply_in (Ok s) = acceptance s.rule s.length
reply_in (Err x) = refusal (number x)

-- Bytes that spell a state, and a move in its root list.
pub record Performing (s : List ℕ) (m : Move) : Type 0 where
  pub free : ℕ
  pub names : ℕ
  pub tree : Elements
  pub spells : SpellsState s free names tree
  pub short : length s ≤ byte_limit
  pub result : Elements
  pub drawn : Drawn free names tree m result
  pub few : m.names ≤ name_limit
