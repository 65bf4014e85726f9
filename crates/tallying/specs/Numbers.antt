-- Wants, questions and tallies of the search on trees, and the numbers that stand for them in bytes.
use Rattle.std.specs.Prelude.{◌≡◌, Bool, false, List, ◌++◌, ℕ, ◌+◌, ◌*◌, eqb, Option as CodeOption}
use Rattle.std.specs.Option.{is_none, option_eq}
use Rattle.std.proofs.Math.Option.{Option, none, some}
use Rattle.calculus.specs.Processes.{Reference, Action}
use Rattle.machine.specs.Elements.{Element, ambient_element, process_element, blocked_element}
use Rattle.machine.specs.Limits.{name_limit}
use Rattle.machine.specs.Tests.{◌and◌, ◌or◌}
use Rattle.machine.specs.Validity.{ReferenceScoped}
use Rattle.machine.specs.Kinds.{kind_of, sibling, standing_of}
use Rattle.machine.specs.Answers.{matches, Want as Wish}
use Rattle.machine.specs.Questions.{looks_into, Question as Query, Tally as Count}
use Rattle.format.specs.Kinds.{tag_with, directed_of}
use Rattle.format.specs.Spelling.{reference_number, encode_action}
use Rattle.places.specs.Offsets.{coded, meant}
use Rattle.layouts.specs.Layouts.{name_number, layout_of}
use Rattle.layouts.specs.declared.Layout.{Layout}
use Rattle.tallying.specs.declared.Want.{Want}
use Rattle.tallying.specs.declared.Question.{Question}
use Rattle.tallying.specs.declared.Tally.{Tally}

-- Questions and tallies

unfoldable pub question_of : Question → Query
question_of q = record { from = q.from; up_to = meant q.to; once = q.once }

unfoldable pub tally_numbers : Count → Tally
tally_numbers t = record { lowest = coded t.lowest; number = t.number }

unfoldable pub tally_of : Tally → Count
tally_of t = record { lowest = meant t.lowest; number = t.number }

-- Wants

unfoldable pub want_numbers : Wish → Want
want_numbers w = record { tag = tag_with w.kind w.names; at = 3 + (3 + 2 * directed_of w.kind); channel = reference_number w.on; count = w.names; target = name_number w.directed }

-- What answers an action of this layout, where it has to name the ambient d, or none for any.
abbrev pub wanted_by : Layout → CodeOption ℕ → Want
wanted_by a d = record { tag = a.answer; at = a.opposite; channel = a.channel; count = a.count; target = d }

-- Bytes that begin with an action.
pub record Begins (s : List ℕ) (α : Action) : Type 0 where
  pub rest : List ℕ
  pub spelled : s ≡ encode_action α ++ rest

-- Numbers tell names apart: every reference that stands under no binder is a name in range.
unfoldable pub Named : Option Reference → Type 0
Named none = Unit {0}
Named (some a) = ReferenceScoped name_limit 0 a

pub record Sought (want : Want) (w : Wish) : Type 0 where
  pub numbers : want ≡ want_numbers w
  pub named : ReferenceScoped name_limit 0 w.on
  pub directed : Named w.directed

-- An action of the wanted kind and channel, by its layout, is wanted.
unfoldable pub agrees : Want → Layout → Bool
agrees w a = eqb w.count a.count and (is_none w.target or option_eq eqb w.target a.target)

-- One element

-- It is a blocked action that is wanted.
unfoldable pub wanted_here : Wish → Element → Bool
wanted_here w (ambient_element s a A) = false
wanted_here w (process_element P) = false
wanted_here w (blocked_element β Q) = matches w β

-- It is an ambient to be looked into.
unfoldable pub looked_into : Option ℕ → Option Reference → ℕ → Element → Bool
looked_into skip n o (ambient_element s a A) = looks_into skip n o a
looked_into skip n o (process_element P) = false
looked_into skip n o (blocked_element β Q) = false

-- An action whose answers stand in an ambient beside its own, by its layout.
pub record Beside (α : Action) (action : Layout) : Type 0 where
  pub laid : action ≡ layout_of α
  pub stands : standing_of (kind_of α) ≡ sibling
