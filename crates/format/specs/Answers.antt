-- What the code answers, from what the readers over lists say.
use Rattle.std.specs.Prelude.{Result, Ok, Err, Option as CodeOption, Some, None, List, ℕ, ◌+◌, ◌*◌, get_or, ltb, eqb}
use Rattle.std.proofs.Math.Option.{Option, none, some}
use Rattle.format.specs.Kinds.{tag_kind, directed_of, implied_count}
use Rattle.format.specs.Reading.{Outcome, refused, got, Opened, shut, opened}
use Rattle.machine.specs.Tests.{pick}
use Rattle.refusals.specs.declared.Refusal.{Refusal}
use Rattle.refusals.specs.declared.Refusal.TheVariants.{LeftOver}
use Rattle.refusals.specs.Refusals.{refusal}
use Rattle.format.specs.declared.Cursor.{Cursor}
use Rattle.format.specs.declared.Field.{Field}
use Rattle.format.specs.declared.Count.{Count}

-- A number or none, as the code has it.
abbrev pub coded : Option ℕ → CodeOption ℕ
coded none = None
coded (some p) = Some p

-- What a number or none of the code is.
abbrev pub meant : CodeOption ℕ → Option ℕ
meant None = none
meant (Some p) = some p

unfoldable pub field_at : ℕ → Opened → Result Field Refusal
field_at at (shut k) = Err (refusal k)
field_at at (opened tag len) = Ok (record { tag = tag; start = at + 3; end = at + 3 + len })

unfoldable pub answer : {A : Type 0} → ℕ → Outcome A → Result Cursor Refusal
answer at (refused k) = Err (refusal k)
answer at (got a n) = Ok (record { at = at + n })

unfoldable pub finish_at : Result Cursor Refusal → ℕ → ℕ → Result Cursor Refusal
finish_at (Err e) len end = Err e
finish_at (Ok c) len end = pick (eqb c.at len) (Ok (record { at = end })) (Err LeftOver)

-- The count of an action by its tag and the body of its field, which is the one that was read.
unfoldable pub count_in : ℕ → List ℕ → ℕ
count_in tag body = pick (ltb tag 0x38) (implied_count (tag_kind tag)) (get_or body (2 * (1 + directed_of (tag_kind tag))) 0)

unfoldable pub count_outcome : ℕ → Outcome ℕ → Result Count Refusal
count_outcome at (refused k) = Err (refusal k)
count_outcome at (got v n) = Ok (record { value = v; next = record { at = at + n } })
