-- Document 01's table of refusals: the number of each, and the refusal of each number.
use Rattle.std.specs.Prelude.{◌≡◌, ℕ, ◌≤◌, eqb, if◌then◌else◌}
use Rattle.refusals.specs.declared.Refusal.{Refusal}
use Rattle.refusals.specs.declared.Refusal.TheVariants.{TooLong, CutShort, WrongTag, LeftOver, TooDeep, OutOfRange, BlockedPair, CannotAct, NotPartner, HasPartner, NoNameLeft, ResultTooDeep, NoRoom, WrongCount, MixedUses}

abbrev pub number : Refusal → ℕ
number TooLong = 1
number CutShort = 2
number WrongTag = 3
number LeftOver = 4
number TooDeep = 5
number OutOfRange = 6
number BlockedPair = 7
number CannotAct = 8
number NotPartner = 9
number HasPartner = 10
number NoNameLeft = 11
number ResultTooDeep = 12
number NoRoom = 13
number WrongCount = 14
number MixedUses = 15

-- The refusal of a number. No other number refuses (`InTable`).
unfoldable pub refusal : ℕ → Refusal
refusal k =
    if eqb k 1 then TooLong else
    if eqb k 2 then CutShort else
    if eqb k 3 then WrongTag else
    if eqb k 4 then LeftOver else
    if eqb k 5 then TooDeep else
    if eqb k 6 then OutOfRange else
    if eqb k 7 then BlockedPair else
    if eqb k 8 then CannotAct else
    if eqb k 9 then NotPartner else
    if eqb k 10 then HasPartner else
    if eqb k 11 then NoNameLeft else
    if eqb k 12 then ResultTooDeep else
    if eqb k 13 then NoRoom else
    if eqb k 14 then WrongCount else MixedUses

-- A number of the table.
abbrev pub InTable : ℕ → Type 0
InTable k = (1 ≤ k) × (k ≤ 15)

-- Each refusal has a number of its own, and each number of the table is a refusal's.
pub record EachHasItsNumber : Type 0 where
  pub own : (e : Refusal) → refusal (number e) ≡ e
  pub of_number : (k : ℕ) → InTable k → number (refusal k) ≡ k
  pub in_table : (e : Refusal) → InTable (number e)
