-- The numbers of refusals.
use Rattle.std.specs.Prelude.{◌≡◌, refl, ℕ, zero, suc}
use native.Mathlib.Omega.{arith}
use Rattle.refusals.specs.declared.Refusal.{Refusal}
use Rattle.refusals.specs.declared.Refusal.TheVariants.{TooLong, CutShort, WrongTag, LeftOver, TooDeep, OutOfRange, BlockedPair, CannotAct, NotPartner, HasPartner, NoNameLeft, ResultTooDeep, NoRoom, WrongCount, MixedUses}
use Rattle.refusals.specs.Refusals.{number, refusal, InTable, EachHasItsNumber}

own : (e : Refusal) → refusal (number e) ≡ e
unfolding refusal
own TooLong = refl
own CutShort = refl
own WrongTag = refl
own LeftOver = refl
own TooDeep = refl
own OutOfRange = refl
own BlockedPair = refl
own CannotAct = refl
own NotPartner = refl
own HasPartner = refl
own NoNameLeft = refl
own ResultTooDeep = refl
own NoRoom = refl
own WrongCount = refl
own MixedUses = refl

pub of_number : (k : ℕ) → InTable k → number (refusal k) ≡ k
unfolding refusal
of_number zero h = omega arith
of_number (suc zero) h = refl
of_number (suc (suc zero)) h = refl
of_number (suc (suc (suc zero))) h = refl
of_number (suc (suc (suc (suc zero)))) h = refl
of_number (suc (suc (suc (suc (suc zero))))) h = refl
of_number (suc (suc (suc (suc (suc (suc zero)))))) h = refl
of_number (suc (suc (suc (suc (suc (suc (suc zero))))))) h = refl
of_number (suc (suc (suc (suc (suc (suc (suc (suc zero)))))))) h = refl
of_number (suc (suc (suc (suc (suc (suc (suc (suc (suc zero))))))))) h = refl
of_number (suc (suc (suc (suc (suc (suc (suc (suc (suc (suc zero)))))))))) h = refl
of_number (suc (suc (suc (suc (suc (suc (suc (suc (suc (suc (suc zero))))))))))) h = refl
of_number (suc (suc (suc (suc (suc (suc (suc (suc (suc (suc (suc (suc zero)))))))))))) h = refl
of_number (suc (suc (suc (suc (suc (suc (suc (suc (suc (suc (suc (suc (suc zero))))))))))))) h = refl
of_number (suc (suc (suc (suc (suc (suc (suc (suc (suc (suc (suc (suc (suc (suc zero)))))))))))))) h = refl
of_number (suc (suc (suc (suc (suc (suc (suc (suc (suc (suc (suc (suc (suc (suc (suc zero))))))))))))))) h = refl
of_number (suc (suc (suc (suc (suc (suc (suc (suc (suc (suc (suc (suc (suc (suc (suc (suc n)))))))))))))))) h = omega arith

in_table : (e : Refusal) → InTable (number e)
in_table TooLong = (omega arith, omega arith)
in_table CutShort = (omega arith, omega arith)
in_table WrongTag = (omega arith, omega arith)
in_table LeftOver = (omega arith, omega arith)
in_table TooDeep = (omega arith, omega arith)
in_table OutOfRange = (omega arith, omega arith)
in_table BlockedPair = (omega arith, omega arith)
in_table CannotAct = (omega arith, omega arith)
in_table NotPartner = (omega arith, omega arith)
in_table HasPartner = (omega arith, omega arith)
in_table NoNameLeft = (omega arith, omega arith)
in_table ResultTooDeep = (omega arith, omega arith)
in_table NoRoom = (omega arith, omega arith)
in_table WrongCount = (omega arith, omega arith)
in_table MixedUses = (omega arith, omega arith)

pub each_has_its_number : EachHasItsNumber
each_has_its_number = record { own = own; of_number = of_number; in_table = in_table }
