-- The library's tests and those of the definitions.
use Rattle.std.proofs.Common.{◌≡◌, ℕ, Bool, true, false, nat_eq, List, [], ◌∷◌, refl, ◌∙◌, ap}
use mathlib.Core.Bool.{◌&&◌}
use lib.Pointwise.{pointwise}
use Rattle.machine.specs.Tests.{◌and◌, pick}
use Rattle.comparing.specs.Comparisons.{equal, due_in, agreeing}
use Rattle.comparing.specs.declared.Answer.{Answer}

both : (a b : Bool) → a && b ≡ a and b
both true b = refl
both false b = refl

picked : (a b : Bool) → a && b ≡ pick a b false
picked true b = refl
picked false b = refl

pub equal_is : (xs ys : List ℕ) → pointwise nat_eq xs ys ≡ equal xs ys
unfolding equal
equal_is [] [] = refl
equal_is [] (y ∷ ys) = refl
equal_is (x ∷ xs) [] = refl
equal_is (x ∷ xs) (y ∷ ys) = picked (nat_eq x y) (pointwise nat_eq xs ys) ∙ ap (λ (b : Bool). pick (nat_eq x y) b false) (equal_is xs ys)

pub agreeing_is : (header : List ℕ) (a due : Answer) (b : Bool) → due ≡ due_in header
    → b ≡ nat_eq a.refusal due.refusal && (nat_eq a.outcome due.outcome && (nat_eq a.count due.count && nat_eq a.length due.length))
    → b ≡ agreeing header a
unfolding agreeing
agreeing_is header a due b e f = rw e at f ∙ simp both
