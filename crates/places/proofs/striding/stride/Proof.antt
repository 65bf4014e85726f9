-- The proof of `stride`.
use mathlib.Core.Path.{refl}
use borrow.Author.Rules.{rules}
use native.Mathlib.Omega.{arith}
use Rattle.elements.proofs.Views.{as_ambient, first_whole}
use Rattle.places.proofs.Walking.{stride_inward, stride_past}
use Rattle.places.proofs.striding.stride.Statement.{statement}
use Rattle.places.proofs.striding.stride.Tie as tie

pub stride_spec : {M : Type 1} → statement M
stride_spec =
    tie.close
    (tie.spec
    (λ c. search rules)
    (λ c A e. stride_inward (as_ambient A _ _ e refl c.requires.0 (omega arith)))
    (λ c κs. let p = c.requires in first_whole p.1.tree _ p.1.spelled p.0)
    (λ c. search rules)
    (λ c A e. stride_past A _ _ e c.word_within.ensures.0 c.requires.0 (λ h. omega arith)))
