-- The proof of `binders_of`.
use mathlib.Core.Path.{ap, ◌∙◌}
use mathlib.Core.List.{List}
use Prim.Native.Nat.{ℕ, ◌*◌, ◌≤◌}
use native.Mathlib.Omega.{arith}
use lib.ListN.{length, get_or}
use Rattle.buffers.proofs.Parts.{part_all}
use Rattle.format.specs.Kinds.{tag_kind, binder_count}
use Rattle.format.specs.Answers.{count_in}
use Rattle.layouts.proofs.Layouts.{action_long, action_binds}
use Rattle.layouts.proofs.binders_of.Statement.{statement}
use Rattle.layouts.proofs.binders_of.Tie as tie

long : (c : tie.After-shared_slice_known-1) → 3 ≤ length c.before.args.s.now
long c = let p = c.before.requires in action_long p.doing c.before.args.s.now p.rest p.spelled

binds : tie.Need-returns
binds c α rest e =
    let s = c.before.before.before.before.args.s.now in
    action_binds α s rest e _ (c.binder_count.ensures.0 ∙ ap (λ (l : List ℕ). count_in (get_or s 0 0) l * binder_count (tag_kind (get_or s 0 0))) (part_all 3 s))

pub binders_of_spec : {M : Type 1} → statement M
binders_of_spec =
    tie.close (tie.spec (λ c. omega (arith, long c)) (λ c. omega (arith, long c)) (λ c. omega arith) (λ c. omega (arith, long c.before.before)) (λ c κs. tt) binds)
