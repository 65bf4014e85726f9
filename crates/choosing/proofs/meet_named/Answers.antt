-- The answers for `meet_named`: it meets what stands at the place that is named, if that is a partner.
use mathlib.Core.Path.{◌≡◌}
use native.Mathlib.Omega.{arith}
use Rattle.std.specs.Prelude.{Some, None, Err}
use Rattle.refusals.specs.declared.Refusal.TheVariants.{NotPartner}
use Rattle.alone.proofs.Turnings.{chosen_standing}
use Rattle.choosing.proofs.Choices.{chosen, acting, named_missing, named_standing, named_other, named_meeting, named_met}
use Rattle.choosing.proofs.meet_named.Goals as goal

pub returns-in_err-there : goal.returns-in_err-there
returns-in_err-there c F L π E a e o =
    let n : c.find.result ≡ None = grind arith in
    let r : c.from_residual.result ≡ Err NotPartner = grind arith in
    rw r (named_missing (chosen a π E e o) c.requires.at_value _ _ c.find.ensures n)

pub spot_at-spot-requires : goal.spot_at-spot-requires
spot_at-spot-requires c = chosen_standing c.requires.chooses_at

pub is_one-requires : goal.is_one-requires
is_one-requires c = acting c.requires.chooses_at c.requires.at_value _ c.spot_at-spot.ensures

pub returns-then-not-is_one : goal.returns-then-not-is_one
returns-then-not-is_one c F L π E a e k =
    let o : c.find.result ≡ Some c.in_ok-there.there = grind arith in
    named_other (chosen a π E e k) c.requires.at_value _ _ c.find.ensures _ o _ c.spot_at-spot.ensures _ c.is_one.ensures c.if-not-is_one.true

pub spot_at-requires : goal.spot_at-requires
spot_at-requires c =
    let o : c.find.result ≡ Some c.in_ok-there.there = grind arith in
    named_standing c.requires.chooses_at c.requires.at_value _ _ c.find.ensures _ o

pub meet-requires : goal.meet-requires
meet-requires c =
    let o : c.find.result ≡ Some c.in_ok-there.there = grind arith in
    named_meeting c.requires.chooses_at c.requires.at_value _ _ c.find.ensures _ o _ c.spot_at-spot.ensures _ c.is_one.ensures c.if-not-is_one.false _ c.spot_at.ensures

pub returns : goal.returns
returns c F L π E a e k =
    let o : c.find.result ≡ Some c.in_ok-there.there = grind arith in
    named_met (chosen a π E e k) c.requires.at_value _ _ c.find.ensures _ o _ c.spot_at-spot.ensures _ c.is_one.ensures c.if-not-is_one.false _ c.spot_at.ensures _ c.meet.ensures
