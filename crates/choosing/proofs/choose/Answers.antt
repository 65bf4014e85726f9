-- The answers for `choose`: the place is found, or 8.
use mathlib.Core.Path.{◌≡◌, sym, ◌∙◌}
use native.Mathlib.Omega.{arith}
use Rattle.std.specs.Prelude.{Some, None, Err}
use Rattle.refusals.specs.declared.Refusal.TheVariants.{CannotAct}
use Rattle.choosing.proofs.Choices.{place_eight, place_choosing, place_chosen}
use Rattle.alone.proofs.Turnings.{admitted_list}
use Rattle.choosing.proofs.choose.Goals as goal

pub find-requires : goal.find-requires
find-requires c = admitted_list c.requires.admitting

pub returns-in_err-at : goal.returns-in_err-at
returns-in_err-at c F L adm =
    let n : c.find.result ≡ None = grind arith in
    let r : c.from_residual.result ≡ Err CannotAct = grind arith in
    rw r (place_eight adm _ _ (sym (c.find.ensures L adm.spells.spelled) ∙ n))

pub choose_at-requires : goal.choose_at-requires
choose_at-requires c =
    let adm = c.requires.admitting in
    let o : c.find.result ≡ Some c.in_ok-at.at = grind arith in
    place_choosing adm _ _ (sym (c.find.ensures _ adm.spells.spelled) ∙ o)

pub returns : goal.returns
returns c F L adm =
    let o : c.find.result ≡ Some c.in_ok-at.at = grind arith in
    place_chosen adm _ _ (sym (c.find.ensures L adm.spells.spelled) ∙ o) _ _ c.choose_at.ensures
