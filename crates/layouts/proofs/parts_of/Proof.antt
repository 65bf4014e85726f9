-- The proof of `parts_of`: how the process lies, by its tag.
use mathlib.Core.Path.{◌≡◌, sym, ap, ◌∙◌, subst}
use mathlib.Core.List.{List}
use Prim.Native.Nat.{ℕ, ◌+◌, ◌<◌, ◌≤◌}
use native.Mathlib.Omega.{arith}
use lib.ListN.{length, get_or, drop}
use Rattle.calculus.specs.Processes.{Process}
use Rattle.format.specs.Spelling.{encode}
use Rattle.buffers.proofs.Parts.{part_all, from}
use Rattle.layouts.specs.Layouts.{SpelledAction, Laid}
use Rattle.layouts.proofs.Laying.{process_long, restriction_of, ambient_of, other_of, action_of}
use Rattle.layouts.proofs.parts_of.Statement.{statement}
use Rattle.layouts.proofs.parts_of.Tie as tie

module _ (s : List ℕ) (P : Process) (e : s ≡ encode P) where
  long : 3 ≤ length s
  long = rw e (process_long P)

  starts_with : (n : ℕ) → get_or s 0 0 ≡ n → get_or (encode P) 0 0 ≡ n
  starts_with n h = ap (λ (l : List ℕ). get_or l 0 0) (sym e) ∙ h

  acts : 0x21 < get_or s 0 0 → (get_or s 0 0 ≡ 0x22 → ⊥) → (get_or s 0 0 ≡ 0x23 → ⊥) → 0x23 < get_or (encode P) 0 0
  acts h i j = subst (λ (l : List ℕ). 0x23 < get_or l 0 0) e (omega (arith, h, i, j))

restricts : tie.Need-returns-then-tag-eq34
restricts c P e u =
    let s = c.before.before.before.args.s.now in
    subst (λ (l : List ℕ). Laid l P 3 3 3 3 1) (sym e) (restriction_of P u (starts_with s P e 0x22 c.if-tag-eq34.true))

holds : tie.Need-returns-then-tag-eq35
holds c P e u =
    let s = c.before.before.before.before.args.s.now in
    subst (λ (l : List ℕ). Laid l P 3 5 5 5 0) (sym e) (ambient_of P u (starts_with s P e 0x23 c.if-tag-eq35.true))

-- an action stands behind the header
action : (c : tie.Else-tag-eq35) → SpelledAction (from c.before.before.before.before.args.s.now 3)
action c =
    let b = c.before.before.before.before in
    let s = b.args.s.now in
    let p = b.requires.0 in
    subst SpelledAction (sym (part_all 3 s ∙ ap (drop 3) p.spelled))
    (action_of p.process (acts s p.process p.spelled b.requires.1 c.before.if-tag-eq34.false c.if-tag-eq35.false))

acting : tie.Need-returns
acting c P e u =
    let c₇ = c.before.before.before.before.before.before in
    let b = c₇.before.before.before.before in
    let s = b.args.s.now in
    let x = c.before.before.before.before.opened_action-opened in
    subst (λ (l : List ℕ). Laid l P 6 (3 + x.result.middle) (3 + x.result.next) (3 + x.result.end) c.binders_of.result) (sym e)
    (other_of P x.result c.binders_of.result
    (λ α rest q. let r = part_all 3 s ∙ ap (drop 3) e ∙ q in (x.ensures.0 α rest r, c.binders_of.ensures α rest r))
    u (acts s P e b.requires.1 c₇.before.if-tag-eq34.false c₇.if-tag-eq35.false))

pub parts_of_spec : {M : Type 1} → statement M
parts_of_spec =
    tie.close
    (tie.spec
    (λ c. let p = c.before.before.requires.0 in omega (arith, long c.before.before.args.s.now p.process p.spelled))
    restricts
    holds
    (λ c. let p = c.before.before.before.before.requires.0 in omega (arith, long c.before.before.before.before.args.s.now p.process p.spelled))
    (λ c. let p = c.before.before.before.before.requires.0 in omega (arith, long c.before.before.before.before.args.s.now p.process p.spelled))
    (λ c. omega arith)
    (λ c κs. action c.before)
    (λ c. omega (arith, c.before.opened_action-opened.ensures.1))
    (λ c. omega (arith, c.before.before.opened_action-opened.ensures.2))
    (λ c. omega (arith, c.before.before.before.opened_action-opened.ensures.3))
    (λ c κs. action c.before.before.before.before.before)
    acting)
