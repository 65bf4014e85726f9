-- `can_act`: a process, or an unblocked ambient whose contents are all blocked.
use mathlib.Core.Path.{◌≡◌, refl, sym, ◌∙◌}
use borrow.Author.Rules.{rules}
use native.Mathlib.Omega.{arith}
use lib.ListN.{get_or}
use Rattle.machine.specs.Elements.{Elements}
use Rattle.elements.specs.Spelling.{encode_elements}
use Rattle.elements.proofs.Views.{First, Ambient, first, first_whole, as_ambient, as_process, list_inside}
use Rattle.places.proofs.Able.{able_process, able_ambient, graded_inside, first_blocked}
use Rattle.places.proofs.acting.can_act.Statement.{statement}
use Rattle.places.proofs.acting.can_act.Tie as tie

at_process : tie.Need-returns-then-first-eq66
at_process c A e k = sym (able_process (as_process A _ _ e refl c.requires.0 c.if-first-eq66.true))

bounds : (c : tie.After-word_within-end) → First c.args.list.now c.requires.1.tree c.word_within-end.result
bounds c =
    let p = c.requires in
    first p.1.tree _ _ p.1.spelled c.word_within-end.ensures.0 p.0

ambient_at_law : (c : tie.After-word_within-end) (A : Elements) → c.args.list.now ≡ encode_elements A
    → Ambient c.args.list.now A c.word_within-end.result
ambient_at_law c A e =
    let t = c.if-first-eq64.true in
    as_ambient A _ _ e c.word_within-end.ensures.0 c.requires.0 (omega arith)

known : (c : tie.After-word_within-end) → Ambient c.args.list.now c.requires.1.tree c.word_within-end.result
known c = ambient_at_law c c.requires.1.tree c.requires.1.spelled

contents_spelled : tie.Need-all_blocked-requires
contents_spelled c κs =
    let p = c.requires in
    let t = c.if-first-eq64.true in
    list_inside _ p.1 _ c.word_within-end.ensures.0 p.0 (omega arith)

at_ambient : tie.Need-returns-then-first-eq64
at_ambient c A e k =
    let t : get_or c.args.list.now 0 0 ≡ 0x40 = omega (arith, c.if-first-eq64.true) in
    let v = ambient_at_law c.before.before A e in
    c.all_blocked.ensures v.inside v.body (graded_inside v t k) ∙ sym (able_ambient v t)

at_blocked : tie.Need-returns
at_blocked c A e k = sym (first_blocked _ A e c.if-first-eq64.false c.if-first-eq66.false)

pub can_act_spec : {M : Type 1} → statement M
can_act_spec =
    tie.close
    (tie.spec
    (λ c. search rules)
    at_process
    (λ c κs. let p = c.requires in first_whole p.1.tree _ p.1.spelled p.0)
    (λ c. search rules)
    (λ c. omega (arith, known c))
    (λ c. omega (arith, known c))
    (λ c. omega (arith, bounds c))
    contents_spelled
    at_ambient
    at_blocked)
