-- The proof of `is_answered`.
use borrow.Author.Rules.{rules}
use native.Mathlib.Omega.{arith}
use Rattle.machine.specs.Elements.{blocked}
use Rattle.machine.specs.Frames.{frame_of}
use Rattle.buffers.proofs.Parts.{length_part}
use Rattle.searching.proofs.Walks.{spot_blocked, blocked_pair, blocked_receiver, other_below, other_long, other_pair, other_acting, blocked_stands}
use Rattle.searching.proofs.pairing.is_answered.Statement.{statement}
use Rattle.searching.proofs.pairing.is_answered.Tie as tie

answered : tie.Need-returns-then-rule_of-eq1
answered c L π E p e z =
    let h = c.if-element-eq67.true in
    let v = spot_blocked L π E p e z h in
    blocked_pair L π E p e z (frame_of L π) h c.rule_of.ensures c.if-rule_of-eq1.true _ (c.count_answers-tally.ensures L π blocked v.doing v.process p (blocked_stands L π e v.is) z)

pub is_answered_spec : {M : Type 1} → statement M
is_answered_spec =
    tie.close
    (tie.spec
    (λ c. omega (arith, other_below c.requires))
    (λ c. omega (arith, other_below c.requires))
    (λ c. omega (arith, other_below c.requires))
    (λ c. omega (arith, other_below c.requires, length_part c.args.spot.at c.args.list.now))
    (λ c. other_long c.requires c.if-element-eq67.true)
    (λ c κs. search rules)
    (λ c κs. other_acting c.requires c.if-element-eq67.true)
    answered
    (λ c L π E p e z. blocked_receiver L π E p e z (frame_of L π) c.if-element-eq67.true c.rule_of.ensures c.if-rule_of-eq1.false)
    (λ c L π E p e z. other_pair c.requires L π E p e z (frame_of L π) c.if-element-eq67.false))
