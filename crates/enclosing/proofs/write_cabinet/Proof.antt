-- `write_cabinet`: the header, the name behind it, and the process in the part behind both.
use Prim.Native.Nat.{◌+◌}
use native.Mathlib.Omega.{arith}
use borrow.Author.Rules.{rules}
use lib.ListN.{length}
use Rattle.buffers.specs.Words.{word, field}
use Rattle.buffers.proofs.Parts.{length_field}
use Rattle.buffers.proofs.Appending.{header_left, left_is, lent_behind, field_of_two}
use Rattle.enclosing.proofs.write_cabinet.Statement.{statement}
use Rattle.enclosing.proofs.write_cabinet.Tie as tie

written : tie.Need-returns
unfolding word
written c =
    let entry = c.before.before.before.before.before.before.before.before.before.before.before.before.before.before in
    let a = c.args in
    let header = header_left a.out.now 0x40 _ _ (omega (arith, c.requires.0)) (omega (arith, c.requires.1)) c.write_header.ensures in
    left_is (field_of_two 0x40 (5 + length a.process.now) (word a.name) (field 0x42 a.process.now) (omega (arith, length_field 0x42 a.process.now)))
    (lent_behind (c.append_word-inside.ensures.1 _ _ header) c.write_field.ensures.1)

pub write_cabinet_spec : {M : Type 1} → statement M
write_cabinet_spec =
    tie.close
    (tie.spec
    (λ c. search rules)
    (λ c κs. search rules)
    (λ c κs. search rules)
    (λ c. search rules)
    (λ c. search rules)
    (λ c. search rules)
    (λ c κs. search rules)
    (λ c. search rules)
    (λ c. search rules)
    written)
