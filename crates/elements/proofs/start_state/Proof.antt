-- `start_state`: a header, and two numbers behind it.
use native.Mathlib.Omega.{arith}
use borrow.Author.Rules.{rules}
use Rattle.buffers.proofs.Appending.{header_left}
use Rattle.elements.specs.Spelling.{state_front}
use Rattle.elements.proofs.start_state.Statement.{statement}
use Rattle.elements.proofs.start_state.Tie as tie

returns : tie.Need-returns
unfolding state_front
returns c =
    let entry = c.before.before.before.before.before.before.before.before.before.before.before.before.before in
    let header = header_left entry.args.out.now 0x11 _ _ (omega (arith, entry.requires.0)) (omega (arith, entry.requires.1)) c.write_header.ensures in
    let free = c.append_word-next.ensures in
    let names = c.append_word.ensures in
    let l = names.1 _ _ (free.1 _ _ header) in
    record { written = l.written; count = omega (arith, l.count, names.0, free.0) }

pub start_state_spec : {M : Type 1} → statement M
start_state_spec =
    tie.close
    (tie.spec
    (λ c. search rules)
    (λ c κs. search rules)
    (λ c κs. search rules)
    (λ c κs. search rules)
    (λ c. search rules)
    returns)
