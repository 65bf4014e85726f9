-- `write_loaded`: the front of the state, and the cabinet in the part behind it.
use borrow.Author.Rules.{rules}
use Rattle.buffers.proofs.Appending.{lent_behind}
use Rattle.enclosing.proofs.Pieces.{loaded_counted}
use Rattle.enclosing.proofs.write_loaded.Statement.{statement}
use Rattle.enclosing.proofs.write_loaded.Tie as tie

pub write_loaded_spec : {M : Type 1} → statement M
write_loaded_spec =
    tie.close
    (tie.spec
    (λ c. search rules)
    (λ c κs. search rules)
    (λ c. search rules)
    (λ c. search rules)
    (λ c. search rules)
    (λ c κs. search rules)
    (λ c. search rules)
    (λ c.
    let a = c.args in
    loaded_counted a.free a.process.now (lent_behind c.start_state.ensures c.write_cabinet.ensures)))
