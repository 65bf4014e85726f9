use Rattle.std.proofs.Common.{rules, arith, refl, ap, ◌+◌}
use Rattle.places.proofs.Places.{next_further, list_further}
use Rattle.places.proofs.striding.PlacesOfIterator.next.Goals as goal

pub overflow_add-self : goal.overflow_add-self
overflow_add-self c = omega (arith, next_further c.requires (search rules) c.stride.ensures, c.requires.short)

pub returns-clause-steps : goal.returns-clause-steps
returns-clause-steps c =
    let w = next_further c.requires (search rules) c.stride.ensures in
    record { below = search rules; offset = refl; rest = refl; same = refl; later = w.0; within = w.1; goes = λ A e. ap (λ n. c.args.self.now.at + n) (c.stride.ensures A e) }

pub returns-clause-goes : goal.returns-clause-goes
returns-clause-goes c =
    let w = next_further c.requires (search rules) c.stride.ensures in
    let l = list_further c.requires (search rules) c.stride.ensures in
    record { on = λ _. (l, tt, omega (arith, w)); keeps = l; rests = λ _. tt }
