-- `turn`: an ambient is copied, a process turned, and an action met.
use Rattle.std.proofs.Common.{sym, ap, arith}
use Rattle.elements.specs.Spelling.{encode_elements}
use Rattle.buffers.proofs.Appending.{left_is}
use Rattle.turning.proofs.TurnedElements.{turning_long, as_ambient, as_process, as_action, ambient_requires, process_requires, process_left}
use Rattle.turning.proofs.Turned.{meets_requires}
use Rattle.turning.proofs.turn.Goals as goal

pub bounds-element-0 : goal.bounds-element-0
bounds-element-0 c = omega (arith, turning_long c.requires)

pub blocked_ambient-requires : goal.blocked_ambient-requires
blocked_ambient-requires c = let h = ambient_requires c.requires (omega arith) in record { element_nonzero = h.0; element_in_bounds = h.1 }

pub slice_bounds-turn_process-count : goal.slice_bounds-turn_process-count
slice_bounds-turn_process-count c = omega (arith, turning_long c.requires)

pub slice_bounds-turn_process-start : goal.slice_bounds-turn_process-start
slice_bounds-turn_process-start c = omega (arith, turning_long c.requires)

pub turn_process-requires : goal.turn_process-requires
turn_process-requires c = let p = c.requires in process_requires p (as_process p.element p.spells (omega arith))

pub slice_bounds-met-count : goal.slice_bounds-met-count
slice_bounds-met-count c = omega (arith, turning_long c.requires)

pub slice_bounds-met-start : goal.slice_bounds-met-start
slice_bounds-met-start c = omega (arith, turning_long c.requires)

pub met-requires : goal.met-requires
met-requires c = let p = c.requires in meets_requires p.named (as_action p.element p.spells _ p.handed (omega arith) (omega arith) p.suited) p.fits p.short

pub returns-in-0-to-65 : goal.returns-in-0-to-65
returns-in-0-to-65 c ns E n v t = left_is (as_ambient E v _ ns (omega arith)) c.blocked_ambient.ensures

pub returns-in-66 : goal.returns-in-66
returns-in-66 c ns E n v t = let w = as_process E v (omega arith) in process_left _ ns w t (c.turn_process.ensures ns w.process n w.spells)

pub returns-in_default : goal.returns-in_default
returns-in_default c ns E n v t =
    let w = as_action E v _ ns (omega arith) (omega arith) t in
    left_is (ap encode_elements (sym w.new)) (c.met.ensures ns w.doing w.process n w.spells w.takes)
