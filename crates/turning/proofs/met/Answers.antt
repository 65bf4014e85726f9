-- `met`: the process behind the action, as it is or with the names in it.
use Rattle.std.proofs.Common.{arith}
use Rattle.turning.proofs.Turned.{meeting_within, meeting_room, receiving, met_input, met_other}
use Rattle.turning.proofs.met.Goals as goal

pub slice_bounds-process-count : goal.slice_bounds-process-count
slice_bounds-process-count c = omega (arith, meeting_within _ _ c.word-end.ensures.0 c.requires)

pub slice_bounds-process-start : goal.slice_bounds-process-start
slice_bounds-process-start c = omega (arith, meeting_within _ _ c.word-end.ensures.0 c.requires)

pub write_field-requires-clause-body_in_bounds : goal.write_field-requires-clause-body_in_bounds
write_field-requires-clause-body_in_bounds c = omega (arith, meeting_room _ _ c.word-end.ensures.0 c.requires)

pub returns-then-binders_of-eq0 : goal.returns-then-binders_of-eq0
returns-then-binders_of-eq0 c ns α P n v t = met_other _ _ c.word-end.ensures.0 _ c.binders_of.ensures ns α P v t (omega arith) c.write_field.ensures.1

pub received-requires : goal.received-requires
received-requires c =
    let p = c.requires in
    let k = c.word-end.ensures.0 in
    record {
      receiving = receiving _ _ k _ c.binders_of.ensures p.handed _ _ p.spells p.takes p.named (omega arith) p.short;
      process_in_bounds = (meeting_room _ _ k p).0;
    }

pub returns : goal.returns
returns c ns α P n v t = met_input _ _ c.word-end.ensures.0 _ c.binders_of.ensures ns α P v t (omega arith) (λ Q. c.received.ensures ns Q n)
