-- The answers for `turn_alone`: each is the one of its rule, by the tag of the process.
use native.Mathlib.Omega.{arith}
use Prim.Native.Nat.{◌≤◌, ◌<◌}
use Rattle.alone.proofs.Turnings.{chosen_standing, element_within, process_spelled, process_within, last_shape, chooses_null, chooses_parallel, chooses_restriction, restriction_unnamed, chooses_opening, opening_nested, chooses_replication, replication_deep}
use Rattle.alone.proofs.turn_alone.Goals as goal

pub bounds-rest-3 : goal.bounds-rest-3
bounds-rest-3 c = process_within c.requires.chooses_at c.requires.at_value

pub spot_at-requires : goal.spot_at-requires
spot_at-requires c = chosen_standing c.requires.chooses_at

pub slice_bounds-is_shallow-end : goal.slice_bounds-is_shallow-end
slice_bounds-is_shallow-end c = element_within c.requires.chooses_at _ c.word-end.ensures.0

pub is_shallow-requires : goal.is_shallow-requires
is_shallow-requires c = process_spelled c.requires.chooses_at _ c.word-end.ensures.0 c.requires.at_value

pub returns-in-32 : goal.returns-in-32
returns-in-32 c F L π E adm el there = chooses_null adm π E el _ there c.requires.at_value c.in-32.is c.alone.ensures

pub returns-in-33 : goal.returns-in-33
returns-in-33 c F L π E adm el there = chooses_parallel adm π E el _ there c.requires.at_value c.in-33.is c.alone-in-33.ensures

pub returns-in-34 : goal.returns-in-34
returns-in-34 c F L π E adm el there =
    chooses_restriction adm π E el _ there c.requires.at_value c.in-34.is (omega arith) c.alone-in-34.ensures

pub returns-in-34-2 : goal.returns-in-34-2
returns-in-34-2 c F L π E adm el there = restriction_unnamed adm π E el _ there c.requires.at_value c.in-34.is (omega arith)

pub returns-in-35 : goal.returns-in-35
returns-in-35 c F L π E adm el there =
    chooses_opening adm π E el _ there c.requires.at_value c.in-35.is _ (c.spot_at.ensures L π E adm.spells.spelled el there) (omega arith) c.alone-in-35.ensures

pub returns-in-35-2 : goal.returns-in-35-2
returns-in-35-2 c F L π E adm el there =
    opening_nested adm π E el _ there c.requires.at_value c.in-35.is _ (c.spot_at.ensures L π E adm.spells.spelled el there) (omega arith)

pub returns-then-is_shallow : goal.returns-then-is_shallow
returns-then-is_shallow c F L π E adm el there =
    chooses_replication adm π E el _ there c.requires.at_value (last_shape _ (λ e. omega arith) (λ e. omega arith) (λ e. omega arith) (λ e. omega arith) c.requires.fact) _ c.word-end.ensures.0 _ c.is_shallow.ensures c.if-is_shallow.true c.alone-then-is_shallow.ensures

pub returns-else-is_shallow : goal.returns-else-is_shallow
returns-else-is_shallow c F L π E adm el there =
    replication_deep adm π E el _ there c.requires.at_value (last_shape _ (λ e. omega arith) (λ e. omega arith) (λ e. omega arith) (λ e. omega arith) c.requires.fact) _ c.word-end.ensures.0 _ c.is_shallow.ensures c.if-is_shallow.false
