-- The answers for `choose_at`: an element by its tag: a process, an unblocked ambient by its contents, or one that is blocked.
use native.Mathlib.Omega.{arith}
use Rattle.alone.proofs.Turnings.{chosen_below, element_within, some_there}
use Rattle.choosing.proofs.Ambients.{contents_long, contents_listed, chooses_none, chooses_ambient, ambient_named, ambient_busy}
use Rattle.choosing.proofs.choose_at.Goals as goal

pub slice_bounds-rest-count : goal.slice_bounds-rest-count
slice_bounds-rest-count c = omega (arith, chosen_below c.requires)

pub slice_bounds-rest-start : goal.slice_bounds-rest-start
slice_bounds-rest-start c = omega (arith, chosen_below c.requires)

pub bounds-rest-0 : goal.bounds-rest-0
bounds-rest-0 c = some_there c.requires

pub slice_bounds-all_blocked-count : goal.slice_bounds-all_blocked-count
slice_bounds-all_blocked-count c = omega (arith, contents_long c.requires _ c.word-end.ensures.0 c.in-64.is)

pub slice_bounds-all_blocked-start : goal.slice_bounds-all_blocked-start
slice_bounds-all_blocked-start c = omega (arith, contents_long c.requires _ c.word-end.ensures.0 c.in-64.is)

pub slice_bounds-all_blocked-end : goal.slice_bounds-all_blocked-end
slice_bounds-all_blocked-end c = element_within c.requires _ c.word-end.ensures.0

pub all_blocked-requires : goal.all_blocked-requires
all_blocked-requires c = contents_listed c.requires _ c.word-end.ensures.0 c.in-64.is

pub returns-then-not-all_blocked : goal.returns-then-not-all_blocked
returns-then-not-all_blocked c F L π E adm el there = ambient_busy adm π E el _ there c.in-64.is _ c.word-end.ensures.0 _ c.all_blocked.ensures c.if-not-all_blocked.true _

pub returns-in-None : goal.returns-in-None
returns-in-None c F L π E adm el there = rw c.in-None.is (chooses_ambient adm π E el _ there c.in-64.is _ c.word-end.ensures.0 _ c.all_blocked.ensures c.if-not-all_blocked.false c.alone.ensures)

pub returns-in-Some : goal.returns-in-Some
returns-in-Some c F L π E adm el there = rw c.in-Some.is (ambient_named adm π E el _ there c.in-64.is _ c.word-end.ensures.0 _ c.all_blocked.ensures c.if-not-all_blocked.false _)

pub returns-in_default : goal.returns-in_default
returns-in_default c F L π E adm el there = chooses_none adm π E el _ there (λ e. omega arith) (λ e. omega arith) _
