-- `turn_process`: by the tag, the parts of the process that are written.
use Rattle.std.proofs.Common.{sym, ap, ℕ, ◌+◌, arith}
use Rattle.elements.specs.Spelling.{encode_elements}
use Rattle.buffers.proofs.Appending.{nothing_yet, left_is}
use Rattle.elements.proofs.Tags.{tagged, tagged_as, tagged_last}
use Rattle.turning.proofs.Turned.{meets_requires}
use Rattle.turning.proofs.TurnedProcesses.{as_null, as_parallel, as_restriction, as_ambient, as_blocked, as_met, as_replication, spelled_long, ambient_long, split_requires, bound_requires, opened_requires, blocked_requires, unfolded_requires}
use Rattle.turning.proofs.turn_process.Goals as goal

pub bounds-process-0 : goal.bounds-process-0
bounds-process-0 c = omega (arith, spelled_long c.requires.spells)

pub returns-in-32 : goal.returns-in-32
returns-in-32 c ns P n v t = left_is (as_null _ ns (tagged_as v.spelled c.in-32.is)) (nothing_yet c.args.out.now)

-- A parallel

pub slice_bounds-split-end : goal.slice_bounds-split-end
slice_bounds-split-end c =
    let p = c.requires in
    let v = as_parallel c.args.block p.handed _ (tagged_as p.spells.spelled c.in-33.is) p.spells.spelled (ap (λ (n : ℕ). 6 + n) c.word-mid.ensures.0) in
    omega (arith, v.within)

pub split-requires : goal.split-requires
split-requires c =
    let p = c.requires in
    let h = split_requires p _ (as_parallel c.args.block p.handed _ (tagged_as p.spells.spelled c.in-33.is) p.spells.spelled (ap (λ (n : ℕ). 6 + n) c.word-mid.ensures.0)) in
    record { second_in_bounds = h.0; second_len_bound = h.1 }

pub returns-in-33 : goal.returns-in-33
returns-in-33 c ns P n v t = left_is (as_parallel c.args.block ns _ (tagged_as v.spelled c.in-33.is) v.spelled (ap (λ (n : ℕ). 6 + n) c.word-mid.ensures.0)).spells c.split.ensures

-- A restriction

pub slice_bounds-received-count : goal.slice_bounds-received-count
slice_bounds-received-count c = omega (arith, spelled_long c.requires.spells)

pub slice_bounds-received-start : goal.slice_bounds-received-start
slice_bounds-received-start c = omega (arith, spelled_long c.requires.spells)

pub received-requires : goal.received-requires
received-requires c =
    let p = c.requires in
    let h = bound_requires p (as_restriction _ p.handed (tagged_as p.spells.spelled c.in-34.is) p.spells p.suited) in
    record { receiving = h.0; process_in_bounds = h.1 }

pub returns-in-34 : goal.returns-in-34
returns-in-34 c ns P n v t = let w = as_restriction _ ns (tagged_as v.spelled c.in-34.is) v t in left_is w.new (c.received.ensures ns w.inner n w.spelled w.spellable)

-- An ambient

pub slice_bounds-opened-end : goal.slice_bounds-opened-end
slice_bounds-opened-end c = omega (arith, ambient_long c.requires.spells c.in-35.is)

pub opened-requires : goal.opened-requires
opened-requires c =
    let p = c.requires in
    let h = opened_requires p 5 (as_ambient _ p.handed (tagged_as p.spells.spelled c.in-35.is) p.spells.spelled) in
    record { process_in_bounds = h.0; process_bound = h.1 }

pub returns-in-35 : goal.returns-in-35
returns-in-35 c ns P n v t = left_is (as_ambient _ ns (tagged_as v.spelled c.in-35.is) v.spelled).spells c.opened.ensures

-- An action, which is blocked or meets another

pub slice_bounds-write_field-count : goal.slice_bounds-write_field-count
slice_bounds-write_field-count c = omega (arith, spelled_long c.requires.spells)

pub slice_bounds-write_field-start : goal.slice_bounds-write_field-start
slice_bounds-write_field-start c = omega (arith, spelled_long c.requires.spells)

pub write_field-requires : goal.write_field-requires
write_field-requires c =
    let p = c.requires in
    let h = blocked_requires p 3 (as_blocked _ p.handed c.if-block.true (tagged_as p.spells.spelled c.in-36.is) p.spells.spelled) in
    record { body_in_bounds = h.0; body_len_bound = h.1 }

pub returns-in-36 : goal.returns-in-36
returns-in-36 c ns P n v t = left_is (as_blocked _ ns c.if-block.true (tagged_as v.spelled c.in-36.is) v.spelled).spells c.write_field.ensures.1

pub slice_bounds-met-count : goal.slice_bounds-met-count
slice_bounds-met-count c = omega (arith, spelled_long c.requires.spells)

pub slice_bounds-met-start : goal.slice_bounds-met-start
slice_bounds-met-start c = omega (arith, spelled_long c.requires.spells)

pub met-requires : goal.met-requires
met-requires c =
    let p = c.requires in
    meets_requires p.named (as_met _ p.handed c.if-block.false (tagged_as p.spells.spelled c.in-36.is) p.spells p.suited) p.fits p.short

pub returns-in-36-2 : goal.returns-in-36-2
returns-in-36-2 c ns P n v t =
    let w = as_met _ ns c.if-block.false (tagged_as v.spelled c.in-36.is) v t in
    left_is (ap encode_elements (sym w.new)) (c.met.ensures ns w.doing w.process n w.spells w.takes)

-- A replication

pub slice_bounds-unfolded-end : goal.slice_bounds-unfolded-end
slice_bounds-unfolded-end c =
    let p = c.requires in
    let l = tagged_last (tagged p.spells.spelled) (omega arith) (omega arith) (omega arith) (omega arith) (omega arith) in
    let v = as_replication c.args.block p.handed _ l p.spells.spelled (ap (λ (n : ℕ). 6 + n) c.word-mid-in_default.ensures.0) in
    omega (arith, v.within)

pub unfolded-requires : goal.unfolded-requires
unfolded-requires c =
    let p = c.requires in
    let l = tagged_last (tagged p.spells.spelled) (omega arith) (omega arith) (omega arith) (omega arith) (omega arith) in
    let h = unfolded_requires p _ (as_replication c.args.block p.handed _ l p.spells.spelled (ap (λ (n : ℕ). 6 + n) c.word-mid-in_default.ensures.0)) in
    record { replication_in_bounds = h.0; replication_bound = h.1 }

pub returns-in_default : goal.returns-in_default
returns-in_default c ns P n v t =
    let l = tagged_last (tagged v.spelled) (omega arith) (omega arith) (omega arith) (omega arith) (omega arith) in
    left_is (as_replication c.args.block ns _ l v.spelled (ap (λ (n : ℕ). 6 + n) c.word-mid-in_default.ensures.0)).spells c.unfolded.ensures
