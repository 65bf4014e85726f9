-- The answers for `process_weight`: the parts of the process that the bytes spell, by their tag.
use mathlib.Core.Path.{sym, ap}
use Prim.Native.Nat.{ℕ, ◌+◌, ◌-◌}
use native.Mathlib.Omega.{arith}
use lib.ListN.{drop, length-take, length-drop}
use Rattle.layouts.proofs.Laying.{process_long}
use Rattle.buffers.proofs.Parts.{length_part}
use Rattle.elements.proofs.Tags.{tagged, tagged_as}
use Rattle.elements.proofs.Processes.{spelled_parallel, spelled_restriction, spelled_ambient, weight_replication, weight_other, inner_spelled, weighs_within}
use Rattle.weighing.proofs.+process_weight.Goals as goal

pub bounds-s-0 : goal.bounds-s-0
bounds-s-0 t c =
    let p = c.requires in rw p.spelled (omega (arith, process_long p.process))

pub slice_bounds-process_weight-end : goal.slice_bounds-process_weight-end
slice_bounds-process_weight-end t c =
    let v = spelled_parallel c.requires.spelled _ (ap (λ (k : ℕ). 6 + k) c.word-mid.ensures.0) c.in-33.is in omega (arith, v)

pub process_weight-requires : goal.process_weight-requires
process_weight-requires t c =
    let v = spelled_parallel c.requires.spelled _ (ap (λ (k : ℕ). 6 + k) c.word-mid.ensures.0) c.in-33.is in
    let m = 6 + c.word-mid.result in
    let n = length-take (m - 3) (drop 3 c.args.s.now) in
    let k = length-drop 3 c.args.s.now in
    (omega (arith, n, k, v, c.decreases), record { process = v.first; spelled = v.front; short = omega (arith, n, k, v, c.requires.short) })

pub process_weight-requires-in-33 : goal.process_weight-requires-in-33
process_weight-requires-in-33 t c =
    let v = spelled_parallel c.requires.spelled _ (ap (λ (k : ℕ). 6 + k) c.word-mid.ensures.0) c.in-33.is in
    let n = length_part (6 + c.word-mid.result) c.args.s.now in
    (omega (arith, n, v, c.decreases), record { process = v.second; spelled = v.behind; short = omega (arith, n, v, c.requires.short) })

pub slice_bounds-process_weight-count-in-34 : goal.slice_bounds-process_weight-count-in-34
slice_bounds-process_weight-count-in-34 t c =
    omega (arith, spelled_restriction c.requires.spelled c.in-34.is)

pub slice_bounds-process_weight-start-in-34 : goal.slice_bounds-process_weight-start-in-34
slice_bounds-process_weight-start-in-34 t c =
    omega (arith, spelled_restriction c.requires.spelled c.in-34.is)

pub process_weight-requires-in-34 : goal.process_weight-requires-in-34
process_weight-requires-in-34 t c =
    let q = inner_spelled c.requires (omega arith) (spelled_restriction c.requires.spelled c.in-34.is) in
    (omega (arith, q.0, c.decreases), q.1)

pub slice_bounds-process_weight-count-in-35 : goal.slice_bounds-process_weight-count-in-35
slice_bounds-process_weight-count-in-35 t c =
    omega (arith, spelled_ambient c.requires.spelled c.in-35.is)

pub slice_bounds-process_weight-start-in-35 : goal.slice_bounds-process_weight-start-in-35
slice_bounds-process_weight-start-in-35 t c =
    omega (arith, spelled_ambient c.requires.spelled c.in-35.is)

pub process_weight-requires-in-35 : goal.process_weight-requires-in-35
process_weight-requires-in-35 t c =
    let q = inner_spelled c.requires (omega arith) (spelled_ambient c.requires.spelled c.in-35.is) in
    (omega (arith, q.0, c.decreases), q.1)

pub returns-in-33 : goal.returns-in-33
returns-in-33 t c =
    weighs_within _ _ c.requires (λ P e.
    let v = spelled_parallel e _ (ap (λ (k : ℕ). 6 + k) c.word-mid.ensures.0) c.in-33.is in
    omega (arith, v.weighs, c.process_weight.ensures.0 v.first v.front, c.process_weight-in-33.ensures.0 v.second v.behind))

pub returns-in-34 : goal.returns-in-34
returns-in-34 t c =
    weighs_within _ _ c.requires (λ P e.
    let v = spelled_restriction e c.in-34.is in omega (arith, v.weighs, c.process_weight-in-34.ensures.0 v.inner v.behind))

pub returns-in-35 : goal.returns-in-35
returns-in-35 t c =
    weighs_within _ _ c.requires (λ P e.
    let v = spelled_ambient e c.in-35.is in omega (arith, v.weighs, c.process_weight-in-35.ensures.0 v.inner v.behind))

pub returns-in-37 : goal.returns-in-37
returns-in-37 t c =
    weighs_within _ _ c.requires (λ P e. sym (weight_replication (tagged_as e c.in-37.is)))

pub returns-in_default : goal.returns-in_default
returns-in_default t c =
    weighs_within _ _ c.requires
    (λ P e. sym (weight_other (tagged e) (λ z. omega arith) (λ z. omega arith) (λ z. omega arith) (λ z. omega arith)))
