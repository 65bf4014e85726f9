-- `process_depth`: the parts of the process that the bytes spell, by their tag.
use Rattle.std.proofs.Common.{sym, ℕ, arith, length-take, length-drop}
use Rattle.substituting.proofs.Substitution.{header_long}
use Rattle.measuring.proofs.Depths.{spelled_null, spelled_halves, around, front_spelled, behind_spelled, inner_spelled, deep_within}
use Rattle.measuring.proofs.+process_depth.Goals as goal

pub bounds-s-0 : goal.bounds-s-0
bounds-s-0 t c = let p = c.requires in omega (arith, header_long p.process c.args.s.now p.spelled)

pub returns-then-tag-lt33 : goal.returns-then-tag-lt33
returns-then-tag-lt33 t c = deep_within _ _ c.requires (λ P e u. sym (spelled_null _ P e u c.if-tag-lt33.true))

pub slice_bounds-process_depth-end : goal.slice_bounds-process_depth-end
slice_bounds-process_depth-end t c =
    let p = c.requires in
    let v = spelled_halves _ p.process p.spelled p.counted c.word-mid.result c.word-mid.ensures.0 c.if-tag-eq33.true in
    omega (arith, v.within)

pub process_depth-first-requires : goal.process_depth-first-requires
process_depth-first-requires t c =
    let p = c.requires in
    let v = spelled_halves _ p.process p.spelled p.counted c.word-mid.result c.word-mid.ensures.0 c.if-tag-eq33.true in
    (omega (arith, v.within, c.decreases, length-take {A = ℕ}, length-drop {A = ℕ}), front_spelled p v)

pub process_depth-second-requires : goal.process_depth-second-requires
process_depth-second-requires t c =
    let p = c.requires in
    let v = spelled_halves _ p.process p.spelled p.counted c.word-mid.result c.word-mid.ensures.0 c.if-tag-eq33.true in
    (omega (arith, v.within, c.decreases, length-take {A = ℕ}, length-drop {A = ℕ}), behind_spelled p v)

pub returns-then-tag-eq33 : goal.returns-then-tag-eq33
returns-then-tag-eq33 t c =
    deep_within _ _ c.requires (λ P e u.
    let v = spelled_halves _ P e u c.word-mid.result c.word-mid.ensures.0 c.if-tag-eq33.true in
    omega (arith, v.deep, c.max.ensures, c.process_depth-first.ensures.0 v.first v.front v.counts.0, c.process_depth-second.ensures.0 v.second v.behind v.counts.1))

pub process_depth-requires : goal.process_depth-requires
process_depth-requires t c =
    let p = c.requires in
    let v = around (c.parts_of-inside.ensures p.process p.spelled p.counted) in
    (omega (arith, v.long, v.within, c.decreases, length-take {A = ℕ}, length-drop {A = ℕ}), inner_spelled p v)

pub returns : goal.returns
returns t c =
    deep_within _ _ c.requires (λ P e u.
    let v = around (c.parts_of-inside.ensures P e u) in
    omega (arith, v.deep, c.process_depth.ensures.0 v.inner v.behind v.counted))
