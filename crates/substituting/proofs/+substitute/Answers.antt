-- `substitute`: the parts of the process that the bytes spell, one after the other.
use Rattle.std.proofs.Common.{◌∙◌, ◌+◌, ◌-◌, ℕ, length, arith, length-take, length-drop}
use Rattle.calculus.specs.Processes.{lift_by, receive, rename_all, rename}
use Rattle.format.specs.Spelling.{encode_references, encode}
use borrow.Rule.Slice.PartMut.{same_len_mid}
use Rattle.buffers.proofs.Middle.{inside, lent, behind, both}
use Rattle.substituting.proofs.Substitution.{putting, spellable_more, renamed_more, beside, same_null, header_long, first_part, second_part, second_within, length_after, second_renamed}
use Rattle.substituting.proofs.+substitute.Goals as goal

pub bounds-s-0 : goal.bounds-s-0
bounds-s-0 t c = let p = c.requires in omega (arith, header_long p.process c.args.s.now p.spelled)

pub returns-in-0-to-32 : goal.returns-in-0-to-32
returns-in-0-to-32 t c ns P n e h = same_null P _ e (omega arith) (putting c.args.binders ns)

-- A parallel

pub slice_bounds-substitute-end : goal.slice_bounds-substitute-end
slice_bounds-substitute-end t c =
    let p = c.requires in
    let v = beside p.process _ p.spelled c.word-mid.result c.word-mid.ensures.0 (omega arith) in
    omega (arith, inside v.part)

pub substitute-requires : goal.substitute-requires
substitute-requires t c =
    let p = c.requires in
    let v = beside p.process _ p.spelled c.word-mid.result c.word-mid.ensures.0 (omega arith) in
    let i = inside v.part in (
      omega (arith, i, c.decreases, length-take {A = ℕ}, length-drop {A = ℕ}),
      record {
        handed = p.handed;
        named = p.named;
        process = v.first;
        spelled = lent v.part;
        spellable = (v.spellable _ p.spellable).0;
        short = omega (arith, p.short, i, length-take {A = ℕ}, length-drop {A = ℕ});
      },
    )

pub substitute-requires-in-33 : goal.substitute-requires-in-33
substitute-requires-in-33 t c =
    let p = c.requires in
    let f = c.substitute in
    let v = beside p.process _ p.spelled c.word-mid.result c.word-mid.ensures.0 (omega arith) in
    let i = inside v.part in
    let l = same_len_mid 3 (6 + c.word-mid.result - 3) c.args.s.now f.new.s f.auto.s in (
      omega (arith, i, l, c.decreases, length-take {A = ℕ}, length-drop {A = ℕ}),
      record {
        handed = p.handed;
        named = p.named;
        process = v.second;
        spelled = behind v.part f.new.s f.auto.s;
        spellable = (v.spellable _ p.spellable).1;
        short = omega (arith, p.short, i, l, length-take {A = ℕ}, length-drop {A = ℕ});
      },
    )

pub returns-in-33 : goal.returns-in-33
returns-in-33 t c ns P n e h =
    let v = beside P _ e c.word-mid.result c.word-mid.ensures.0 (omega arith) in
    let ρ = putting c.args.binders ns in
    let f = c.substitute in
    let g = c.substitute-in-33 in
    both v.part f.new.s f.auto.s g.new.s (encode (rename ρ v.first)) (encode (rename ρ v.second)) (encode (rename ρ P))
    (f.ensures ns v.first n (lent v.part) (v.spellable _ h).0)
    (g.ensures ns v.second n (behind v.part f.new.s f.auto.s) (v.spellable _ h).1)
    (v.renamed ρ)

-- Any other process that is not null

pub substitute_references-requires-in_default : goal.substitute_references-requires-in_default
substitute_references-requires-in_default t c =
    let p = c.requires in
    let v = c.parts_of-inside.ensures p.process p.spelled p.spellable.1 in
    let f = c.substitute_references in
    record {
      handed = p.handed;
      named = p.named;
      references = v.second;
      spelled = lent (second_part v f.new.s f.auto.s);
      scoped = (v.scoped_references _ _ p.spellable.0).1;
      short = omega (arith, p.short);
    }

pub slice_bounds-substitute-count-in_default : goal.slice_bounds-substitute-count-in_default
slice_bounds-substitute-count-in_default t c =
    let p = c.requires in
    let v = c.parts_of-inside.ensures p.process p.spelled p.spellable.1 in
    let f = c.substitute_references in
    let g = c.substitute_references-in_default in
    omega (arith, second_within v f.new.s f.auto.s, length_after v f.new.s f.auto.s g.new.s g.auto.s)

pub slice_bounds-substitute-start-in_default : goal.slice_bounds-substitute-start-in_default
slice_bounds-substitute-start-in_default t c =
    let p = c.requires in
    let v = c.parts_of-inside.ensures p.process p.spelled p.spellable.1 in
    let f = c.substitute_references in
    let g = c.substitute_references-in_default in
    omega (arith, second_within v f.new.s f.auto.s, length_after v f.new.s f.auto.s g.new.s g.auto.s)

pub substitute-requires-in_default : goal.substitute-requires-in_default
substitute-requires-in_default t c =
    let p = c.requires in
    let v = c.parts_of-inside.ensures p.process p.spelled p.spellable.1 in
    let f = c.substitute_references in
    let g = c.substitute_references-in_default in
    let i = second_within v f.new.s f.auto.s in
    let l = length_after v f.new.s f.auto.s g.new.s g.auto.s in (
      omega (arith, v.long, i, l, c.decreases, length-take {A = ℕ}, length-drop {A = ℕ}),
      record {
        handed = p.handed;
        named = p.named;
        process = v.after;
        spelled = behind (second_part v f.new.s f.auto.s) g.new.s g.auto.s;
        spellable = spellable_more c.parts_of-inside.result.bound (length p.handed) c.args.binders v.after (v.scoped_after _ _ p.spellable.0, v.counted);
        short = omega (arith, p.short, v.few, i, l, length-take {A = ℕ}, length-drop {A = ℕ});
      },
    )

pub returns-in_default : goal.returns-in_default
returns-in_default t c ns P n e h =
    let r = c.parts_of-inside.result in
    let v = c.parts_of-inside.ensures P e h.1 in
    let f = c.substitute_references in
    let g = c.substitute_references-in_default in
    let w = second_part v f.new.s f.auto.s in
    let ρ = putting c.args.binders ns in
    both w g.new.s g.auto.s c.substitute-in_default.new.s (encode_references (rename_all ρ v.second)) (encode (rename (lift_by r.bound ρ) v.after)) (encode (rename ρ P))
    (g.ensures ns v.second n (lent w) (v.scoped_references _ _ h.0).1)
    (c.substitute-in_default.ensures ns v.after n (behind w g.new.s g.auto.s) (spellable_more r.bound (length ns) c.args.binders v.after (v.scoped_after _ _ h.0, v.counted))
    ∙ renamed_more r.bound c.args.binders (receive ns) v.after)
    (second_renamed v f.new.s f.auto.s ρ (f.ensures ns v.first n (lent (first_part v)) (v.scoped_references _ _ h.0).0))
