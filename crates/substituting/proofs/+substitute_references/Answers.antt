-- `substitute_references`: the first, then the others.
use Rattle.std.proofs.Common.{ℕ, arith, length-take, length-drop}
use Rattle.format.specs.Spelling.{encode_references}
use Rattle.substituting.proofs.Substitution.{putting, no_reference, leading, behind_first, references_put}
use Rattle.substituting.proofs.+substitute_references.Goals as goal

pub returns-then-s-lt2 : goal.returns-then-s-lt2
returns-then-s-lt2 t c ns rs n e h = no_reference rs _ (putting c.args.binders ns) e c.if-s-lt2.true

pub substitute_references-requires : goal.substitute_references-requires
substitute_references-requires t c =
    let p = c.requires in
    let v = leading p.references _ _ p.spelled p.scoped c.if-s-lt2.false in (
      omega (arith, c.decreases, c.substitute_reference.auto.s, length-take {A = ℕ}, length-drop {A = ℕ}),
      record {
        handed = p.handed;
        named = p.named;
        references = v.others;
        spelled = behind_first _ (encode_references v.others) _ (c.substitute_reference.ensures p.handed v.first (encode_references v.others) p.named v.bytes v.scoped.0);
        scoped = v.scoped.1;
        short = p.short;
      },
    )

pub returns : goal.returns
returns t c ns rs n e h =
    let v = leading rs _ _ e h c.if-s-lt2.false in
    let f = c.substitute_reference.ensures ns v.first (encode_references v.others) n v.bytes v.scoped.0 in
    references_put _ (encode_references v.others) _ v.first (putting c.args.binders ns) rs v.others v.are f
    (c.substitute_references.ensures ns v.others n (behind_first _ (encode_references v.others) _ f) v.scoped.1)
