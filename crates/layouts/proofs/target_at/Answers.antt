-- The answers for `target_at`: the first reference behind the header, where the action goes to an ambient.
use mathlib.Core.Path.{ap, ◌∙◌}
use Rattle.std.specs.Prelude.{Some}
use Rattle.layouts.proofs.Layouts.{target_is}
use Rattle.layouts.proofs.target_at.Goals as goal

pub returns-then-directed-eq0 : goal.returns-then-directed-eq0
returns-then-directed-eq0 c α rest e d = (target_is α c.args.s.now rest _ e d).0 c.if-directed-eq0.true

pub returns : goal.returns
returns c α rest e d = ap Some c.word.ensures.0 ∙ (target_is α c.args.s.now rest _ e d).1 c.if-directed-eq0.false
