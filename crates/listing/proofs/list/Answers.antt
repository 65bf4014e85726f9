-- The answers for `list`: what is counted fits, or is 13; then it is written.
use mathlib.Core.Path.{◌≡◌, sym, ◌∙◌}
use native.Mathlib.Omega.{arith}
use Rattle.std.specs.Prelude.{Err}
use Rattle.machine.specs.Limits.{byte_limit}
use Rattle.buffers.proofs.Answers.{fits_within}
use Rattle.states.proofs.Root.{root_within, root_long, root_list_law, root_bytes}
use Rattle.listing.proofs.ListBytes.{root_graded, root_listable, list_refused, list_full, list_done}
use Rattle.listing.proofs.list.Goals as goal

pub returns-in_err-read_within : goal.returns-in_err-read_within
returns-in_err-read_within c =
    let e : c.from_residual.result ≡ Err c.in_err-read_within.field-0.0 = grind arith in
    rw e (list_refused _ _ _ (sym c.in_err-read_within.was ∙ c.read_within.ensures))

pub slice_bounds-root-count : goal.slice_bounds-root-count
slice_bounds-root-count c =
    let r = root_within _ _ _ _ (λ i. omega (arith, c.type_inv.state i)) (sym c.in_ok-read_within.was ∙ c.read_within.ensures) in
    root_long r.root

pub slice_bounds-root-start : goal.slice_bounds-root-start
slice_bounds-root-start c =
    let r = root_within _ _ _ _ (λ i. omega (arith, c.type_inv.state i)) (sym c.in_ok-read_within.was ∙ c.read_within.ensures) in
    root_long r.root

pub able_count-n-requires : goal.able_count-n-requires
able_count-n-requires c =
    let r = root_within _ _ _ _ (λ i. omega (arith, c.type_inv.state i)) (sym c.in_ok-read_within.was ∙ c.read_within.ensures) in
    root_list_law r.root

pub returns-then-not-fits : goal.returns-then-not-fits
returns-then-not-fits c =
    let r = root_within _ _ _ _ (λ i. omega (arith, c.type_inv.state i)) (sym c.in_ok-read_within.was ∙ c.read_within.ensures) in
    list_full r _ _ (c.able_count-n.ensures.0 r.root.tree (root_bytes r.root) (root_graded r)) (sym c.fits.ensures ∙ c.if-not-fits.true)

pub write_able-requires : goal.write_able-requires
write_able-requires c =
    let r = root_within _ _ _ _ (λ i. omega (arith, c.type_inv.state i)) (sym c.in_ok-read_within.was ∙ c.read_within.ensures) in
    root_listable r c.args.out.now _ (c.able_count-n.ensures.0 r.root.tree (root_bytes r.root) (root_graded r)) (fits_within byte_limit _ _ (sym c.fits.ensures ∙ c.if-not-fits.false)).1

pub returns : goal.returns
returns c =
    let r = root_within _ _ _ _ (λ i. omega (arith, c.type_inv.state i)) (sym c.in_ok-read_within.was ∙ c.read_within.ensures) in
    list_done r _ _ (c.able_count-n.ensures.0 r.root.tree (root_bytes r.root) (root_graded r)) _ (sym c.fits.ensures ∙ c.if-not-fits.false) (c.write_able.ensures r.root.tree (root_bytes r.root) (root_graded r))
