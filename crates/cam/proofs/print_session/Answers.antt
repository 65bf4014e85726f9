-- What is printed grows by each piece, and where nothing is still to come it is the session's text.
use Rattle.std.proofs.Common.{◌≡◌, ℕ, ◌<◌, false, List, [], ◌++◌, take, drop, length, refl, sym, ap, ◌∙◌, subst, append_assoc, append-nil, lt-ltb, ltb, arith}
use Rattle.std.specs.Io.KnownBytes.{Appends}
use Rattle.std.proofs.KnownBytes.{Appends-trans}
use lib.Seq.{take_at}
use Rattle.telling.specs.Pieces.{lines_left, text_left, Told}
use Rattle.telling.specs.declared.Session.{Session}
use Rattle.telling.specs.declared.Session.TheVariants.{Refused, Running, Over}
use Rattle.telling.specs.declared.Piece.{Piece}
use Rattle.cam.proofs.print_session.Goals as goal

told_front : {s : Session} {present text after filled : List ℕ} {r : Piece} (t : Told s present text r after filled) → take r.length filled ≡ t.bytes
told_front {text = text} {r = r} t = ap (take r.length) t.fills.written ∙ take_at t.bytes (drop (length t.bytes) text) r.length (sym t.fills.count)

nothing_left : (s : Session) (present : List ℕ) → ltb 0 (lines_left s) ≡ false → text_left s present ≡ []
unfolding lines_left text_left
nothing_left (Refused k) present h = cc
nothing_left (Running steps n) present h = let l : 0 < lines_left (Running steps n) = omega arith in let t = lt-ltb 0 _ l in cc
nothing_left Over present h = refl

pub loop-present-preserved : goal.loop-present-preserved
loop-present-preserved g c =
    let told = c.next_piece-piece.ensures in
    let before = c.loop-present.invariant.printed in
    record {
      stands = told.stands;
      printed = (
        before.0 ++ told.bytes,
        Appends-trans _ _ _ _ _ before.1 (subst (Appends _ _) (told_front told) c.in_ok-write_all.ensures.bytes),
        append_assoc before.0 told.bytes _ ∙ ap (λ (x : List ℕ). before.0 ++ x) (sym told.tells) ∙ before.2,
      );
    }

pub returns : goal.returns
returns g c =
    let before = c.loop-present.invariant.printed in
    let none = nothing_left c.loop-present.session c.loop-present.present (sym c.goes_on.ensures ∙ c.loop-present-test.false) in
    subst (Appends _ _) (sym (append-nil before.0) ∙ ap (λ (x : List ℕ). before.0 ++ x) (sym none) ∙ before.2) before.1
