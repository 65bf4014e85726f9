-- Laws of what a reader reaches: parts in a row are what the readers over lists read in a row.
use mathlib.Core.Path.{◌≡◌, refl, sym, ap, ◌∙◌}
use mathlib.Core.List.{List}
use Prim.Native.Nat.{ℕ, ◌+◌}
use native.Mathlib.Nat.{add_assoc}
use lib.ListN.{take, drop}
use lib.Seq.{drop-drop}
use Rattle.format.specs.Reading.{Outcome, refused, got, map_outcome, shift, and_then}
use Rattle.format.specs.Answers.{answer, count_outcome}
use Rattle.std.specs.Prelude.{Ok, Err}
use Rattle.refusals.specs.Refusals.{refusal}
use Rattle.reading.specs.Parts.{Reached, ahead, onward, counted, passed}
use Rattle.reading.specs.declared.Position.{Position}

-- Behind what was read from a position, with the two counts that it tells.
unfoldable pub behind : {A : Type 0} → (A → ℕ × ℕ) → Position → Outcome A → Reached
behind counts p (refused k) = Err (refusal k)
behind counts p (got a n) = Ok (record { at = p.at + n; end = p.end; names = (counts a).0; before = (counts a).1 })

pub behind_map : {A B : Type 0} (counts : B → ℕ × ℕ) (p : Position) (f : A → B) (o : Outcome A) → behind counts p (map_outcome f o) ≡ behind (λ a. counts (f a)) p o
unfolding behind map_outcome
behind_map counts p f (refused k) = refl
behind_map counts p f (got a n) = refl

-- what counts nothing tells the counts there were
pub passed_behind : {A : Type 0} (p : Position) (o : Outcome A) → passed p (answer p.at o) ≡ behind (λ a. (p.names, p.before)) p o
unfolding passed answer behind
passed_behind p (refused k) = refl
passed_behind p (got a n) = refl

-- the position behind a count
abbrev pub past : Position → ℕ → ℕ → Position
past p v n = record { at = p.at + n; end = p.end; names = v; before = p.names }

behind_shift : {A : Type 0} (counts : A → ℕ × ℕ) (p : Position) (v n : ℕ) (o : Outcome A) → behind counts (past p v n) o ≡ behind counts p (shift n o)
unfolding behind shift
behind_shift counts p v n (refused k) = refl
behind_shift counts p v n (got a m) = rw (add_assoc p.at n m)

-- a count, then what is read behind it
pub counted_then : {A : Type 0} (counts : A → ℕ × ℕ) (bytes : List ℕ) (p : Position) (o : Outcome ℕ) (f : ℕ → List ℕ → Outcome A) (g : Position → Reached)
    → ((v n : ℕ) → g (past p v n) ≡ behind counts (past p v n) (f v (ahead bytes (past p v n))))
    → onward (counted p (count_outcome p.at o)) g ≡ behind counts p (and_then o (ahead bytes p) f)
unfolding onward counted count_outcome and_then ahead behind
counted_then counts bytes p (refused k) f g h = refl
counted_then counts bytes p (got v n) f g h =
    h v n ∙ ap (λ (l : List ℕ). behind counts (past p v n) (f v l)) (sym (drop-drop n p.at (take p.end bytes))) ∙ behind_shift counts p v n (f v (drop n (drop p.at (take p.end bytes))))
