-- Parts of a line behind any text, and the ending that an answer of the code stands for.
use mathlib.Core.Path.{◌≡◌, refl, ap}
use mathlib.Core.List.{List, ◌++◌, append_assoc}
use Prim.Native.Nat.{ℕ}
use Rattle.buffers.specs.Buffers.{Left}
use Rattle.buffers.proofs.Appending.{left_is}
use Rattle.refusals.specs.Refusals.{number, InTable}
use Rattle.refusals.proofs.Theorems.{of_number}
use Rattle.runs.specs.Runs.{Ending, blocked, spent, limit}
use Rattle.advancing.specs.Answers.{ending_of}
use Rattle.lines.specs.Endings.{ended_by}

abbrev pub Appends : (text : List ℕ) (at : ℕ) (part last : List ℕ) (n : ℕ) → Type 0
Appends text at part last n = (new old : List ℕ) → Left new old text at → Left (new ++ part) old last n

infixl 5 ◌then◌
pub ◌then◌ : {text middle last a b : List ℕ} {at m n : ℕ} → Appends text at a middle m → Appends middle m b last n → Appends text at (a ++ b) last n
◌then◌ {a = a} {b} f g new old l = left_is (append_assoc new a b) (g (new ++ a) old (f new old l))

-- an ending that the code answers, where it is a limit of the table, is the one that was meant
pub ended_back : (e : Ending) → ((k : ℕ) → e ≡ limit k → InTable k) → ended_by number (ending_of e) ≡ e
unfolding ending_of
ended_back blocked h = refl
ended_back spent h = refl
ended_back (limit k) h = ap limit (of_number k (h k refl))
