-- What a call that fills the front of a buffer writes, and what the buffer holds after it.
use Rattle.std.specs.Prelude.{◌≡◌, Result, Ok, Err, Bool, false, List, ◌∷◌, ◌++◌, ℕ, ◌%◌, length, drop, take, ltb, leb}
use Rattle.machine.specs.Tests.{pick}
use Rattle.buffers.specs.Words.{word}
use Rattle.refusals.specs.declared.Refusal.{Refusal}
use Rattle.refusals.specs.Refusals.{refusal}

-- The front of a buffer is new, and the rest as it was.
pub record Left (new old last : List ℕ) (n : ℕ) : Type 0 where
  pub written : last ≡ new ++ drop (length new) old
  pub count : n ≡ length new

-- What a call that fills the front of a buffer comes to: why it leaves every byte as it was, or what it tells beside the bytes at the front, and these. Where it is refused, why is the number.
pub data Written (Why A : Type 0) : Type 0 where
  kept : Why → Written Why A
  wrote : A → List ℕ → Written Why A

-- What the buffer holds after it: the new bytes at its front, and every byte behind them as it was.
unfoldable pub buffer_after : {Why A : Type 0} → Written Why A → List ℕ → List ℕ
buffer_after (kept why) out = out
buffer_after (wrote a new) out = new ++ drop (length new) out

-- So many bytes are within a limit and within the buffer.
unfoldable pub fits_in : (limit room n : ℕ) → Bool
fits_in limit room n = pick (leb n limit) (leb n room) false

-- New bytes where they fit, and otherwise 13.
unfoldable pub fitting : {A : Type 0} (limit room : ℕ) → A → List ℕ → Written ℕ A
fitting limit room a new = pick (fits_in limit room (length new)) (wrote a new) (kept 13)

-- The answer to what a call comes to, and what it leaves in the buffer.
pub record Answered {Why A B : Type 0} (answer : Written Why A → B) (w : Written Why A) (out : List ℕ) (r : B) (last : List ℕ) : Type 0 where
  pub answers : r ≡ answer w
  pub leaves : last ≡ buffer_after w out

-- The answer of a call that tells nothing beside the bytes but how many they are.
unfoldable pub written_answer : {A : Type 0} → Written ℕ A → Result ℕ Refusal
written_answer (kept k) = Err (refusal k)
written_answer (wrote a new) = Ok (length new)

-- A buffer with new bytes at its front, as many as it holds.
unfoldable pub overlay : List ℕ → List ℕ → List ℕ
overlay new out = take (length out) new ++ drop (length new) out

-- A buffer with the header of a field at its front, where it holds one.
unfoldable pub headed : (tag len : ℕ) → List ℕ → List ℕ
headed tag len out = pick (ltb (length out) 3) out ((tag ∷ word (len % 65536)) ++ drop 3 out)
