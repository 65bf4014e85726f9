-- Lists of accesses to the front panel, and the list of step calls that they ask for (document 02, request 2).
use Rattle.std.specs.Prelude.{◌≡◌, List, [], ◌∷◌, ℕ, ◌+◌, ◌*◌, ltb, eqb, length, take}
use Rattle.machine.specs.Tests.{pick}
use Rattle.buffers.specs.Buffers.{Written, kept, wrote}
use Rattle.calls.specs.Steps.{step_bytes}
use Rattle.calls.specs.Calls.{Call, call}
use Rattle.registers.specs.declared.Panel.{Panel}
use Rattle.registers.specs.Registers.{read_of, line_of}
use Rattle.panel.specs.Access.{held, write_of}

-- What is played

-- An access: a write, with the second buffer that is lent to it, of any length and contents; a read; a look at the interrupt line.
pub data Access : Type 0 where
  writes : (address value : ℕ) (spare : List ℕ) → Access
  reads : (address : ℕ) → Access
  looks : Access

-- Accesses one after another from a panel and what the state's buffer holds, each of which meets its contract, with the same buffer lent and
-- nobody else writing. With what was read, and the panel and the buffer after them.
pub data Accessed : Panel → List ℕ → List Access → List ℕ → Panel → List ℕ → Type 0 where
  no_access : {p : Panel} {s : List ℕ} → Accessed p s [] [] p s
  written : {p q r : Panel} {s s' last t t' : List ℕ} {a v : ℕ} {xs : List Access} {seen : List ℕ} →
      held q s' t' ≡ write_of a v (held p s t) → Accessed q s' xs seen r last → Accessed p s (writes a v t ∷ xs) seen r last
  read : {p r : Panel} {s last : List ℕ} {a o : ℕ} {xs : List Access} {seen : List ℕ} →
      o ≡ read_of a p → Accessed p s xs seen r last → Accessed p s (reads a ∷ xs) (o ∷ seen) r last
  looked : {p r : Panel} {s last : List ℕ} {o : ℕ} {xs : List Access} {seen : List ℕ} →
      o ≡ line_of p → Accessed p s xs seen r last → Accessed p s (looks ∷ xs) (o ∷ seen) r last

-- The calls that are asked for: of the accesses alone

-- What is written to 2 and to 4 to 7, as it stands.
pub record Keyed : Type 0 where
  pub enable : ℕ
  pub place_high : ℕ
  pub place_low : ℕ
  pub partner_high : ℕ
  pub partner_low : ℕ

abbrev pub nothing_keyed : Keyed
nothing_keyed = record { enable = 0; place_high = 0; place_low = 0; partner_high = 0; partner_low = 0 }

abbrev pub keyed : (address value : ℕ) → Keyed → Keyed
keyed a v k =
    record {
      enable = pick (eqb a 2) v k.enable;
      place_high = pick (eqb a 4) v k.place_high;
      place_low = pick (eqb a 5) v k.place_low;
      partner_high = pick (eqb a 6) v k.partner_high;
      partner_low = pick (eqb a 7) v k.partner_low;
    }

-- What a write commands.
pub data Command : Type 0 where
  step acknowledge nothing : Command

unfoldable pub command_of : (address value : ℕ) → Command
command_of a v = pick (eqb a 0) (pick (eqb v 1) step (pick (eqb v 2) acknowledge nothing)) nothing

-- A step call at the place and with the partner that were written last. Its output buffer is the front of the second buffer, as long as the
-- shorter of that and of the state's buffer, which has so many bytes.
abbrev pub call_of : ℕ → Keyed → List ℕ → Call
call_of n k spare = call (k.place_high * 256 + k.place_low) (k.partner_high * 256 + k.partner_low) (take n spare)

unfoldable pub calling : Command → Call → List Call → List Call
calling step c cs = c ∷ cs
calling acknowledge c cs = cs
calling nothing c cs = cs

unfoldable pub calls_of : ℕ → Keyed → List Access → List Call
calls_of n k [] = []
calls_of n k (writes a v spare ∷ xs) = calling (command_of a v) (call_of n k spare) (calls_of n (keyed a v k) xs)
calls_of n k (reads a ∷ xs) = calls_of n k xs
calls_of n k (looks ∷ xs) = calls_of n k xs

-- What they answer

-- The present state after an answer.
unfoldable pub present_after : Written ℕ ℕ → List ℕ → List ℕ
present_after (kept k) s = s
present_after (wrote rule new) s = new

-- From the bytes of a state, each call on what the one before it left.
unfoldable pub answers_of : List ℕ → List Call → List (Written ℕ ℕ)
answers_of s [] = []
answers_of s (call p q out ∷ cs) = step_bytes s p q (length out) ∷ answers_of (present_after (step_bytes s p q (length out)) s) cs

-- Every call is refused with 2.
unfoldable pub all_two : List Call → List (Written ℕ ℕ)
all_two [] = []
all_two (c ∷ cs) = kept 2 ∷ all_two cs

-- The answers from a start with this length, over what the state's buffer holds: 2 throughout where the length is past its end.
unfoldable pub answers_from : ℕ → List ℕ → List Call → List (Written ℕ ℕ)
answers_from n s cs = pick (ltb (length s) n) (all_two cs) (answers_of (take n s) cs)
