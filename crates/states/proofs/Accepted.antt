-- What accepted bytes hold behind the header of a state: its root list.
use mathlib.Core.Path.{◌≡◌, ap}
use mathlib.Core.List.{List}
use Prim.Native.Nat.{ℕ, ◌≤◌}
use native.Mathlib.Omega.{arith}
use lib.ListN.{length, drop}
use Rattle.machine.specs.Elements.{Elements, state}
use Rattle.buffers.specs.Words.{word, field}
use Rattle.format.specs.Reading.{got}
use Rattle.format.specs.Theorems.{Bytes}
use Rattle.elements.specs.Spelling.{encode_elements, SpellableElements, encode_state}
use Rattle.machine.specs.Limits.{byte_limit}
use Rattle.states.specs.Reading.{parse_state}
use Rattle.elements.proofs.Spellable.{spellable_elements}
use Rattle.states.proofs.Whole.{state_whole_law}
use Rattle.states.proofs.Spelled.{state_spelled}
use Rattle.states.proofs.InScope.{ParsedState, Parsed, state_parsed}

pub record AcceptedState (bytes : List ℕ) (L : Elements) : Type 0 where
  pub root : drop 7 bytes ≡ encode_elements L
  pub long : 7 ≤ length bytes
  pub spellable : SpellableElements L
  pub within : length bytes ≤ byte_limit

pub accepted_state : (nest : ℕ) (bytes : List ℕ) (F N : ℕ) (L : Elements) (n : ℕ) → parse_state nest bytes ≡ got (state F N L) n → Bytes bytes
    → AcceptedState bytes L
unfolding Parsed encode_state field word
accepted_state nest bytes F N L n e h =
    let spelled = state_spelled nest bytes (state F N L) n h e in
    let parsed : ParsedState nest F N L = state_parsed nest bytes (state F N L) n e in
    record {
      root = ap (drop 7) spelled;
      long = omega (arith, ap length spelled);
      spellable = spellable_elements N parsed.few_names L parsed.readable.scoped parsed.readable.counted;
      within = (state_whole_law nest bytes (state F N L) n e).within;
    }
