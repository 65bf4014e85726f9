-- What stands for an element that turns.
use Rattle.std.specs.Prelude.{Bool, true, false, List, ◌≡◌, ℕ, ◌≤◌, ◌<◌, length, eqb}
use Rattle.calculus.specs.Processes.{Reference, Action, Process, null, parallel, restriction, ambient, action, replication, binders, rename, receive}
use Rattle.machine.specs.Limits.{byte_limit}
use Rattle.machine.specs.Elements.{unblocked, blocked, Elements, empty, Element, ambient_element, process_element, blocked_element, ◌before◌, only}
use Rattle.machine.specs.Tests.{pick}
use Rattle.format.specs.Spelling.{word_limit}
use Rattle.elements.specs.Spelling.{encode_elements}
use Rattle.elements.specs.Spelled.{Spells}
use Rattle.substituting.specs.Substituting.{SpellsNames}

-- The process behind an action, with the names handed over for the variables that it binds.
unfoldable pub given : List Reference → Action → Process → Process
given ns α P = pick (eqb (binders α) 0) P (rename (receive ns) P)

-- What stands for an element that acts by itself (29 to 34, 43), or for an action that meets another (35 to 42).
unfoldable pub turned : (block : Bool) (ns : List Reference) → Element → Elements
turned b ns (ambient_element s a A) = only (ambient_element blocked a A)  -- 29
turned b ns (process_element null) = empty  -- 31
turned b ns (process_element (parallel P Q)) = process_element P before only (process_element Q)  -- 32
turned b ns (process_element (restriction P)) = only (process_element (rename (receive ns) P))  -- 33
turned b ns (process_element (ambient a P)) = only (ambient_element unblocked a (only (process_element P)))  -- 34
turned true ns (process_element (action α P)) = only (blocked_element α P)  -- 43
turned false ns (process_element (action α P)) = only (process_element (given ns α P))  -- 35 to 42
turned b ns (process_element (replication α P)) = only (process_element (action α (parallel P (replication α P))))  -- 30
turned b ns (blocked_element α P) = only (process_element (given ns α P))  -- 35 to 42

-- There are as many names as variables that they are put for.

abbrev pub Takes : List Reference → Action → Type 0
Takes ns α = ¬ (binders α ≡ 0) → length ns ≡ binders α

unfoldable pub Suited : (block : Bool) (ns : List Reference) → Element → Type 0
Suited b ns (ambient_element s a A) = Unit {0}
Suited b ns (process_element null) = Unit {0}
Suited b ns (process_element (parallel P Q)) = Unit {0}
Suited b ns (process_element (restriction P)) = length ns ≡ 1
Suited b ns (process_element (ambient a P)) = Unit {0}
Suited true ns (process_element (action α P)) = Unit {0}
Suited false ns (process_element (action α P)) = Takes ns α
Suited b ns (process_element (replication α P)) = Unit {0}
Suited b ns (blocked_element α P) = Takes ns α

-- Bytes that spell one element and the names for its variables, and room for what is to stand for it.
pub record Turning (s names : List ℕ) (block : Bool) (room : ℕ) : Type 0 where
  pub handed : List Reference
  pub named : SpellsNames names handed
  pub element : Element
  pub spells : Spells s (only element)
  pub suited : Suited block handed element
  pub fits : length (encode_elements (turned block handed element)) ≤ room
  pub small : length (encode_elements (turned block handed element)) < word_limit
  pub short : length s < byte_limit
