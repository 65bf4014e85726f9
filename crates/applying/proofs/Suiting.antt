-- Where each element of a list that is turned has names for its variables: so in the parts of the list.
use mathlib.Core.Path.{◌≡◌, refl}
use mathlib.Core.Bool.{true}
use mathlib.Core.List.{List}
use mathlib.Core.Option.{none-ne-some}
use Prim.Native.Nat.{ℕ, ◌+◌}
use Rattle.calculus.specs.Processes.{Reference}
use Rattle.machine.specs.Elements.{Status, Elements, Element, ambient_element, process_element, blocked_element, ◌before◌, only, here, later, inside, element_at}
use Rattle.machine.specs.Questions.{numbered}
use Rattle.places.specs.Offsets.{width}
use Rattle.turning.specs.Turning.{Suited}
use Rattle.rewriting.specs.declared.Plan.{Plan}
use Rattle.rewriting.specs.Editing.{marked, Suits}

pub suits_turned : (k : Plan) (ns : List Reference) (o : ℕ) (E : Element) → Suits k ns o (only E) → marked k o ≡ true → Suited k.block ns E
unfolding element_at numbered ◌before◌
suits_turned k ns o (ambient_element u a A) h m = h here _ refl m
suits_turned k ns o (process_element P) h m = h here _ refl m
suits_turned k ns o (blocked_element α P) h m = h here _ refl m

pub suits_contents : (k : Plan) (ns : List Reference) (o : ℕ) (u : Status) (a : Reference) (A : Elements) → Suits k ns o (only (ambient_element u a A)) → Suits k ns (o + 5) A
unfolding element_at numbered ◌before◌
suits_contents k ns o u a A h π = h (inside π)

pub suits_first : (k : Plan) (ns : List Reference) (o : ℕ) (E : Element) (C : Elements) → Suits k ns o (E before C) → Suits k ns o (only E)
unfolding element_at numbered ◌before◌
suits_first k ns o (ambient_element u a A) C h here = h here
suits_first k ns o (ambient_element u a A) C h (later π) = λ E e. absurd (none-ne-some E e)
suits_first k ns o (ambient_element u a A) C h (inside π) = h (inside π)
suits_first k ns o (process_element P) C h here = h here
suits_first k ns o (process_element P) C h (later π) = λ E e. absurd (none-ne-some E e)
suits_first k ns o (process_element P) C h (inside π) = h (inside π)
suits_first k ns o (blocked_element α P) C h here = h here
suits_first k ns o (blocked_element α P) C h (later π) = λ E e. absurd (none-ne-some E e)
suits_first k ns o (blocked_element α P) C h (inside π) = h (inside π)

pub suits_others : (k : Plan) (ns : List Reference) (o : ℕ) (E : Element) (C : Elements) → Suits k ns o (E before C) → Suits k ns (o + width E) C
unfolding element_at numbered ◌before◌
suits_others k ns o (ambient_element u a A) C h π = h (later π)
suits_others k ns o (process_element P) C h π = h (later π)
suits_others k ns o (blocked_element α P) C h π = h (later π)
