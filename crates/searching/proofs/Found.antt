-- What the answers to an action to be executed say of its partners.
use mathlib.Core.Path.{◌≡◌, refl, sym, ap, ◌∙◌}
use mathlib.Core.Bool.{Bool, false≢true}
use mathlib.Core.List.{List, [], ◌∷◌, map}
use mathlib.Core.Option.{Option, none, some}
use mathlib.Core.Logic.{◌↔◌}
use Prim.Native.Nat.{ℕ}
use native.Mathlib.Omega.{arith}
use lib.ListN.{length}
use borrow.Author.Tests.{ltb-true, lt-ltb}
use Rattle.std.specs.Prelude.{Option as CodeOption, None, Some}
use Rattle.calculus.specs.Processes.{Action, Process, action}
use Rattle.machine.specs.Elements.{unblocked, Elements, process_element, standing, Position, element_at}
use Rattle.machine.specs.Kinds.{side_of}
use Rattle.machine.specs.Meetings.{partners}
use Rattle.machine.specs.Ordered.{lowest}
use Rattle.machine.specs.Frames.{frame_of}
use Rattle.machine.specs.Answers.{answers}
use Rattle.machine.specs.Questions.{every, told_of, ask, Tally as Count}
use Rattle.machine.proofs.Lowest.{first_none}
use Rattle.machine.proofs.search.Questions.{told_none, four_questions, none_asked, lowest_asked, partners_counted, meeting_asked}
use Rattle.places.specs.Offsets.{by_bytes, offset, coded}
use Rattle.places.proofs.Offsets.{bytes_number}
use Rattle.tallying.specs.declared.Tally.{Tally}
use Rattle.tallying.specs.Numbers.{tally_numbers}
use Rattle.tallying.proofs.Wants.{number_is}
use Rattle.searching.specs.Found.{Tallied, FirstFound, NothingFound, NumberFound, NoneFound, LowestFound, FirstTold, LowestTold, OneFound, OtherFound}

lowest_is : (t : Count) (r : Tally) → r ≡ tally_numbers t → r.lowest ≡ coded t.lowest
unfolding tally_numbers
lowest_is t r e = ap (λ (x : Tally). x.lowest) e

coded_some : (m : Option ℕ) (o : ℕ) → coded m ≡ Some o → m ≡ some o
coded_some none o e = absurd (let z : ◌≡◌ {A = ℕ} 0 1 = cc in omega arith)
coded_some (some k) o e = let q : k ≡ o = cc in ap some q

coded_none : (m : Option ℕ) → coded m ≡ None → m ≡ none
coded_none none e = refl
coded_none (some k) e = absurd (let z : ◌≡◌ {A = ℕ} 0 1 = cc in omega arith)

-- something is lowest where there is something
lowest_none : {A : Type 0} (f : A → ℕ) (all : List A) (m : Option ℕ) → m ≡ lowest (map f all) → (length all ≡ 0) ↔ (m ≡ none)
unfolding lowest
lowest_none f [] m e = ((λ z. e), (λ z. refl))
lowest_none f (x ∷ xs) m e = ((λ z. absurd (omega arith)), (λ z. absurd (let y : ◌≡◌ {A = ℕ} 0 1 = cc in omega arith)))

module _ (once : Bool) (L : Elements) (π : Position) (α : Action) (P : Process) (r : Tally) (e : element_at L π ≡ some (process_element (action α P))) (k : Tallied once L π α r) where
  abbrev told : Count
  told = ask by_bytes (every once) (frame_of L π) α

  counted : told.number ≡ told_of once (length (answers L π α))
  unfolding standing
  counted = (four_questions by_bytes bytes_number unblocked L π α P e).number once

  least : told.lowest ≡ lowest (map (offset 0 L) (answers L π α))
  unfolding standing
  least = (four_questions by_bytes bytes_number unblocked L π α P e).least once

  number_found_law : r.number ≡ told_of once (length (partners (side_of α) L π))
  number_found_law = number_is told r k ∙ (partners_counted L π α P e).number by_bytes bytes_number once

  none_found : r.number ≡ 0 → NothingFound L π α
  none_found z =
      let n : told.number ≡ 0 = sym (number_is told r k) ∙ z in
      record {
        alone = (none_asked by_bytes bytes_number L π α P e once).0 n;
        first = (first_none (partners (side_of α) L π)).0 ((told_none once (length (partners (side_of α) L π))).0 (sym number_found_law ∙ z));
      }

  lowest_found_law : (o : ℕ) → r.lowest ≡ Some o → FirstFound L π α o
  lowest_found_law o y =
      let t = lowest_asked by_bytes bytes_number L π α P e once o (coded_some told.lowest o (sym (lowest_is told r k) ∙ y)) in
      record {
        partner = t.at;
        found = t.numbers;
        rule = t.rule;
        after = t.after;
        meets = t.meets;
        first = ap lowest t.first ∙ unfold lowest in refl;
      }

  lowest_told_law : (r.number ≡ 0) ↔ (r.lowest ≡ None)
  lowest_told_law =
      let n = number_is told r k ∙ counted in
      let t = told_none once (length (answers L π α)) in
      let w = lowest_none (offset 0 L) (answers L π α) told.lowest least in (
        (λ z. lowest_is told r k ∙ ap coded (w.0 (t.0 (sym n ∙ z)))),
        (λ y. n ∙ t.1 (w.1 (coded_none told.lowest (sym (lowest_is told r k) ∙ y)))),
      )

  -- some are found, and so one is lowest
  some_found : ¬ (r.number ≡ 0) → (o : ℕ) × (r.lowest ≡ Some o) × FirstFound L π α o
  some_found z = go r.lowest refl
    where
      go : (l : CodeOption ℕ) → r.lowest ≡ l → (o : ℕ) × (r.lowest ≡ Some o) × FirstFound L π α o
      go None e = absurd (z (lowest_told_law.1 e))
      go (Some o) e = (o, e, lowest_found_law o e)

pub number_found : NumberFound
number_found once L π α P r e k = number_found_law once L π α P r e k

pub none_is_found : NoneFound
none_is_found once L π α P r e k z = none_found once L π α P r e k z

pub lowest_found : LowestFound
lowest_found once L π α P r e k z = some_found once L π α P r e k z

pub first_told : FirstTold
first_told once L π α P r o e k y = lowest_found_law once L π α P r e k o y

pub lowest_told : LowestTold
lowest_told once L π α P r e k = lowest_told_law once L π α P r e k

pub one_found : OneFound
one_found L π α P κ D b e d q t = (meeting_asked by_bytes bytes_number L π α P e κ D d).0 (ltb-true 0 _ (sym q ∙ t))

pub other_found : OtherFound
other_found L π α P κ D b e d q t n L' m = false≢true (sym t ∙ q ∙ lt-ltb 0 _ ((meeting_asked by_bytes bytes_number L π α P e κ D d).1 (n, L', m)))
