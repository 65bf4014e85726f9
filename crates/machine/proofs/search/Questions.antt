-- The four readings of a list of numbers, and the questions that are answered by them.
use mathlib.Core.Path.{◌≡◌, refl, sym, ◌∙◌, ap, subst}
use mathlib.Core.Bool.{Bool, true, false, false≢true}
use mathlib.Core.Logic.{⊎_elim, ◌↔◌}
use mathlib.Core.List.Memᴰ
use mathlib.Core.List.{List, [], ◌∷◌, map}
use mathlib.Core.Option.{some, none-ne-some, some-injective}
use Prim.Native.Nat.{ℕ, suc, ◌+◌, min}
use native.Mathlib.Omega.{arith}
use lib.Dec.{eqb, ltb, leb}
use lib.ListN.{length, length-map}
use borrow.Author.Tests.{eqb-true, eqb-false, ltb-true, lt-ltb, leb-true, le-leb, lt-leb}
use Rattle.calculus.specs.Processes.{Action, Process, action}
use Rattle.machine.specs.Elements.{unblocked, Elements, process_element, blocked_element, standing, Position, place, element_at}
use Rattle.machine.specs.Tests.{◌and◌, pick}
use Rattle.machine.specs.Frames.{frame_of}
use Rattle.machine.specs.Kinds.{side_of}
use Rattle.machine.specs.Meetings.{partners}
use Rattle.machine.specs.Ordered.{Among, member, lowest}
use Rattle.machine.specs.Answers.{answers}
use Rattle.machine.specs.Questions.{Numbering, numbered, Question, Tally, untold, below, asks, first_of, only_once, settled, note, gather, every, told_of, is_one, by_place, Lawful, ask}
use Rattle.machine.specs.Search.{QuestionsAnswered, FourQuestions, OneAsked, NoneAsked, FirstMet, LowestAsked, PartnersCounted, MeetingAsked}
use Rattle.machine.proofs.Tests.{true_and}
use Rattle.machine.proofs.search.Meetings.{answers_meet, answers_blocked}
use Rattle.machine.proofs.search.Numbers.{map_same, numbers_differ, places_number}
use Rattle.machine.proofs.search.Partners.{partners_are_answers}
use Rattle.machine.proofs.search.Loops.{gather_settled, asked_is_read}

abbrev told : ℕ → ℕ → Tally
told n k = record { lowest = some n; number = k }

asks_one : (k n : ℕ) → asks (is_one k) n ≡ eqb k n
unfolding asks below is_one
asks_one k n = go (eqb k n) refl
  where
    apart : (b : Bool) → leb k n ≡ b → ¬ (k ≡ n) → leb k n and leb n k ≡ false
    apart true e d = let l = leb-true k n e in ap (λ c. c and leb n k) e ∙ lt-leb n k (omega arith)
    apart false e d = ap (λ c. c and leb n k) e

    go : (b : Bool) → eqb k n ≡ b → leb k n and leb n k ≡ eqb k n
    go true e = let s = eqb-true k n e in true_and (le-leb k n (omega arith)) (le-leb n k (omega arith)) ∙ sym e
    go false e = apart (leb k n) refl (eqb-false k n e) ∙ sym e

-- nothing told yet, and the first that is asked for settles it
once_first : (q : Question) (n : ℕ) (ns : List ℕ) → q.once ≡ true → gather q untold (n ∷ ns) ≡ pick (asks q n) (told n 1) (gather q untold ns)
unfolding gather note settled only_once first_of
once_first q n ns e = ap (λ c. gather q (pick (only_once c 0) untold (pick (asks q n) (told n 1) untold)) ns) e ∙ go (asks q n)
  where
    go : (b : Bool) → gather q (pick b (told n 1) untold) ns ≡ pick b (told n 1) (gather q untold ns)
    go true = gather_settled q (told n 1) ns (ap (λ c. only_once c 1) e)
    go false = refl

-- what is told of no numbers is nothing
pub told_none : (once : Bool) (n : ℕ) → (told_of once n ≡ 0) ↔ (n ≡ 0)
unfolding told_of
told_none true n = ((λ e. omega (arith, e)), (λ e. omega (arith, e)))
told_none false n = ((λ e. e), (λ e. e))

-- the first settles a question that leaves there
reads_first : (ns : List ℕ) → gather (every true) untold ns ≡ record { lowest = lowest ns; number = told_of true (length ns) }
unfolding gather lowest every asks below told_of
reads_first [] = refl
reads_first (n ∷ ns) =
    let m : 1 ≡ min 1 (suc (length ns)) = omega arith in
    once_first (every true) n ns refl ∙ ap (λ c. pick (c and true) (told n 1) (gather (every true) untold ns)) (le-leb 0 n (omega arith)) ∙ ap (told n) m

one_member : (k : ℕ) (ns : List ℕ) → ltb 0 (gather (is_one k) untold ns).number ≡ member k ns
unfolding member gather
one_member k [] = refl
one_member k (n ∷ ns) = ap (λ (t : Tally). ltb 0 t.number) (once_first (is_one k) n ns (unfold is_one in refl)) ∙ go (eqb k n) (asks_one k n) (one_member k ns)
  where
    go : (b : Bool) → asks (is_one k) n ≡ b → ltb 0 (gather (is_one k) untold ns).number ≡ member k ns →
        ltb 0 (pick (asks (is_one k) n) (told n 1) (gather (is_one k) untold ns)).number ≡ elim b [ true ↦ true | false ↦ member k ns ]
    go true e h = rw e refl
    go false e h = rw e h

pub member_among : (k : ℕ) (ns : List ℕ) → (member k ns ≡ true) ↔ Among k ns
unfolding member
member_among k [] = ((λ e. absurd (false≢true e)), (λ m. absurd (Memᴰ.not-nil m)))
member_among k (n ∷ ns) = go (eqb k n) refl (member_among k ns)
  where
    go : (b : Bool) → eqb k n ≡ b → (member k ns ≡ true) ↔ Among k ns → (member k (n ∷ ns) ≡ true) ↔ Among k (n ∷ ns)
    go true f h = ((λ e. Memᴰ.head (eqb-true k n f)), (λ m. rw (f, member) refl))
    go false f h = (
      (λ e. Memᴰ.tail (h.0 (rw (f, member) at e))),
      (λ m. rw (f, member) (h.1 (⊎_elim (λ s. absurd (eqb-false k n f s)) (λ t. t) (Memᴰ.cases_cons m)))),
    )

-- Counting

many_noted : (t : Tally) (n : ℕ) → note (every false) t n ≡ record { lowest = first_of t.lowest n; number = suc t.number }
unfolding note settled only_once asks below every
many_noted t n = ap (λ b. pick (b and true) (record { lowest = first_of t.lowest n; number = suc t.number }) t) (le-leb 0 n (omega arith))

many_told : (j k : ℕ) (ns : List ℕ) → gather (every false) (told j k) ns ≡ told j (k + length ns)
unfolding gather first_of
many_told j k [] = let e : k ≡ k + 0 = omega arith in ap (told j) e
many_told j k (n ∷ ns) =
    let e : suc k + length ns ≡ k + suc (length ns) = omega arith in
    ap (λ t. gather (every false) t ns) (many_noted (told j k) n) ∙ many_told j (suc k) ns ∙ ap (told j) e

reads_all : (ns : List ℕ) → gather (every false) untold ns ≡ record { lowest = lowest ns; number = told_of false (length ns) }
unfolding gather lowest first_of told_of
reads_all [] = refl
reads_all (n ∷ ns) =
    let m : 1 + length ns ≡ suc (length ns) = omega arith in
    ap (λ r. gather (every false) r ns) (many_noted untold n) ∙ many_told n 1 ns ∙ ap (told n) m

reads : (once : Bool) (ns : List ℕ) → gather (every once) untold ns ≡ record { lowest = lowest ns; number = told_of once (length ns) }
reads true ns = reads_first ns
reads false ns = reads_all ns

-- The questions

pub four_questions : FourQuestions
four_questions m k s L π α P e =
    let ns = map (numbered m 0 L) (answers L π α) in
    let l = length-map (answers L π α) (numbered m 0 L) in
    record {
      number = λ b. ap (λ (t : Tally). t.number) (asked_is_read m k (every b) s L π α P e ∙ reads b ns) ∙ ap (told_of b) l;
      least = λ b. ap (λ (t : Tally). t.lowest) (asked_is_read m k (every b) s L π α P e ∙ reads b ns);
      one = λ j. ap (λ (t : Tally). ltb 0 t.number) (asked_is_read m k (is_one j) s L π α P e) ∙ one_member j ns;
    }

pub one_asked : OneAsked
one_asked m k s L π α P e κ D d =
    let ns = map (numbered m 0 L) (answers L π α) in
    let r = (four_questions m k s L π α P e).one (numbered m 0 L κ) in
    ((λ h. there (Memᴰ.of_map (numbered m 0 L) (answers L π α) ((member_among (numbered m 0 L κ) ns).0 (sym r ∙ h)))), (λ a. r ∙ (member_among (numbered m 0 L κ) ns).1 (Memᴰ.map (numbered m 0 L) a)))
  where
    there : (μ : Position) × Among μ (answers L π α) × (numbered m 0 L μ ≡ numbered m 0 L κ) → Among κ (answers L π α)
    there t =
        let b = answers_blocked s L π α P e t.0 t.1 in
        Memᴰ.cast (sym (numbers_differ m k L t.0 κ (blocked_element b.0 b.1) D b.2 d t.2)) t.1

-- Of an action to be executed

pub empty_none : {A : Type 0} (all : List A) → (length all ≡ 0) ↔ ((a : A) → ¬ Among a all)
empty_none [] = ((λ z a m. Memᴰ.not-nil m), (λ f. refl))
empty_none (x ∷ xs) = ((λ z. absurd (omega arith)), (λ f. absurd (f x (Memᴰ.head refl))))

pub none_asked : NoneAsked
unfolding standing
none_asked m k L π α P e once =
    let n = (four_questions m k unblocked L π α P e).number once in
    let t = told_none once (length (answers L π α)) in
    let u = empty_none (answers L π α) in (
      (λ z i κ L' x. u.0 (t.0 (sym n ∙ z)) κ ((answers_meet L π α P e κ).1 (i, L', x))),
      (λ f. n ∙ t.1 (u.1 (λ κ a. let v = (answers_meet L π α P e κ).0 a in f v.0 κ v.1 v.2))),
    )

first_met : (m : Numbering) (L : Elements) (π : Position) (α : Action) (P : Process) → element_at L π ≡ some (process_element (action α P)) → (j : ℕ) (all : List Position) →
    answers L π α ≡ all → lowest (map (numbered m 0 L) all) ≡ some j → FirstMet m L π α j
unfolding lowest
first_met m L π α P e j [] s z = absurd (none-ne-some j z)
first_met m L π α P e j (κ ∷ κs) s z =
    let t = (answers_meet L π α P e κ).0 (subst (Among κ) (sym s) (Memᴰ.head refl)) in
    record {
      at = κ;
      numbers = some-injective (numbered m 0 L κ) j z;
      rule = t.0;
      after = t.1;
      meets = t.2;
      others = map (place L) κs;
      first = (partners_are_answers L π α P e).0 ∙ ap (map (place L)) s;
    }

pub lowest_asked : LowestAsked
unfolding standing
lowest_asked m k L π α P e once j z = first_met m L π α P e j (answers L π α) refl (sym ((four_questions m k unblocked L π α P e).least once) ∙ z)

pub partners_counted : PartnersCounted
unfolding standing
partners_counted L π α P e =
    let q : (m : Numbering) → Lawful m → QuestionsAnswered m L π α = λ m k. four_questions m k unblocked L π α P e in
    let p = (partners_are_answers L π α P e).0 in
    let n : length (answers L π α) ≡ length (partners (side_of α) L π) = sym (ap length p ∙ length-map (answers L π α) (place L)) in
    record {
      number = λ m k once. (q m k).number once ∙ ap (told_of once) n;
      first = λ once. (q by_place places_number.0).least once ∙ ap lowest (map_same (numbered by_place 0 L) (place L) (answers L π α) (places_number.1 L) ∙ sym p);
    }

pub meeting_asked : MeetingAsked
unfolding standing
meeting_asked m k L π α P e κ D d =
    let o = one_asked m k unblocked L π α P e κ D d in
    let w = answers_meet L π α P e κ in
    let n = (ask m (is_one (numbered m 0 L κ)) (frame_of L π) α).number in
    ((λ l. w.0 (o.0 (lt-ltb 0 n l))), (λ t. ltb-true 0 n (o.1 (w.1 t))))
