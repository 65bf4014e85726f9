-- The table of names as it is filled: reference by reference, opening by opening.
use mathlib.Core.Path.{◌≡◌, refl, sym, ap, ◌∙◌}
use mathlib.Core.List.{List, [], ◌∷◌, ◌++◌, append-nil}
use Prim.Native.Nat.{ℕ, zero, suc, ◌+◌, ◌≤◌, ◌<◌}
use native.Mathlib.Omega.{arith}
use lib.ListN.{length, take, drop, get_or, set, length-append}
use lib.Seq.{take_at, drop_at, set_out}
use Rattle.calculus.specs.Processes.{Reference, name, variable}
use Rattle.calculus.specs.Names.{names_of_reference, names_of_all}
use Rattle.machine.specs.Elements.{Elements}
use Rattle.machine.specs.Names.{names}
use Rattle.buffers.specs.Words.{word}
use Rattle.format.specs.Spelling.{first_variable, reference_number, encode_reference, encode_references}
use Rattle.format.specs.Reading.{word_at}
use Rattle.format.proofs.Readback.{length_reference, word_back}
use Rattle.layouts.specs.Openings.{Opening, first_of, second_of, opened_of, names_of_openings}
use Rattle.layouts.proofs.Openings.{OpeningsLeft, left_first, opened, left_on, none_opened}
use Rattle.elements.specs.Spelling.{encode_elements}
use Rattle.elements.proofs.Openings.{list_openings, elements_spelled, elements_names}
use Rattle.referring.specs.Tables.{more, counted}

pub counted_append : (ms ns table : List ℕ) → counted (ms ++ ns) table ≡ counted ns (counted ms table)
unfolding counted
counted_append [] ns table = refl
counted_append (m ∷ ms) ns table = counted_append ms ns (set table m (more (get_or table m 0)))

-- A reference

number_of : (a : Reference) (s rest : List ℕ) → s ≡ encode_reference a ++ rest → word_at s 0 ≡ reference_number a
unfolding encode_reference word
number_of a s rest e = rw e (word_back (reference_number a))

name_met : (n : ℕ) (table : List ℕ) (number value : ℕ) → number ≡ n → value ≡ more (get_or table number 0) → set table number value ≡ counted (n ∷ []) table
unfolding counted
name_met n table number value q v = rw (v, q)

name_passed : (n : ℕ) (table : List ℕ) (number : ℕ) → number ≡ n → length table ≤ number → table ≡ counted (n ∷ []) table
unfolding counted
name_passed n table number q h = sym (set_out table n (more (get_or table n 0)) (omega (arith, q, h)))

pub count_met : (a : Reference) (s rest table : List ℕ) (number value : ℕ) → s ≡ encode_reference a ++ rest → number ≡ word_at s 0 → length table ≤ first_variable
    → number < length table → value ≡ more (get_or table number 0) → set table number value ≡ counted (names_of_reference a) table
unfolding reference_number names_of_reference
count_met (name n) s rest table number value e k few h v = name_met n table number value (k ∙ number_of (name n) s rest e) v
count_met (variable i) s rest table number value e k few h v = absurd (omega (arith, k ∙ number_of (variable i) s rest e, few, h))

pub count_passed : (a : Reference) (s rest table : List ℕ) (number : ℕ) → s ≡ encode_reference a ++ rest → number ≡ word_at s 0 → length table ≤ number
    → table ≡ counted (names_of_reference a) table
unfolding reference_number names_of_reference counted
count_passed (name n) s rest table number e k h = name_passed n table number (k ∙ number_of (name n) s rest e) h
count_passed (variable i) s rest table number e k h = refl

pub more_first : (k : ℕ) → k ≡ 0 → 1 ≡ more k
unfolding more
more_first zero e = refl
more_first (suc k) e = absurd (omega arith)

pub more_again : (k : ℕ) → (k ≡ 0 → ⊥) → 2 ≡ more k
unfolding more
more_again zero e = absurd (e refl)
more_again (suc k) e = refl

-- References: those left, which these bytes spell

pub record Referring (rs : List Reference) (old bytes table : List ℕ) : Type 0 where
  pub references : List Reference
  pub left : bytes ≡ encode_references references
  pub same : counted (names_of_all rs) old ≡ counted (names_of_all references) table

-- where less than two bytes are left, none is
none_left : (rs : List Reference) (s : List ℕ) → s ≡ encode_references rs → length s < 2 → rs ≡ []
unfolding encode_references
none_left [] s e h = refl
none_left (r ∷ rs) s e h = absurd (omega (arith, h, ap length e, length-append (encode_reference r) (encode_references rs), length_reference r))

-- the next two bytes are the first that is left
pub record FirstReference (item rest : List ℕ) (rs : List Reference) : Type 0 where
  pub first : Reference
  pub others : List Reference
  pub are : rs ≡ first ∷ others
  pub bytes : item ≡ encode_reference first ++ []
  pub left : rest ≡ encode_references others

first_reference : (rs : List Reference) (s item rest : List ℕ) → s ≡ encode_references rs → s ≡ item ++ rest → length item ≡ 2 → FirstReference item rest rs
unfolding encode_references
first_reference [] s item rest e q h = absurd (omega (arith, ap length e, ap length q, length-append item rest, h))
first_reference (r ∷ rs) s item rest e q h =
    let same : item ++ rest ≡ encode_reference r ++ encode_references rs = sym q ∙ e in
    record {
      first = r;
      others = rs;
      are = refl;
      bytes = sym (take_at item rest 2 h) ∙ ap (take 2) same ∙ take_at (encode_reference r) (encode_references rs) 2 (length_reference r) ∙ sym (append-nil (encode_reference r));
      left = sym (drop_at item rest 2 h) ∙ ap (drop 2) same ∙ drop_at (encode_reference r) (encode_references rs) 2 (length_reference r);
    }

module _ (rs : List Reference) (old : List ℕ) where
  pub refer : (s : List ℕ) → s ≡ encode_references rs → Referring rs old s old
  refer s e = record { references = rs; left = e; same = refl }

  module _ {bytes table : List ℕ} (g : Referring rs old bytes table) where
    pub leads : (item rest : List ℕ) → bytes ≡ item ++ rest → length item ≡ 2 → FirstReference item rest g.references
    leads item rest q h = first_reference g.references bytes item rest g.left q h

    pub refer_on : {item rest : List ℕ} (v : FirstReference item rest g.references) (next : List ℕ) → next ≡ counted (names_of_reference v.first) table → Referring rs old rest next
    unfolding names_of_all
    refer_on v next e =
        record {
          references = v.others;
          left = v.left;
          same = g.same ∙ ap (λ (l : List Reference). counted (names_of_all l) table) v.are ∙ counted_append (names_of_reference v.first) (names_of_all v.others) table ∙ ap (counted (names_of_all v.others)) (sym e);
        }

    pub refer_over : length bytes < 2 → table ≡ counted (names_of_all rs) old
    unfolding names_of_all counted
    refer_over h = sym (g.same ∙ ap (λ (l : List Reference). counted (names_of_all l) table) (none_left g.references bytes g.left h))

-- Openings, at a position of s: those left

pub record Opens (s : List ℕ) (A : Elements) (old : List ℕ) (at : ℕ) (table : List ℕ) : Type 0 where
  pub openings : List Opening
  pub left : OpeningsLeft s openings at
  pub same : counted (names A) old ≡ counted (names_of_openings openings) table

module _ (s : List ℕ) (A : Elements) (old : List ℕ) where
  pub open_first : s ≡ encode_elements A → Opens s A old 0 old
  open_first e = record { openings = list_openings A []; left = left_first s (list_openings A []) (e ∙ elements_spelled A); same = ap (λ (ns : List ℕ). counted ns old) (sym (elements_names A)) }

  module _ {at : ℕ} {table : List ℕ} (g : Opens s A old at table) where
    pub open_on : (h : at < length s) (end : ℕ) (next : List ℕ) → end ≡ (opened_of (opened g.left h).first).end
        → next ≡ counted (names_of_all (first_of (opened g.left h).first) ++ names_of_all (second_of (opened g.left h).first)) table → Opens s A old (at + end) next
    unfolding names_of_openings
    open_on h end next k e =
        let v = opened g.left h in
        let w = names_of_all (first_of v.first) ++ names_of_all (second_of v.first) in
        record {
          openings = v.others;
          left = left_on g.left h end k;
          same = g.same ∙ ap (λ (l : List Opening). counted (names_of_openings l) table) v.are ∙ counted_append w (names_of_openings v.others) table ∙ ap (counted (names_of_openings v.others)) (sym e);
        }

    pub open_over : length s ≤ at → table ≡ counted (names A) old
    unfolding names_of_openings counted
    open_over h = sym (g.same ∙ ap (λ (l : List Opening). counted (names_of_openings l) table) (none_opened g.left h))
