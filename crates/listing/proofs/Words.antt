-- Words written one behind the other at the front of a buffer: the listing as it is written.
use mathlib.Core.Path.{◌≡◌, refl, sym, ap, ◌∙◌}
use mathlib.Core.Bool.{true, false}
use mathlib.Core.List.{List, [], ◌∷◌, ◌++◌, append_assoc, append-nil}
use Prim.Native.Nat.{ℕ, suc, ◌+◌, ◌*◌, ◌≤◌}
use native.Mathlib.Omega.{arith}
use lib.ListN.{length, drop, length-append}
use Rattle.machine.specs.Elements.{Elements}
use Rattle.machine.specs.Validity.{Graded}
use Rattle.buffers.specs.Words.{word}
use Rattle.elements.specs.Spelling.{encode_elements}
use Rattle.buffers.proofs.Writing.{length_kept}
use Rattle.buffers.specs.Buffers.{Left}
use Rattle.buffers.proofs.Appending.{nothing_yet, left_is}
use denote.Ref.{Bor}
use Rattle.places.specs.Places.{PlaceAt}
use Rattle.places.specs.Offsets.{following}
use Rattle.machine.specs.Lowest.{able, first_able}
use Rattle.listing.specs.Listing.{words}
use Rattle.places.proofs.Able.{Along, begin, go_on, over, able_first, first_places, places_able, places_none}

pub words_append : (ps qs : List ℕ) → words (ps ++ qs) ≡ words ps ++ words qs
unfolding words
words_append [] qs = refl
words_append (p ∷ ps) qs = ap (λ (l : List ℕ). word p ++ l) (words_append ps qs) ∙ sym (append_assoc (word p) (words ps) (words qs))

pub length_words : (ps : List ℕ) → length (words ps) ≡ 2 * length ps
unfolding words word
length_words [] = refl
length_words (p ∷ ps) = omega (arith, length_words ps)

-- a word behind others
word_behind : (ps : List ℕ) (n : ℕ) → words ps ++ word n ≡ words (ps ++ (n ∷ []))
unfolding words
word_behind ps n = ap (λ (l : List ℕ). words ps ++ l) (sym (append-nil (word n))) ∙ sym (words_append ps (n ∷ []))

-- The writing of the listing of A, at a position of s, which spells A: the places written so far, in the first `end` bytes.
pub record Writing (s : List ℕ) (A : Elements) (old : List ℕ) (at place end : ℕ) (now : List ℕ) : Type 0 where
  pub along : Along s at A
  pub numbered : along.place ≡ place
  pub left : Left (words along.done) old now end

module _ (s : List ℕ) (A : Elements) (old : List ℕ) where
  pub write_begin : s ≡ encode_elements A → Writing s A old 0 0 0 old
  unfolding words
  write_begin e = record { along = begin s A e; numbered = refl; left = nothing_yet old }

  module _ {at place end : ℕ} {now : List ℕ} (w : Writing s A old at place end now) where
    pub write_able : {x : ℕ × Bor (List ℕ)} {t : List ℕ} {n : ℕ} → PlaceAt s at x t n → first_able w.along.ahead.rest ≡ true → (last : List ℕ) (next : ℕ)
        → Left (words w.along.done ++ word place) old last next → Writing t A old n (place + 1) next last
    write_able h f last next l =
        let g = w.along in
        let p : first_places g.place g.ahead.rest ≡ place ∷ [] = places_able g.place g.ahead.rest f ∙ ap (λ k. k ∷ []) w.numbered in
        record {
          along = go_on s A g h;
          numbered = omega (arith, w.numbered);
          left = rw p (left_is (word_behind g.done place) l);
        }

    pub write_none : {x : ℕ × Bor (List ℕ)} {t : List ℕ} {n : ℕ} → PlaceAt s at x t n → first_able w.along.ahead.rest ≡ false → Writing t A old n (place + 1) end now
    write_none h f =
        let g = w.along in
        let p : g.done ++ first_places g.place g.ahead.rest ≡ g.done = ap (λ (l : List ℕ). g.done ++ l) (places_none g.place g.ahead.rest f) ∙ append-nil g.done in
        record { along = go_on s A g h; numbered = omega (arith, w.numbered); left = rw p w.left }

    module _ (k : Graded A) (room : length (words (able 0 A)) ≤ length old) where
      -- with what is written so far the buffer is as long as before
      write_length : length now ≡ length old
      write_length =
          let g = w.along in
          let l : length (able 0 A) ≡ length g.done + length (able g.place g.ahead.rest) = ap length (g.same k) ∙ length-append g.done (able g.place g.ahead.rest) in
          let d : length (words g.done) ≤ length old = omega (arith, l, room, length_words g.done, length_words (able 0 A)) in
          length_kept (words g.done) old now d w.left.written

      -- and there is room for one more
      pub room_left : first_able w.along.ahead.rest ≡ true → end + 2 ≤ length now
      room_left f =
          let g = w.along in
          let t = able (suc g.place) (following g.ahead.rest) in
          let e : able 0 A ≡ g.done ++ ((g.place ∷ []) ++ t) =
          g.same k ∙ ap (λ (l : List ℕ). g.done ++ l) (able_first g.place g.ahead.rest (g.graded k) ∙ ap (λ (l : List ℕ). l ++ t) (places_able g.place g.ahead.rest f)) in
          let l : length (able 0 A) ≡ length g.done + suc (length t) = ap length e ∙ length-append g.done ((g.place ∷ []) ++ t) in
          omega (arith, l, room, write_length, w.left.count, length_words g.done, length_words (able 0 A))

    pub write_over : length s ≤ at → Graded A → now ≡ words (able 0 A) ++ drop (length (words (able 0 A))) old
    write_over h k =
        let e : able 0 A ≡ w.along.done = over s A w.along h k in
        rw e w.left.written
