-- One turn of the loop along a list: what is written before it, what is to be written for the next element, and room for that.
use mathlib.Core.Path.{◌≡◌, refl, sym, ap, ◌∙◌, subst}
use mathlib.Core.Bool.{Bool}
use mathlib.Core.List.{List, [], ◌++◌, append_assoc, append-nil}
use Prim.Native.Nat.{ℕ, ◌+◌, ◌-◌, ◌≤◌}
use native.Mathlib.Omega.{arith}
use borrow.Rule.Slice.PartMut.{put_mid}
use lib.ListN.{length, length-append}
use Rattle.calculus.specs.Processes.{Reference}
use Rattle.machine.specs.Elements.{Elements, empty, only}
use Rattle.machine.specs.Tests.{pick}
use Rattle.elements.specs.Spelling.{encode_elements, SpellableElements}
use Rattle.elements.specs.Each.{BeginsWith, First}
use Rattle.elements.proofs.Each.{Others, Remains, begin, go_on, over, element_spelled}
use Rattle.buffers.proofs.Parts.{from}
use Rattle.buffers.proofs.Writing.{seq}
use Rattle.rewriting.specs.declared.Plan.{Plan}
use Rattle.places.specs.Offsets.{width}
use Rattle.rewriting.specs.Editing.{stands_at, edit, Suits}
use Rattle.applying.specs.Applying.{instead}
use Rattle.buffers.specs.Buffers.{Left}
use Rattle.buffers.proofs.Appending.{nothing_yet}
use Rattle.applying.proofs.Suiting.{suits_first, suits_others}
use Rattle.rewriting.proofs.Writers.{left_as}
use Rattle.applying.specs.Applying.{Rewriting, Replacing, Rewritten, Replaced}
use Rattle.substituting.specs.Substituting.{SpellsNames}
use Rattle.applying.proofs.Edited.{split_bytes}

-- bytes that are written behind others
left_then : {N W old out last : List ℕ} {n m : ℕ} → Left N old out n → Left W (from out n) last m → Left (N ++ W) old (put_mid n (length out - n) out last) (n + m)
left_then {N} {W} {old} {out} {last} {n} l w =
    record { written = seq N W old out last n l.count l.written w.written; count = omega (arith, l.count, w.count, length-append N W) }

-- At a turn's start, where the list spells A and what is left of it B: `bytes` are written.
pub record Going (k : Plan) (ns : List Reference) (Z : Elements) (w : Bool) (old out : List ℕ) (start at done : ℕ) (A B : Elements) : Type 0 where
  pub bytes : List ℕ
  pub suits : Suits k ns at B
  pub whole : encode_elements (edit k ns Z w start A) ≡ bytes ++ encode_elements (edit k ns Z w at B)
  pub present : Left bytes old out done

module _ {k : Plan} {ns : List Reference} {Z : Elements} {w : Bool} {old out : List ℕ} {start at done : ℕ} {A : Elements} where
  -- at the end of the list
  pub all_written : Going k ns Z w old out start at done A empty → Left (encode_elements (edit k ns Z w start A)) old out done
  unfolding edit encode_elements
  all_written g = left_as (g.whole ∙ append-nil g.bytes) g.present

  module _ {B : Elements} (g : Going k ns Z w old out start at done A B) {x t : List ℕ} (v : BeginsWith B x t) where
    element_suits : Suits k ns at (only v.element)
    element_suits = suits_first k ns at v.element v.others (subst (Suits k ns at) v.is g.suits)

    others_suit : Suits k ns (at + length x) v.others
    unfolding width
    others_suit = subst (λ (m : ℕ). Suits k ns (at + m) v.others) (sym (ap length v.first)) (suits_others k ns at v.element v.others (subst (Suits k ns at) v.is g.suits))

    module _ (z : List ℕ) (q : z ≡ encode_elements Z) where
      -- the element's own bytes and what is set down behind it are some of those that are to be written
      to_go : done + (length (encode_elements (instead k ns Z w at v.element)) + length (pick (stands_at k.after at) z [])) ≤ length (encode_elements (edit k ns Z w start A))
      to_go =
          let own = encode_elements (instead k ns Z w at v.element) in
          let set = pick (stands_at k.after at) z [] in
          let others = encode_elements (edit k ns Z w (at + length x) v.others) in
          omega
          (arith, ap length g.whole, ap length (split_bytes k ns Z w at z q v), g.present.count, length-append g.bytes (encode_elements (edit k ns Z w at B)), length-append own (set ++ others), length-append set others)

      go : {last more : List ℕ} {m m' : ℕ} → Left (encode_elements (instead k ns Z w at v.element)) (from out done) last m
          → Left (pick (stands_at k.after at) z []) (from (put_mid done (length out - done) out last) (done + m)) more m'
          → Going k ns Z w old (put_mid (done + m) (length (put_mid done (length out - done) out last) - (done + m)) (put_mid done (length out - done) out last) more) start (at + length x) (done + m + m') A v.others
      go l l' =
          let own = encode_elements (instead k ns Z w at v.element) in
          let set = pick (stands_at k.after at) z [] in
          let others = encode_elements (edit k ns Z w (at + length x) v.others) in
          record {
            bytes = (g.bytes ++ own) ++ set;
            suits = others_suit;
            whole =
                g.whole
                ∙ ap (λ (y : List ℕ). g.bytes ++ y) (split_bytes k ns Z w at z q v)
                ∙ sym (append_assoc g.bytes own (set ++ others))
                ∙ sym (append_assoc (g.bytes ++ own) set others);
            present = left_then (left_then g.present l) l';
          }

-- The same for any names and any elements that suit
abbrev pub Turn : (k : Plan) (w : Bool) (z names old out : List ℕ) (start at done : ℕ) → Elements → Elements → Type 0
Turn k w z names old out start at done A B =
    (ns : List Reference) (Z : Elements) → SpellsNames names ns → SpellableElements A → Suits k ns start A → z ≡ encode_elements Z → Going k ns Z w old out start at done A B

-- At a turn's start of the loop, with `rest` left of the list
pub record Midway (k : Plan) (w : Bool) (list z names old out rest : List ℕ) (start at done : ℕ) : Type 0 where
  pub offset : at + length rest ≡ start + length list
  pub long : length out ≡ length old
  pub remains : Remains list rest (Turn k w z names old out start at done)

pub begins : (k : Plan) (w : Bool) (list z names old rest : List ℕ) (start : ℕ) → rest ≡ list → Midway k w list z names old old rest start start 0
begins k w list z names old rest start e = record {
  offset = omega (arith, ap length e);
  long = refl;
  remains = begin e (λ A ns Z n h t q. record { bytes = []; suits = t; whole = refl; present = nothing_yet old });
}

module _ {k : Plan} {w : Bool} {list z names old out rest : List ℕ} {start at done : ℕ} (i : Midway k w list z names old out rest start at done) {x t : List ℕ} (g : First rest x t) where
  -- the element that comes first, and its bytes, for a list that is known
  module _ {room : ℕ} (p : Rewriting list z names k w start room) where
    abbrev left_of : Others rest p.tree (Turn k w z names old out start at done p.tree)
    left_of = i.remains.of p.tree p.spells.spelled

    abbrev first_of : BeginsWith left_of.others x t
    first_of = g.begins left_of.others left_of.spelled

    abbrev going_of : Going k p.handed p.moved w old out start at done p.tree left_of.others
    going_of = left_of.holds p.handed p.moved p.named p.spells.spellable p.suits p.carries

    pub own : ℕ
    own = length (encode_elements (instead k p.handed p.moved w at first_of.element))

    pub to_write : done + (own + length (pick (stands_at k.after at) z [])) ≤ length (encode_elements (edit k p.handed p.moved w start p.tree))
    unfolding own
    to_write = to_go going_of first_of z p.carries

    pub replacing : {n : ℕ} → n ≡ room - done → Replacing x z names k w at n
    replacing e = record {
      handed = p.handed;
      named = p.named;
      element = first_of.element;
      spells = element_spelled first_of (left_of.spellable p.spells.spellable);
      suits = element_suits going_of first_of;
      moved = p.moved;
      carries = p.carries;
      fits = omega (arith, to_go going_of first_of z p.carries, p.fits, e);
      small = omega (arith, to_go going_of first_of z p.carries, p.small);
      near = omega (arith, p.near, i.offset, g.parts);
    }

    pub own_is : {o last : List ℕ} {n : ℕ} → Replaced x z names k w at o last n → n ≡ own
    unfolding own
    own_is r = (r p.handed first_of.element p.moved p.named (element_spelled first_of (left_of.spellable p.spells.spellable)) (element_suits going_of first_of) p.carries).count

  pub goes_on : {last more : List ℕ} {m m' : ℕ} → Replaced x z names k w at (from out done) last m
      → Left (pick (stands_at k.after at) z []) (from (put_mid done (length out - done) out last) (done + m)) more m'
      → length (put_mid (done + m) (length (put_mid done (length out - done) out last) - (done + m)) (put_mid done (length out - done) out last) more) ≡ length old
      → Midway k w list z names old (put_mid (done + m) (length (put_mid done (length out - done) out last) - (done + m)) (put_mid done (length out - done) out last) more) t start (at + length x) (done + m + m')
  goes_on r l e = record {
    offset = omega (arith, i.offset, g.parts);
    long = e;
    remains = go_on i.remains g
        (λ A b v ns Z n h s q.
        let c = b.holds ns Z n h s q in
        go c v z q (r ns v.element Z n (element_spelled v (b.spellable h)) (element_suits c v) q) l);
  }

pub rewritten : {k : Plan} {w : Bool} {list z names old out rest : List ℕ} {start at done : ℕ} → Midway k w list z names old out rest start at done → length rest ≡ 0 → Rewritten list z names k w start old out done
rewritten i h ns A Z n p s q = all_written (over i.remains h A p.spelled ns Z n p.spellable s q)
