-- What the listing answers, and what it leaves in the output buffer.
use mathlib.Core.Path.{◌≡◌, sym, ap, ◌∙◌}
use mathlib.Core.Bool.{true, false}
use mathlib.Core.List.{List, ◌++◌}
use Prim.Native.Nat.{ℕ, ◌*◌, ◌-◌, ◌≤◌}
use native.Mathlib.Omega.{arith}
use lib.ListN.{length, take, drop}
use Rattle.machine.specs.Limits.{listing_nesting_limit, byte_limit}
use Rattle.machine.specs.Validity.{Graded}
use Rattle.states.specs.Reading.{read_within}
use Rattle.buffers.specs.Buffers.{fits_in, fitting, Answered, written_answer}
use Rattle.states.specs.Answers.{state_answer}
use Rattle.std.specs.Prelude.{Ok, Err}
use Rattle.refusals.specs.declared.Refusal.{Refusal}
use Rattle.refusals.specs.declared.Refusal.TheVariants.{NoRoom}
use Rattle.refusals.specs.Refusals.{refusal}
use Rattle.buffers.proofs.Answers.{answered_kept, answered_as, answered_full, answered_fits}
use Rattle.states.proofs.Root.{RootWithin, unnamed, root_list_law, root_spells}
use Rattle.states.proofs.Theorems.{graded_within}
use Rattle.machine.specs.Lowest.{able}
use Rattle.listing.specs.Listing.{words, Listable, list_read, list_bytes}
use Rattle.listing.proofs.Words.{length_words}

pub list_refused : (s out : List ℕ) (x : Refusal) → Err x ≡ state_answer (read_within listing_nesting_limit s) → Answered written_answer (list_bytes s (length out)) out (Err x) out
unfolding list_bytes list_read written_answer
list_refused s out x e =
    let u = unnamed (read_within listing_nesting_limit s) x e in
    rw (u.2) (answered_kept written_answer u.0 out (ap (list_read (length out)) u.1))

module _ {s : List ℕ} {F N : ℕ} (r : RootWithin listing_nesting_limit s F N) where
  pub root_graded : Graded r.root.tree
  root_graded = graded_within listing_nesting_limit s F N r.root.tree r.root.count r.read

  -- with a count of the places that can act
  module _ (out : List ℕ) (n : ℕ) (e : n ≡ length (able 0 r.root.tree)) where
    long : length (words (able 0 r.root.tree)) ≡ 2 * n
    long = length_words (able 0 r.root.tree) ∙ ap (λ j. 2 * j) (sym e)

    listing : list_bytes s (length out) ≡ fitting byte_limit (length out) tt (words (able 0 r.root.tree))
    unfolding list_bytes list_read
    listing = ap (list_read (length out)) r.read

    pub list_full : fits_in byte_limit (length out) (2 * n) ≡ false → Answered written_answer (list_bytes s (length out)) out (Err NoRoom) out
    unfolding written_answer refusal
    list_full f = answered_as written_answer listing (answered_full written_answer byte_limit tt (words (able 0 r.root.tree)) out (sym long) f)

    pub list_done : (last : List ℕ) → fits_in byte_limit (length out) (2 * n) ≡ true → last ≡ words (able 0 r.root.tree) ++ drop (length (words (able 0 r.root.tree))) out
        → Answered written_answer (list_bytes s (length out)) out (Ok (2 * n)) last
    unfolding written_answer
    list_done last f g = rw (← long) (answered_as written_answer listing (answered_fits written_answer byte_limit tt (words (able 0 r.root.tree)) out (sym long) f g))

    pub root_listable : 2 * n ≤ length out → Listable (take (length s - 7) (drop 7 s)) (length out)
    root_listable h = record { tree = r.root.tree; spells = root_spells r.root; graded = root_graded; fits = omega (arith, long, h); short = (root_list_law r.root).short }
