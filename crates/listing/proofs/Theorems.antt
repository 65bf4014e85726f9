-- The proofs of the statements in specs/Theorems.antt.
use mathlib.Core.Path.{◌≡◌, refl, ap}
use Prim.Native.Nat.{ℕ, ◌≤◌}
use native.Mathlib.Omega.{arith}
use Rattle.machine.specs.Limits.{nesting_limit, listing_nesting_limit, byte_limit}
use Rattle.machine.specs.Elements.{Elements, State, state}
use Rattle.machine.specs.Validity.{ValidWithin}
use Rattle.machine.specs.Lowest.{able}
use Rattle.machine.proofs.Lowest.{listed_can_act}
use Rattle.format.specs.Reading.{Outcome, refused, got}
use Rattle.buffers.specs.Buffers.{wrote}
use Rattle.buffers.proofs.Answers.{fitting_wrote}
use Rattle.states.specs.Reading.{read_within}
use Rattle.states.proofs.Limits.{lower_limit}
use Rattle.states.proofs.Theorems.{whole_within, spelling_within, reads_within, deep_is_refused, shallow_is_both}
use Rattle.listing.specs.Listing.{words, list_read, list_bytes}
use Rattle.listing.specs.Theorems.{ListedState, ListingTells, AdmittedIsListed, ListingReads}

-- the listing's limit is not the lower one
higher : nesting_limit ≤ listing_nesting_limit
higher = omega arith

pub listing_reads : ListingReads
listing_reads bytes = lower_limit nesting_limit listing_nesting_limit bytes higher

pub admitted_is_listed : AdmittedIsListed
unfolding list_bytes list_read
admitted_is_listed F N L room a within = ap (list_read room) (reads_within listing_nesting_limit (state F N L) a within)

pub listing_tells : ListingTells
unfolding list_bytes list_read ValidWithin
listing_tells bytes new room b = go (read_within listing_nesting_limit bytes) refl
  where
    listed : (F N : ℕ) (L : Elements) (n : ℕ) → read_within listing_nesting_limit bytes ≡ got (state F N L) n → new ≡ words (able 0 L) → ListedState bytes new
    listed F N L n q e =
        let whole = whole_within listing_nesting_limit bytes (state F N L) n q in
        let t = (spelling_within listing_nesting_limit bytes (state F N L) b).0 (rw whole at q) in
        let act = listed_can_act L t.1.valid.graded in
        record {
          free = F;
          next = N;
          elements = L;
          spelled = t.0;
          admitted = t.1;
          places = able 0 L;
          written = e;
          can_act = act.0;
          ascending = act.1;
          shallow = λ s. (spelling_within nesting_limit bytes (state F N L) b).1 (t.0, (shallow_is_both nesting_limit listing_nesting_limit F N L higher s).1 t.1, t.2);
          deep = λ d. rw t.0 (deep_is_refused nesting_limit listing_nesting_limit F N L t.1.valid t.1.counted (rw t.0 at t.2) d);
        }

    go : (o : Outcome State) → read_within listing_nesting_limit bytes ≡ o → list_read room o ≡ wrote tt new → ListedState bytes new
    go (refused k) q e = absurd (let z : ◌≡◌ {A = ℕ} 0 1 = cc in omega arith)
    go (got (state F N L) n) q e = listed F N L n q (fitting_wrote {A = Unit {0}} byte_limit room tt (words (able 0 L)) e).0
