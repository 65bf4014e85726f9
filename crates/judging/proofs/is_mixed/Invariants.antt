-- The loop of `is_mixed`: what was seen up to an opening is in the two sets.
use lib.ListN.{length}
use mathlib.Core.Path.{◌≡◌}
use Prim.Native.Nat.{◌-◌}
use Rattle.calculus.specs.Processes.{Process}
use Rattle.format.specs.Spelling.{encode}
use Rattle.sets.specs.Sets.{set_words}
use Rattle.judging.proofs.Judging.{Judged}
use Rattle.judging.proofs.is_mixed.Given as goal

abbrev pub invariant-loop-at : goal.invariant-loop-at
invariant-loop-at l = record {
  boxes_len : length l.boxes ≡ set_words;
  channels_len : length l.channels ≡ set_words;
  judged : (P : Process) → l.process ≡ encode P → Judged l.process P l.at l.boxes l.channels;
}

abbrev pub decreases-loop-at : goal.decreases-loop-at
decreases-loop-at l = length l.process - l.at
