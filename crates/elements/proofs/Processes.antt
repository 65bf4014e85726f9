-- What bytes that spell a process look like, by their tag, and what its parts weigh.
use mathlib.Core.Path.{◌≡◌, refl, sym, ◌∙◌, subst}
use mathlib.Core.List.{List, ◌∷◌, ◌++◌}
use Prim.Native.Nat.{ℕ, ◌+◌, ◌-◌, ◌/◌, ◌%◌, ◌≤◌, ◌<◌}
use native.Mathlib.Omega.{arith}
use lib.ListN.{length, take, drop, get_or, length-append}
use lib.Seq.{take_at, drop_at}
use Rattle.calculus.specs.Processes.{Process, null, parallel, restriction, ambient, action, replication}
use Rattle.machine.specs.Elements.{weight_process}
use Rattle.buffers.specs.Words.{word, field}
use Rattle.format.specs.Spelling.{encode_reference, encode}
use Rattle.format.specs.Reading.{word_at}
use Rattle.layouts.specs.Layouts.{SpelledProcess}
use Rattle.buffers.proofs.Parts.{part_all, length_part, from}
use Rattle.layouts.proofs.Laying.{process_long}
use Rattle.elements.proofs.Tags.{Tagged, tagged_null, tagged_parallel, tagged_restriction, tagged_ambient, tagged_action, tagged_replication, tagged_as}

-- the two bytes of the first process's length, whatever follows it
pub length_bytes : (P : Process) (rest : List ℕ) → 3 + word_at (encode P ++ rest) 1 ≡ length (encode P)
unfolding encode field word
length_bytes null rest = omega arith
length_bytes (parallel P Q) rest = omega arith
length_bytes (restriction P) rest = omega arith
length_bytes (ambient a P) rest = omega arith
length_bytes (action α P) rest = omega arith
length_bytes (replication α P) rest = omega arith

-- every process is spelled in at least as many bytes as it weighs
pub process_weight_small : (P : Process) → weight_process P ≤ length (encode P)
unfolding weight_process encode field word
process_weight_small null = omega arith
process_weight_small (parallel P Q) = omega (arith, length-append (encode P) (encode Q), process_weight_small P, process_weight_small Q)
process_weight_small (restriction P) = omega (arith, process_weight_small P)
process_weight_small (ambient a P) = omega (arith, length-append (encode_reference a) (encode P), process_weight_small P)
process_weight_small (action α P) = omega arith
process_weight_small (replication α P) = omega arith

-- a parallel, whose second process begins at `mid`
pub record Parallel (s : List ℕ) (P : Process) (mid : ℕ) : Type 0 where
  pub first : Process
  pub second : Process
  pub within : mid + 3 ≤ length s
  pub front : take (mid - 3) (drop 3 s) ≡ encode first
  pub behind : take (length s - mid) (drop mid s) ≡ encode second
  pub weighs : weight_process P ≡ 1 + weight_process first + weight_process second

-- a process around one other, which begins at `start`
pub record Around (s : List ℕ) (P : Process) (start extra : ℕ) : Type 0 where
  pub inner : Process
  pub within : start + 3 ≤ length s
  pub behind : take (length s - start) (drop start s) ≡ encode inner
  pub weighs : weight_process P ≡ extra + weight_process inner

parallel_of : {P : Process} → Tagged 0x21 P → (mid : ℕ) → mid ≡ 6 + word_at (encode P) 4 → Parallel (encode P) P mid
unfolding encode weight_process field word
parallel_of (tagged_parallel P Q) mid m =
    let n : mid ≡ 3 + length (encode P) = omega (arith, length_bytes P (encode Q)) in
    let k : length (encode P) ≡ mid - 3 = omega arith in
    let a = length (encode P ++ encode Q) in
    record {
      first = P;
      second = Q;
      within = omega (arith, process_long Q, length-append (encode P) (encode Q));
      front = take_at (encode P) (encode Q) (mid - 3) k;
      behind = part_all mid (encode (parallel P Q)) ∙ drop_at (0x21 ∷ a / 256 ∷ a % 256 ∷ encode P) (encode Q) mid (omega arith);
      weighs = refl;
    }

restriction_of : {P : Process} → Tagged 0x22 P → Around (encode P) P 3 1
unfolding encode weight_process field word
restriction_of (tagged_restriction P) =
    record { inner = P; within = omega (arith, process_long P); behind = part_all 3 (encode (restriction P)); weighs = refl }

ambient_of : {P : Process} → Tagged 0x23 P → Around (encode P) P 5 2
unfolding encode weight_process field word encode_reference
ambient_of (tagged_ambient a P) =
    record { inner = P; within = omega (arith, process_long P); behind = part_all 5 (encode (ambient a P)); weighs = refl }

pub weight_replication : {P : Process} → Tagged 0x25 P → weight_process P ≡ 2
unfolding weight_process
weight_replication (tagged_replication α P) = refl

pub weight_other : {tag : ℕ} {P : Process} → Tagged tag P → (tag ≡ 0x21 → ⊥) → (tag ≡ 0x22 → ⊥) → (tag ≡ 0x23 → ⊥) → (tag ≡ 0x25 → ⊥) → weight_process P ≡ 1
unfolding weight_process
weight_other tagged_null h i j k = refl
weight_other (tagged_parallel P Q) h i j k = absurd (h refl)
weight_other (tagged_restriction P) h i j k = absurd (i refl)
weight_other (tagged_ambient a P) h i j k = absurd (j refl)
weight_other (tagged_action α P) h i j k = refl
weight_other (tagged_replication α P) h i j k = absurd (k refl)

-- The same of a list that is the spelling

module _ {s : List ℕ} {P : Process} (e : s ≡ encode P) where
  pub spelled_parallel : (mid : ℕ) → mid ≡ 6 + word_at s 4 → get_or s 0 0 ≡ 0x21 → Parallel s P mid
  spelled_parallel mid m t = subst (λ (l : List ℕ). Parallel l P mid) (sym e) (parallel_of (tagged_as e t) mid (rw e at m))

  pub spelled_restriction : get_or s 0 0 ≡ 0x22 → Around s P 3 1
  spelled_restriction t = subst (λ (l : List ℕ). Around l P 3 1) (sym e) (restriction_of (tagged_as e t))

  pub spelled_ambient : get_or s 0 0 ≡ 0x23 → Around s P 5 2
  spelled_ambient t = subst (λ (l : List ℕ). Around l P 5 2) (sym e) (ambient_of (tagged_as e t))

-- the process inside is spelled too, in fewer bytes
pub inner_spelled : {s : List ℕ} {start extra : ℕ} (p : SpelledProcess s) → 0 < start → Around s p.process start extra
    → (length (from s start) < length s) × SpelledProcess (from s start)
inner_spelled {s} {start} p h v =
    let n = length_part start s in
    (omega (arith, v.within), record { process = v.inner; spelled = v.behind; short = omega (arith, p.short) })

-- a number that is the weight of every process that the bytes spell is no more than their length
pub weighs_within : (s : List ℕ) (r : ℕ) → SpelledProcess s → ((P : Process) → s ≡ encode P → r ≡ weight_process P)
    → ((P : Process) → s ≡ encode P → r ≡ weight_process P) × (r ≤ length s)
weighs_within s r v f = (f, rw (f v.process v.spelled, v.spelled) (process_weight_small v.process))
