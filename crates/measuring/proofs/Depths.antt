-- What bytes that spell a process look like, by their tag, and how deep its parts are.
use mathlib.Core.Path.{◌≡◌, refl, sym, ap, ◌∙◌, subst}
use mathlib.Core.List.{List, ◌++◌, append_assoc}
use Prim.Native.Nat.{ℕ, suc, ◌+◌, ◌-◌, ◌*◌, ◌≤◌, ◌<◌, max}
use native.Mathlib.Omega.{arith}
use lib.ListN.{length, take, drop, get_or, length-append}
use lib.Seq.{drop_at}
use Rattle.calculus.specs.Processes.{Process, null, parallel, restriction, ambient, action, replication}
use Rattle.machine.specs.Elements.{depth}
use Rattle.buffers.specs.Words.{word, field}
use Rattle.format.specs.Spelling.{encode_reference, encode_references, encode_action, encode}
use Rattle.format.specs.Reading.{word_at}
use Rattle.format.specs.Spellable.{Counted}
use Rattle.layouts.specs.Layouts.{Laid}
use Rattle.layouts.proofs.Laying.{process_long}
use Rattle.measuring.specs.Measuring.{CountedProcess}
use Rattle.buffers.proofs.Parts.{part_all, part_length}
use Rattle.buffers.proofs.Middle.{lent}
use Rattle.substituting.proofs.Substitution.{beside}

-- a process has a header of three bytes for each level at least
pub depth_small : (P : Process) → 3 * depth P ≤ length (encode P)
unfolding depth encode field word
depth_small null = omega arith
depth_small (parallel P Q) = omega (arith, depth_small P, depth_small Q, length-append (encode P) (encode Q))
depth_small (restriction P) = omega (arith, depth_small P)
depth_small (ambient a P) = omega (arith, depth_small P, length-append (encode_reference a) (encode P))
depth_small (action α P) = omega (arith, depth_small P, length-append (encode_action α) (encode P))
depth_small (replication α P) = omega (arith, depth_small P, length-append (encode_action α) (encode P))

-- a parallel, whose second process begins at `mid`
pub record Halves (s : List ℕ) (P : Process) (mid : ℕ) : Type 0 where
  pub first : Process
  pub second : Process
  pub counts : Counted first × Counted second
  pub within : mid + 3 ≤ length s
  pub front : take (mid - 3) (drop 3 s) ≡ encode first
  pub behind : take (length s - mid) (drop mid s) ≡ encode second
  pub deep : depth P ≡ suc (max (depth first) (depth second))

-- a process around one other, which begins at `start`
pub record Around (s : List ℕ) (P : Process) (start : ℕ) : Type 0 where
  pub inner : Process
  pub counted : Counted inner
  pub long : 3 ≤ start
  pub within : start + 3 ≤ length s
  pub behind : take (length s - start) (drop start s) ≡ encode inner
  pub deep : depth P ≡ suc (depth inner)

pub around : {s : List ℕ} {P : Process} {start middle next end bound : ℕ} → Laid s P start middle next end bound → Around s P end
around {s} {end = end} l =
    let F = l.front ++ encode_references l.first in
    let G = F ++ l.between in
    let R = encode_references l.second in
    let H = G ++ R in
    let T = encode l.after in
    let e : s ≡ H ++ T = l.bytes ∙ sym (append_assoc G R T ∙ append_assoc F l.between (R ++ T) ∙ append_assoc l.front (encode_references l.first) (l.between ++ (R ++ T))) in
    let k : length H ≡ end = omega (arith, length-append G R, length-append F l.between, length-append l.front (encode_references l.first), l.starts, l.halves, l.resumes, l.ends) in
    record {
      inner = l.after;
      counted = l.counted;
      long = omega (arith, l.halves, l.resumes, l.ends, l.long);
      within = omega (arith, ap length e, length-append H T, k, process_long l.after);
      behind = part_all end s ∙ ap (drop end) e ∙ drop_at H T end k;
      deep = l.deep;
    }

null_of : (P : Process) → get_or (encode P) 0 0 < 0x21 → depth P ≡ 1
unfolding encode depth field
null_of null h = refl
null_of (parallel P Q) h = absurd (omega arith)
null_of (restriction P) h = absurd (omega arith)
null_of (ambient a P) h = absurd (omega arith)
null_of (action α P) h = absurd (omega arith)
null_of (replication α P) h = absurd (omega arith)

counted_halves : (P Q : Process) → Counted (parallel P Q) → Counted P × Counted Q
unfolding Counted
counted_halves P Q u = u

-- The same of a list that is the spelling

module _ (s : List ℕ) (P : Process) (e : s ≡ encode P) (u : Counted P) where
  pub spelled_null : get_or s 0 0 < 0x21 → depth P ≡ 1
  spelled_null h = null_of P (rw e at h)

  pub spelled_halves : (n : ℕ) → n ≡ word_at s 4 → get_or s 0 0 ≡ 0x21 → Halves s P (6 + n)
  unfolding depth
  spelled_halves n k t =
      let b = beside P s e n k t in
      let H = b.part.front ++ encode b.first in
      let h : s ≡ H ++ encode b.second = b.part.bytes ∙ sym (append_assoc b.part.front (encode b.first) (encode b.second)) in
      let l : length H ≡ 6 + n = omega (arith, length-append b.part.front (encode b.first), b.part.starts, b.part.ends) in
      record {
        first = b.first;
        second = b.second;
        counts = counted_halves b.first b.second (subst Counted b.is u);
        within = omega (arith, ap length h, length-append H (encode b.second), process_long b.second, l);
        front = lent b.part;
        behind = part_all (6 + n) s ∙ ap (drop (6 + n)) h ∙ drop_at H (encode b.second) (6 + n) l;
        deep = ap depth b.is;
      }

-- The parts of a spelled process are spelled processes

module _ {s : List ℕ} (l : CountedProcess s) where
  abbrev part_spelled : (m k : ℕ) (P : Process) → take m (drop k s) ≡ encode P → Counted P → CountedProcess (take m (drop k s))
  part_spelled m k P e u = record { process = P; spelled = e; counted = u; short = omega (arith, l.short, part_length m k s) }

  abbrev pub front_spelled : {P : Process} {mid : ℕ} → Halves s P mid → CountedProcess (take (mid - 3) (drop 3 s))
  front_spelled {mid = mid} v = part_spelled (mid - 3) 3 v.first v.front v.counts.0

  abbrev pub behind_spelled : {P : Process} {mid : ℕ} → Halves s P mid → CountedProcess (take (length s - mid) (drop mid s))
  behind_spelled {mid = mid} v = part_spelled (length s - mid) mid v.second v.behind v.counts.1

  abbrev pub inner_spelled : {P : Process} {start : ℕ} → Around s P start → CountedProcess (take (length s - start) (drop start s))
  inner_spelled {start = start} v = part_spelled (length s - start) start v.inner v.behind v.counted

-- a number that is the depth of every process that the bytes spell is no more than their length
pub deep_within : (s : List ℕ) (r : ℕ) → CountedProcess s → ((P : Process) → s ≡ encode P → Counted P → r ≡ depth P)
    → ((P : Process) → s ≡ encode P → Counted P → r ≡ depth P) × (r ≤ length s)
deep_within s r v f = (f, omega (arith, f v.process v.spelled v.counted, ap length v.spelled, depth_small v.process))
