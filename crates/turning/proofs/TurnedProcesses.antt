-- What bytes that spell a process look like by their tag, and that the parts of them which are written spell what the process turns into.
use mathlib.Core.Path.{◌≡◌, refl, sym, ap, ap₂, ◌∙◌}
use mathlib.Core.Bool.{Bool, true, false, false≢true}
use mathlib.Core.List.{List, [], ◌∷◌, ◌++◌, append-nil}
use Prim.Native.Nat.{ℕ, ◌+◌, ◌-◌, ◌/◌, ◌%◌, ◌≤◌, ◌<◌}
use native.Mathlib.Omega.{arith}
use lib.ListN.{length, take, drop, get_or, length-append}
use lib.Seq.{take_at, drop_at}
use Rattle.calculus.specs.Processes.{Reference, Process, parallel, action, replication, rename, receive}
use Rattle.machine.specs.Elements.{Elements, process_element, ◌before◌, only}
use Rattle.buffers.specs.Words.{word, field}
use Rattle.format.specs.Spelling.{word_limit, encode_reference, encode_action, encode}
use Rattle.format.specs.Spellable.{Spellable}
use Rattle.format.specs.Reading.{word_at}
use Rattle.buffers.proofs.Parts.{length_field, part_all, length_part, from}
use Rattle.format.proofs.Readback.{length_reference}
use Rattle.elements.specs.Spelling.{ambient_tag, encode_elements}
use Rattle.format.proofs.Spellable.{spellable_restriction}
use Rattle.layouts.proofs.Layouts.{length_action}
use Rattle.layouts.proofs.Laying.{process_long, length_rename}
use Rattle.elements.proofs.Tags.{Tagged, tagged_null, tagged_parallel, tagged_restriction, tagged_ambient, tagged_action, tagged_replication, tagged_as}
use Rattle.elements.proofs.Processes.{length_bytes}
use Rattle.turning.specs.Turning.{turned, Suited}
use Rattle.substituting.specs.Substituting.{Receiving}
use Rattle.turning.specs.Parts.{SpellsProcess, TurningProcess}
use Rattle.turning.proofs.Turned.{body_behind, Meets, only_process, under_none}

-- A field of two parts, the second from `mid` on, and what is made of them

pub record Made (s : List ℕ) (mid : ℕ) (new : List ℕ → List ℕ → List ℕ) (L : Elements) : Type 0 where
  pub within : mid ≤ length s
  pub spells : new (take (mid - 3) (drop 3 s)) (take (length s - mid) (drop mid s)) ≡ encode_elements L

made : (s : List ℕ) (tag : ℕ) (x y : List ℕ) (mid : ℕ) (new : List ℕ → List ℕ → List ℕ) (L : Elements) → s ≡ field tag (x ++ y) → mid ≡ 3 + length x
    → new x y ≡ encode_elements L → Made s mid new L
unfolding field word
made s tag x y mid new L i m e =
    let n = length (x ++ y) in
    let k = length-append x y in
    let front : take (mid - 3) (drop 3 s) ≡ x = ap (λ (l : List ℕ). take (mid - 3) (drop 3 l)) i ∙ take_at x y (mid - 3) (omega arith) in
    let behind : take (length s - mid) (drop mid s) ≡ y
    = part_all mid s ∙ ap (drop mid) i ∙ drop_at (tag ∷ n / 256 ∷ n % 256 ∷ x) y mid (omega arith) in
    record {
      within = omega (arith, ap length i);
      spells = ap₂ new front behind ∙ e;
    }

-- 31
pub as_null : {P : Process} (b : Bool) (ns : List Reference) → Tagged 0x20 P → [] ≡ encode_elements (turned b ns (process_element P))
unfolding turned encode_elements
as_null b ns tagged_null = refl

-- 32
pub as_parallel : {s : List ℕ} {P : Process} (b : Bool) (ns : List Reference) (mid : ℕ) → Tagged 0x21 P → s ≡ encode P → mid ≡ 6 + word_at s 4
    → Made s mid (λ x y. field 0x42 x ++ field 0x42 y) (turned b ns (process_element P))
unfolding turned encode field word encode_elements ◌before◌
as_parallel {s = s} b ns mid (tagged_parallel P Q) e m =
    made s 0x21 (encode P) (encode Q) mid _ _ e (omega (arith, m ∙ ap (λ (l : List ℕ). 6 + word_at l 4) e, length_bytes P (encode Q)))
    (ap (λ (l : List ℕ). field 0x42 (encode P) ++ l) (only_process Q))

-- 34
pub as_ambient : {s : List ℕ} {P : Process} (b : Bool) (ns : List Reference) → Tagged 0x23 P → s ≡ encode P
    → Made s 5 (λ x y. field 0x40 (x ++ field 0x42 y)) (turned b ns (process_element P))
unfolding turned encode encode_elements ◌before◌ ambient_tag
as_ambient {s = s} b ns (tagged_ambient a P) e =
    made s 0x23 (encode_reference a) (encode P) 5 _ _ e (omega (arith, length_reference a))
    (ap (λ (l : List ℕ). field 0x40 (encode_reference a ++ l)) (only_process P) ∙ sym (append-nil (field 0x40 (encode_reference a ++ encode_elements (only (process_element P))))))

-- 30
pub as_replication : {s : List ℕ} {P : Process} (b : Bool) (ns : List Reference) (mid : ℕ) → Tagged 0x25 P → s ≡ encode P → mid ≡ 6 + word_at s 4
    → Made s mid (λ x y. field 0x42 (field 0x24 (x ++ field 0x21 (y ++ s)))) (turned b ns (process_element P))
unfolding turned encode field word
as_replication {s = s} b ns mid (tagged_replication α P) e m =
    made s 0x25 (encode_action α) (encode P) mid _ _ e (omega (arith, m ∙ ap (λ (l : List ℕ). 6 + word_at l 4) e, length_action α (encode P)))
    (ap (λ (l : List ℕ). field 0x42 (field 0x24 (encode_action α ++ field 0x21 (encode P ++ l)))) e ∙ only_process (action α (parallel P (replication α P))))

-- 43
pub as_blocked : {s : List ℕ} {P : Process} (b : Bool) (ns : List Reference) → b ≡ true → Tagged 0x24 P → s ≡ encode P
    → Made s 3 (λ x y. field 0x43 y) (turned b ns (process_element P))
unfolding turned encode encode_elements ◌before◌
as_blocked {s = s} b ns t (tagged_action α P) e =
    rw t (made s 0x24 [] (encode_action α ++ encode P) 3 _ _ e refl (sym (append-nil (field 0x43 (encode_action α ++ encode P)))))

-- The process that a restriction is around (33), and the action and the process of an element that meets (35 to 42)

pub record Bound (s : List ℕ) (ns : List Reference) (L : Elements) : Type 0 where
  pub inner : Process
  pub spelled : from s 3 ≡ encode inner
  pub alone : length ns ≡ 1
  pub spellable : Spellable (length ns) inner
  pub new : field 0x42 (encode (rename (receive ns) inner)) ≡ encode_elements L

pub as_restriction : {s : List ℕ} {P : Process} (b : Bool) (ns : List Reference) → Tagged 0x22 P → SpellsProcess s P → Suited b ns (process_element P) → Bound s ns (turned b ns (process_element P))
unfolding turned Suited encode
as_restriction b ns (tagged_restriction P) v t =
    record {
      inner = P;
      spelled = body_behind 0x22 (encode P) v.spelled;
      alone = t;
      spellable = rw t (spellable_restriction 0 P v.spellable);
      new = only_process (rename (receive ns) P);
    }

pub as_met : {s : List ℕ} {P : Process} (b : Bool) (ns : List Reference) → b ≡ false → Tagged 0x24 P → SpellsProcess s P → Suited b ns (process_element P) → Meets s ns (turned b ns (process_element P))
unfolding turned Suited encode
as_met false ns f (tagged_action α P) v t =
    record { doing = α; process = P; spells = record { spelled = body_behind 0x24 (encode_action α ++ encode P) v.spelled; spellable = v.spellable }; takes = t; new = refl }
as_met true ns f (tagged_action α P) v t = absurd (false≢true (sym f))

-- There is room for the parts where there is room for what they make

module _ {s names : List ℕ} {b : Bool} {room : ℕ} (p : TurningProcess s names b room) where
  abbrev front : ℕ → List ℕ
  front mid = take (mid - 3) (drop 3 s)

  abbrev behind : ℕ → List ℕ
  behind mid = take (length s - mid) (drop mid s)

  abbrev MadeOf : ℕ → (List ℕ → List ℕ → List ℕ) → Type 0
  MadeOf mid new = Made s mid new (turned b p.handed (process_element p.process))

  made_fits : (mid : ℕ) {new : List ℕ → List ℕ → List ℕ} → MadeOf mid new
      → (length (new (front mid) (behind mid)) ≤ room) × (length (new (front mid) (behind mid)) < word_limit)
  made_fits mid v = rw v.spells (p.fits, p.small)

  pub split_requires : (mid : ℕ) → MadeOf mid (λ x y. field 0x42 x ++ field 0x42 y)
      → (6 + (length (front mid) + length (behind mid)) ≤ room) × (length (front mid) + length (behind mid) < word_limit)
  split_requires mid v =
      omega
      (arith, made_fits mid v, length-append (field 0x42 (front mid)) (field 0x42 (behind mid)), length_field 0x42 (front mid), length_field 0x42 (behind mid))

  pub opened_requires : (mid : ℕ) → MadeOf mid (λ x y. field 0x40 (x ++ field 0x42 y))
      → (6 + (length (front mid) + length (behind mid)) ≤ room) × (3 + (length (front mid) + length (behind mid)) < word_limit)
  opened_requires mid v =
      omega
      (arith, made_fits mid v, length_field 0x40 (front mid ++ field 0x42 (behind mid)), length-append (front mid) (field 0x42 (behind mid)), length_field 0x42 (behind mid))

  pub blocked_requires : (mid : ℕ) → MadeOf mid (λ x y. field 0x43 y) → (3 + length (behind mid) ≤ room) × (length (behind mid) < word_limit)
  blocked_requires mid v = omega (arith, made_fits mid v, length_field 0x43 (behind mid))

  pub unfolded_requires : (mid : ℕ) → MadeOf mid (λ x y. field 0x42 (field 0x24 (x ++ field 0x21 (y ++ s))))
      → (9 + (length (front mid) + (length (behind mid) + length s)) ≤ room) × (6 + (length (front mid) + (length (behind mid) + length s)) < word_limit)
  unfolded_requires mid v =
      let both = behind mid ++ s in
      let inner = front mid ++ field 0x21 both in
      omega
      (arith, made_fits mid v, length_field 0x42 (field 0x24 inner), length_field 0x24 inner, length-append (front mid) (field 0x21 both), length_field 0x21 both, length-append (behind mid) s)

  -- the process under a restriction
  pub bound_requires : Bound s p.handed (turned b p.handed (process_element p.process)) → Receiving (from s 3) names 0 × (3 + length (from s 3) ≤ room)
  bound_requires v = let ns = p.handed in (
    record {
      handed = ns;
      named = p.named;
      process = v.inner;
      spelled = v.spelled;
      spellable = under_none (length ns) v.inner v.spellable;
      short = omega (arith, p.short, v.alone, length_part 3 s);
    },
    omega (arith, p.fits, ap length v.new, length_field 0x42 (encode (rename (receive ns) v.inner)), length_rename (receive ns) v.inner, ap length v.spelled),
  )

-- a process is spelled in three bytes or more
pub spelled_long : {s : List ℕ} {P : Process} → SpellsProcess s P → 3 ≤ length s
spelled_long {P = P} v = rw v.spelled (process_long P)

-- and an ambient in five or more
pub ambient_long : {s : List ℕ} {P : Process} → SpellsProcess s P → get_or s 0 0 ≡ 0x23 → 5 ≤ length s
ambient_long v t = (as_ambient true [] (tagged_as v.spelled t) v.spelled).within
