-- Lists of the root list in bytes: where they start and end, and what they spell.
use mathlib.Core.Path.{◌≡◌, refl, sym, ap, ap₂, ◌∙◌}
use mathlib.Core.List.{List}
use Prim.Native.Nat.{ℕ, ◌+◌, ◌-◌, ◌≤◌, ◌<◌}
use native.Mathlib.Omega.{arith}
use lib.ListN.{length, take, drop, length-take}
use lib.Seq.{take_at, take_all, drop-drop}
use Rattle.machine.specs.Limits.{byte_limit}
use Rattle.machine.specs.Elements.{Elements, ambient_element, ◌before◌}
use Rattle.format.specs.Reading.{word_at}
use Rattle.elements.specs.Spelling.{encode_elements}
use Rattle.elements.proofs.Spellable.{spellable_contents}
use Rattle.elements.specs.Spelled.{Spells, SpelledList}
use Rattle.elements.proofs.Searching.{listed}
use Rattle.buffers.proofs.Parts.{from, part_length}
use Rattle.places.proofs.Widths.{first_width}
use Rattle.machine.proofs.Places.{element_at_at}
use Rattle.places.proofs.Offsets.{width_ambient, drop_header, offset_within, flattened, flattened_spellable, behind, offset_below, spelled_from}
use Rattle.searching.specs.declared.Span.{Span}
use Rattle.searching.specs.Lists.{ListAt, root_list, contents, start_at, span_of, Enclosed}

list_within : {L A : Elements} {l o : ℕ} → ListAt L l o A → start_at l o + length (encode_elements A) ≤ length (encode_elements L)
unfolding start_at
list_within root_list = omega arith
list_within {L = L} (contents κ {u = u} {a = a} {A = A} e q) = omega (arith, offset_within 0 (element_at_at L κ (ambient_element u a A) e), width_ambient u a A)

list_spelled : {L A : Elements} {l o : ℕ} → ListAt L l o A → take (length (encode_elements A)) (drop (start_at l o) (encode_elements L)) ≡ encode_elements A
unfolding start_at ◌before◌
list_spelled {L = L} root_list = take_all (length (encode_elements L)) (encode_elements L) (omega arith)
list_spelled {L = L} (contents κ {o = o} {u = u} {a = a} {A = A} e q) =
    ap (take (length (encode_elements A)))
    (sym (drop-drop 5 o (encode_elements L))
    ∙ ap (λ (k : ℕ). drop 5 (drop k (encode_elements L))) (sym q)
    ∙ ap (drop 5) (flattened (element_at_at L κ (ambient_element u a A) e))
    ∙ drop_header u a A _)
    ∙ take_at (encode_elements A) _ (length (encode_elements A)) refl

-- Spans

module _ {s : List ℕ} {L : Elements} (e : s ≡ encode_elements L) where
  pub root_span : {A : Elements} {l o : ℕ} → ListAt L l o A → l ≡ 0 → ◌≡◌ {A = Span} (record { start = 0; end = length s }) (span_of l o A)
  unfolding span_of start_at
  root_span root_list z = let k : length s ≡ 0 + length (encode_elements L) = omega (arith, ap length e) in ap (λ (m : ℕ). record { start = 0; end = m }) k
  root_span (contents κ f q) z = absurd (omega (arith, z))

  pub inner_span : {A : Elements} {l o : ℕ} → ListAt L l o A → (l ≡ 0 → ⊥) → (n : ℕ) → n ≡ word_at (from s o) 1
      → ◌≡◌ {A = Span} (record { start = o + 5; end = o + (3 + n) }) (span_of l o A)
  unfolding span_of start_at
  inner_span root_list z n k = absurd (z refl)
  inner_span (contents κ {o = o} {u = u} {a = a} {A = A} f q) z n k =
      let w = first_width (ambient_element u a A) _ (from s o) n (spelled_from L κ (ambient_element u a A) f q e) k in
      let m : o + (3 + n) ≡ o + 5 + length (encode_elements A) = omega (arith, w, width_ambient u a A) in
      ap (λ (m : ℕ). record { start = o + 5; end = m }) m

  pub list_before : {A : Elements} {l o : ℕ} → ListAt L l o A → (l ≡ 0 → ⊥) → o < length s
  list_before root_list z = absurd (z refl)
  list_before (contents κ {u = u} {a = a} {A = A} f q) z = offset_below L κ (ambient_element u a A) f q e

pub part_listed : (s : List ℕ) (m k : ℕ) {A : Elements} → length s < 65536 → Spells (take m (drop k s)) A → SpelledList (take m (drop k s))
part_listed s m k h p = listed p (omega (arith, h, part_length m k s))

-- the part of the bytes that a span says
abbrev pub part : List ℕ → Span → List ℕ
part s r = take (r.end - r.start) (drop r.start s)

module _ {L A : Elements} {l o : ℕ} {r : Span} (h : ListAt L l o A) (k : r ≡ span_of l o A) where
  pub span_start : r.start ≡ start_at l o
  unfolding span_of
  span_start = ap (λ (t : Span). t.start) k

  span_end : r.end ≡ start_at l o + length (encode_elements A)
  unfolding span_of
  span_end = ap (λ (t : Span). t.end) k

  pub span_within : {s : List ℕ} → s ≡ encode_elements L → (r.start ≤ r.end) × (r.end ≤ length s)
  span_within e = (omega (arith, span_start, span_end), omega (arith, span_end, list_within h, ap length e))

  span_spelled : {s : List ℕ} → s ≡ encode_elements L → part s r ≡ encode_elements A
  span_spelled {s = s} e =
      let m : r.end - r.start ≡ length (encode_elements A) = omega (arith, span_start, span_end) in
      ap₂ (λ (m j : ℕ). take m (drop j s)) m span_start ∙ ap (λ (t : List ℕ). take (length (encode_elements A)) (drop (start_at l o) t)) e ∙ list_spelled h

list_kept : {s : List ℕ} {L A : Elements} {l o : ℕ} → ListAt L l o A → Spells s L → Spells (encode_elements A) A
list_kept root_list p = record { spelled = refl; spellable = p.spellable }
list_kept {L = L} (contents κ {u = u} {a = a} {A = A} e q) p =
    let t = element_at_at L κ (ambient_element u a A) e in
    record { spelled = refl; spellable = spellable_contents u a A (behind L κ) (flattened_spellable t p.spellable) }

pub span_spells : {s : List ℕ} {L A : Elements} {l o : ℕ} {r : Span} → ListAt L l o A → r ≡ span_of l o A → Spells s L → Spells (part s r) A
span_spells h k p = let t = list_kept h p in record { spelled = span_spelled h k p.spelled; spellable = t.spellable }

-- a span that is right for every list that stands there
abbrev pub Spans : List ℕ → ℕ → ℕ → Span → Type 0
Spans s l o r = (L A : Elements) → s ≡ encode_elements L → ListAt L l o A → r ≡ span_of l o A

module _ {s : List ℕ} {l o : ℕ} (t : Enclosed s l o) (r : Span) (k : Spans s l o r) where
  enclosed_span : r ≡ span_of l o t.inner
  enclosed_span = k t.tree t.inner t.spells.spelled t.stands

  pub enclosed_within : (r.start ≤ r.end) × (r.end ≤ length s)
  enclosed_within = span_within t.stands enclosed_span t.spells.spelled

  pub enclosed_list : SpelledList (part s r) × (r.start + length (part s r) < byte_limit)
  enclosed_list = (
    part_listed s (r.end - r.start) r.start (omega (arith, t.short)) (span_spells t.stands enclosed_span t.spells),
    omega (arith, enclosed_within, t.short, length-take (r.end - r.start) (drop r.start s)),
  )
