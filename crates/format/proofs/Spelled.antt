-- One spelling: what is read is what its tree spells.
use mathlib.Core.Path.{◌≡◌, refl, sym, ◌∙◌}
use mathlib.Core.Logic.{⊎_elim}
use mathlib.Core.List.{List, [], ◌∷◌, ◌++◌}
use mathlib.Core.Bool.{Bool, true, false}
use Prim.Native.Nat.{ℕ, zero, suc, ◌+◌, ◌-◌, ◌*◌, ◌/◌, ◌%◌, ◌≤◌, ◌<◌}
use native.Mathlib.Omega.{arith}
use borrow.Author.Tests.{ltb-true, ltb-false, eqb-true, eqb-false}
use lib.ListN.{length, get_or, take, drop, length-drop, length-take, get_or-eq_default, take-append-drop}
use lib.Seq.{get_or-drop, get_or-take, take-add, take_all, length-take-le}
use lib.Dec.{ltb, eqb}
use Rattle.calculus.specs.Processes.{Reference, name, variable, Action, Process, binders}
use Rattle.calculus.specs.Redexes.{Kind}
use Rattle.machine.specs.Limits.{name_limit}
use Rattle.format.specs.Spelling.{first_variable, reference_number, encode_reference, encode_references, encode_action, encode}
use Rattle.buffers.specs.Words.{word, field}
use Rattle.format.specs.Kinds.{tag_kind, tag_of, tag_with, count_bytes, directed_of, handed_count, implied_count, action_tag, action_from}
use Rattle.format.specs.Reading.{Outcome, refused, got, map_outcome, shift, and_then, Opened, shut, opened, word_at, open_field, whole, read_field, reference_of, read_reference, read_references, read_name_count, read_action_parts, read_action, read_acting, Shape, is_null, is_parallel, is_restriction, is_ambient, is_action, is_replication, shape_of, read_parts, read_process, read_count}
use Rattle.machine.specs.Tests.{pick}
use Rattle.format.specs.Theorems.{Bytes}
use Rattle.format.proofs.ActionKinds.{kind_number_law, implied_is, tag_implied, tag_spelled}
use Rattle.format.proofs.Actions.{from_kind, from_count, from_address, from_handed}
use Rattle.format.proofs.Laws.{Opens, open_inverse, spelled_inverse, name_inverse}

pub bytes_drop : (n : ℕ) (l : List ℕ) → Bytes l → Bytes (drop n l)
bytes_drop n l h i = rw (get_or-drop n l i 0) (h (n + i))

bytes_take : (n : ℕ) (l : List ℕ) → Bytes l → Bytes (take n l)
bytes_take n l h i = go (ltb i n) refl
  where
    go : (b : Bool) → ltb i n ≡ b → get_or (take n l) i 0 < 256
    go true e = rw (get_or-take n l i 0 (ltb-true i n e)) (h i)
    go false e =
        let o : length (take n l) ≤ i = rw (length-take n l) (omega (arith, ltb-false i n e)) in
        rw (get_or-eq_default (take n l) 0 o) (omega arith)

-- What was read, and the bytes that it was read in, stand in E.
unfoldable pub Spells : {A : Type 0} → (A → List ℕ → Type 0) → List ℕ → Outcome A → Type 0
Spells E bytes (refused k) = Unit {0}
Spells E bytes (got a n) = (n ≤ length bytes) × E a (take n bytes)

-- what Spells says of the bytes from the start, where E is a spelling
pub spells_front : {A : Type 0} (spell : A → List ℕ) (bytes : List ℕ) (o : Outcome A) (a : A) (n : ℕ)
    → Spells (λ a l. spell a ≡ l) bytes o → o ≡ got a n → (n ≡ length (spell a)) × (bytes ≡ spell a ++ drop n bytes)
unfolding Spells
spells_front spell bytes o a n s e =
    let t : (n ≤ length bytes) × (spell a ≡ take n bytes) = rw e at s in
    (rw t.1 (sym (length-take-le n bytes t.0)), rw t.1 (sym (take-append-drop n bytes)))

pub spells_refused : {A : Type 0} (E : A → List ℕ → Type 0) (bytes : List ℕ) (k : ℕ) → Spells E bytes (refused k)
unfolding Spells
spells_refused E bytes k = tt

pub spells_none : {A : Type 0} (E : A → List ℕ → Type 0) (bytes : List ℕ) (a : A) → E a [] → Spells E bytes (got a 0)
unfolding Spells
spells_none E bytes a e = (omega arith, e)

pub spells_weaken : {A : Type 0} (E F : A → List ℕ → Type 0) (bytes : List ℕ) (o : Outcome A)
    → ((a : A) (l : List ℕ) → E a l → F a l) → Spells E bytes o → Spells F bytes o
unfolding Spells
spells_weaken E F bytes (refused k) w s = tt
spells_weaken E F bytes (got a n) w s = (s.0, w a (take n bytes) s.1)

pub spells_map : {A B : Type 0} (E : A → List ℕ → Type 0) (F : B → List ℕ → Type 0) (f : A → B) (bytes : List ℕ) (o : Outcome A)
    → ((a : A) (l : List ℕ) → E a l → F (f a) l) → Spells E bytes o → Spells F bytes (map_outcome f o)
unfolding map_outcome Spells
spells_map E F f bytes (refused k) w s = tt
spells_map E F f bytes (got a n) w s = (s.0, w a (take n bytes) s.1)

pub spells_then : {A B : Type 0} (E : A → List ℕ → Type 0) (F : B → List ℕ → Type 0) (bytes : List ℕ) (o : Outcome A) (f : A → List ℕ → Outcome B)
    → Spells E bytes o
    → ((a : A) (n : ℕ) → E a (take n bytes) → Spells (λ b l. F b (take n bytes ++ l)) (drop n bytes) (f a (drop n bytes)))
    → Spells F bytes (and_then o bytes f)
unfolding and_then shift Spells
spells_then E F bytes (refused k) f h g = tt
spells_then {A} {B} E F bytes (got a n) f h g = last (f a (drop n bytes)) (g a n h.1)
  where
    last : (o : Outcome B) → Spells (λ b l. F b (take n bytes ++ l)) (drop n bytes) o → Spells F bytes (shift n o)
    last (refused k) s = tt
    last (got b m) s = (omega (arith, h.0, s.0, length-drop n bytes), rw take-add s.1)

-- Words and fields

-- two bytes spell the word that they make
word_of : (a b v : ℕ) → b < 256 → v ≡ a * 256 + b → word v ≡ a ∷ b ∷ []
unfolding word
word_of a b v h e =
    let p : v / 256 ≡ a = omega arith in
    let q : v % 256 ≡ b = omega arith in
    rw (p, q)

first_one : (l : List ℕ) → 1 ≤ length l → take 1 l ≡ get_or l 0 0 ∷ []
first_one [] h = absurd (omega arith)
first_one (a ∷ l) h = refl

first_two : (l : List ℕ) → 2 ≤ length l → take 2 l ≡ get_or l 0 0 ∷ get_or l 1 0 ∷ []
first_two [] h = absurd (omega arith)
first_two (a ∷ []) h = absurd (omega arith)
first_two (a ∷ b ∷ l) h = refl

word_front : (bytes : List ℕ) → Bytes bytes → 2 ≤ length bytes → word (word_at bytes 0) ≡ take 2 bytes
word_front bytes h l = word_of (get_or bytes 0 0) (get_or bytes 1 0) (word_at bytes 0) (h 1) refl ∙ sym (first_two bytes l)

first_three : (l : List ℕ) → 3 ≤ length l → take 3 l ≡ get_or l 0 0 ∷ get_or l 1 0 ∷ get_or l 2 0 ∷ []
first_three [] h = absurd (omega arith)
first_three (a ∷ []) h = absurd (omega arith)
first_three (a ∷ b ∷ []) h = absurd (omega arith)
first_three (a ∷ b ∷ c ∷ l) h = refl

-- the bytes of a field, as its tag and its body spell them
field_of : (low high : ℕ) (bytes : List ℕ) (tag len : ℕ) → Bytes bytes → Opens low high bytes tag len
    → take (3 + len) bytes ≡ field tag (take len (drop 3 bytes))
unfolding field
field_of low high bytes tag len h o =
    let l : length (take len (drop 3 bytes)) ≡ len = length-take-le len (drop 3 bytes) (rw (length-drop 3 bytes) o.fits) in
    rw (take-add 3 len bytes, first_three bytes o.long, l, word_of (get_or bytes 1 0) (get_or bytes 2 0) len (h 2) o.len_is, o.tag_is)

pub spells_field : {A : Type 0} (E : A → List ℕ → Type 0) (low high : ℕ) (bytes : List ℕ) (f : ℕ → List ℕ → Outcome A) → Bytes bytes
    → ((tag : ℕ) (body : List ℕ) → low ≤ tag → tag ≤ high → Bytes body → Spells (λ a l. E a (field tag l)) body (f tag body))
    → Spells E bytes (read_field (open_field low high bytes) bytes f)
unfolding read_field whole Spells
spells_field {A} E low high bytes f h g = go (open_field low high bytes) refl
  where
    go : (o : Opened) → open_field low high bytes ≡ o → Spells E bytes (read_field o bytes f)
    go (shut k) q = tt
    go (opened tag len) q = inner (f tag (take len (drop 3 bytes))) (g tag (take len (drop 3 bytes)) i.above i.below (bytes_take len (drop 3 bytes) (bytes_drop 3 bytes h)))
      where
        i : Opens low high bytes tag len
        i = open_inverse low high bytes tag len q

        l : length (take len (drop 3 bytes)) ≡ len
        l = length-take-le len (drop 3 bytes) (rw (length-drop 3 bytes) i.fits)

        end : (b : Bool) (a : A) (n : ℕ) → eqb n len ≡ b → (n ≤ length (take len (drop 3 bytes))) × E a (field tag (take n (take len (drop 3 bytes))))
            → Spells E bytes (pick b (got a (3 + len)) (refused 4))
        end true a n e s = (
          omega (arith, i.fits, i.long),
          rw (field_of low high bytes tag len h i) (rw (take_all n (take len (drop 3 bytes)) (rw l (omega (arith, eqb-true n len e)))) at s.1),
        )
        end false a n e s = tt

        inner : (o : Outcome A) → Spells (λ a l. E a (field tag l)) (take len (drop 3 bytes)) o → Spells E bytes (whole len o)
        inner (refused k) s = tt
        inner (got a n) s = end (eqb n len) a n refl s

pub spells_count : (least most : ℕ) (bytes : List ℕ) → Bytes bytes → Spells (λ v l. word v ≡ l) bytes (read_count least most bytes)
unfolding read_count Spells
spells_count least most bytes h = go (ltb (length bytes) 2) (ltb (word_at bytes 0) least) (ltb most (word_at bytes 0)) refl
  where
    go : (b₁ b₂ b₃ : Bool) → ltb (length bytes) 2 ≡ b₁
        → Spells (λ v l. word v ≡ l) bytes (pick b₁ (refused 2) (pick b₂ (refused 6) (pick b₃ (refused 6) (got (word_at bytes 0) 2))))
    go true b₂ b₃ e = tt
    go false true b₃ e = tt
    go false false true e = tt
    go false false false e = (ltb-false _ _ e, word_front bytes h (ltb-false _ _ e))

-- References and actions

pub spells_reference : (names around : ℕ) (bytes : List ℕ) → Bytes bytes → Spells (λ r l. encode_reference r ≡ l) bytes (read_reference names around bytes)
unfolding read_reference reference_of encode_reference reference_number Spells
spells_reference names around bytes h = go (ltb (length bytes) 2) refl
  where
    v : ℕ
    v = word_at bytes 0

    go : (b : Bool) → ltb (length bytes) 2 ≡ b → Spells (λ r l. encode_reference r ≡ l) bytes (pick b (refused 2) (reference_of names around v))
    go true e = tt
    go false e = inner (ltb v name_limit) (ltb v names) (ltb v first_variable) (ltb (v - first_variable) around) refl
      where
        inner : (b₁ b₂ b₃ b₄ : Bool) → ltb v first_variable ≡ b₃
            → Spells (λ r l. encode_reference r ≡ l) bytes (pick b₁ (pick b₂ (got (name v) 2) (refused 6)) (pick b₃ (refused 6) (pick b₄ (got (variable (v - first_variable)) 2) (refused 6))))
        inner true true b₃ b₄ q = (ltb-false _ _ e, word_front bytes h (ltb-false _ _ e))
        inner true false b₃ b₄ q = tt
        inner false b₂ true b₄ q = tt
        inner false b₂ false true q =
            let p : first_variable + (v - first_variable) ≡ v = omega (arith, ltb-false v first_variable q) in
            (ltb-false _ _ e, rw p (word_front bytes h (ltb-false _ _ e)))
        inner false b₂ false false q = tt

spells_references : (k names around : ℕ) (bytes : List ℕ) → Bytes bytes
    → Spells (λ rs l. (length rs ≡ k) × (encode_references rs ≡ l)) bytes (read_references k names around bytes)
unfolding read_references encode_references
spells_references zero names around bytes h = spells_none _ _ _ (refl, refl)
spells_references (suc k) names around bytes h =
    spells_then (λ r l. encode_reference r ≡ l) (λ rs l. (length rs ≡ suc k) × (encode_references rs ≡ l)) bytes _ _ (spells_reference names around bytes h)
    (λ r n e.
    spells_map (λ rs l. (length rs ≡ k) × (encode_references rs ≡ l)) _ _ _ _ (λ rs l q. (rw q.0, rw (e, q.1)))
    (spells_references k names around (drop n bytes) (bytes_drop n bytes h)))

module _ (tag : ℕ) (low : 0x30 ≤ tag) (high : tag ≤ 0x3B) where
  abbrev kind : Kind
  kind = tag_kind tag

  -- the tag and the bytes spell the count
  abbrev Counts : ℕ → List ℕ → Type 0
  Counts n l = (tag_with kind n ≡ tag) × (count_bytes kind n ≡ l) × (implied_count kind ≡ 0 → n ≡ 0)

  counts_implied : tag < 0x38 → Counts (implied_count kind) []
  unfolding tag_of
  counts_implied h = let t = tag_implied kind (implied_count kind) refl in (t.0 ∙ omega (arith, kind_number_law tag), t.1, λ z. z)

  counts_spelled : 0x38 ≤ tag → (n : ℕ) → ¬ (n ≡ 1) → Counts n (n ∷ [])
  unfolding tag_of
  counts_spelled h n e =
      let i = (implied_is kind).0 (omega (arith, kind_number_law tag)) in
      let t = tag_spelled kind n (λ z. e (z ∙ i)) in
      (t.0 ∙ omega (arith, kind_number_law tag), t.1, λ z. absurd (omega (arith, i, z)))

  spells_name_count : (bytes : List ℕ) → Spells Counts bytes (read_name_count tag bytes)
  unfolding Spells
  spells_name_count bytes = go (read_name_count tag bytes) refl
    where
      go : (o : Outcome ℕ) → read_name_count tag bytes ≡ o → Spells Counts bytes o
      go (refused k) q = tt
      go (got n j) q =
          ⊎_elim (λ h. rw (h.1, h.2) (omega arith, counts_implied h.0))
          (λ h.
          let v = spelled_inverse bytes n j h.1 in
          rw v.4 (v.0, rw (first_one bytes v.0, ← v.1) (counts_spelled h.0 n v.2)))
          (name_inverse tag bytes n j q)

  module _ (rs : List Reference) (n : ℕ) (ns : List Reference) (p : length rs ≡ 1 + directed_of kind) (q : length ns ≡ n * handed_count kind) (l : List ℕ) (c : Counts n l) where
    encode_from : encode_action (action_from kind rs n ns) ≡ field tag (encode_references rs ++ (l ++ encode_references ns))
    unfolding encode_action action_tag
    encode_from = rw ((from_kind kind rs n ns).0, from_count n ns kind rs q c.2, from_address n ns kind rs p, from_handed n ns kind rs q, c.0, c.1)

  spells_action_parts : (names around : ℕ) (body : List ℕ) → Bytes body → Spells (λ α l. encode_action α ≡ field tag l) body (read_action_parts tag names around body)
  unfolding read_action_parts
  spells_action_parts names around body h =
      spells_then (λ rs l. (length rs ≡ 1 + directed_of kind) × (encode_references rs ≡ l)) (λ α l. encode_action α ≡ field tag l) body _ _ (spells_references (1 + directed_of kind) names around body h)
      (λ rs i p.
      spells_then Counts (λ α l. encode_action α ≡ field tag (take i body ++ l)) (drop i body) _ _ (spells_name_count (drop i body))
      (λ n j c.
      spells_map (λ ns l. (length ns ≡ n * handed_count kind) × (encode_references ns ≡ l)) _ _ _ _
      (λ ns l q. rw (encode_from rs n ns p.0 q.0 _ c, p.1, q.1))
      (spells_references (n * handed_count kind) names around (drop j (drop i body)) (bytes_drop j (drop i body) (bytes_drop i body h)))))

spells_action : (names around : ℕ) (bytes : List ℕ) → Bytes bytes → Spells (λ α l. encode_action α ≡ l) bytes (read_action names around bytes)
unfolding read_action
spells_action names around bytes h = spells_field (λ α l. encode_action α ≡ l) 0x30 0x3B bytes _ h (λ tag body low high hb. spells_action_parts tag low high names around body hb)

-- Processes

shape_tag : Shape → ℕ
shape_tag is_null = 0x20
shape_tag is_parallel = 0x21
shape_tag is_restriction = 0x22
shape_tag is_ambient = 0x23
shape_tag is_action = 0x24
shape_tag is_replication = 0x25

shape_tag_law : (tag : ℕ) → 0x20 ≤ tag → tag ≤ 0x25 → shape_tag (shape_of tag) ≡ tag
unfolding shape_tag shape_of
shape_tag_law tag low high = go _ _ _ _ _ refl refl refl refl refl
  where
    go : (b₀ b₁ b₂ b₃ b₄ : Bool) → eqb tag 0x20 ≡ b₀ → eqb tag 0x21 ≡ b₁ → eqb tag 0x22 ≡ b₂ → eqb tag 0x23 ≡ b₃ → eqb tag 0x24 ≡ b₄
        → shape_tag (pick b₀ is_null (pick b₁ is_parallel (pick b₂ is_restriction (pick b₃ is_ambient (pick b₄ is_action is_replication))))) ≡ tag
    go true b₁ b₂ b₃ b₄ e₀ e₁ e₂ e₃ e₄ = sym (eqb-true _ _ e₀)
    go false true b₂ b₃ b₄ e₀ e₁ e₂ e₃ e₄ = sym (eqb-true _ _ e₁)
    go false false true b₃ b₄ e₀ e₁ e₂ e₃ e₄ = sym (eqb-true _ _ e₂)
    go false false false true b₄ e₀ e₁ e₂ e₃ e₄ = sym (eqb-true _ _ e₃)
    go false false false false true e₀ e₁ e₂ e₃ e₄ = sym (eqb-true _ _ e₄)
    go false false false false false e₀ e₁ e₂ e₃ e₄ =
        omega (arith, eqb-false tag 0x20 e₀, eqb-false tag 0x21 e₁, eqb-false tag 0x22 e₂, eqb-false tag 0x23 e₃, eqb-false tag 0x24 e₄)

-- an action with the process after it
abbrev pub spell_acting : Action × Process → List ℕ
spell_acting t = encode_action t.0 ++ encode t.1

module _ (P : ℕ → List ℕ → Outcome Process) (hP : (b : ℕ) (l : List ℕ) → Bytes l → Spells (λ p m. encode p ≡ m) l (P b l)) where
  pub spells_acting : (names around : ℕ) (bytes : List ℕ) → Bytes bytes
      → Spells (λ t l. spell_acting t ≡ l) bytes (read_acting P names around bytes)
  unfolding read_acting
  spells_acting names around bytes h =
      spells_then (λ α l. encode_action α ≡ l) (λ t l. spell_acting t ≡ l) bytes _ _ (spells_action names around bytes h)
      (λ α n e. spells_map (λ p l. encode p ≡ l) _ _ _ _ (λ p l q. rw (e, q)) (hP (around + binders α) (drop n bytes) (bytes_drop n bytes h)))

  spells_parts : (k : Shape) (names around : ℕ) (body : List ℕ) → Bytes body
      → Spells (λ p l. encode p ≡ field (shape_tag k) l) body (read_parts k P names around body)
  unfolding read_parts encode shape_tag
  spells_parts is_null names around body h = spells_none _ _ _ refl
  spells_parts is_parallel names around body h =
      spells_then (λ p l. encode p ≡ l) (λ p l. encode p ≡ field 0x21 l) body _ _ (hP around body h)
      (λ p n e. spells_map (λ q l. encode q ≡ l) _ _ _ _ (λ q l r. rw (e, r)) (hP around (drop n body) (bytes_drop n body h)))
  spells_parts is_restriction names around body h =
      spells_map (λ p l. encode p ≡ l) _ _ _ _ (λ p l q. rw q) (hP (around + 1) body h)
  spells_parts is_ambient names around body h =
      spells_then (λ r l. encode_reference r ≡ l) (λ p l. encode p ≡ field 0x23 l) body _ _ (spells_reference names around body h)
      (λ r n e. spells_map (λ q l. encode q ≡ l) _ _ _ _ (λ q l s. rw (e, s)) (hP around (drop n body) (bytes_drop n body h)))
  spells_parts is_action names around body h =
      spells_map (λ t l. spell_acting t ≡ l) _ _ _ _ (λ t l q. rw q) (spells_acting names around body h)
  spells_parts is_replication names around body h =
      spells_map (λ t l. spell_acting t ≡ l) _ _ _ _ (λ t l q. rw q) (spells_acting names around body h)

pub spells_process : (d names around : ℕ) (bytes : List ℕ) → Bytes bytes → Spells (λ p l. encode p ≡ l) bytes (read_process d names around bytes)
unfolding read_process
spells_process zero names around bytes h = spells_field (λ p l. encode p ≡ l) 0x20 0x25 bytes _ h (λ tag body low high hb. spells_refused _ _ _)
spells_process (suc d) names around bytes h =
    spells_field (λ p l. encode p ≡ l) 0x20 0x25 bytes _ h
    (λ tag body low high hb.
    spells_weaken (λ p l. encode p ≡ field (shape_tag (shape_of tag)) l) _ _ _ (λ p l q. rw (shape_tag_law tag low high) at q)
    (spells_parts (read_process d names) (λ b l g. spells_process d names b l g) (shape_of tag) names around body hb))
