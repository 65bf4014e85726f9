-- What the bytes of an action say, from its spelling.
use mathlib.Core.Path.{◌≡◌, refl, sym, ap, ap₂, ◌∙◌}
use mathlib.Core.List.{List, ◌++◌, append_assoc}
use Prim.Native.Nat.{ℕ, ◌+◌, ◌-◌, ◌*◌, ◌%◌, ◌≤◌, ◌<◌}
use native.Mathlib.Omega.{arith}
use borrow.Author.Tests.{ltb-true, ltb-false}
use mathlib.Core.Bool.{Bool, true, false}
use lib.Dec.{ltb}
use lib.ListN.{length, get_or, drop, length-append}
use lib.Seq.{get_or-drop, drop_at, drop-drop}
use Rattle.std.specs.Prelude.{Option, None, Some}
use Rattle.calculus.specs.Processes.{Action, sibling_output, parent_output, internal_input, external_input, enter, leave, accept, release, binders}
use Rattle.calculus.specs.Redexes.{Kind}
use Rattle.machine.specs.Kinds.{rule_of, channel as channel_of, target, count, kind_number, answering, Standing, sibling, outside, child, standing_of, kind_of}
use Rattle.format.specs.Spelling.{reference_number, encode_reference, encode_references, encode_action}
use Rattle.buffers.specs.Words.{word, field}
use Rattle.format.specs.Kinds.{tag_kind, directed_of, row_of, binder_count, implied_count, tag_of, tag_with, action_tag, spelled_count, address_of, handed, standing_number}
use Rattle.format.specs.Reading.{word_at}
use Rattle.format.specs.Answers.{count_in}
use Rattle.layouts.specs.Layouts.{SpelledAction, standing_answer, name_number, target_of, layout_of, extent_of}
use Rattle.layouts.specs.declared.Standing.{Standing as Answer}
use Rattle.layouts.specs.declared.Standing.TheVariants.{Sibling, Outside, Child}
use Rattle.kinds.specs.declared.Row.{Row}
use Rattle.format.proofs.ActionKinds.{number_kind, number_small, kind_number_law, tag_implied, tag_spelled, by_count, tag_below, tag_kind_action, implied_answer, row_is}
use Rattle.format.proofs.Actions.{parts_is}
use Rattle.format.proofs.Laws.{count_implied, count_byte}
use Rattle.format.proofs.Readback.{word_back, length_references}
use Rattle.buffers.proofs.Parts.{length_field}

-- by whether a tag has its count spelled behind it
by_half : {A : Type 0} (tag : ℕ) → (tag < 0x38 → A) → (0x38 ≤ tag → A) → A
by_half {A} tag f g = go (ltb tag 0x38) refl
  where
    go : (b : Bool) → ltb tag 0x38 ≡ b → A
    go true e = f (ltb-true tag 0x38 e)
    go false e = g (ltb-false tag 0x38 e)

-- By the table

-- the rule, from the numbers of the kind and of the one that answers it
pub rule_from : (α : Action) (n m : ℕ) → n ≡ kind_number (kind_of α) → m ≡ kind_number (answering (kind_of α))
    → (n < m → 35 + (n + n % 4) ≡ rule_of α) × (m ≤ n → 36 + (m + m % 4) ≡ rule_of α)
unfolding kind_number kind_of answering rule_of
rule_from (sibling_output a x ns) n m e f = (λ h. omega arith, λ h. omega arith)
rule_from (parent_output x ns) n m e f = (λ h. omega arith, λ h. omega arith)
rule_from (internal_input x k) n m e f = (λ h. omega arith, λ h. omega arith)
rule_from (external_input x k) n m e f = (λ h. omega arith, λ h. omega arith)
rule_from (enter a x) n m e f = (λ h. omega arith, λ h. omega arith)
rule_from (leave x) n m e f = (λ h. omega arith, λ h. omega arith)
rule_from (accept x) n m e f = (λ h. omega arith, λ h. omega arith)
rule_from (release x) n m e f = (λ h. omega arith, λ h. omega arith)

module _ (α : Action) (tag : ℕ) (e : tag ≡ action_tag α) where
  kind_is : tag_kind tag ≡ kind_of α
  kind_is = ap tag_kind e ∙ tag_kind_action α

  pub number_is : tag % 8 ≡ kind_number (kind_of α)
  number_is = sym (kind_number_law tag) ∙ ap kind_number kind_is

  pub answer_is : (r : Row) → r ≡ row_of (tag % 8) → r.answer ≡ kind_number (answering (kind_of α))
  answer_is r h = (row_is tag r h).0 ∙ ap (λ (k : Kind). kind_number (answering k)) kind_is

  -- whether the count is spelled
  pub count_implied_is : tag < 0x38 → count α ≡ implied_count (kind_of α)
  unfolding action_tag
  count_implied_is h = by_count (kind_of α) (count α) (λ z. z) (λ z. absurd (omega (arith, e, (tag_spelled (kind_of α) (count α) z).0, tag_below (kind_of α))))

  pub count_spelled_is : 0x38 ≤ tag → ¬ (count α ≡ implied_count (kind_of α))
  unfolding action_tag
  count_spelled_is h z = omega (arith, e, (tag_implied (kind_of α) (count α) z).0, tag_below (kind_of α))

  -- the tag of the actions that answer it: with the same count, in the same half of the tags
  pub answer_tag : (n : ℕ) → n ≡ kind_number (answering (kind_of α)) → tag - tag % 8 + n ≡ tag_with (answering (kind_of α)) (count α)
  unfolding action_tag tag_of
  answer_tag n h =
      let k = kind_of α in
      let j = answering k in
      by_count k (count α)
      (λ z. omega (arith, e, (tag_implied k (count α) z).0, (tag_implied j (count α) (z ∙ sym (implied_answer k))).0, number_is, number_small k, h))
      (λ z. omega (arith, e, (tag_spelled k (count α) z).0, (tag_spelled j (count α) (λ w. z (w ∙ implied_answer k))).0, number_is, number_small k, h))

-- In the bytes

pub word_length : (tag : ℕ) (body rest : List ℕ) → word_at (field tag body ++ rest) 1 ≡ length body
unfolding field word
word_length tag body rest = word_back (length body)

pub tag_first : (α : Action) (rest : List ℕ) → get_or (encode_action α ++ rest) 0 0 ≡ action_tag α
unfolding encode_action field
tag_first α rest = refl

pub action_long : (α : Action) (s rest : List ℕ) → s ≡ encode_action α ++ rest → 3 ≤ length s
unfolding encode_action field word
action_long α s rest e = omega (arith, ap length e)

pub spelled_long : {s : List ℕ} → SpelledAction s → 3 ≤ length s
spelled_long {s} p = action_long p.doing s p.rest p.spelled

-- the two bytes of an action's length, whatever follows it
pub length_action : (α : Action) (rest : List ℕ) → 3 + word_at (encode_action α ++ rest) 1 ≡ length (encode_action α)
unfolding encode_action
length_action α rest =
    let R = encode_references (address_of α) ++ (spelled_count α ++ encode_references (handed α)) in
    ap (λ (n : ℕ). 3 + n) (word_length (action_tag α) R rest) ∙ sym (length_field (action_tag α) R)

-- behind the header: target and channel, the count, the names that are handed over, and what is behind the action
action_body_law : (α : Action) (rest : List ℕ) → drop 3 (encode_action α ++ rest) ≡ encode_references (address_of α) ++ (spelled_count α ++ (encode_references (handed α) ++ rest))
unfolding encode_action field word
action_body_law α rest =
    append_assoc (encode_references (address_of α)) (spelled_count α ++ encode_references (handed α)) rest
    ∙ ap (λ (l : List ℕ). encode_references (address_of α) ++ l) (append_assoc (spelled_count α) (encode_references (handed α)) rest)

pub address_length : (α : Action) → length (encode_references (address_of α)) ≡ 2 * (1 + directed_of (kind_of α))
address_length α = length_references (address_of α) ∙ ap (λ (n : ℕ). 2 * n) (parts_is α).0

pub channel_is : (α : Action) (rest : List ℕ) → word_at (encode_action α ++ rest) (3 + 2 * directed_of (kind_of α)) ≡ reference_number (channel_of α)
unfolding encode_action field word encode_references encode_reference address_of kind_of directed_of channel_of
channel_is (sibling_output a x ns) rest = word_back (reference_number x)
channel_is (parent_output x ns) rest = word_back (reference_number x)
channel_is (internal_input x k) rest = word_back (reference_number x)
channel_is (external_input x k) rest = word_back (reference_number x)
channel_is (enter a x) rest = word_back (reference_number x)
channel_is (leave x) rest = word_back (reference_number x)
channel_is (accept x) rest = word_back (reference_number x)
channel_is (release x) rest = word_back (reference_number x)

pub target_is : (α : Action) (s rest : List ℕ) (d : ℕ) → s ≡ encode_action α ++ rest → d ≡ directed_of (kind_of α)
    → (d ≡ 0 → None ≡ target_of α) × ((d ≡ 0 → ⊥) → Some (word_at s 3) ≡ target_of α)
unfolding name_number target encode_action field word encode_references encode_reference address_of kind_of directed_of target_of
target_is (sibling_output a x ns) s rest d e f = (λ h. absurd (omega arith), λ h. ap Some (rw e (word_back (reference_number a))))
target_is (parent_output x ns) s rest d e f = (λ h. refl, λ h. absurd (h f))
target_is (internal_input x k) s rest d e f = (λ h. refl, λ h. absurd (h f))
target_is (external_input x k) s rest d e f = (λ h. refl, λ h. absurd (h f))
target_is (enter a x) s rest d e f = (λ h. absurd (omega arith), λ h. ap Some (rw e (word_back (reference_number a))))
target_is (leave x) s rest d e f = (λ h. refl, λ h. absurd (h f))
target_is (accept x) s rest d e f = (λ h. refl, λ h. absurd (h f))
target_is (release x) s rest d e f = (λ h. refl, λ h. absurd (h f))

-- where the answer stands, by its number
pub stands_sibling : (d : Standing) → standing_number d ≡ 0 → Sibling ≡ standing_answer d
unfolding standing_number standing_answer
stands_sibling sibling e = refl
stands_sibling outside e = absurd (omega arith)
stands_sibling child e = absurd (omega arith)

pub stands_outside : (d : Standing) → standing_number d ≡ 1 → Outside ≡ standing_answer d
unfolding standing_number standing_answer
stands_outside sibling e = absurd (omega arith)
stands_outside outside e = refl
stands_outside child e = absurd (omega arith)

pub stands_child : (d : Standing) → 2 ≤ standing_number d → Child ≡ standing_answer d
unfolding standing_number standing_answer
stands_child sibling e = absurd (omega arith)
stands_child outside e = absurd (omega arith)
stands_child child e = refl

-- from `sent` on stand the names that are handed over, and what is behind the action
pub sent_names : (α : Action) (rest : List ℕ) → drop (extent_of α).sent (encode_action α ++ rest) ≡ encode_references (handed α) ++ rest
sent_names α rest =
    let A = encode_references (address_of α) in
    let C = spelled_count α in
    let n : (extent_of α).sent ≡ 3 + length (A ++ C) = omega (arith, address_length α, length-append A C) in
    ap (λ (n : ℕ). drop n (encode_action α ++ rest)) n
    ∙ sym (drop-drop (length (A ++ C)) 3 (encode_action α ++ rest))
    ∙ ap (drop (length (A ++ C))) (action_body_law α rest ∙ sym (append_assoc A C (encode_references (handed α) ++ rest)))
    ∙ drop_at (A ++ C) (encode_references (handed α) ++ rest) (length (A ++ C)) refl

-- the count stands behind target and channel, where it is spelled
count_there : (α : Action) (rest : List ℕ) → ¬ (count α ≡ implied_count (kind_of α)) → get_or (drop 3 (encode_action α ++ rest)) (2 * (1 + directed_of (kind_of α))) 0 ≡ count α
count_there α rest h =
    let A = encode_references (address_of α) in
    let H = encode_references (handed α) ++ rest in
    let n : 2 * (1 + directed_of (kind_of α)) ≡ length A + 0 = omega (arith, address_length α) in
    ap (λ (n : ℕ). get_or (drop 3 (encode_action α ++ rest)) n 0) n
    ∙ sym (get_or-drop (length A) (drop 3 (encode_action α ++ rest)) 0 0)
    ∙ ap (λ (l : List ℕ). get_or (drop (length A) l) 0 0) (action_body_law α rest)
    ∙ ap (λ (l : List ℕ). get_or l 0 0) (drop_at A (spelled_count α ++ H) (length A) refl)
    ∙ ap (λ (l : List ℕ). get_or (l ++ H) 0 0) (tag_spelled (kind_of α) (count α) h).1

-- What the bytes say, from the rows of the action's kind and of the one that answers it

module _ (α : Action) (s rest : List ℕ) (e : s ≡ encode_action α ++ rest) where
  pub tag_is : get_or s 0 0 ≡ action_tag α
  tag_is = rw e (tag_first α rest)

  pub action_ends : (n : ℕ) → n ≡ word_at s 1 → 3 + n ≡ length (encode_action α)
  action_ends n l = rw (l, e) (length_action α rest)

  pub action_count : count_in (get_or s 0 0) (drop 3 s) ≡ count α
  action_count =
      by_half (get_or s 0 0)
      (λ h. sym (count_implied (get_or s 0 0) (drop 3 s) h) ∙ ap implied_count (kind_is α (get_or s 0 0) tag_is) ∙ sym (count_implied_is α (get_or s 0 0) tag_is h))
      (λ h.
      sym (count_byte (get_or s 0 0) _ (drop 3 s) h refl)
      ∙ ap (λ (k : Kind). get_or (drop 3 s) (2 * (1 + directed_of k)) 0) (kind_is α (get_or s 0 0) tag_is)
      ∙ ap (λ (l : List ℕ). get_or (drop 3 l) (2 * (1 + directed_of (kind_of α))) 0) e
      ∙ count_there α rest (count_spelled_is α (get_or s 0 0) tag_is h))

  pub action_binds : (n : ℕ) → n ≡ count_in (get_or s 0 0) (drop 3 s) * binder_count (tag_kind (get_or s 0 0)) → n ≡ binders α
  action_binds n b = b ∙ ap₂ (λ (m j : ℕ). m * j) action_count (ap binder_count (kind_is α (get_or s 0 0) tag_is)) ∙ sym (parts_is α).3

module _ (α : Action) (s rest : List ℕ) (e : s ≡ encode_action α ++ rest) (row : Row) (r : row ≡ row_of (get_or s 0 0 % 8)) where
  goes_to : row.directed ≡ directed_of (kind_of α)
  goes_to = (row_is (get_or s 0 0) row r).3 ∙ ap directed_of (kind_is α (get_or s 0 0) (tag_is α s rest e))

  module _ (rule place : ℕ) (f : (β : Action) → get_or s 0 0 % 8 ≡ kind_number (kind_of β) → row.answer ≡ kind_number (answering (kind_of β)) → rule ≡ rule_of β) (p : place ≡ 3 + 2 * row.directed) where
    answers : row.answer ≡ kind_number (answering (kind_of α))
    answers = answer_is α (get_or s 0 0) (tag_is α s rest e) row r

    rules : rule ≡ rule_of α
    rules = f α (number_is α (get_or s 0 0) (tag_is α s rest e)) answers

    place_is : place ≡ 3 + 2 * directed_of (kind_of α)
    place_is = p ∙ ap (λ (n : ℕ). 3 + 2 * n) goes_to

    pub extent_is : (len width : ℕ) → len ≡ word_at s 1 → ((β : Action) → get_or s 0 0 ≡ action_tag β → width ≡ length (spelled_count β))
        → record { rule = rule; sent = place + 2 + width; end = 3 + len } ≡ extent_of α
    extent_is len width l w = rw (rules, place_is, w α (tag_is α s rest e), action_ends α s rest e len l)

  module _ (other : Row) (o : other ≡ row_of (row.answer % 8)) where
    pub layout_is : (rule place : ℕ) → ((β : Action) → get_or s 0 0 % 8 ≡ kind_number (kind_of β) → row.answer ≡ kind_number (answering (kind_of β)) → rule ≡ rule_of β) → place ≡ 3 + 2 * row.directed
        → (goes : Option ℕ) (channel number there : ℕ) (standing : Answer) → ((d : Standing) → row.standing ≡ standing_number d → standing ≡ standing_answer d) → ((β : Action) (l : List ℕ) → s ≡ encode_action β ++ l → row.directed ≡ directed_of (kind_of β) → goes ≡ target_of β)
        → channel ≡ word_at s place → number ≡ count_in (get_or s 0 0) (drop 3 s) → there ≡ 3 + 2 * other.directed
        → record { answer = get_or s 0 0 - get_or s 0 0 % 8 + row.answer; opposite = 3 + there; standing = standing; rule = rule; target = goes; channel = channel; count = number } ≡ layout_of α
    layout_is rule place f p goes channel number there standing d t c h w =
        let a = answers rule place f p in
        let stands : standing ≡ standing_answer (standing_of (kind_of α)) = d _ ((row_is (get_or s 0 0) row r).1 ∙ ap (λ (z : Kind). standing_number (standing_of z)) (kind_is α (get_or s 0 0) (tag_is α s rest e))) in
        let answered : tag_kind row.answer ≡ answering (kind_of α) = ap tag_kind a ∙ number_kind (answering (kind_of α)) in
        let there_is : there ≡ 3 + 2 * directed_of (answering (kind_of α)) = w ∙ ap (λ (n : ℕ). 3 + 2 * n) ((row_is row.answer other o).3 ∙ ap directed_of answered) in
        let reads : channel ≡ reference_number (channel_of α) = c ∙ rw (e, place_is rule place f p) (channel_is α rest) in
        rw (answer_tag α (get_or s 0 0) (tag_is α s rest e) row.answer a, there_is, stands, rules rule place f p, t α rest e goes_to, reads, h ∙ action_count α s rest e)
