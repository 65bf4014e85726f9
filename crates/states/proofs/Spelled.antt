-- One spelling: the elements, job or state read from bytes is what those bytes spell.
use mathlib.Core.Path.{◌≡◌, refl, sym, ◌∙◌}
use mathlib.Core.List.{List, [], ◌∷◌, ◌++◌, append_assoc}
use mathlib.Core.Bool.{Bool, true, false}
use Prim.Native.Nat.{ℕ, zero, suc, ◌≤◌}
use native.Mathlib.Omega.{arith}
use lib.ListN.{length, get_or, take, drop}
use lib.Seq.{take_all}
use lib.Dec.{ltb, eqb}
use Rattle.machine.specs.Limits.{free_name_least, free_name_limit, name_limit, state_depth_limit, blocked_depth_limit, job_depth_limit}
use Rattle.machine.specs.Elements.{Status, unblocked, blocked, Elements, State}
use Rattle.buffers.specs.Words.{word, field}
use Rattle.format.specs.Spelling.{encode_reference, encode}
use Rattle.format.specs.Reading.{Outcome, got, shut, open_field, read_field, read_process}
use Rattle.machine.specs.Tests.{pick}
use Rattle.format.specs.Theorems.{Bytes}
use Rattle.format.proofs.Spelled.{Spells, bytes_drop, spells_refused, spells_none, spells_weaken, spells_map, spells_then, spells_field, spells_count, spells_reference, spells_process, spells_acting, spell_acting}
use Rattle.elements.specs.Spelling.{ambient_tag, encode_elements, Job, encode_job, encode_state}
use Rattle.states.specs.Reading.{open_element, ElementShape, is_ambient, is_blocked_ambient, is_process, is_blocked_action, element_shape, element_parts, read_element, read_up_to, read_elements, read_ambient, job_body, read_job, state_rest, state_body, parse_state}
use Rattle.states.proofs.Shapes.{element_tag, shape_tag_law}
use Rattle.states.proofs.Whole.{ReadWhole, job_whole_law, state_whole_law}

-- Elements

-- The bytes spell an element, whatever follows it in its list.
abbrev pub SpelledFirst : (Elements → Elements) → List ℕ → Type 0
SpelledFirst E l = (C : Elements) → encode_elements (E C) ≡ l ++ encode_elements C

module _ (A : Status → List ℕ → Outcome (Elements → Elements)) (names : ℕ)
    (hA : (s : Status) (body : List ℕ) → Bytes body → Spells (λ E l. SpelledFirst E (field (ambient_tag s) l)) body (A s body)) where
  pub spells_element_parts : (k : ElementShape) (body : List ℕ) → Bytes body
      → Spells (λ E l. SpelledFirst E (field (element_tag k) l)) body (element_parts k A names body)
  unfolding element_parts element_tag ambient_tag encode_elements
  spells_element_parts is_ambient body h = hA unblocked body h
  spells_element_parts is_blocked_ambient body h = hA blocked body h
  spells_element_parts is_process body h =
      spells_map (λ P l. encode P ≡ l) _ _ _ _ (λ P l q C. rw q) (spells_process state_depth_limit names 0 body h)
  spells_element_parts is_blocked_action body h =
      spells_map (λ t l. spell_acting t ≡ l) _ _ _ _ (λ t l q C. rw q) (spells_acting (read_process blocked_depth_limit names) (spells_process blocked_depth_limit names) names 0 body h)

  spells_tagged : (tag : ℕ) (body : List ℕ) → 0x40 ≤ tag → tag ≤ 0x43 → Bytes body
      → Spells (λ E l. SpelledFirst E (field tag l)) body (element_parts (element_shape tag) A names body)
  spells_tagged tag body low high h =
      spells_weaken (λ E l. SpelledFirst E (field (element_tag (element_shape tag)) l)) _ _ _ (λ E l q. rw (shape_tag_law tag low high) at q)
      (spells_element_parts (element_shape tag) body h)

  pub spells_element : (s : Status) (bytes : List ℕ) → Bytes bytes → Spells SpelledFirst bytes (read_element A s names bytes)
  unfolding read_element open_element read_field
  spells_element unblocked bytes h = spells_field SpelledFirst 0x40 0x43 bytes _ h spells_tagged
  spells_element blocked bytes h = go (ltb (length bytes) 3) (eqb (get_or bytes 0 0) 0x42)
    where
      go : (b₁ b₂ : Bool) → Spells SpelledFirst bytes
          (read_field (pick b₁ (shut 2) (pick b₂ (shut 3) (open_field 0x41 0x43 bytes))) bytes (λ tag body. element_parts (element_shape tag) A names body))
      go true b₂ = spells_refused _ _ _
      go false true = spells_refused _ _ _
      go false false = spells_field SpelledFirst 0x41 0x43 bytes _ h (λ tag body low high. spells_tagged tag body (omega arith) high)

  pub spells_up_to : (s : Status) (fuel : ℕ) (bytes : List ℕ) → Bytes bytes → Spells (λ L l. encode_elements L ≡ l) bytes (read_up_to A s names fuel bytes)
  unfolding read_up_to encode_elements
  spells_up_to s zero bytes h = spells_none _ _ _ refl
  spells_up_to s (suc fuel) [] h = spells_none _ _ _ refl
  spells_up_to s (suc fuel) (b ∷ bs) h =
      spells_then SpelledFirst (λ L l. encode_elements L ≡ l) (b ∷ bs) _ _ (spells_element s (b ∷ bs) h)
      (λ E n e. spells_map (λ L l. encode_elements L ≡ l) _ _ _ _ (λ L l q. e L ∙ rw q) (spells_up_to s fuel (drop n (b ∷ bs)) (bytes_drop n (b ∷ bs) h)))

  pub spells_elements : (s : Status) (bytes : List ℕ) → Bytes bytes → Spells (λ L l. encode_elements L ≡ l) bytes (read_elements A s names bytes)
  unfolding read_elements
  spells_elements s bytes h = spells_up_to s (length bytes) bytes h

pub spells_ambient : (nest names : ℕ) (s : Status) (body : List ℕ) → Bytes body
    → Spells (λ E l. SpelledFirst E (field (ambient_tag s) l)) body (read_ambient nest names s body)
unfolding read_ambient encode_elements
spells_ambient zero names s body h = spells_refused _ _ _
spells_ambient (suc nest) names s body h =
    spells_then (λ a l. encode_reference a ≡ l) (λ E l. SpelledFirst E (field (ambient_tag s) l)) body _ _ (spells_reference names 0 body h)
    (λ a n e.
    spells_map (λ L l. encode_elements L ≡ l) _ _ _ _ (λ L l q C. rw (e, q))
    (spells_elements (read_ambient nest names) names (spells_ambient nest names) s (drop n body) (bytes_drop n body h)))

-- Jobs and states

-- what is read as the whole of the bytes is what they spell
spells_whole : {A : Type 0} (spell : A → List ℕ) (bytes : List ℕ) (o : Outcome A) (a : A) (n : ℕ) → Spells (λ a l. spell a ≡ l) bytes o
    → ReadWhole bytes o a n → bytes ≡ spell a
unfolding Spells
spells_whole spell bytes o a n s r =
    let t : (n ≤ length bytes) × (spell a ≡ take n bytes) = rw r.read at s in
    sym (t.1 ∙ take_all n bytes (omega (arith, r.whole)))

pub spells_job_body : (body : List ℕ) → Bytes body → Spells (λ J l. encode_job J ≡ field 0x10 l) body (job_body body)
unfolding job_body encode_job
spells_job_body body h =
    spells_then (λ F l. word F ≡ l) (λ J l. encode_job J ≡ field 0x10 l) body _ _ (spells_count free_name_least free_name_limit body h)
    (λ F n e. spells_map (λ P l. encode P ≡ l) _ _ _ _ (λ P l q. rw (e, q)) (spells_process job_depth_limit F 0 (drop n body) (bytes_drop n body h)))

-- the rest of a state's body, behind F
pub spells_state_rest : (nest F : ℕ) (rest : List ℕ) → Bytes rest → Spells (λ S l. encode_state S ≡ field 0x11 (word F ++ l)) rest (state_rest nest F rest)
unfolding state_rest encode_state
spells_state_rest nest F rest h =
    spells_then (λ N l. word N ≡ l) (λ S l. encode_state S ≡ field 0x11 (word F ++ l)) rest _ _ (spells_count F name_limit rest h)
    (λ N n e.
    spells_map (λ L l. encode_elements L ≡ l) _ _ _ _ (λ L l q. rw (e, q, append_assoc))
    (spells_elements (read_ambient nest N) N (spells_ambient nest N) unblocked (drop n rest) (bytes_drop n rest h)))

pub spells_state_body : (nest : ℕ) (body : List ℕ) → Bytes body → Spells (λ S l. encode_state S ≡ field 0x11 l) body (state_body nest body)
unfolding state_body
spells_state_body nest body h =
    spells_then (λ F l. word F ≡ l) (λ S l. encode_state S ≡ field 0x11 l) body _ _ (spells_count 0 free_name_limit body h)
    (λ F n e. rw (← e) (spells_state_rest nest F (drop n body) (bytes_drop n body h)))

pub job_spelled : (bytes : List ℕ) (J : Job) (n : ℕ) → Bytes bytes → read_job bytes ≡ got J n → bytes ≡ encode_job J
job_spelled bytes J n h e =
    spells_whole encode_job bytes _ J n
    (spells_field (λ J l. encode_job J ≡ l) 0x10 0x10 bytes _ h
    (λ tag body low high hb. let t : tag ≡ 0x10 = omega arith in rw t (spells_job_body body hb)))
    (job_whole_law bytes J n e)

pub state_spelled : (nest : ℕ) (bytes : List ℕ) (S : State) (n : ℕ) → Bytes bytes → parse_state nest bytes ≡ got S n → bytes ≡ encode_state S
state_spelled nest bytes S n h e =
    spells_whole encode_state bytes _ S n
    (spells_field (λ S l. encode_state S ≡ l) 0x11 0x11 bytes _ h
    (λ tag body low high hb. let t : tag ≡ 0x11 = omega arith in rw t (spells_state_body nest body hb)))
    (state_whole_law nest bytes S n e)
