-- The numbers that reading is refused with: what is in a field 2 to 6 and 14, a job or its parts 1 to 6 and 14, a state 1 to 7 and 14.
use mathlib.Core.Path.{◌≡◌, refl}
use mathlib.Core.Logic.{◌⊎◌, inl, inr}
use mathlib.Core.Bool.{Bool, true, false}
use mathlib.Core.List.{List, [], ◌∷◌}
use Prim.Native.Nat.{ℕ, zero, suc, ◌+◌, ◌-◌, ◌*◌, ◌≤◌}
use native.Mathlib.Omega.{arith}
use lib.Dec.{ltb, eqb}
use lib.ListN.{length, get_or, take, drop}
use Rattle.calculus.specs.Processes.{Process, binders}
use Rattle.machine.specs.Limits.{byte_limit, name_limit, count_limit, state_depth_limit, blocked_depth_limit, job_depth_limit, free_name_least, free_name_limit}
use Rattle.machine.specs.Elements.{Status, unblocked, blocked, Elements, State, state}
use Rattle.machine.specs.Pairs.{blocked_pair}
use Rattle.machine.specs.Tests.{pick}
use Rattle.format.specs.Spelling.{first_variable}
use Rattle.format.specs.Kinds.{tag_kind, directed_of, handed_count}
use Rattle.format.specs.Reading.{Outcome, refused, got, map_outcome, shift, and_then, Opened, shut, opened, word_at, open_field, whole, read_field, reference_of, read_reference, read_references, read_spelled_count, read_name_count, read_action_parts, read_action, read_acting, Shape, is_null, is_parallel, is_restriction, is_ambient, is_action, is_replication, shape_of, read_parts, read_process, read_count}
use Rattle.writing.specs.Writing.{read_job_parts}
use Rattle.states.specs.Reading.{open_element, ElementShape, is_ambient as ambient_shape, is_blocked_ambient, is_process, is_blocked_action, element_shape, element_parts, read_element, read_up_to, read_elements, read_ambient, ends, job_body, read_job, state_rest, state_body, parse_state, unpaired, read_within}

-- The refusals of a field and what is in it.
abbrev pub InField : ℕ → Type 0
InField k = ((2 ≤ k) × (k ≤ 6)) ⊎ (k ≡ 14)

unfoldable pub RefusedInField : {A : Type 0} → Outcome A → Type 0
RefusedInField (refused k) = InField k
RefusedInField (got a n) = Unit {0}

refused_map : {A B : Type 0} (f : A → B) (o : Outcome A) → RefusedInField o → RefusedInField (map_outcome f o)
unfolding map_outcome RefusedInField
refused_map f (refused k) h = h
refused_map f (got a n) h = tt

refused_then : {A B : Type 0} (bytes : List ℕ) (o : Outcome A) (f : A → List ℕ → Outcome B)
    → RefusedInField o → ((a : A) (rest : List ℕ) → RefusedInField (f a rest)) → RefusedInField (and_then o bytes f)
unfolding and_then shift RefusedInField
refused_then bytes (refused k) f h g = h
refused_then {B = B} bytes (got a n) f h g = last (f a (drop n bytes)) (g a (drop n bytes))
  where
    last : (o : Outcome B) → RefusedInField o → RefusedInField (shift n o)
    last (refused k) h = h
    last (got b m) h = tt

-- by a test
by_test : {X : Type 0} (P : X → Type 0) (b : Bool) {x y : X} → P x → P y → P (pick b x y)
by_test P true h k = h
by_test P false h k = k

unfoldable ShutInField : Opened → Type 0
ShutInField (shut k) = InField k
ShutInField (opened tag len) = Unit {0}

shut_header : (low high : ℕ) (bytes : List ℕ) → ShutInField (open_field low high bytes)
unfolding open_field ShutInField
shut_header low high bytes =
    by_test ShutInField (ltb (length bytes) 3) (inl (omega arith, omega arith))
    (by_test ShutInField (ltb (get_or bytes 0 0) low) (inl (omega arith, omega arith))
    (by_test ShutInField (ltb high (get_or bytes 0 0)) (inl (omega arith, omega arith)) (by_test ShutInField (ltb (length bytes - 3) (word_at bytes 1)) (inl (omega arith, omega arith)) tt)))

refused_field : {A : Type 0} (o : Opened) (bytes : List ℕ) (f : ℕ → List ℕ → Outcome A) → ShutInField o → ((tag : ℕ) (body : List ℕ) → RefusedInField (f tag body))
    → RefusedInField (read_field o bytes f)
unfolding read_field whole ShutInField RefusedInField
refused_field (shut k) bytes f h g = h
refused_field {A} (opened tag len) bytes f h g = inner (f tag (take len (drop 3 bytes))) (g tag (take len (drop 3 bytes)))
  where
    inner : (o : Outcome A) → RefusedInField o → RefusedInField (whole len o)
    inner (refused k) h = h
    inner (got a n) h = by_test RefusedInField (eqb n len) tt (inl (omega arith, omega arith))

-- References and actions

refused_reference : (names around : ℕ) (bytes : List ℕ) → RefusedInField (read_reference names around bytes)
unfolding read_reference reference_of RefusedInField
refused_reference names around bytes =
    by_test RefusedInField (ltb (length bytes) 2) (inl (omega arith, omega arith))
    (by_test RefusedInField (ltb (word_at bytes 0) name_limit) (by_test RefusedInField (ltb (word_at bytes 0) names) tt (inl (omega arith, omega arith)))
    (by_test RefusedInField (ltb (word_at bytes 0) first_variable) (inl (omega arith, omega arith)) (by_test RefusedInField (ltb (word_at bytes 0 - first_variable) around) tt (inl (omega arith, omega arith)))))

refused_count : (least most : ℕ) (bytes : List ℕ) → RefusedInField (read_count least most bytes)
unfolding read_count RefusedInField
refused_count least most bytes =
    by_test RefusedInField (ltb (length bytes) 2) (inl (omega arith, omega arith))
    (by_test RefusedInField (ltb (word_at bytes 0) least) (inl (omega arith, omega arith)) (by_test RefusedInField (ltb most (word_at bytes 0)) (inl (omega arith, omega arith)) tt))

refused_references : (k names around : ℕ) (bytes : List ℕ) → RefusedInField (read_references k names around bytes)
unfolding read_references RefusedInField
refused_references zero names around bytes = tt
refused_references (suc k) names around bytes =
    refused_then bytes _ _ (refused_reference names around bytes) (λ r rest. refused_map (λ rs. r ∷ rs) _ (refused_references k names around rest))

refused_name_count : (tag : ℕ) (bytes : List ℕ) → RefusedInField (read_name_count tag bytes)
unfolding read_spelled_count read_name_count RefusedInField
refused_name_count tag bytes =
    by_test RefusedInField (ltb tag 0x38) tt
    (by_test RefusedInField (ltb (length bytes) 1) (inl (omega arith, omega arith))
    (by_test RefusedInField (eqb (get_or bytes 0 0) 1) (inr refl) (by_test RefusedInField (ltb count_limit (get_or bytes 0 0)) (inr refl) tt)))

refused_action : (names around : ℕ) (bytes : List ℕ) → RefusedInField (read_action names around bytes)
unfolding read_action read_action_parts
refused_action names around bytes =
    refused_field _ bytes _ (shut_header 0x30 0x3B bytes)
    (λ tag body.
    refused_then body _ _ (refused_references (1 + directed_of (tag_kind tag)) names around body)
    (λ rs behind. refused_then behind _ _ (refused_name_count tag behind) (λ n rest. refused_map _ _ (refused_references (n * handed_count (tag_kind tag)) names around rest))))

-- Processes

module _ (P : ℕ → List ℕ → Outcome Process) (hP : (b : ℕ) (l : List ℕ) → RefusedInField (P b l)) (names around : ℕ) where
  refused_acting : (bytes : List ℕ) → RefusedInField (read_acting P names around bytes)
  unfolding read_acting
  refused_acting bytes = refused_then bytes _ _ (refused_action names around bytes) (λ α rest. refused_map _ _ (hP (around + binders α) rest))

  refused_parts : (k : Shape) (body : List ℕ) → RefusedInField (read_parts k P names around body)
  unfolding read_parts RefusedInField
  refused_parts is_null body = tt
  refused_parts is_parallel body = refused_then body _ _ (hP around body) (λ p rest. refused_map _ _ (hP around rest))
  refused_parts is_restriction body = refused_map _ _ (hP (around + 1) body)
  refused_parts is_ambient body = refused_then body _ _ (refused_reference names around body) (λ a rest. refused_map _ _ (hP around rest))
  refused_parts is_action body = refused_map _ _ (refused_acting body)
  refused_parts is_replication body = refused_map _ _ (refused_acting body)

refused_process : (d names around : ℕ) (bytes : List ℕ) → RefusedInField (read_process d names around bytes)
unfolding read_process RefusedInField
refused_process zero names around bytes = refused_field _ bytes _ (shut_header 0x20 0x25 bytes) (λ tag body. inl (omega arith, omega arith))
refused_process (suc d) names around bytes =
    refused_field _ bytes _ (shut_header 0x20 0x25 bytes) (λ tag body. refused_parts (read_process d names) (refused_process d names) names around (shape_of tag) body)

-- Elements

shut_element : (s : Status) (bytes : List ℕ) → ShutInField (open_element s bytes)
unfolding open_element ShutInField
shut_element unblocked bytes = shut_header 0x40 0x43 bytes
shut_element blocked bytes =
    by_test ShutInField (ltb (length bytes) 3) (inl (omega arith, omega arith)) (by_test ShutInField (eqb (get_or bytes 0 0) 0x42) (inl (omega arith, omega arith)) (shut_header 0x41 0x43 bytes))

module _ (A : Status → List ℕ → Outcome (Elements → Elements)) (hA : (s : Status) (body : List ℕ) → RefusedInField (A s body)) (names : ℕ) where
  refused_element_parts : (k : ElementShape) (body : List ℕ) → RefusedInField (element_parts k A names body)
  unfolding element_parts
  refused_element_parts ambient_shape body = hA unblocked body
  refused_element_parts is_blocked_ambient body = hA blocked body
  refused_element_parts is_process body = refused_map _ _ (refused_process state_depth_limit names 0 body)
  refused_element_parts is_blocked_action body = refused_map _ _ (refused_acting (read_process blocked_depth_limit names) (refused_process blocked_depth_limit names) names 0 body)

  refused_element : (s : Status) (bytes : List ℕ) → RefusedInField (read_element A s names bytes)
  unfolding read_element
  refused_element s bytes = refused_field _ bytes _ (shut_element s bytes) (λ tag body. refused_element_parts (element_shape tag) body)

  refused_up_to : (s : Status) (fuel : ℕ) (bytes : List ℕ) → RefusedInField (read_up_to A s names fuel bytes)
  unfolding read_up_to RefusedInField
  refused_up_to s zero bytes = tt
  refused_up_to s (suc fuel) [] = tt
  refused_up_to s (suc fuel) (b ∷ bs) = refused_then (b ∷ bs) _ _ (refused_element s (b ∷ bs)) (λ E rest. refused_map _ _ (refused_up_to s fuel rest))

  refused_elements : (s : Status) (bytes : List ℕ) → RefusedInField (read_elements A s names bytes)
  unfolding read_elements
  refused_elements s bytes = refused_up_to s (length bytes) bytes

refused_ambient : (nest names : ℕ) (s : Status) (body : List ℕ) → RefusedInField (read_ambient nest names s body)
unfolding read_ambient RefusedInField
refused_ambient zero names s body = inl (omega arith, omega arith)
refused_ambient (suc nest) names s body =
    refused_then body _ _ (refused_reference names 0 body) (λ a rest. refused_map _ _ (refused_elements (read_ambient nest names) (refused_ambient nest names) names s rest))

-- Jobs and states

refused_ends : {A : Type 0} (size : ℕ) (o : Outcome A) → RefusedInField o → RefusedInField (ends size o)
unfolding ends RefusedInField
refused_ends size (refused k) h = h
refused_ends size (got a n) h = by_test RefusedInField (eqb n size) tt (inl (omega arith, omega arith))

refused_job_body : (body : List ℕ) → RefusedInField (job_body body)
unfolding job_body
refused_job_body body = refused_then body _ _ (refused_count free_name_least free_name_limit body) (λ F rest. refused_map _ _ (refused_process job_depth_limit F 0 rest))

refused_state_body : (nest : ℕ) (body : List ℕ) → RefusedInField (state_body nest body)
unfolding state_body state_rest
refused_state_body nest body =
    refused_then body _ _ (refused_count 0 free_name_limit body)
    (λ F rest. refused_then rest _ _ (refused_count F name_limit rest) (λ N more. refused_map _ _ (refused_elements (read_ambient nest N) (refused_ambient nest N) N unblocked more)))

-- From 1 to the last, or 14.
abbrev pub UpTo : ℕ → ℕ → Type 0
UpTo last k = ((1 ≤ k) × (k ≤ last)) ⊎ (k ≡ 14)

unfoldable RefusedUpTo : {A : Type 0} (last : ℕ) → Outcome A → Type 0
RefusedUpTo last (refused k) = UpTo last k
RefusedUpTo last (got a n) = Unit {0}

in_field : {A : Type 0} (o : Outcome A) → RefusedInField o → RefusedUpTo 6 o
unfolding RefusedInField RefusedUpTo
in_field (refused k) (inl h) = inl (omega (arith, h.0), h.1)
in_field (refused k) (inr h) = inr h
in_field (got a n) h = tt

up_to : {A : Type 0} (last k : ℕ) (o : Outcome A) → RefusedUpTo last o → o ≡ refused k → UpTo last k
unfolding RefusedUpTo
up_to last k o h e = rw e at h

pub job_refusal : (bytes : List ℕ) (k : ℕ) → read_job bytes ≡ refused k → UpTo 6 k
unfolding read_job RefusedUpTo
job_refusal bytes k =
    up_to 6 k (read_job bytes)
    (by_test (RefusedUpTo 6) (ltb byte_limit (length bytes)) (inl (omega arith, omega arith))
    (in_field _ (refused_ends (length bytes) _ (refused_field _ bytes _ (shut_header 0x10 0x10 bytes) (λ tag body. refused_job_body body)))))

pub parts_refusal : (F : ℕ) (process : List ℕ) (k : ℕ) → read_job_parts F process ≡ refused k → UpTo 6 k
unfolding read_job_parts RefusedUpTo
parts_refusal F process k =
    up_to 6 k (read_job_parts F process)
    (by_test (RefusedUpTo 6) (ltb byte_limit (length process)) (inl (omega arith, omega arith))
    (by_test (RefusedUpTo 6) (ltb F free_name_least) (inl (omega arith, omega arith))
    (by_test (RefusedUpTo 6) (ltb free_name_limit F) (inl (omega arith, omega arith)) (in_field _ (refused_ends (length process) _ (refused_process job_depth_limit F 0 process))))))

refused_parse : (nest : ℕ) (bytes : List ℕ) → RefusedUpTo 6 (parse_state nest bytes)
unfolding parse_state RefusedUpTo
refused_parse nest bytes =
    by_test (RefusedUpTo 6) (ltb byte_limit (length bytes)) (inl (omega arith, omega arith))
    (in_field _ (refused_ends (length bytes) _ (refused_field _ bytes _ (shut_header 0x11 0x11 bytes) (λ tag body. refused_state_body nest body))))

pub state_refusal : (nest : ℕ) (bytes : List ℕ) (k : ℕ) → read_within nest bytes ≡ refused k → UpTo 7 k
unfolding read_within unpaired RefusedUpTo
state_refusal nest bytes k = up_to 7 k (read_within nest bytes) (go (parse_state nest bytes) (refused_parse nest bytes))
  where
    go : (o : Outcome State) → RefusedUpTo 6 o → RefusedUpTo 7 (unpaired o)
    go (refused j) (inl h) = inl (h.0, omega (arith, h.1))
    go (refused j) (inr h) = inr h
    go (got (state F N L) n) h = by_test (RefusedUpTo 7) (blocked_pair L) (inl (omega arith, omega arith)) tt

pub in_table : (last k : ℕ) → last ≤ 14 → UpTo last k → (1 ≤ k) × (k ≤ 14)
in_table last k l (inl h) = omega arith
in_table last k l (inr h) = omega arith
