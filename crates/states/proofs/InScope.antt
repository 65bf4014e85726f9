-- What is read is valid: in scope, graded, within the limits of depth, nesting and counts.
use mathlib.Core.Path.{◌≡◌, refl}
use mathlib.Core.Logic.{◌↔◌}
use mathlib.Core.List.{List, [], ◌∷◌}
use Prim.Native.Nat.{ℕ, zero, suc, ◌≤◌}
use lib.ListN.{length}
use Rattle.machine.specs.Limits.{free_name_least, free_name_limit, name_limit, state_depth_limit, blocked_depth_limit, job_depth_limit}
use Rattle.machine.specs.Elements.{Status, unblocked, blocked, Elements, State, state}
use Rattle.machine.specs.Validity.{ReferenceScoped, ValidState}
use Rattle.format.specs.Reading.{Outcome, got, Opened, shut, opened, read_field, read_process}
use Rattle.format.proofs.InScope.{Readable, ReadableActing, Holds, holds_read, holds_refused, holds_got, holds_map, holds_then, holds_field, holds_count, holds_reference, holds_process, holds_acting}
use Rattle.elements.specs.Spelling.{CountedElements, Job}
use Rattle.states.specs.Reading.{open_element, ElementShape, is_ambient, is_blocked_ambient, is_process, is_blocked_action, element_shape, element_parts, read_element, read_up_to, read_elements, read_ambient, job_body, read_job, state_rest, state_body, parse_state}
use Rattle.states.specs.Theorems.{ValidJob}
use Rattle.states.proofs.Shapes.{ambient_shape, Due, element_due}
use Rattle.states.proofs.Whole.{job_field, state_field, job_whole_law, state_whole_law}
use Rattle.states.proofs.Readable.{GradedIn, ReadableElements, ReadableAmbient, readable_empty, readable_ambient, readable_process, readable_blocked}

-- Elements

-- An element that may stand before any readable list of an ambient of status s.
abbrev pub ReadableFirst : Status → ℕ → ℕ → (Elements → Elements) → Type 0
ReadableFirst s nest names E = (C : Elements) → ReadableElements s nest names C → ReadableElements s nest names (E C)

module _ (A : Status → List ℕ → Outcome (Elements → Elements)) (nest names : ℕ)
    (hA : (s t : Status) (body : List ℕ) → Due s (ambient_shape t) → Holds (ReadableFirst s nest names) (A t body)) where
  pub holds_element_parts : (s : Status) (k : ElementShape) (body : List ℕ) → Due s k
      → Holds (ReadableFirst s nest names) (element_parts k A names body)
  unfolding element_parts ambient_shape
  holds_element_parts s is_ambient body due = hA s unblocked body due
  holds_element_parts s is_blocked_ambient body due = hA s blocked body due
  holds_element_parts s is_process body due =
      holds_map (Readable state_depth_limit names 0) _ _ _ (λ P r C c. (readable_process s names nest P C).1 (due, r, c))
      (holds_process state_depth_limit names 0 body)
  holds_element_parts s is_blocked_action body due =
      holds_map (λ t. ReadableActing blocked_depth_limit names 0 t.0 t.1) _ _ _ (λ t r C c. (readable_blocked s names nest t.0 t.1 C).1 (due, r, c))
      (holds_acting blocked_depth_limit names (read_process blocked_depth_limit names) (holds_process blocked_depth_limit names) 0 body)

  pub holds_element : (s : Status) (bytes : List ℕ) → Holds (ReadableFirst s nest names) (read_element A s names bytes)
  unfolding read_element read_field
  holds_element s bytes = go (open_element s bytes) refl
    where
      go : (o : Opened) → open_element s bytes ≡ o
          → Holds (ReadableFirst s nest names) (read_field o bytes (λ tag body. element_parts (element_shape tag) A names body))
      go (shut k) e = holds_refused _ k
      go (opened tag len) e =
          holds_field _ (opened tag len) bytes (λ other body. element_parts (element_shape tag) A names body)
          (λ other body. holds_element_parts s (element_shape tag) body (element_due s bytes tag len e))

  pub holds_up_to : (s : Status) (fuel : ℕ) (bytes : List ℕ) → Holds (ReadableElements s nest names) (read_up_to A s names fuel bytes)
  unfolding read_up_to
  holds_up_to s zero bytes = holds_got _ _ _ (readable_empty s nest names)
  holds_up_to s (suc fuel) [] = holds_got _ _ _ (readable_empty s nest names)
  holds_up_to s (suc fuel) (b ∷ bs) =
      holds_then (ReadableFirst s nest names) _ (b ∷ bs) _ _ (holds_element s (b ∷ bs))
      (λ E rest h. holds_map (ReadableElements s nest names) _ _ _ h (holds_up_to s fuel rest))

  pub holds_elements : (s : Status) (bytes : List ℕ) → Holds (ReadableElements s nest names) (read_elements A s names bytes)
  unfolding read_elements
  holds_elements s bytes = holds_up_to s (length bytes) bytes

pub holds_ambient : (nest names : ℕ) (s t : Status) (body : List ℕ) → Due s (ambient_shape t)
    → Holds (ReadableFirst s nest names) (read_ambient nest names t body)
unfolding read_ambient ReadableAmbient
holds_ambient zero names s t body due = holds_refused _ 5
holds_ambient (suc nest) names s t body due =
    holds_then (ReferenceScoped names 0) _ body _ _ (holds_reference names 0 body)
    (λ a rest h.
    holds_map (ReadableElements t nest names) _ _ _ (λ A i C c. (readable_ambient s names (suc nest) t a A C).1 (due, (h, i), c))
    (holds_elements (read_ambient nest names) nest names (holds_ambient nest names) t rest))

-- Jobs and states

pub holds_job_body : (body : List ℕ) → Holds ValidJob (job_body body)
unfolding job_body ValidJob
holds_job_body body =
    holds_then (λ F. (free_name_least ≤ F) × (F ≤ free_name_limit)) _ body _ _ (holds_count free_name_least free_name_limit body)
    (λ F rest f.
    holds_map (Readable job_depth_limit F 0) _ _ _ (λ P r. record { some_free = f.0; few_free = f.1; scoped = r.1; shallow = r.0; counted = r.2 })
    (holds_process job_depth_limit F 0 rest))

-- A state as it is parsed, with ambients nested at most `nest` deep.
pub record ParsedState (nest F N : ℕ) (L : Elements) : Type 0 where
  pub few_free : F ≤ free_name_limit
  pub free_below : F ≤ N
  pub few_names : N ≤ name_limit
  pub readable : ReadableElements unblocked nest N L

unfoldable pub Parsed : ℕ → State → Type 0
Parsed nest (state F N L) = ParsedState nest F N L

-- what is parsed is valid
pub parsed_valid : (nest F N : ℕ) (L : Elements) → ParsedState nest F N L ↔ (ValidState nest F N L × CountedElements L)
unfolding GradedIn
parsed_valid nest F N L = (
  λ p.
      let r = p.readable in (
        record {
          few_free = p.few_free;
          free_below = p.free_below;
          few_names = p.few_names;
          scoped = r.scoped;
          graded = r.graded;
          fits = record { shallow = r.shallow; nested = r.nested };
        },
        r.counted,
      ),
  λ h.
      let v = h.0 in
      record {
        few_free = v.few_free;
        free_below = v.free_below;
        few_names = v.few_names;
        readable = record { scoped = v.scoped; graded = v.graded; shallow = v.fits.shallow; nested = v.fits.nested; counted = h.1 };
      },
)

pub holds_state_rest : (nest F : ℕ) (rest : List ℕ) → F ≤ free_name_limit → Holds (Parsed nest) (state_rest nest F rest)
unfolding state_rest Parsed
holds_state_rest nest F rest f =
    holds_then (λ N. (F ≤ N) × (N ≤ name_limit)) _ rest _ _ (holds_count F name_limit rest)
    (λ N more h.
    holds_map (ReadableElements unblocked nest N) _ _ _ (λ L r. record { few_free = f; free_below = h.0; few_names = h.1; readable = r })
    (holds_elements (read_ambient nest N) nest N (holds_ambient nest N) unblocked more))

pub holds_state_body : (nest : ℕ) (body : List ℕ) → Holds (Parsed nest) (state_body nest body)
unfolding state_body
holds_state_body nest body =
    holds_then (λ F. (0 ≤ F) × (F ≤ free_name_limit)) _ body _ _ (holds_count 0 free_name_limit body)
    (λ F rest f. holds_state_rest nest F rest f.1)

pub job_valid : (bytes : List ℕ) (J : Job) (n : ℕ) → read_job bytes ≡ got J n → ValidJob J
job_valid bytes J n e = holds_read ValidJob (job_field bytes) J n (holds_field _ _ bytes _ (λ tag body. holds_job_body body)) (job_whole_law bytes J n e).read

pub state_parsed : (nest : ℕ) (bytes : List ℕ) (S : State) (n : ℕ) → parse_state nest bytes ≡ got S n → Parsed nest S
state_parsed nest bytes S n e =
    holds_read (Parsed nest) (state_field nest bytes) S n (holds_field _ _ bytes _ (λ tag body. holds_state_body nest body)) (state_whole_law nest bytes S n e).read
