-- The session of a job that is cut where it is too long is that of the whole job.
use Rattle.std.proofs.Common.{◌≡◌, ℕ, ◌+◌, ◌<◌, Bool, true, false, List, [], ◌++◌, length, length-append, append-nil, ltb, lt-ltb, refl, sym, ap, ◌∙◌, subst, arith, None, Some, IfSome}
use Rattle.std.specs.declared.option.Option.{Option}
use borrow.Author.Tests.{ltb-true, ltb-false}
use Rattle.std.specs.Io.KnownBytes.{Appends, Consumes, IsAtEnd}
use Rattle.machine.specs.Limits.{byte_limit}
use Rattle.states.specs.Reading.{read_job}
use Rattle.loaded.specs.Loading.{load, load_job}
use Rattle.lines.specs.Lines.{refusal_line}
use Rattle.telling.specs.Sessions.{loaded_text, session_text}

-- A job that is too long is refused with 1, whatever its bytes.
too_long : (job : List ℕ) → byte_limit < length job → session_text job ≡ refusal_line 1
unfolding session_text loaded_text load load_job read_job
too_long job h = simp (lt-ltb byte_limit (length job) h)

cut_text : (job front rest : List ℕ) → job ≡ front ++ rest → (length front < byte_limit + 1 → rest ≡ []) → session_text front ≡ session_text job
cut_text job front rest e ends = go (ltb byte_limit (length front)) refl
  where
    go : (b : Bool) → ltb byte_limit (length front) ≡ b → session_text front ≡ session_text job
    go false q =
        let l = ltb-false byte_limit (length front) q in
        ap session_text (sym (append-nil front) ∙ ap (λ (x : List ℕ). front ++ x) (sym (ends (omega (arith, l)))) ∙ sym e)
    go true q =
        let l = ltb-true byte_limit (length front) q in
        too_long front l ∙ sym (too_long job (omega (arith, l, ap length e, length-append front rest)))

pub told_whole : (left after : Option (List ℕ)) (front : List ℕ) (a b : Option (List ℕ)) → Consumes left after front → (length front < byte_limit + 1 → IsAtEnd after)
    → Appends a b (session_text front) → IfSome left (λ job. Appends a b (session_text job))
told_whole None after front a b e ends p = tt
told_whole (Some job) None front a b e ends p = absurd e
told_whole (Some job) (Some rest) front a b e ends p = subst (Appends a b) (cut_text job front rest e ends) p
