-- What is proved of the format, each statement a named type.
use Rattle.std.specs.Prelude.{◌≡◌, List, ◌++◌, ℕ, ◌+◌, ◌≤◌, ◌<◌, length, get_or, drop}
use Rattle.calculus.specs.Processes.{Action, Process, binders}
use Rattle.machine.specs.Limits.{name_limit}
use Rattle.machine.specs.Elements.{depth}
use Rattle.machine.specs.Validity.{ActionScoped, ProcessScoped}
use Rattle.format.specs.Kinds.{tag_kind, implied_count}
use Rattle.format.specs.Spelling.{word_limit, encode_action, encode}
use Rattle.format.specs.Spellable.{CountedAction, Counted}
use Rattle.format.specs.Reading.{got, read_process, read_acting}

-- The tags with a count are those of the kinds that hand names over or take them: from 0x38 on those up to 0x3B.
abbrev pub CountedTags : Type 0
CountedTags = (tag : ℕ) → 0x38 ≤ tag → tag < 0x40 → (tag ≤ 0x3B → implied_count (tag_kind tag) ≡ 1) × (0x3B < tag → implied_count (tag_kind tag) ≡ 0)

-- A list of bytes.
abbrev pub Bytes : List ℕ → Type 0
Bytes l = (i : ℕ) → get_or l i 0 < 256

-- What reads is its own spelling: bytes that are read as P in n bytes begin with the spelling of P, which is n bytes long.
abbrev pub OneSpelling : Type 0
OneSpelling = (d names around : ℕ) (bytes : List ℕ) (P : Process) (n : ℕ) → Bytes bytes →
    read_process d names around bytes ≡ got P n → (n ≡ length (encode P)) × (bytes ≡ encode P ++ drop n bytes)

-- What reads is within the depth, in scope, and has counts that are spelled.
abbrev pub ReadInScope : Type 0
ReadInScope = (d names around : ℕ) (bytes : List ℕ) (P : Process) (n : ℕ) →
    read_process d names around bytes ≡ got P n → (depth P ≤ d) × ProcessScoped names around P × Counted P

-- The spelling of a process that is within the depth, in scope and has such counts, whatever follows it, reads back as the process.
-- Names are below the limit, since nothing else is a reference to a name.
abbrev pub ReadsBack : Type 0
ReadsBack = (d names around : ℕ) (P : Process) (rest : List ℕ) → names ≤ name_limit →
    depth P ≤ d → ProcessScoped names around P → Counted P → length (encode P) < word_limit →
    read_process d names around (encode P ++ rest) ≡ got P (length (encode P))

-- The same of an action with the process after it.
abbrev pub OneSpellingActing : Type 0
OneSpellingActing = (d names around : ℕ) (bytes : List ℕ) (α : Action) (P : Process) (n : ℕ) → Bytes bytes →
    read_acting (read_process d names) names around bytes ≡ got (α, P) n →
    (n ≡ length (encode_action α ++ encode P)) × (bytes ≡ (encode_action α ++ encode P) ++ drop n bytes)

abbrev pub ReadInScopeActing : Type 0
ReadInScopeActing = (d names around : ℕ) (bytes : List ℕ) (α : Action) (P : Process) (n : ℕ) →
    read_acting (read_process d names) names around bytes ≡ got (α, P) n →
    (depth P ≤ d) × ActionScoped names around α × ProcessScoped names (binders α + around) P × CountedAction α × Counted P

abbrev pub ReadsBackActing : Type 0
ReadsBackActing = (d names around : ℕ) (α : Action) (P : Process) (rest : List ℕ) → names ≤ name_limit →
    depth P ≤ d → ActionScoped names around α → ProcessScoped names (binders α + around) P → CountedAction α → Counted P →
    length (encode P) < word_limit →
    read_acting (read_process d names) names around ((encode_action α ++ encode P) ++ rest) ≡ got (α, P) (length (encode_action α ++ encode P))
