-- The proofs of the statements in specs/Theorems.antt.
use Rattle.format.specs.Theorems.{CountedTags, OneSpelling, ReadInScope, ReadsBack, OneSpellingActing, ReadInScopeActing, ReadsBackActing}
use Rattle.format.specs.Spelling.{encode}
use Rattle.format.specs.Reading.{read_process}
use Rattle.format.proofs.ActionKinds.{counted_tags_law}
use Rattle.format.proofs.Spelled.{spells_front, spells_process, spells_acting, spell_acting}
use Rattle.format.proofs.InScope.{Readable, ReadableActing, holds_read, holds_process, holds_acting}
use Rattle.format.proofs.Readback.{reads_process, reads_acting}

pub counted_tags : CountedTags
counted_tags = counted_tags_law

pub one_spelling : OneSpelling
one_spelling d names around bytes P n h e = spells_front encode bytes _ P n (spells_process d names around bytes h) e

pub one_spelling_acting : OneSpellingActing
one_spelling_acting d names around bytes α P n h e =
    spells_front spell_acting bytes _ (α, P) n (spells_acting (read_process d names) (spells_process d names) names around bytes h) e

pub read_in_scope : ReadInScope
read_in_scope d names around bytes P n e = holds_read (Readable d names around) _ P n (holds_process d names around bytes) e

pub read_in_scope_acting : ReadInScopeActing
read_in_scope_acting d names around bytes α P n e =
    holds_read (λ t. ReadableActing d names around t.0 t.1) _ (α, P) n
    (holds_acting d names (read_process d names) (holds_process d names) around bytes) e

pub reads_back : ReadsBack
reads_back d names around P rest few shallow scoped single short = reads_process d names around P rest few (shallow, scoped, single) short

pub reads_back_acting : ReadsBackActing
reads_back_acting d names around α P rest few shallow scoped_action scoped single_action single short =
    reads_acting d names few (read_process d names) (λ b p r h l. reads_process d names b p r few h l) around α P rest
    (shallow, scoped_action, scoped, single_action, single) short
