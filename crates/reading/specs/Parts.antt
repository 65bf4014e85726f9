-- What a reader has reached behind each part: a position, or a refusal, which stays.
use Rattle.std.specs.Prelude.{Result, Ok, Err, List, ℕ, length, take, drop, eqb}
use Rattle.machine.specs.Tests.{pick}
use Rattle.format.specs.Reading.{open_field, read_count, read_process}
use Rattle.format.specs.Answers.{field_at, count_outcome, answer}
use Rattle.refusals.specs.declared.Refusal.{Refusal}
use Rattle.refusals.specs.declared.Refusal.TheVariants.{LeftOver}
use Rattle.format.specs.declared.Cursor.{Cursor}
use Rattle.format.specs.declared.Field.{Field}
use Rattle.format.specs.declared.Count.{Count}
use Rattle.reading.specs.declared.Position.{Position}

abbrev pub Reached : Type 0
Reached = Result Position Refusal

-- Before any part: the first count will be at least this.
abbrev pub begun : List ℕ → (least : ℕ) → Reached
begun bytes least = Ok (record { at = 0; end = length bytes; names = least; before = 0 })

-- The bytes from a position to the end of its field.
abbrev pub ahead : List ℕ → Position → List ℕ
ahead bytes p = drop p.at (take p.end bytes)

abbrev pub onward : Reached → (Position → Reached) → Reached
onward (Err e) f = Err e
onward (Ok p) f = f p

-- Behind a header, in the field that it opens.
abbrev pub entered : Position → Result Field Refusal → Reached
entered p (Err e) = Err e
entered p (Ok field) = Ok (record { at = field.start; end = field.end; names = p.names; before = p.before })

-- Behind a count.
abbrev pub counted : Position → Result Count Refusal → Reached
counted p (Err e) = Err e
counted p (Ok count) = Ok (record { at = count.next.at; end = p.end; names = count.value; before = p.names })

-- Behind what counts nothing.
abbrev pub passed : Position → Result Cursor Refusal → Reached
passed p (Err e) = Err e
passed p (Ok next) = Ok (record { at = next.at; end = p.end; names = p.names; before = p.before })

abbrev pub header_from : List ℕ → Reached → ℕ → Reached
header_from bytes r tag = onward r (λ p. entered p (field_at p.at (open_field tag tag (ahead bytes p))))

-- A count is at least the one before it.
abbrev pub count_from : List ℕ → Reached → ℕ → Reached
count_from bytes r most = onward r (λ p. counted p (count_outcome p.at (read_count p.names most (ahead bytes p))))

abbrev pub process_from : List ℕ → Reached → ℕ → Reached
process_from bytes r depth = onward r (λ p. passed p (answer p.at (read_process depth p.names 0 (ahead bytes p))))

-- The field of a tag, at the front: a count from `least` to `most`, and what `last` reads behind it.
abbrev pub parts_by : (List ℕ → Reached → ℕ → Reached) → List ℕ → (tag least most limit : ℕ) → Reached
parts_by last bytes tag least most limit = last bytes (count_from bytes (header_from bytes (begun bytes least) tag) most) limit

-- Nothing is left in the field, and nothing behind it (4).
abbrev pub whole_of : ℕ → Reached → Reached
whole_of size r = onward r (λ p. pick (eqb p.at p.end) (pick (eqb p.end size) (Ok p) (Err LeftOver)) (Err LeftOver))
