-- The numbers of an answer of the code have two bytes at most, so that they fit those of the C interface.
use Rattle.std.specs.Prelude.{◌≡◌, ℕ, ◌<◌, Result, Ok, Err, Some}
use Rattle.format.specs.Spelling.{word_limit}
use Rattle.partnering.specs.declared.PartnerCount.{PartnerCount}
use Rattle.performing.specs.declared.Step.{Step}
use Rattle.running.specs.declared.Finished.{Finished}

abbrev pub SmallFilled : {E : Type 0} → Result ℕ E → Type 0
SmallFilled (Err e) = Unit {0}
SmallFilled (Ok n) = n < word_limit

abbrev pub SmallPartnered : {E : Type 0} → Result PartnerCount E → Type 0
SmallPartnered (Err e) = Unit {0}
SmallPartnered (Ok x) = ((q : ℕ) → x.lowest ≡ Some q → q < word_limit) × (x.count < word_limit)

abbrev pub SmallReplied : {E : Type 0} → Result Step E → Type 0
SmallReplied (Err e) = Unit {0}
SmallReplied (Ok x) = x.length < word_limit

abbrev pub SmallRan : {E : Type 0} → Result (Finished E) E → Type 0
SmallRan (Err e) = Unit {0}
SmallRan (Ok x) = (x.steps < word_limit) × (x.length < word_limit)

abbrev pub SmallWeighed : {E : Type 0} → Result ℕ E → Type 0
SmallWeighed (Err e) = Unit {0}
SmallWeighed (Ok w) = w < word_limit
