-- The proofs of elements that are read.
pub mod ReadingLaws
