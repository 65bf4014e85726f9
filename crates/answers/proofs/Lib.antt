-- The proofs of the answers.
pub mod Numbers
