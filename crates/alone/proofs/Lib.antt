-- The proofs of the moves of one element.
pub mod Turnings
