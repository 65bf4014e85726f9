-- The proofs of what is left of a list.
pub mod Clears
