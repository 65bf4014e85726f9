-- The proofs of the tallies of a list.
pub mod Wants
pub mod Loops
