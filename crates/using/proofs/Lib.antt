-- The proofs of the uses in an opening.
pub mod Openings
