-- The proofs of the table of kinds.
pub mod Table
