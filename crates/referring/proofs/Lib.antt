-- The proofs of the table of names.
pub mod Tables
