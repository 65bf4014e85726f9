-- The proofs of the judging of names.
pub mod Judging
