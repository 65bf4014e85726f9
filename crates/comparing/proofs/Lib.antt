-- The proofs of the comparison of stored cases.
pub mod Comparing
