-- The proofs of substitution in bytes.
pub mod Substitution
