-- The proofs of weights in bytes.
pub mod Weights
pub mod Weighing
