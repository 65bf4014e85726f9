-- The proofs of writing jobs.
pub mod Writing
pub mod Theorems
