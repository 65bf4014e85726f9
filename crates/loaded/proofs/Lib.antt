-- The proofs of the state of a job.
pub mod Loading
pub mod Theorems
