-- The proofs of the code of the step.
pub mod Stepping
