-- The proofs of sessions.
pub mod Steps
pub mod Theorems
