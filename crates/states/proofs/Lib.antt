-- The proofs of jobs and states in bytes: one spelling and its theorems first, then what the proofs of the functions use.
pub mod Shapes
pub mod Whole
pub mod Spelled
pub mod Readable
pub mod InScope
pub mod Readback
pub mod Accepted
pub mod Limits
pub mod Theorems
pub mod Handed
pub mod Root
