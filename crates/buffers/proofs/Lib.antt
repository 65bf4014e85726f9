-- The proofs of what is written to a buffer.
pub mod Answers
pub mod Parts
pub mod Writing
pub mod Appending
pub mod Middle
