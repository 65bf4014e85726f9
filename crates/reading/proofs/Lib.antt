-- The proofs of the reader that holds its input.
pub mod Onward
