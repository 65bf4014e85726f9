-- The proofs of what the numbers tell.
pub mod Theorems
