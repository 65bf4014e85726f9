-- The proofs of the partners of a place.
pub mod Acting
pub mod Partnering
pub mod Theorems
