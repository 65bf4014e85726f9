-- The proofs of sets of names.
pub mod Bits
pub mod Sets
