-- The proofs of one access to the panel.
pub mod Accesses
