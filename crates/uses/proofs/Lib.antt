-- The proofs of the uses of names.
pub mod Uses
