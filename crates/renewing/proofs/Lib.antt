-- The proofs of the state after a move.
pub mod Renewing
