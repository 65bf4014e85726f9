-- The proofs of performing a move.
pub mod Moves
