-- The proofs of the code of a turn.
pub mod Turning
pub mod Admitting
