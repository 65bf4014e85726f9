-- The proofs of the pieces that are written for a plan.
pub mod Writers
