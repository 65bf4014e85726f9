-- The proofs of the calls: that their numbers are small.
pub mod Small
