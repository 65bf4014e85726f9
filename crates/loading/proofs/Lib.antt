-- The proofs of loading.
pub mod Loading
