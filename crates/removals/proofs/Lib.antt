-- The proofs of removing empty ambients and of sweeping: lemmas first, the theorems and the worked cases last.
pub mod Occurrences
pub mod Restrictions
pub mod Removal
pub mod Sweeping
pub mod Kept
pub mod Theorems
pub mod Cases
