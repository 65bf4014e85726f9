-- The proofs of the listing.
pub mod Words
pub mod ListBytes
pub mod Theorems
