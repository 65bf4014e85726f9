-- The proofs of lines.
pub mod Decimals
pub mod Appending
pub mod Partners
