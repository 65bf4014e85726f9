-- Proofs that other crates use.
pub mod Theorems
