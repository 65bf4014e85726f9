-- The proofs of sweeping in bytes.
pub mod Swept
pub mod Theorems
pub mod Cases
