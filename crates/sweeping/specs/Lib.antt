-- What a reader has to believe of sweeping in bytes, in the order to read it.
pub mod Sweeping
pub mod Theorems
pub mod Cases
