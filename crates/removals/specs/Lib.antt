-- What a reader has to believe of clearing empty ambients on trees, in the order to read it.
pub mod Removal
pub mod Sweeping
pub mod Theorems
pub mod Cases
