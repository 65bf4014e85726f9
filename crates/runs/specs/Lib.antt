-- What a reader has to believe of the run in bytes, in the order to read it.
pub mod Runs
pub mod Turns
pub mod Theorems
