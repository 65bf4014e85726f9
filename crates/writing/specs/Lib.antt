-- What a reader has to believe of writing jobs, in the order to read it.
pub mod Writing
pub mod Theorems
