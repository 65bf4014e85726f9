-- What a reader has to believe of what the numbers of the C interface tell.
pub mod Theorems
