-- What a reader has to believe of loading, in the order to read it.
pub mod Loading
pub mod Theorems
