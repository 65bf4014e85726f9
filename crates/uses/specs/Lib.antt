-- What a reader has to believe of the uses of names, in the order to read it.
pub mod Uses
pub mod Theorems
