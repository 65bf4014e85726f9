-- What a reader has to believe of the table of kinds, in the order to read it.
pub mod Kinds
pub mod Theorems
