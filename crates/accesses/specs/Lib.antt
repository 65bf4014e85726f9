-- What a reader has to believe of lists of accesses to the front panel, in the order to read it.
pub mod Accesses
pub mod Registers
pub mod Theorems
pub mod Examples
