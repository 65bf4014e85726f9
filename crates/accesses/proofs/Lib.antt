-- The proofs of lists of accesses: the flags, the registers, the lists, the theorems, the worked case.
pub mod Flags
pub mod Registers
pub mod Accesses
pub mod Theorems
pub mod Examples
