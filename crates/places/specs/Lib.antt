-- Inner contracts: places in bytes, in the order to read them.
pub mod Offsets
pub mod Places
