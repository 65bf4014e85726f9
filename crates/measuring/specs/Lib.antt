-- Inner contracts: what is measured in bytes.
pub mod Measuring
