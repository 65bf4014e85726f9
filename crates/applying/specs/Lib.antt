-- Inner contracts: a plan applied to a list.
pub mod Applying
