-- Inner contracts: a name put for a variable in bytes.
pub mod Substituting
