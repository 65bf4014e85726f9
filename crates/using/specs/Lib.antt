-- Inner contracts: the uses in the opening of a field.
pub mod Using
