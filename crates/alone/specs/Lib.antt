-- Inner contracts: the move of an element by itself.
pub mod Alone
