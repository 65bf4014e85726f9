-- Inner contracts: which ambients go by a table of names, and what is left of a list.
pub mod Clears
