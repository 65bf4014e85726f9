-- Inner contracts: a list that a plan changes, in the order to read them.
pub mod Editing
