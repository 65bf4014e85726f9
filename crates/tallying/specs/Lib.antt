-- Inner contracts: the answers in a list, in the order to read them.
pub mod Numbers
pub mod Tallying
