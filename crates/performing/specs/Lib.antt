-- Inner contracts: performing a move.
pub mod Performing
