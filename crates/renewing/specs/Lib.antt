-- Inner contracts: the state after a move.
pub mod Renewing
