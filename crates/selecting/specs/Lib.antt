-- Inner contracts: the choice of a run, in bytes.
pub mod Selecting
