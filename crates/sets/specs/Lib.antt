-- Inner contracts: sets of free names in words.
pub mod Sets
